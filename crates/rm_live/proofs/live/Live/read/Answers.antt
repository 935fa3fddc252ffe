use Rattle.std.proofs.Common.{refl, ap, sym, ◌∙◌, ◌∷◌, subst}
use Rattle.atomic_table.specs.Table.{rest}
use Rattle.rm_live.specs.{Passes.{Standing, standing}, declared.history.{Answer.{Answer, TheVariants.{Found}}, Call.{Call}}}
use Rattle.rm_live.{specs.declared.history.Call.TheVariants.{Read}, proofs.Turns.{IsAdded, turn_is, adds}}
use Rattle.rm_live.proofs.live.Live.read.Goals as goal

pub slot_mut-database-requires : goal.slot_mut-database-requires
slot_mut-database-requires g c =
    let t = c.take_turn.ensures.turn in
    (c.take_turn.ensures.table ∙ ap (λ (x : Standing). x.home) c.pass.view_is ∙ c.requires ∙ sym c.self.view_is, (t.database, t.carries ∙ ap (λ l. (0, t.database) ∷ rest l) (sym t.carries)))

pub end_turn-requires-clause-event : goal.end_turn-requires-clause-event
end_turn-requires-clause-event g c = refl

pub end_turn-requires-clause-turn : goal.end_turn-requires-clause-turn
end_turn-requires-clause-turn g c =
    let call : Call = Read c.args.file c.args.block in
    turn_is c.pass.inside.place.me c.take_turn.new.place.me c.slot_mut-database.result.now c.slot_mut-database.result.now call (Found c.read-answer.result)
    c.take_turn.ensures.turn c.pass.invariant.some c.slot_mut-database.ensures.value refl c.read-answer.ensures

pub returns : goal.returns
returns g c =
    let call : Call = Read c.args.file c.args.block in
    let answer : Answer = Found c.read-answer.result in
    let all = subst (λ (p : Standing). IsAdded p (standing c.end_turn.new.place) call answer) c.pass.view_is
    (adds c.pass.inside.place c.end_turn.new.place c.take_turn.new.place.me call answer c.slot_mut-database.result.now
    c.take_turn.ensures.turn c.slot_mut-database.ensures.value c.read-answer.ensures
    (c.end_turn.ensures.table ∙ c.take_turn.ensures.table) c.end_turn.ensures.ended c.end_turn.ensures.number) in
    record { stays = all.stays; legal = all.legal; below = all.below; numbers = all.numbers; adds = all.adds }
