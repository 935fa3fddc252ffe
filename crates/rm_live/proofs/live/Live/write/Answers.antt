use Rattle.std.proofs.Common.{refl, ap, sym, ◌∙◌, ◌∷◌, subst}
use Rattle.atomic_table.specs.Table.{rest}
use Rattle.rm_redo.specs.Online.{IsThread, IsLost}
use Rattle.rm_live.specs.{Passes.{Standing, standing}, declared.history.{Answer.{Answer, TheVariants.{Wrote}}, Call.{Call}}}
use Rattle.rm_live.{specs.declared.history.Call.TheVariants.{Write}, proofs.Turns.{IsAdded, adds, sound_is, thread_is, found_is, turn_is}}
use Rattle.rm_live.proofs.live.Live.write.Goals as goal

pub slot_mut-database-requires : goal.slot_mut-database-requires
slot_mut-database-requires g c =
    let t = c.take_turn.ensures.turn in
    (c.take_turn.ensures.table ∙ ap (λ (x : Standing). x.home) c.pass.view_is ∙ c.requires.home ∙ sym c.self.view_is, (t.database, t.carries ∙ ap (λ l. (0, t.database) ∷ rest l) (sym t.carries)))

pub write-answer-requires-clause-sound : goal.write-answer-requires-clause-sound
write-answer-requires-clause-sound g c =
    sound_is c.pass.inside.place.me c.take_turn.new.place.me c.slot_mut-database.result.now c.take_turn.ensures.turn c.slot_mut-database.ensures.value

pub write-answer-requires-clause-thread : goal.write-answer-requires-clause-thread
write-answer-requires-clause-thread g c =
    thread_is c.pass.inside.place.me c.take_turn.new.place.me c.slot_mut-database.result.now c.args.thread c.take_turn.ensures.turn c.slot_mut-database.ensures.value
    (subst (λ (x : Standing). IsThread x.opening.logs c.args.thread) (sym c.pass.view_is) c.requires.thread)

pub write-answer-requires-clause-there : goal.write-answer-requires-clause-there
write-answer-requires-clause-there g c =
    found_is c.pass.inside.place.me c.take_turn.new.place.me c.slot_mut-database.result.now c.args.thread c.take_turn.ensures.turn c.slot_mut-database.ensures.value
    (subst (λ (x : Standing). ¬ IsLost x.opening.logs c.args.thread) (sym c.pass.view_is) c.requires.there)

pub end_turn-requires-clause-event : goal.end_turn-requires-clause-event
end_turn-requires-clause-event g c = refl

pub end_turn-requires-clause-turn : goal.end_turn-requires-clause-turn
end_turn-requires-clause-turn g c =
    let call : Call = Write c.args.thread c.args.file c.args.block c.args.content in
    turn_is c.pass.inside.place.me c.take_turn.new.place.me c.slot_mut-database.result.now c.write-answer.new.self call (Wrote c.write-answer.result)
    c.take_turn.ensures.turn c.pass.invariant.some c.slot_mut-database.ensures.value c.write-answer.ensures.after c.write-answer.ensures.answer

pub returns : goal.returns
returns g c =
    let call : Call = Write c.args.thread c.args.file c.args.block c.args.content in
    let answer : Answer = Wrote c.write-answer.result in
    let all = subst (λ (p : Standing). IsAdded p (standing c.end_turn.new.place) call answer) c.pass.view_is
    (adds c.pass.inside.place c.end_turn.new.place c.take_turn.new.place.me call answer c.slot_mut-database.result.now
    c.take_turn.ensures.turn c.slot_mut-database.ensures.value c.write-answer.ensures.answer
    (c.end_turn.ensures.table ∙ c.take_turn.ensures.table) c.end_turn.ensures.ended c.end_turn.ensures.number) in
    record { stays = all.stays; legal = all.legal; below = all.below; numbers = all.numbers; adds = all.adds }
