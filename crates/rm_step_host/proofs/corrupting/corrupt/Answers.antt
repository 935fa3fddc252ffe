use Rattle.std.proofs.{Common.{[], ◌∷◌, ◌∙◌, refl, sym}, lemmas.Option.{none-some}}
use Rattle.rm_report.specs.declared.line.Line.TheVariants.{BlockDamaged}
use Rattle.rm_lang_statement.specs.declared.command.Command.TheVariants.{Corrupt}
use Rattle.rm_machine.{specs.{Corrupt.{corrupted}, Effect.{no_effect}, declared.state.State.{State}}, proofs.Handing.{hands-by}}
use Rattle.rm_step_host.proofs.Corrupted.{row-there}
use Rattle.rm_step_host.proofs.corrupting.corrupt.Goals as goal

pub placed_row-requires : goal.placed_row-requires
placed_row-requires c = (row-there c.args.state.now c.args.file c.args.block c.requires.sound c.requires.accepted).number.0

pub unreachable-requires : goal.unreachable-requires
unreachable-requires c =
    let there = row-there c.args.state.now c.args.file c.args.block c.requires.sound c.requires.accepted in
    absurd (none-some there.row (sym c.in_default.is ∙ c.placed_row.ensures ∙ there.is))

pub damage-requires-clause-there : goal.damage-requires-clause-there
damage-requires-clause-there c = (row-there c.args.state.now c.args.file c.args.block c.requires.sound c.requires.accepted).place

pub returns-clause-hands : goal.returns-clause-hands
returns-clause-hands c held =
    let s : State = c.args.state.now in
    let f = c.args.file in
    let b = c.args.block in
    let r = c.in-Some.row in
    hands-by held s (Corrupt f b) c.in_ok-handed.handed c.damage.new.state (BlockDamaged f b ∷ []) no_effect (corrupted s f r) (λ objects tells. (r, sym c.placed_row.ensures ∙ c.in-Some.is, refl))
    c.in_ok-handed.ensures.lines c.in_ok-handed.ensures.objects c.in_ok-handed.ensures.removes c.in_ok-damage.ensures.ok
