use Rattle.std.proofs.Common.{List, All, refl, subst, sym}
use Rattle.rm_blocks.specs.File.{File}
use Rattle.rm_machine.specs.State.{world}
use Rattle.rm_step_recover.{specs.Lines.{HasLines}, proofs.{Dates.{tested-dated}, Files.{told-lines}, Handing.{told-at}}}
use Rattle.rm_step_recover.proofs.recovery_test.recover_test.Goals as goal

pub push_test-requires-clause-each : goal.push_test-requires-clause-each
push_test-requires-clause-each g c =
    let held = g.D.Store.held c.args.store.now in
    let s = c.args.state.now in
    let i = c.tested-inc.result in
    let at = c.in-Some.at in
    let back = c.in-Ok.back in
    subst (λ (files : List File). All HasLines files) (sym c.as_slice-2.ensures)
    (told-lines held s c.requires.sound i at back (told-at held s i i at c.in_ok-back.field-0 back refl c.in-Ok.is c.in_ok-back.ensures.tells))

pub returns-clause-dates : goal.returns-clause-dates
returns-clause-dates g c = tested-dated c.in_ok-lines.lines c.push_test.new.lines c.as_slice.result.now (world c.args.state.now) c.tested-inc.result c.in-Some.at c.as_slice-2.result.now c.in_ok-lines.ensures.lines c.in_ok-push_test.ensures
