use Rattle.std.proofs.{Common.{rules, ◌≡◌, None, Some}, lemmas.{Bool.{false≢true}, Result.{IfOk-weaker}}}
use Rattle.rm_machine.specs.State.{on_path}
use Rattle.rm_step_retain.proofs.Needed.{needs-off, needs-on}
use Rattle.rm_step_retain.proofs.needing.needs_backup.Goals as goal

pub returns-in-Some : goal.returns-in-Some
returns-in-Some c =
    let s = c.args.state.now in
    let d = c.in-Some.field-0 in
    let on : on_path s c.args.file ≡ Some d = search rules in
    IfOk-weaker c.has_few.result _ _ (λ few tells. needs-on s c.args.looked.now.evidence c.args.file d few on tells) c.has_few.ensures

pub returns-in-None : goal.returns-in-None
returns-in-None c =
    let s = c.args.state.now in
    let off : on_path s c.args.file ≡ None = search rules in
    ((λ never. absurd (false≢true never)), (λ needs. absurd (needs-off s c.args.looked.now.evidence c.args.file off needs)))
