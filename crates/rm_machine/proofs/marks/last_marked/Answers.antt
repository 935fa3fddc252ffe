use Rattle.std.{specs.Option.{option_copied}, proofs.Common.{◌≡◌, ◌∙◌, ◌-◌, Some, None, sym, ap, length, slice_get}}
use Rattle.rm_machine.proofs.LastMarks.{last-none, last-some}
use Rattle.rm_machine.proofs.marks.last_marked.Goals as goal

pub returns-in-Some : goal.returns-in-Some
returns-in-Some c =
    let ms = c.args.marks.now in
    let at : slice_get ms (length ms - 1) ≡ Some c.in-Some.mark.now = sym c.last.ensures.value ∙ ap option_copied c.in-Some.is in
    sym (last-some 0 ms c.in-Some.mark.now at)

pub returns-in-None : goal.returns-in-None
returns-in-None c =
    let ms = c.args.marks.now in
    let at : slice_get ms (length ms - 1) ≡ None = sym c.last.ensures.value ∙ ap option_copied c.in-None.is in
    sym (last-none 0 ms at)
