use Rattle.std.{specs.List.{filter}, proofs.Common.{◌≡◌, take, ltb}}
use Rattle.rm_catalog.specs.Edits.{place_of_edit}
use Rattle.rm_catalog.proofs.copies.edits_below.Given as goal

abbrev pub invariant-loop-edit : goal.invariant-loop-edit
invariant-loop-edit l = l.made.items ≡ filter (λ e. ltb (place_of_edit e) l.place) (take l.edit-index l.edits)
