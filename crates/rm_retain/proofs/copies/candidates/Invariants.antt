use Rattle.std.{specs.List.{filter}, proofs.Common.{◌≡◌, take}}
use Rattle.rm_retain.specs.Chosen.{is_candidate}
use Rattle.rm_retain.proofs.copies.candidates.Given as goal

abbrev pub invariant-loop-copy : goal.invariant-loop-copy
invariant-loop-copy l = l.found.items ≡ filter (is_candidate l.tree l.current l.policy l.start l.file) (take l.copy-index l.copies)
