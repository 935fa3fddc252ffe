use Rattle.std.{specs.List.{filter}, proofs.Common.{◌≡◌, take, map, ltb}}
use Rattle.rm_retain.specs.Catalogued.{backup_of}
use Rattle.rm_retain.proofs.needs.copies.Given as goal

abbrev pub invariant-loop-piece : goal.invariant-loop-piece
invariant-loop-piece l = l.found.items ≡ map backup_of (filter (λ x. ltb 0 x.0) (take l.piece-index l.evidence.bases))
