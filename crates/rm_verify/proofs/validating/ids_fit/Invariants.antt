use Rattle.std.proofs.Common.{All, take}
use Rattle.rm_evidence.specs.Taking.{HasId}
use Rattle.rm_verify.proofs.validating.ids_fit.Given as goal

abbrev pub invariant-loop-row : goal.invariant-loop-row
invariant-loop-row l = All (λ x. HasId x.1.now) (take l.row-index l.rows)
