use Rattle.std.proofs.Common.{take}
use Rattle.rm_machine.specs.Upkeep.{IsExpired}
use Rattle.rm_verify.proofs.Growing.{Has}
use Rattle.rm_step_upkeep.specs.Expired.{Alone}
use Rattle.rm_step_upkeep.proofs.expiring.expired_in.Given as goal

abbrev pub invariant-loop-row : goal.invariant-loop-row
invariant-loop-row l = Has Alone (λ id _. IsExpired (take l.row-index l.records) l.class id) l.list
