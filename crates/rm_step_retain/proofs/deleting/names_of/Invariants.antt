use Rattle.std.{specs.List.{flat_map}, proofs.Common.{◌≡◌, take}}
use Rattle.rm_machine.specs.Upkeep.{names_at}
use Rattle.rm_step_retain.proofs.deleting.names_of.Given as goal

abbrev pub invariant-loop-id : goal.invariant-loop-id
invariant-loop-id l = l.names ≡ flat_map (λ n. names_at n l.state.catalog) (take l.id-index l.ids)
