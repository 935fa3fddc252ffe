use Rattle.std.{specs.List.{filter_map}, proofs.Common.{◌≡◌, ◌+◌, ◌++◌, drop, map}}
use Rattle.rm_machine.specs.{Damage.{undamaged}, State.{counted}}
use Rattle.rm_machine.proofs.hand.files_in_place.Given as goal

abbrev pub invariant-loop-index : goal.invariant-loop-index
invariant-loop-index l =
    l.files ++ map (counted l.state) (filter_map (λ o. o) (undamaged l.state.instance.damaged (1 + l.index) (drop l.index l.state.instance.place))) ≡ map (counted l.state) (filter_map (λ o. o) (undamaged l.state.instance.damaged 1 l.state.instance.place))
