use Rattle.std.proofs.Common.{◌≡◌, ◌-◌}
use Rattle.rm_catalog.specs.Objects.{owner_in}
use Rattle.rm_catalog.proofs.objects.owner_in.Given as goal

abbrev pub invariant-loop-step : goal.invariant-loop-step
invariant-loop-step l = owner_in (l.steps - l.step) l.member l.g l.records ≡ owner_in l.steps l.inc l.g l.records
