use Rattle.std.{specs.List.{filter_map}, proofs.Common.{◌≡◌, map, take}}
use Rattle.rm_evidence.proofs.Ordered.{numbered}
use Rattle.rm_evidence.proofs.order.objects.Given as goal

abbrev pub invariant-loop-row : goal.invariant-loop-row
invariant-loop-row l = map (λ x. (x.0, x.1.now)) l.list ≡ filter_map numbered (take l.row-index l.records)
