use Rattle.std.{specs.List.{list_any}, proofs.Common.{◌≡◌, ℕ, take}}
use Rattle.rm_plan.specs.{Covers.{log_covers}, Spans.{covers}}
use Rattle.rm_plan.proofs.cover.thread_spans.Given as goal

abbrev pub invariant-loop-log : goal.invariant-loop-log
invariant-loop-log l = (g : ℕ) → covers l.out.items g ≡ list_any (log_covers l.ways l.thread g) (take l.log-index l.logs)
