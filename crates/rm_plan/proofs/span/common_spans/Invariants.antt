use Rattle.std.proofs.Common.{◌≡◌, ◌-◌, ◌+◌, ◌&&◌, ◌||◌, ℕ, drop, length}
use Rattle.rm_plan.specs.Spans.{covers}
use Rattle.rm_plan.proofs.span.common_spans.Given as goal

-- what both have in common was found, or is in what is left of both
abbrev pub invariant-loop-a : goal.invariant-loop-a
invariant-loop-a l = (g : ℕ) → (covers l.xs g && covers l.ys g) ≡ (covers l.out.items g || (covers (drop l.a l.xs) g && covers (drop l.b l.ys) g))

abbrev pub decreases-loop-a : goal.decreases-loop-a
decreases-loop-a l = (length l.xs - l.a) + (length l.ys - l.b)
