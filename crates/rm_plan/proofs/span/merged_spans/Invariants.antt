use Rattle.std.proofs.Common.{◌≡◌, ◌≤◌, ◌<◌, ◌++◌, ◌∷◌, [], ℕ, take, length, get_or}
use Rattle.rm_plan.specs.{Spans.{covers, AreApart, IsAscending}, declared.span.Span.{Span}}
use Rattle.rm_plan.proofs.span.merged_spans.Given as goal

abbrev pub invariant-loop-span : goal.invariant-loop-span
invariant-loop-span l = record {
  same : (g : ℕ) → covers (l.out.items ++ l.last ∷ []) g ≡ covers (take l.span-index l.spans) g;
  order : IsAscending (l.out.items ++ l.last ∷ []);
  apart : AreApart (l.out.items ++ l.last ∷ []);
  low : (k : ℕ) (d : Span) → l.span-index ≤ k → k < length l.spans → l.last.start ≤ (get_or l.spans k d).start;
}
