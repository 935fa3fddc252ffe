-- Sets of SCNs, as lists of spans.
use Rattle.std.specs.{Prelude.{ℕ, ◌≡◌, ◌<◌, ◌≤◌, ◌&&◌, nat_lt, nat_le, Bool, true, false, List, AllPairs}, List.{list_any}}
use Rattle.std.specs.List.Sorted.{IsNonDecreasingBy}
use Rattle.rm_plan.specs.declared.span.Span.{Span}

-- g lies in the span
abbrev pub lies_in : ℕ → Span → Bool
lies_in g x = nat_le x.start g && nat_lt g x.end

-- the spans cover g: it lies in one of them
abbrev pub covers : List Span → ℕ → Bool
covers spans g = list_any (lies_in g) spans

-- by their starts
abbrev pub IsAscending : List Span → Type 0
IsAscending spans = IsNonDecreasingBy (λ x. x.start) spans

-- each ends below the start of those that follow
abbrev pub AreApart : List Span → Type 0
AreApart spans = AllPairs (λ x y. x.end < y.start) spans

-- g is the least at or above low that the spans do not cover
pub record IsFirstOutside (spans : List Span) (low g : ℕ) : Type 0 where
  pub above : low ≤ g
  pub outside : covers spans g ≡ false
  pub inside : (k : ℕ) → low ≤ k → k < g → covers spans k ≡ true
