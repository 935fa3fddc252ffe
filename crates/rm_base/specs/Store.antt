-- What a store holds, and the answers of a clock to come, where they are told.
use Rattle.std.specs.{Prelude.{◌≡◌, ◌≢◌, ◌↔◌, ◌+◌, ℕ, List, Contains, Option, Some, None, IsSome}, Cmp.Lexicographic.{slice_cmp}}
use Rattle.std.specs.{List.Sorted.{IsStrictlySortedBy}, Ordering.{nat_cmp}}

-- the bytes under each name
abbrev pub Held : Type 0
Held = List ℕ → Option (List ℕ)

-- What is told before and after goes together so. One that tells goes on telling, and one that tells nothing goes on so.
abbrev pub Both : {A : Type 0} → (A → A → Type 0) → Option A → Option A → Type 0
Both R (Some before) (Some after) = R before after
Both R (Some before) None = ⊥
Both R None after = after ≡ None

-- the name has these bytes now, or nothing
abbrev pub HasNow : List ℕ → Option (List ℕ) → Held → Held → Type 0
HasNow name bytes before after = after name ≡ bytes

-- each other name has what it had
abbrev pub SameBut : List ℕ → Held → Held → Type 0
SameBut name before after = (n : List ℕ) → n ≢ name → after n ≡ before n

-- the names ascend strictly, by their bytes
abbrev pub Ascends : List (List ℕ) → Type 0
Ascends names = IsStrictlySortedBy (slice_cmp nat_cmp) names

-- these are the names that have something
abbrev pub AreTheNames : List (List ℕ) → Held → Type 0
AreTheNames names held = (n : List ℕ) → Contains names n ↔ IsSome (held n)

-- the answers of a clock to come, from the next one on, which has number 0
abbrev pub Answers : Type 0
Answers = ℕ → ℕ

-- one answer was given
abbrev pub IsLater : Answers → Answers → Type 0
IsLater before after = (i : ℕ) → after i ≡ before (i + 1)
