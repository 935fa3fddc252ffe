-- What the calls of a folder do to its files, and what a machine that stops may keep of them.
use Rattle.std.specs.Prelude.{◌≡◌, ◌≢◌, ◌⊎◌, ◌∷◌, [], List, ℕ, Contains, Option, Some, None}
use Rattle.rm_base.specs.Store.{Held}

-- each name but these two has what it had
abbrev pub SameButBoth : List ℕ → List ℕ → Held → Held → Type 0
SameButBoth name beside before after = (n : List ℕ) → n ≢ name → n ≢ beside → after n ≡ before n

-- the name has what it had, or these bytes
abbrev pub IsWhole : List ℕ → List ℕ → Held → Held → Type 0
IsWhole name bytes before after = (after name ≡ before name) ⊎ (after name ≡ Some bytes)

-- what stood under the first name stands under the second, and nothing under the first
pub record IsMoved (from to : List ℕ) (before after : Held) : Type 0 where
  pub stands : after to ≡ before from
  pub gone : after from ≡ None
  pub others : SameButBoth to from before after

-- all that each name may have where the machine stops now
abbrev pub Kept : Type 0
Kept = List ℕ → List (Option (List ℕ))

-- the name may have what it might have before, or this
abbrev pub MayHave : List ℕ → Option (List ℕ) → Kept → Kept → Type 0
MayHave name held before after = (x : Option (List ℕ)) → Contains (after name) x → Contains (before name) x ⊎ (x ≡ held)

-- each name but this one may have what it might have before
abbrev pub KeepsBut : List ℕ → Kept → Kept → Type 0
KeepsBut name before after = (n : List ℕ) → n ≢ name → after n ≡ before n

-- this name may get what is given, and each other one but the second may have what it might have before
pub record MayMove (to from : List ℕ) (held : Option (List ℕ)) (before after : Kept) : Type 0 where
  pub may : MayHave to held before after
  pub others : (n : List ℕ) → n ≢ to → n ≢ from → after n ≡ before n

-- each name has what its file has, whenever the machine stops
abbrev pub IsDurable : Held → Kept → Type 0
IsDurable held kept = (n : List ℕ) → kept n ≡ held n ∷ []

-- each name may have what it might have before, or what its file has
abbrev pub MaySettle : Held → Kept → Kept → Type 0
MaySettle held before after = (n : List ℕ) → MayHave n (held n) before after
