-- The first of those items of a list that pass, by an order; and the order of backups.
use Rattle.std.specs.Prelude.{ℕ, ◌≡◌, ◌<◌, ◌≤◌, ◌⊎◌, Option, Some, None, List, Contains}

-- x passes, and comes before each item that does
pub record IsFirst {X : Type 0} (Passes : X → Type 0) (Before : X → X → Type 0) (xs : List X) (x : X) : Type 0 where
  pub held : Contains xs x
  pub passes : Passes x
  pub first : (y : X) → Contains xs y → Passes y → Before x y

-- the first, or none where none passes
abbrev pub IsChoice : {X : Type 0} → (X → Type 0) → (X → X → Type 0) → List X → Option X → Type 0
IsChoice Passes Before xs None = (y : _) → Contains xs y → ¬ Passes y
IsChoice Passes Before xs (Some x) = IsFirst Passes Before xs x

-- of two backups, each by its id and its checkpoint, the one of the greater checkpoint, of one checkpoint the one of the greater id
abbrev pub ComesFirst : ℕ × ℕ → ℕ × ℕ → Type 0
ComesFirst x y = (y.1 < x.1) ⊎ ((y.1 ≡ x.1) × (y.0 ≤ x.0))

-- the first of those that pass, each by what it shows, or none
abbrev pub IsLatest : {X : Type 0} → (X → ℕ × ℕ) → (X → Type 0) → List X → Option X → Type 0
IsLatest shown Passes xs o = IsChoice Passes (λ x y. ComesFirst (shown x) (shown y)) xs o
