-- The SCN above all that an artefact shows.
use Rattle.std.proofs.{Common.{◌≡◌, ◌<◌, ◌≤◌, ◌+◌, ◌⊎◌, inl, inr, ℕ, List, [], ◌∷◌, refl, subst, arith, Contains}, lemmas.Bool.{cases_lt}}
use Rattle.rm_base.{specs.declared.block.Row.{Row}, proofs.Members.{in-front, behind, none-in, first-or-rest}}
use Rattle.rm_history.specs.Artefacts.{high_of}

-- it is the checkpoint at least
pub high-least : (checkpoint : ℕ) (rows : List Row) → checkpoint ≤ high_of checkpoint rows
high-least checkpoint [] = omega arith
high-least checkpoint (r ∷ rs) = let rest = high-least checkpoint rs in omega (arith, rest)

-- each version lies below it
pub high-above : (checkpoint : ℕ) (rows : List Row) (r : Row) → Contains rows r → r.version < high_of checkpoint rows
high-above checkpoint [] r held = absurd (none-in r held)
high-above checkpoint (x ∷ xs) r held = elim (first-or-rest x xs r held) [
  | inl same ↦ subst (λ (y : Row). y.version < high_of checkpoint (x ∷ xs)) same (omega arith)
  | inr rest ↦ let low = high-above checkpoint xs r rest in omega (arith, low)
]

-- and it is the checkpoint, or just above a version
pub high-held : (checkpoint : ℕ) (rows : List Row) → (high_of checkpoint rows ≡ checkpoint) ⊎ ((r : Row) × Contains rows r × (r.version + 1 ≡ high_of checkpoint rows))
high-held checkpoint [] = inl refl
high-held checkpoint (x ∷ xs) = elim (cases_lt x.version (high_of checkpoint xs)) [
  | inr above ↦ inr (x, in-front x xs, omega (arith, above))
  | inl below ↦
      let same : high_of checkpoint (x ∷ xs) ≡ high_of checkpoint xs = omega (arith, below) in
      elim (high-held checkpoint xs) [
        | inl least ↦ inl (omega (arith, same, least))
        | inr held ↦ inr (held.0, behind x xs held.0 held.1, omega (arith, same, held.2))
      ]
]

-- a bound of all versions and of the checkpoint is one of it
pub high-bound : (checkpoint most : ℕ) (rows : List Row) → checkpoint ≤ most → ((r : Row) → Contains rows r → r.version < most) → high_of checkpoint rows ≤ most
high-bound checkpoint most [] low all = low
high-bound checkpoint most (r ∷ rs) low all =
    let rest = high-bound checkpoint most rs low (λ x has. all x (behind r rs x has)) in
    let first = all r (in-front r rs) in
    omega (arith, rest, first)
