-- What is told of one record after the other.
use Rattle.std.specs.{Prelude.{◌≡◌, ◌↔◌, ℕ, List, [], ◌∷◌, ◌++◌, Option, Some, None, Err}, Option.{option_map}}
use Rattle.rm_base.specs.declared.kinds.Bad.{Bad}
use Rattle.rm_evidence.specs.declared.telling.Told.{Told, TheVariants.{OfLog, OfPiece, OfSet}}

-- what is told, if anything, is all that Is
abbrev pub Tells : {A : Type 0} → (ℕ → A → Type 0) → Option (ℕ × A) → Type 0
Tells {A} Is found = (id : ℕ) (a : A) → (found ≡ Some (id, a)) ↔ Is id a

-- the list, and what is told behind it
abbrev pub with_found : {X : Type 0} → List X → Option X → List X
with_found xs None = xs
with_found xs (Some x) = xs ++ x ∷ []

-- why the object of a record can't be used, where that is told
abbrev pub reason : Told → Option Bad
reason (OfLog (Err bad)) = Some bad
reason (OfPiece (Err bad)) = Some bad
reason (OfSet (Err bad)) = Some bad
reason _ = None

-- the list, and behind it the id of each object that can't be used by what is told, and why
abbrev pub with_bad : List (ℕ × Bad) → List ℕ → List Told → List (ℕ × Bad)
with_bad list (id ∷ ids) (t ∷ ts) = with_bad (with_found list (option_map (λ bad. (id, bad)) (reason t))) ids ts
with_bad list _ _ = list
