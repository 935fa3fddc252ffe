-- Bytes without the zero bytes at their end.
use Rattle.std.proofs.Common.{◌≡◌, ◌∙◌, ◌==◌, ◌++◌, ℕ, List, [], ◌∷◌, true, false, cond, refl, ap}
use Rattle.rm_base.specs.Content.{onto, trimmed}

-- a zero byte at the end changes nothing
pub trimmed-zero : (xs : List ℕ) (x : ℕ) → (x == 0) ≡ true → trimmed (xs ++ x ∷ []) ≡ trimmed xs
trimmed-zero [] x h = ap (λ b. cond b [] (x ∷ [])) h
trimmed-zero (y ∷ ys) x h = ap (onto y) (trimmed-zero ys x h)

onto-push : (y : ℕ) (ys : List ℕ) (x : ℕ) → onto y (ys ++ x ∷ []) ≡ y ∷ (ys ++ x ∷ [])
onto-push y [] x = refl
onto-push y (z ∷ zs) x = refl

-- after another byte at the end nothing is cut
pub trimmed-other : (xs : List ℕ) (x : ℕ) → (x == 0) ≡ false → trimmed (xs ++ x ∷ []) ≡ xs ++ x ∷ []
trimmed-other [] x h = ap (λ b. cond b [] (x ∷ [])) h
trimmed-other (y ∷ ys) x h = ap (onto y) (trimmed-other ys x h) ∙ onto-push y ys x
