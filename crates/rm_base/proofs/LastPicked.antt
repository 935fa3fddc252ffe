-- The last of the marks that are picked is the last one that passes both tests.
use Rattle.std.specs.Prelude.{filter, find, reverse}
use Rattle.std.proofs.Common.{◌≡◌, ◌∙◌, ◌&&◌, refl, ap, Bool, true, false, cond, List, [], ◌∷◌, Some}
use mathlib.Core.List.{reverse_aux}

module _ {X : Type 0} (p : X → Bool) where
  filter-onto : (xs ys : List X) → filter p (reverse_aux xs ys) ≡ reverse_aux (filter p xs) (filter p ys)
  filter-onto [] ys = refl
  filter-onto (x ∷ xs) ys = filter-onto xs (x ∷ ys) ∙ by_test (p x)
    where
      by_test : (b : Bool) → reverse_aux (filter p xs) (cond b (x ∷ filter p ys) (filter p ys)) ≡ reverse_aux (cond b (x ∷ filter p xs) (filter p xs)) (filter p ys)
      by_test true = refl
      by_test false = refl

  module _ (q : X → Bool) where
    find-filter : (xs : List X) → find (λ x. p x && q x) xs ≡ find q (filter p xs)
    find-filter [] = refl
    find-filter (x ∷ xs) = by_test (p x) (find-filter xs)
      where
        by_test : (b : Bool) → find (λ y. p y && q y) xs ≡ find q (filter p xs) → cond (b && q x) (Some x) (find (λ y. p y && q y) xs) ≡ find q (cond b (x ∷ filter p xs) (filter p xs))
        by_test true same = ap (λ o. cond (q x) (Some x) o) same
        by_test false same = same

    pub last-picked : (xs : List X) → find (λ x. p x && q x) (reverse xs) ≡ find q (reverse (filter p xs))
    last-picked xs = find-filter (reverse xs) ∙ ap (find q) (filter-onto xs [])
