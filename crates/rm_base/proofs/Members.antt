-- Members of lists.
use Rattle.std.proofs.Common.{◌≡◌, ◌<◌, ◌⊎◌, ◌∙◌, inl, inr, ℕ, zero, suc, List, [], ◌∷◌, ◌++◌, refl, subst, arith, length, length-append, slice_get, slice_index_or, Contains, AllPairs}
use Rattle.std.proofs.{lemmas.List.{get_or_append_left, Elements.{Contains-append_right}}, Math.Seq.{get_or-append_seam}}

pub in-front : {X : Type 0} (x : X) (xs : List X) → Contains (x ∷ xs) x
in-front x xs = (0, omega arith, refl)

pub behind : {X : Type 0} (x : X) (xs : List X) (y : X) → Contains xs y → Contains (x ∷ xs) y
behind x xs y is = Contains-append_right (x ∷ []) xs y is

pub none-in : {X : Type 0} (y : X) → ¬ Contains [] y
none-in y is = absurd (omega (arith, is.1))

-- an item of a list is its first, or one of the rest
pub first-or-rest : {X : Type 0} (x : X) (xs : List X) (y : X) → Contains (x ∷ xs) y → (x ≡ y) ⊎ Contains xs y
first-or-rest x xs y (zero, inside, is) = inl is
first-or-rest x xs y (suc k, inside, is) = inr (k, omega arith, is)

-- what holds of all pairs holds of those in front
pub AllPairs-front : {X : Type 0} (R : X → X → Type 0) (xs ys : List X) → AllPairs R (xs ++ ys) → AllPairs R xs
AllPairs-front R xs ys all i j d less inside =
    let long = length-append xs ys in
    subst (λ x. R x (slice_index_or xs j d)) (get_or_append_left xs ys d i (omega arith))
    (subst (λ y. R (slice_index_or (xs ++ ys) i d) y) (get_or_append_left xs ys d j inside) (all i j d less (omega (arith, long))))

-- and of each with the last
pub AllPairs-last : {X : Type 0} (R : X → X → Type 0) (xs : List X) (y x : X) → AllPairs R (xs ++ y ∷ []) → Contains xs x → R x y
AllPairs-last R xs y x all (k, inside, is) =
    let long = length-append xs (y ∷ []) in
    subst (λ z. R z y) (get_or_append_left xs (y ∷ []) x k inside ∙ is)
    (subst (λ z. R (slice_index_or (xs ++ y ∷ []) k x) z) (get_or-append_seam xs y [] x) (all k (length xs) x inside (omega (arith, long))))

-- an item more at the end leaves those in front
pub slice_get-front : {X : Type 0} (xs : List X) (x : X) (k : ℕ) → k < length xs → slice_get (xs ++ x ∷ []) k ≡ slice_get xs k
slice_get-front [] x k inside = absurd (omega arith)
slice_get-front (y ∷ ys) x zero inside = refl
slice_get-front (y ∷ ys) x (suc k) inside = slice_get-front ys x k (omega arith)
