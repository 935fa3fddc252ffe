-- Ids that differ ascend strictly once they are sorted.
use Rattle.std.specs.List.{AllByRecursion, IsDistinct, Sorted.{IsNonDecreasingBy, IsPermutation}}
use Rattle.std.proofs.Common.{◌≡◌, ◌≢◌, ◌<◌, ◌≤◌, ℕ, Bool, false, eqb, List, [], ◌∷◌, get_or, AllPairs, Contains, inl, inr, subst, arith}
use Rattle.std.proofs.lemmas.{Bool.Decides.{nat_tests}, List.{Elements.{Contains-get_or}, Kept.{AllPairs-cons}}}
use Rattle.std.proofs.lemmas.Map.Keys.{IsDistinct-IsPermutation}
use Rattle.rm_base.proofs.{Members.{in-front, behind, none-in, first-or-rest}, Lists.{pairs-head, pairs-tail}}

-- the id
abbrev pub id-of : {A : Type 0} → ℕ × A → ℕ
id-of x = x.0

by-recursion : {X : Type 0} (P : X → Type 0) (xs : List X) → ((x : X) → Contains xs x → P x) → AllByRecursion P xs
by-recursion P [] all = tt
by-recursion P (x ∷ xs) all = (all x (in-front x xs), by-recursion P xs (λ y has. all y (behind x xs y has)))

from-recursion : {X : Type 0} (P : X → Type 0) (xs : List X) (x : X) → AllByRecursion P xs → Contains xs x → P x
from-recursion P [] x all has = absurd (none-in x has)
from-recursion P (y ∷ ys) x all has = elim (first-or-rest y ys x has) [
  | inl same ↦ subst P same all.0
  | inr later ↦ from-recursion P ys x all.1 later
]

-- whether two have one id
same_id : {A : Type 0} → (ℕ × A) → (ℕ × A) → Bool
same_id x y = eqb x.0 y.0

differs : (m n : ℕ) → m ≢ n → eqb m n ≡ false
differs m n h = grind (arith, nat_tests)

apart : (m n : ℕ) → eqb m n ≡ false → m ≢ n
apart m n h = λ same. grind (arith, nat_tests)

flips : (m n : ℕ) → eqb m n ≡ eqb n m
flips m n = grind (arith, nat_tests)

distinct-from : {A : Type 0} (xs : List (ℕ × A)) → AllPairs (λ x y. x.0 ≢ y.0) xs → IsDistinct (same_id {A = A}) xs
unfolding same_id IsDistinct
distinct-from [] all = tt
distinct-from {A} (x ∷ xs) all = (
  by-recursion (λ (y : ℕ × A). same_id x y ≡ false) xs (λ y has. differs x.0 y.0 (pairs-head (λ (x y : ℕ × A). x.0 ≢ y.0) x xs y all has)),
  distinct-from xs (pairs-tail (λ (x y : ℕ × A). x.0 ≢ y.0) x xs all),
)

from-distinct : {A : Type 0} (xs : List (ℕ × A)) → IsDistinct (same_id {A = A}) xs → AllPairs (λ x y. x.0 ≢ y.0) xs
unfolding same_id IsDistinct
from-distinct [] distinct = λ i j d less inside. absurd (omega arith)
from-distinct {A} (x ∷ xs) distinct =
    AllPairs-cons (λ (x y : ℕ × A). x.0 ≢ y.0) x xs
    (λ k d inside. apart x.0 (get_or xs k d).0 (from-recursion (λ (y : ℕ × A). same_id x y ≡ false) xs (get_or xs k d) distinct.0 (Contains-get_or xs k d inside)))
    (from-distinct xs distinct.1)

strictly : (m n : ℕ) → m ≤ n → m ≢ n → m < n
strictly m n le differ = grind arith

pub sorted-ascends : {A : Type 0} (xs ys : List (ℕ × A)) → AllPairs (λ x y. x.0 ≢ y.0) xs → IsPermutation xs ys → IsNonDecreasingBy (λ x. x.0) ys → AllPairs (λ x y. x.0 < y.0) ys
unfolding same_id IsDistinct
sorted-ascends {A} xs ys differ moved order =
    let differing = from-distinct ys (IsDistinct-IsPermutation (same_id {A = A}) (λ x y. flips x.0 y.0) xs ys moved (distinct-from xs differ)) in
    λ i j d less inside. strictly (get_or ys i d).0 (get_or ys j d).0 (order i j d (omega arith) inside) (differing i j d less inside)
