-- What stands at a place of a list, and after one was set, added or changed.
use Rattle.std.specs.Option.{option_map}
use Rattle.std.proofs.Common.{◌≡◌, ◌≢◌, ◌∙◌, ◌++◌, ◌⊎◌, inl, inr, ℕ, zero, suc, List, [], ◌∷◌, Option, Some, None, IsSome, refl, ap, subst, arith, length, map, All, slice_get, slice_set, slice_index_or}
use Rattle.std.proofs.lemmas.{Option.{slice_get_within, get_or_from_slice_get}, List.Elements.{All-cons, All-get_or, All-nil}}

-- at the place that was set stands the new item, and at another one what stood there
pub get-set_same : {X : Type 0} (xs : List X) (k : ℕ) (v : X) → IsSome (slice_get xs k) → slice_get (slice_set xs k v) k ≡ Some v
get-set_same [] k v there = absurd (cc there)
get-set_same (x ∷ xs) zero v there = refl
get-set_same (x ∷ xs) (suc k) v there = get-set_same xs k v there

pub get-set_other : {X : Type 0} (xs : List X) (k j : ℕ) (v : X) → j ≢ k → slice_get (slice_set xs k v) j ≡ slice_get xs j
get-set_other [] k j v other = refl
get-set_other (x ∷ xs) zero zero v other = absurd (other refl)
get-set_other (x ∷ xs) zero (suc j) v other = refl
get-set_other (x ∷ xs) (suc k) zero v other = refl
get-set_other (x ∷ xs) (suc k) (suc j) v other = get-set_other xs k j v (λ e. other (ap (λ n. suc n) e))

-- an item after another was set: the one that was set, or another that was there
pub get-set : {X : Type 0} (xs : List X) (k j : ℕ) (v y : X) → slice_get (slice_set xs k v) j ≡ Some y → ((j ≡ k) × (v ≡ y)) ⊎ ((j ≢ k) × (slice_get xs j ≡ Some y))
get-set [] k j v y is = absurd (cc)
get-set (x ∷ xs) zero zero v y is = inl (refl, (let e : Some v ≡ Some y = is in cc))
get-set (x ∷ xs) zero (suc j) v y is = inr ((λ e. absurd (omega (arith, e))), is)
get-set (x ∷ xs) (suc k) zero v y is = inr ((λ e. absurd (omega (arith, e))), is)
get-set (x ∷ xs) (suc k) (suc j) v y is = elim (get-set xs k j v y is) [
  | inl new ↦ inl (ap (λ n. suc n) new.0, new.1)
  | inr old ↦ inr ((λ e. old.0 (omega (arith, e))), old.1)
]

-- an item after one more was added: the new one, or one that was there
pub get-push : {X : Type 0} (xs : List X) (v y : X) (j : ℕ) → slice_get (xs ++ v ∷ []) j ≡ Some y → ((j ≡ length xs) × (v ≡ y)) ⊎ (slice_get xs j ≡ Some y)
get-push [] v y zero is = inl (refl, (let e : Some v ≡ Some y = is in cc))
get-push [] v y (suc j) is = absurd (cc)
get-push (x ∷ xs) v y zero is = inr is
get-push (x ∷ xs) v y (suc j) is = elim (get-push xs v y j is) [
  | inl new ↦ inl (ap (λ n. suc n) new.0 ∙ omega arith, new.1)
  | inr old ↦ inr old
]

-- what is read with none for a default is there
pub get-index : {X : Type 0} (xs : List (Option X)) (k : ℕ) (x : X) → slice_index_or xs k None ≡ Some x → slice_get xs k ≡ Some (Some x)
get-index [] k x is = absurd (cc)
get-index (y ∷ ys) zero x is = ap Some is
get-index (y ∷ ys) (suc k) x is = get-index ys k x is

-- and the other way round
pub index-get : {X : Type 0} (xs : List (Option X)) (k : ℕ) (x : X) → slice_get xs k ≡ Some (Some x) → slice_index_or xs k None ≡ Some x
index-get [] k x is = absurd (cc)
index-get (y ∷ ys) zero x is = (let e : Some y ≡ Some (Some x) = is in cc)
index-get (y ∷ ys) (suc k) x is = index-get ys k x is

-- an item of a map
get-map : {X Y : Type 0} (f : X → Y) (xs : List X) (k : ℕ) (y : Y) → slice_get (map f xs) k ≡ Some y → (x : X) × (slice_get xs k ≡ Some x) × (f x ≡ y)
get-map f [] k y is = absurd (cc)
get-map f (x ∷ xs) zero y is = (x, refl, (let e : Some (f x) ≡ Some y = is in cc))
get-map f (x ∷ xs) (suc k) y is = get-map f xs k y is

mapped-by : {X Y : Type 0} (f : X → Y) (o : Option X) (y : Y) → option_map f o ≡ Some y → (x : X) × (o ≡ Some x) × (f x ≡ y)
mapped-by f None y is = absurd (cc)
mapped-by f (Some x) y is = (x, refl, (let e : Some (f x) ≡ Some y = is in cc))

-- what stands at a place after each that stood at one was changed
pub get-mapped : {X Y : Type 0} (f : X → Y) (xs : List (Option X)) (k : ℕ) (y : Y) → slice_get (map (option_map f) xs) k ≡ Some (Some y) → (x : X) × (slice_get xs k ≡ Some (Some x)) × (f x ≡ y)
get-mapped f xs k y is =
    let found = get-map (option_map f) xs k (Some y) is in
    let by = mapped-by f found.0 y found.2 in
    (by.0, found.1 ∙ ap Some by.1, by.2)

-- what is true of each item is true of one that is there
pub all-get : {X : Type 0} (P : X → Type 0) (xs : List X) (k : ℕ) (x : X) → slice_get xs k ≡ Some x → All P xs → P x
all-get P xs k x is all = subst P (get_or_from_slice_get xs k x x is) (All-get_or P xs k x (slice_get_within xs k x is) all)

-- what stands in place after one was changed
pub index-set : {X : Type 0} (place : List (Option X)) (m k : ℕ) (new : Option X) (x : X) → slice_index_or (slice_set place m new) k None ≡ Some x → ((k ≡ m) × (new ≡ Some x)) ⊎ ((k ≢ m) × (slice_index_or place k None ≡ Some x))
index-set place m k new x is = elim (get-set place m k new (Some x) (get-index (slice_set place m new) k x is)) [
  | inl same ↦ inl same
  | inr other ↦ inr (other.0, index-get place k x other.1)
]

all-each : {X : Type 0} (P : X → Type 0) (rows : List X) → ((k : ℕ) (r : X) → slice_get rows k ≡ Some r → P r) → All P rows
all-each P [] each = All-nil P
all-each P (r ∷ rows) each = All-cons P r rows (each 0 r refl) (all-each P rows (λ k x is. each (suc k) x is))

-- what is true of a new row, and of each row but the one that it replaces, is true of all rows after it
pub all-set_others : {X : Type 0} (P : X → Type 0) (rows : List X) (b : ℕ) (new : X) → P new → ((k : ℕ) (r : X) → slice_get rows k ≡ Some r → k ≢ b → P r) → All P (slice_set rows b new)
all-set_others P [] b new here each = All-nil P
all-set_others P (r ∷ rows) zero new here each = All-cons P new rows here (all-each P rows (λ k x is. each (suc k) x is (λ e. absurd (omega (arith, e)))))
all-set_others P (r ∷ rows) (suc b) new here each =
    All-cons P r (slice_set rows b new) (each 0 r refl (λ e. absurd (omega (arith, e))))
    (all-set_others P rows b new here (λ k x is other. each (suc k) x is (λ e. other (omega (arith, e)))))
