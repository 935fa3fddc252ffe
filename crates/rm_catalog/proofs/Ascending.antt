-- Records that ascend, each key once: edits keep that, and there is one order of them.
use Rattle.std.specs.Prelude.{Contains, IsPermutation}
use Rattle.std.proofs.Common.{◌≡◌, ℕ, zero, suc, ◌+◌, ◌<◌, ◌≤◌, Bool, ltb, cond, List, [], ◌∷◌, ◌++◌, length, get_or, refl, ap, sym, ◌∙◌, arith, eq-eqb, inl, inr, All}
use Rattle.std.proofs.lemmas.{Bool.{cases_eq}, List.{get_or_at, get_or-append-add, length-append, get_or_append_left}}
use Rattle.std.proofs.lemmas.List.{Elements.{All-contains}, Kept.{AllPairs-filter}}
use Rattle.std.proofs.lemmas.List.Sorted.{IsPermutation-sym, IsPermutation-trans, Contains-permutation}
use Rattle.rm_base.proofs.{Lists.{pairs-append}, Members.{AllPairs-front}}
use Rattle.rm_catalog.specs.{Keys.{place_of, place_of_key, Ascends, InOrder}, Rules.{IsOrderOf}}
use Rattle.rm_catalog.specs.{Edits.{below, above, after_edit, after_edits}, declared.record.{Record.{Record}, Edit.{Edit}}}
use Rattle.rm_catalog.{specs.declared.record.Edit.TheVariants.{Put, Drop}, proofs.{Counts.{alike}, Found.{differ}}}
use Rattle.rm_catalog.proofs.{Filters.{below_low, above_high}, Unique.{Rises, rises_of, rises_same, once_moves, head_or_tail}}

-- what ascends is in order
pub in_order_of : (rs : List Record) → Ascends rs → InOrder rs
in_order_of rs up i j d le lt = elim (cases_eq i j) [
  | inl same ↦ let e = ap (λ (n : ℕ). place_of (get_or rs n d)) same in omega arith
  | inr apart ↦ let h : place_of (get_or rs i d) < place_of (get_or rs j d) = up i j d (below_of i j le apart) lt in omega arith
]
  where
    below_of : (m n : ℕ) → m ≤ n → (m ≡ n → ⊥) → m < n
    below_of m n le apart = grind arith

-- two lists that ascend, the first below the second
pub ascends_append : (xs ys : List Record) → Ascends xs → Ascends ys → ((x y : Record) → Contains xs x → Contains ys y → place_of x < place_of y) → Ascends (xs ++ ys)
ascends_append = pairs-append (λ (a b : Record). place_of a < place_of b)

-- what stands around a record of a list that ascends
pub front_below : (xs : List Record) (r : Record) (ys : List Record) → Ascends (xs ++ r ∷ ys) → All (λ x. place_of x < place_of r) xs
front_below xs r ys up k d lt =
    let long = length-append xs (r ∷ ys) in
    let here : place_of (get_or (xs ++ r ∷ ys) k d) < place_of (get_or (xs ++ r ∷ ys) (length xs) d) = up k (length xs) d lt (omega arith) in
    let one = ap place_of (get_or_append_left xs (r ∷ ys) d k lt) in
    let two = ap place_of (get_or_at xs r ys d (length xs) refl) in
    omega arith

pub rest_above : (xs : List Record) (r : Record) (ys : List Record) → Ascends (xs ++ r ∷ ys) → All (λ x. place_of r < place_of x) ys
rest_above xs r ys up k d lt =
    let long = length-append xs (r ∷ ys) in
    let here : place_of (get_or (xs ++ r ∷ ys) (length xs) d) < place_of (get_or (xs ++ r ∷ ys) (length xs + suc k) d) = up (length xs) (length xs + suc k) d (omega arith) (omega arith) in
    let one = ap place_of (get_or_at xs r ys d (length xs) refl) in
    let two = ap place_of (get_or-append-add xs (r ∷ ys) (suc k) d) in
    omega arith

-- the front of a list that ascends
pub ascends_front : (xs ys : List Record) → Ascends (xs ++ ys) → Ascends xs
ascends_front = AllPairs-front (λ (a b : Record). place_of a < place_of b)

-- an edit keeps that
pub ascends_after : (e : Edit) (rs : List Record) → Ascends rs → Ascends (after_edit e rs)
ascends_after (Put r) rs up =
    ascends_append (below (place_of r) rs) (r ∷ above (place_of r) rs)
    (AllPairs-filter (λ (a b : Record). place_of a < place_of b) (λ (x : Record). ltb (place_of x) (place_of r)) rs up)
    (ascends_append (r ∷ []) (above (place_of r) rs) (one r) (AllPairs-filter (λ (a b : Record). place_of a < place_of b) (λ (x : Record). ltb (place_of r) (place_of x)) rs up)
    (λ x y hx hy. let same : place_of r ≡ place_of x = ap place_of (only r x hx) in let over : place_of r < place_of y = All-contains (λ (z : Record). place_of r < place_of z) (above (place_of r) rs) y (above_high (place_of r) rs) hy in omega arith))
    (λ x y hx hy.
    let low : place_of x < place_of r = All-contains (λ (z : Record). place_of z < place_of r) (below (place_of r) rs) x (below_low (place_of r) rs) hx in
    elim (head_or_tail r (above (place_of r) rs) y hy) [
      | inl same ↦ let e : place_of r ≡ place_of y = ap place_of same in omega arith
      | inr later ↦ let over : place_of r < place_of y = All-contains (λ (z : Record). place_of r < place_of z) (above (place_of r) rs) y (above_high (place_of r) rs) later in omega arith
    ])
  where
    one : (r : Record) → Ascends (r ∷ [])
    one r i j d less lt = absurd (omega arith)

    only : (r x : Record) → Contains (r ∷ []) x → r ≡ x
    only r x (zero, lt, is) = is
    only r x (suc k, lt, is) = absurd (omega arith)
ascends_after (Drop key) rs up =
    ascends_append (below (place_of_key key) rs) (above (place_of_key key) rs)
    (AllPairs-filter (λ (a b : Record). place_of a < place_of b) (λ (x : Record). ltb (place_of x) (place_of_key key)) rs up)
    (AllPairs-filter (λ (a b : Record). place_of a < place_of b) (λ (x : Record). ltb (place_of_key key) (place_of x)) rs up)
    (λ x y hx hy.
    let low : place_of x < place_of_key key = All-contains (λ (z : Record). place_of z < place_of_key key) (below (place_of_key key) rs) x (below_low (place_of_key key) rs) hx in
    let over : place_of_key key < place_of y = All-contains (λ (z : Record). place_of_key key < place_of z) (above (place_of_key key) rs) y (above_high (place_of_key key) rs) hy in
    omega arith)

pub ascends_after_all : (es : List Edit) (rs : List Record) → Ascends rs → Ascends (after_edits es rs)
ascends_after_all [] rs up = up
ascends_after_all (e ∷ es) rs up = ascends_after_all es (after_edit e rs) (ascends_after e rs up)

pub ascends_nil : Ascends []
ascends_nil i j d less lt = absurd (omega arith)

-- its places rise, and each is there once
rises_all : (b : ℕ) (rs : List Record) → All (λ r. b ≤ place_of r) rs → Ascends rs → Rises b rs
unfolding Rises
rises_all b [] low up = tt
rises_all b (r ∷ rs) low up = (
  low 0 r (omega arith),
  rises_all (place_of r + 1) rs (λ k d lt. let h : place_of r < place_of (get_or rs k d) = up 0 (suc k) d (omega arith) (omega arith) in omega arith)
      (λ i j d less lt. up (suc i) (suc j) d (omega arith) (omega arith)),
)

none_at : (p : ℕ) (rs : List Record) → All (λ r. p < place_of r) rs → alike p rs ≡ 0
unfolding alike
none_at p [] over = refl
none_at p (r ∷ rs) over =
    let high : p < place_of r = over 0 r (omega arith) in
    ap (λ (b : Bool). cond b (1 + alike p rs) (alike p rs)) (differ (place_of r) p (λ e. omega arith))
    ∙ none_at p rs (λ k d lt. over (suc k) d (omega arith))

once_each : (rs : List Record) → Ascends rs → (k : ℕ) (d : Record) → k < length rs → alike (place_of (get_or rs k d)) rs ≡ 1
unfolding alike
once_each [] up k d lt = absurd (omega arith)
once_each (r ∷ rs) up zero d lt =
    let none = none_at (place_of r) rs (λ k e less. up 0 (suc k) e (omega arith) (omega arith)) in
    let one = ap (λ (b : Bool). cond b (1 + alike (place_of r) rs) (alike (place_of r) rs)) (eq-eqb (place_of r) (place_of r) refl) in
    omega arith
once_each (r ∷ rs) up (suc k) d lt =
    let p = place_of (get_or rs k d) in
    let high : place_of r < p = up 0 (suc k) d (omega arith) (omega arith) in
    ap (λ (b : Bool). cond b (1 + alike p rs) (alike p rs)) (differ (place_of r) p (λ e. omega arith))
    ∙ once_each rs (λ i j e less l. up (suc i) (suc j) e (omega arith) (omega arith)) k d (omega arith)

-- records in order, with the elements of a list that ascends, are that list
pub one_ascending : (s t : List Record) → Ascends s → IsPermutation s t → InOrder t → s ≡ t
one_ascending s t up there order =
    let here = IsPermutation-sym s t there in
    rises_same 0 s t (rises_all 0 s (λ k d lt. omega arith) up) (rises_of t order (once_moves s t there here (once_each s up)))
    (λ x has. Contains-permutation s t x there has) (λ x has. Contains-permutation t s x here has)

-- the same of what is loaded and then put in order
pub loaded_in_order : (kept loaded sorted : List Record) → Ascends kept → IsPermutation kept loaded → IsOrderOf sorted loaded → sorted ≡ kept
loaded_in_order kept loaded sorted up answered order = sym (one_ascending kept sorted up (IsPermutation-trans kept loaded sorted answered order.permutation) order.order)
