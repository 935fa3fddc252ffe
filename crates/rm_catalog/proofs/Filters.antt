-- Records below and above a place, and edits at different places.
use Rattle.std.specs.List.{filter}
use Rattle.std.proofs.Common.{◌≡◌, ℕ, ◌<◌, ◌≤◌, Bool, true, false, ltb, cond, List, [], ◌∷◌, ◌++◌, get_or, refl, ap, sym, subst, ◌∙◌, arith, inl, inr, All}
use Rattle.std.proofs.lemmas.{Bool.{lt-ltb, le-ltb, cases_lt}, List.{append-nil, append_assoc}}
use Rattle.std.proofs.lemmas.List.Elements.{All-nil, All-cons, All-append, filter-append, filter_agree}
use Rattle.rm_base.proofs.Lists.{filter_all, filter_none}
use Rattle.rm_catalog.specs.{Keys.{place_of, place_of_key}, Edits.{below, above, place_of_edit, after_edit, after_edits}}
use Rattle.rm_catalog.specs.declared.record.{Record.{Record}, Edit.{Edit, TheVariants.{Put, Drop}}}

-- what passes p and then q is what passes both
both : {X : Type 0} (p q : X → Bool) (xs : List X) → filter q (filter p xs) ≡ filter (λ x. cond (p x) (q x) false) xs
both p q [] = refl
both {X} p q (x ∷ xs) = step (p x) (q x) (both p q xs)
  where
    step : (a b : Bool) → filter q (filter p xs) ≡ filter (λ y. cond (p y) (q y) false) xs
        → filter q (cond a (x ∷ filter p xs) (filter p xs)) ≡ cond (cond a (q x) false) (x ∷ filter (λ y. cond (p y) (q y) false) xs) (filter (λ y. cond (p y) (q y) false) xs)
    step true b h = ap (λ (ys : List X). cond (q x) (x ∷ ys) ys) h
    step false b h = h

pub filter_twice : {X : Type 0} (p q r : X → Bool) → ((x : X) → cond (p x) (q x) false ≡ r x) → (xs : List X) → filter q (filter p xs) ≡ filter r xs
filter_twice {X} p q r same xs = both p q xs ∙ filter_agree (λ (x : X). cond (p x) (q x) false) r same xs

-- all records of a list are at one place
abbrev pub AllAt : ℕ → List Record → Type 0
AllAt p rs = All (λ r. place_of r ≡ p) rs

pub below_none : (p : ℕ) (rs : List Record) → All (λ r. p ≤ place_of r) rs → below p rs ≡ []
below_none p rs all = filter_none (λ (r : Record). ltb (place_of r) p) rs (λ k d lt. le-ltb (place_of (get_or rs k d)) p (all k d lt))

pub below_all : (p : ℕ) (rs : List Record) → All (λ r. place_of r < p) rs → below p rs ≡ rs
below_all p rs all = filter_all (λ (r : Record). ltb (place_of r) p) rs (λ k d lt. lt-ltb (place_of (get_or rs k d)) p (all k d lt))

pub above_none : (p : ℕ) (rs : List Record) → All (λ r. place_of r ≤ p) rs → above p rs ≡ []
above_none p rs all = filter_none (λ (r : Record). ltb p (place_of r)) rs (λ k d lt. le-ltb p (place_of (get_or rs k d)) (all k d lt))

pub above_all : (p : ℕ) (rs : List Record) → All (λ r. p < place_of r) rs → above p rs ≡ rs
above_all p rs all = filter_all (λ (r : Record). ltb p (place_of r)) rs (λ k d lt. lt-ltb p (place_of (get_or rs k d)) (all k d lt))

pub below_append : (p : ℕ) (xs ys : List Record) → below p (xs ++ ys) ≡ below p xs ++ below p ys
below_append p xs ys = filter-append (λ (r : Record). ltb (place_of r) p) xs ys

pub above_append : (p : ℕ) (xs ys : List Record) → above p (xs ++ ys) ≡ above p xs ++ above p ys
above_append p xs ys = filter-append (λ (r : Record). ltb p (place_of r)) xs ys

-- what a filter keeps passes
pub below_low : (p : ℕ) (rs : List Record) → All (λ r. place_of r < p) (below p rs)
below_low p [] = All-nil (λ (r : Record). place_of r < p)
below_low p (r ∷ rs) = elim (cases_lt (place_of r) p) [
  | inl lt ↦ subst (λ (b : Bool). All (λ (r : Record). place_of r < p) (cond b (r ∷ below p rs) (below p rs))) (sym (lt-ltb (place_of r) p lt))
      (All-cons (λ (r : Record). place_of r < p) r (below p rs) lt (below_low p rs))
  | inr le ↦ subst (λ (b : Bool). All (λ (r : Record). place_of r < p) (cond b (r ∷ below p rs) (below p rs))) (sym (le-ltb (place_of r) p le)) (below_low p rs)
]

pub above_high : (p : ℕ) (rs : List Record) → All (λ r. p < place_of r) (above p rs)
above_high p [] = All-nil (λ (r : Record). p < place_of r)
above_high p (r ∷ rs) = elim (cases_lt p (place_of r)) [
  | inl lt ↦ subst (λ (b : Bool). All (λ (r : Record). p < place_of r) (cond b (r ∷ above p rs) (above p rs))) (sym (lt-ltb p (place_of r) lt))
      (All-cons (λ (r : Record). p < place_of r) r (above p rs) lt (above_high p rs))
  | inr le ↦ subst (λ (b : Bool). All (λ (r : Record). p < place_of r) (cond b (r ∷ above p rs) (above p rs))) (sym (le-ltb p (place_of r) le)) (above_high p rs)
]

tests_below : (p q n : ℕ) → q < p → cond (ltb n p) (ltb n q) false ≡ ltb n q
tests_below p q n lt = elim (cases_lt n p) [
  | inl low ↦ ap (λ (b : Bool). cond b (ltb n q) false) (lt-ltb n p low)
  | inr le ↦ ap (λ (b : Bool). cond b (ltb n q) false) (le-ltb n p le) ∙ sym (le-ltb n q (omega arith))
]

tests_above : (p q n : ℕ) → q < p → cond (ltb q n) (ltb p n) false ≡ ltb p n
tests_above p q n lt = elim (cases_lt q n) [
  | inl low ↦ ap (λ (b : Bool). cond b (ltb p n) false) (lt-ltb q n low)
  | inr le ↦ ap (λ (b : Bool). cond b (ltb p n) false) (le-ltb q n le) ∙ sym (le-ltb p n (omega arith))
]

swap_tests : (a b : Bool) → cond a b false ≡ cond b a false
swap_tests true true = refl
swap_tests true false = refl
swap_tests false true = refl
swap_tests false false = refl

below_below : (p q : ℕ) (rs : List Record) → q < p → below q (below p rs) ≡ below q rs
below_below p q rs lt = filter_twice (λ (r : Record). ltb (place_of r) p) (λ (r : Record). ltb (place_of r) q) (λ (r : Record). ltb (place_of r) q) (λ r. tests_below p q (place_of r) lt) rs

above_above : (p q : ℕ) (rs : List Record) → q < p → above p (above q rs) ≡ above p rs
above_above p q rs lt = filter_twice (λ (r : Record). ltb q (place_of r)) (λ (r : Record). ltb p (place_of r)) (λ (r : Record). ltb p (place_of r)) (λ r. tests_above p q (place_of r) lt) rs

between : (p q : ℕ) (rs : List Record) → above q (below p rs) ≡ below p (above q rs)
between p q rs =
    filter_twice (λ (r : Record). ltb (place_of r) p) (λ (r : Record). ltb q (place_of r)) (λ (r : Record). cond (ltb q (place_of r)) (ltb (place_of r) p) false) (λ r. swap_tests (ltb (place_of r) p) (ltb q (place_of r))) rs
    ∙ sym (filter_twice (λ (r : Record). ltb q (place_of r)) (λ (r : Record). ltb (place_of r) p) (λ (r : Record). cond (ltb q (place_of r)) (ltb (place_of r) p) false) (λ r. refl) rs)

-- the records with these ones alone at a place
put_at : ℕ → List Record → List Record → List Record
put_at p m rs = below p rs ++ (m ++ above p rs)

low_part : (p q : ℕ) (m rs : List Record) → AllAt p m → q < p → below q (put_at p m rs) ≡ below q rs
unfolding put_at
low_part p q m rs all lt =
    below_append q (below p rs) (m ++ above p rs)
    ∙ ap (λ (x : List Record). x ++ below q (m ++ above p rs)) (below_below p q rs lt)
    ∙ ap (λ (x : List Record). below q rs ++ x) (below_append q m (above p rs)
    ∙ ap (λ (x : List Record). x ++ below q (above p rs)) (below_none q m (λ k d l. let e = all k d l in omega arith))
    ∙ below_none q (above p rs) (λ k d l. let e = above_high p rs k d l in omega arith))
    ∙ append-nil (below q rs)

high_part : (p q : ℕ) (m rs : List Record) → AllAt p m → q < p → above q (put_at p m rs) ≡ above q (below p rs) ++ (m ++ above p rs)
unfolding put_at
high_part p q m rs all lt =
    above_append q (below p rs) (m ++ above p rs)
    ∙ ap (λ (x : List Record). above q (below p rs) ++ x) (above_append q m (above p rs)
    ∙ ap (λ (x : List Record). x ++ above q (above p rs)) (above_all q m (λ k d l. let e = all k d l in omega arith))
    ∙ ap (λ (x : List Record). m ++ x) (above_all q (above p rs) (λ k d l. let e = above_high p rs k d l in omega arith)))

low_part_up : (p q : ℕ) (n rs : List Record) → AllAt q n → q < p → below p (put_at q n rs) ≡ below q rs ++ (n ++ below p (above q rs))
unfolding put_at
low_part_up p q n rs all lt =
    below_append p (below q rs) (n ++ above q rs)
    ∙ ap (λ (x : List Record). x ++ below p (n ++ above q rs)) (below_all p (below q rs) (λ k d l. let e = below_low q rs k d l in omega arith))
    ∙ ap (λ (x : List Record). below q rs ++ x) (below_append p n (above q rs)
    ∙ ap (λ (x : List Record). x ++ below p (above q rs)) (below_all p n (λ k d l. let e = all k d l in omega arith)))

high_part_up : (p q : ℕ) (n rs : List Record) → AllAt q n → q < p → above p (put_at q n rs) ≡ above p rs
unfolding put_at
high_part_up p q n rs all lt =
    above_append p (below q rs) (n ++ above q rs)
    ∙ ap (λ (x : List Record). x ++ above p (n ++ above q rs)) (above_none p (below q rs) (λ k d l. let e = below_low q rs k d l in omega arith))
    ∙ above_append p n (above q rs)
    ∙ ap (λ (x : List Record). x ++ above p (above q rs)) (above_none p n (λ k d l. let e = all k d l in omega arith))
    ∙ above_above p q rs lt

put_lower : (p q : ℕ) (m n rs : List Record) → AllAt p m → AllAt q n → q < p → put_at q n (put_at p m rs) ≡ put_at p m (put_at q n rs)
unfolding put_at
put_lower p q m n rs all every lt =
    let low = low_part p q m rs all lt in
    let high = high_part p q m rs all lt in
    let low' = low_part_up p q n rs every lt in
    let high' = high_part_up p q n rs every lt in
    let mid = between p q rs in
    let left : put_at q n (put_at p m rs) ≡ below q rs ++ (n ++ (above q (below p rs) ++ (m ++ above p rs))) =
    ap (λ (x : List Record). x ++ (n ++ above q (put_at p m rs))) low ∙ ap (λ (x : List Record). below q rs ++ (n ++ x)) high in
    let right : put_at p m (put_at q n rs) ≡ (below q rs ++ (n ++ below p (above q rs))) ++ (m ++ above p rs) =
    ap (λ (x : List Record). x ++ (m ++ above p (put_at q n rs))) low' ∙ ap (λ (x : List Record). (below q rs ++ (n ++ below p (above q rs))) ++ (m ++ x)) high' in
    let moved : (below q rs ++ (n ++ below p (above q rs))) ++ (m ++ above p rs) ≡ below q rs ++ (n ++ (below p (above q rs) ++ (m ++ above p rs))) =
    append_assoc (below q rs) (n ++ below p (above q rs)) (m ++ above p rs) ∙ ap (λ (x : List Record). below q rs ++ x) (append_assoc n (below p (above q rs)) (m ++ above p rs)) in
    left ∙ ap (λ (x : List Record). below q rs ++ (n ++ (x ++ (m ++ above p rs)))) mid ∙ sym moved ∙ sym right

-- what an edit leaves at its place
pub left_by : Edit → List Record
left_by (Put r) = r ∷ []
left_by (Drop key) = []

after_is : (e : Edit) (rs : List Record) → after_edit e rs ≡ put_at (place_of_edit e) (left_by e) rs
unfolding put_at left_by
after_is (Put r) rs = refl
after_is (Drop key) rs = refl

left_at : (e : Edit) → AllAt (place_of_edit e) (left_by e)
unfolding left_by
left_at (Put r) = All-cons (λ (x : Record). place_of x ≡ place_of r) r [] refl (All-nil (λ (x : Record). place_of x ≡ place_of r))
left_at (Drop key) = All-nil (λ (x : Record). place_of x ≡ place_of_key key)

-- what stands below a place, where an edit below it is made there, and where one above it is made
pub below_kept : (p : ℕ) (e : Edit) (rs : List Record) → place_of_edit e < p → below p (after_edit e rs) ≡ after_edit e (below p rs)
unfolding put_at
below_kept p e rs lt =
    let q = place_of_edit e in
    let n = left_by e in
    ap (λ (x : List Record). below p x) (after_is e rs) ∙ low_part_up p q n rs (left_at e) lt
    ∙ ap (λ (x : List Record). x ++ (n ++ below p (above q rs))) (sym (below_below p q rs lt))
    ∙ ap (λ (x : List Record). below q (below p rs) ++ (n ++ x)) (sym (between p q rs))
    ∙ sym (after_is e (below p rs))

tests_same : (p q n : ℕ) → q ≤ p → cond (ltb n p) (ltb n q) false ≡ ltb n q
tests_same p q n le = elim (cases_lt n p) [
  | inl low ↦ ap (λ (b : Bool). cond b (ltb n q) false) (lt-ltb n p low)
  | inr over ↦ ap (λ (b : Bool). cond b (ltb n q) false) (le-ltb n p over) ∙ sym (le-ltb n q (omega arith))
]

pub below_alone : (p : ℕ) (e : Edit) (rs : List Record) → p ≤ place_of_edit e → below p (after_edit e rs) ≡ below p rs
unfolding put_at
below_alone p e rs le =
    let q = place_of_edit e in
    let n = left_by e in
    ap (λ (x : List Record). below p x) (after_is e rs) ∙ below_append p (below q rs) (n ++ above q rs)
    ∙ ap (λ (x : List Record). below p (below q rs) ++ x) (below_none p (n ++ above q rs) (All-append (λ (r : Record). p ≤ place_of r) n (above q rs)
    (λ k d l. let h = left_at e k d l in omega arith) (λ k d l. let h = above_high q rs k d l in omega arith)))
    ∙ append-nil (below p (below q rs))
    ∙ filter_twice (λ (r : Record). ltb (place_of r) q) (λ (r : Record). ltb (place_of r) p) (λ (r : Record). ltb (place_of r) p) (λ r. tests_same q p (place_of r) le) rs

-- edits behind edits
pub after_both : (es fs : List Edit) (rs : List Record) → after_edits (es ++ fs) rs ≡ after_edits fs (after_edits es rs)
after_both [] fs rs = refl
after_both (e ∷ es) fs rs = after_both es fs (after_edit e rs)

-- what stands below a place after edits is what the edits below it make
pub below_after : (p : ℕ) (es : List Edit) (rs : List Record) → below p (after_edits es rs) ≡ after_edits (filter (λ e. ltb (place_of_edit e) p) es) (below p rs)
below_after p [] rs = refl
below_after p (e ∷ es) rs = elim (cases_lt (place_of_edit e) p) [
  | inl lt ↦
      below_after p es (after_edit e rs) ∙ ap (λ (x : List Record). after_edits (filter (λ (f : Edit). ltb (place_of_edit f) p) es) x) (below_kept p e rs lt)
      ∙ sym (ap (λ (b : Bool). after_edits (cond b (e ∷ filter (λ (f : Edit). ltb (place_of_edit f) p) es) (filter (λ (f : Edit). ltb (place_of_edit f) p) es)) (below p rs)) (lt-ltb (place_of_edit e) p lt))
  | inr le ↦
      below_after p es (after_edit e rs) ∙ ap (λ (x : List Record). after_edits (filter (λ (f : Edit). ltb (place_of_edit f) p) es) x) (below_alone p e rs le)
      ∙ sym (ap (λ (b : Bool). after_edits (cond b (e ∷ filter (λ (f : Edit). ltb (place_of_edit f) p) es) (filter (λ (f : Edit). ltb (place_of_edit f) p) es)) (below p rs)) (le-ltb (place_of_edit e) p le))
]

-- edits at different places may change their order
pub after_swap : (e f : Edit) (rs : List Record) → (place_of_edit e ≡ place_of_edit f → ⊥) → after_edit e (after_edit f rs) ≡ after_edit f (after_edit e rs)
after_swap e f rs differ =
    let inner : after_edit e (after_edit f rs) ≡ put_at (place_of_edit e) (left_by e) (put_at (place_of_edit f) (left_by f) rs) = after_is e (after_edit f rs) ∙ ap (λ (x : List Record). put_at (place_of_edit e) (left_by e) x) (after_is f rs) in
    let outer : after_edit f (after_edit e rs) ≡ put_at (place_of_edit f) (left_by f) (put_at (place_of_edit e) (left_by e) rs) = after_is f (after_edit e rs) ∙ ap (λ (x : List Record). put_at (place_of_edit f) (left_by f) x) (after_is e rs) in
    elim (cases_lt (place_of_edit e) (place_of_edit f)) [
      | inl lt ↦ inner ∙ put_lower (place_of_edit f) (place_of_edit e) (left_by f) (left_by e) rs (left_at f) (left_at e) lt ∙ sym outer
      | inr le ↦ inner ∙ sym (put_lower (place_of_edit e) (place_of_edit f) (left_by e) (left_by f) rs (left_at e) (left_at f) (lower (place_of_edit e) (place_of_edit f) differ le)) ∙ sym outer
    ]
  where
    lower : (m n : ℕ) → (m ≡ n → ⊥) → n ≤ m → n < m
    lower m n apart le = grind arith
