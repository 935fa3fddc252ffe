-- One pass over records and edits.
use Rattle.std.specs.{Prelude.{Contains}, List.{filter}}
use Rattle.std.proofs.Common.{◌≡◌, ℕ, zero, suc, ◌+◌, ◌<◌, ◌≤◌, Bool, ltb, List, [], ◌∷◌, ◌++◌, length, get_or, take, drop, refl, ap, sym, subst, ◌∙◌, arith, ◌⊎◌, inl, inr, All}
use Rattle.std.proofs.lemmas.Bool.{cases_eq}
use Rattle.std.proofs.lemmas.List.{get_or_default, get_or_at, get_or-append-add, append-nil, append_assoc, take-append-drop, get_or-take, get_or-drop, length-take, length-drop, length-append, get_or_append_left}
use Rattle.std.proofs.lemmas.List.Elements.{All-contains, All-filter, All-contains_itself, Contains-append_cases, Contains-push_cases}
use Rattle.std.proofs.lemmas.List.Kept.{IsNonDecreasingBy-filter}
use Rattle.rm_base.proofs.Lists.{pairs-append}
use Rattle.rm_catalog.specs.{Keys.{place_of, place_of_key, InOrder}, Edits.{below, above, place_of_edit, after_edit, after_edits}}
use Rattle.rm_catalog.specs.{Passes.{EditsInOrder, IsReady, HasMade, AllFromPlace}, declared.record.{Record.{Record}, Edit.{Edit}}}
use Rattle.rm_catalog.{specs.declared.record.Edit.TheVariants.{Put, Drop}, proofs.{Found.{AllBelow, AllFrom}, Unique.{head_or_tail}}}
use Rattle.rm_catalog.proofs.Filters.{below_all, below_none, below_append, below_low, above_all, above_none, above_append, above_high}

-- as many records as stand before a place are those below it
pub take_below : (rs : List Record) (p i : ℕ) → AllBelow rs p i → AllFrom rs p i → take i rs ≡ below p rs
take_below rs p i low high =
    let front : below p (take i rs) ≡ take i rs = below_all p (take i rs) (λ k d lt. let long = length-take i rs in let in_i : k < i = omega arith in let under = low k d in_i in let same = ap place_of (get_or-take i rs k d in_i) in omega arith) in
    let back : below p (drop i rs) ≡ [] = below_none p (drop i rs) (λ k d lt. let long = length-drop i rs in let over = high (i + k) d (omega arith) (omega arith) in let same = ap place_of (get_or-drop i rs k d) in omega arith) in
    sym (ap (λ (x : List Record). below p x) (sym (take-append-drop i rs)) ∙ below_append p (take i rs) (drop i rs)
    ∙ ap (λ (x : List Record). x ++ below p (drop i rs)) front ∙ ap (λ (x : List Record). take i rs ++ x) back ∙ append-nil (take i rs))

-- an edit where no record stands above its place
pub put_last : (e : Edit) (r : Record) (rs : List Record) → e ≡ Put r → All (λ x. place_of x ≤ place_of_edit e) rs → below (place_of_edit e) rs ++ r ∷ [] ≡ after_edit e rs
put_last e r rs is all =
    let p = ap place_of_edit is in
    let none : above (place_of r) rs ≡ [] = above_none (place_of r) rs (λ k d lt. let le = all k d lt in omega arith) in
    ap (λ (n : ℕ). below n rs ++ r ∷ []) p ∙ ap (λ (x : List Record). below (place_of r) rs ++ r ∷ x) (sym none) ∙ ap (λ (x : Edit). after_edit x rs) (sym is)

pub drop_last : (e : Edit) (rs : List Record) → ((r : Record) → e ≡ Put r → ⊥) → All (λ x. place_of x ≤ place_of_edit e) rs → below (place_of_edit e) rs ≡ after_edit e rs
drop_last (Put r) rs not_put all = absurd (not_put r refl)
drop_last (Drop key) rs not_put all = sym (ap (λ (x : List Record). below (place_of_key key) rs ++ x) (above_none (place_of_key key) rs all) ∙ append-nil (below (place_of_key key) rs))

-- two lists in order, the second not below the first
pub order_append : (xs ys : List Record) → InOrder xs → InOrder ys → ((x y : Record) → Contains xs x → Contains ys y → place_of x ≤ place_of y) → InOrder (xs ++ ys)
order_append xs ys up down apart i j d le lt = elim (cases_eq i j) [
  | inl same ↦ let e = ap (λ (n : ℕ). place_of (get_or (xs ++ ys) n d)) same in omega arith
  | inr other ↦
      pairs-append (λ (a b : Record). place_of a ≤ place_of b) xs ys (λ k l e less. up k l e (omega (arith, less))) (λ k l e less. down k l e (omega (arith, less))) apart
      i j d (grind arith) lt
]

-- an edit keeps the order
pub order_after : (e : Edit) (rs : List Record) → InOrder rs → InOrder (after_edit e rs)
order_after (Put r) rs order =
    order_append (below (place_of r) rs) (r ∷ above (place_of r) rs)
    (IsNonDecreasingBy-filter place_of (λ (x : Record). ltb (place_of x) (place_of r)) rs order)
    (order_append (r ∷ []) (above (place_of r) rs) (one r) (IsNonDecreasingBy-filter place_of (λ (x : Record). ltb (place_of r) (place_of x)) rs order)
    (λ x y hx hy. let same : place_of r ≡ place_of x = ap place_of (only r x hx) in let over : place_of r < place_of y = All-contains (λ (z : Record). place_of r < place_of z) (above (place_of r) rs) y (above_high (place_of r) rs) hy in omega arith))
    (λ x y hx hy.
    let low : place_of x < place_of r = All-contains (λ (z : Record). place_of z < place_of r) (below (place_of r) rs) x (below_low (place_of r) rs) hx in
    elim (head_or_tail r (above (place_of r) rs) y hy) [
      | inl same ↦ let e : place_of r ≡ place_of y = ap place_of same in omega arith
      | inr later ↦ let over : place_of r < place_of y = All-contains (λ (z : Record). place_of r < place_of z) (above (place_of r) rs) y (above_high (place_of r) rs) later in omega arith
    ])
  where
    one : (r : Record) → InOrder (r ∷ [])
    one r zero zero d le lt = omega arith
    one r zero (suc j) d le lt = absurd (omega arith)
    one r (suc i) j d le lt = absurd (omega arith)

    only : (r x : Record) → Contains (r ∷ []) x → r ≡ x
    only r x (zero, lt, is) = is
    only r x (suc k, lt, is) = absurd (omega arith)
order_after (Drop key) rs order =
    order_append (below (place_of_key key) rs) (above (place_of_key key) rs)
    (IsNonDecreasingBy-filter place_of (λ (x : Record). ltb (place_of x) (place_of_key key)) rs order)
    (IsNonDecreasingBy-filter place_of (λ (x : Record). ltb (place_of_key key) (place_of x)) rs order)
    (λ x y hx hy.
    let low : place_of x < place_of_key key = All-contains (λ (z : Record). place_of z < place_of_key key) (below (place_of_key key) rs) x (below_low (place_of_key key) rs) hx in
    let over : place_of_key key < place_of y = All-contains (λ (z : Record). place_of_key key < place_of z) (above (place_of_key key) rs) y (above_high (place_of_key key) rs) hy in
    omega arith)

pub order_after_all : (es : List Edit) (rs : List Record) → InOrder rs → InOrder (after_edits es rs)
order_after_all [] rs order = order
order_after_all (e ∷ es) rs order = order_after_all es (after_edit e rs) (order_after e rs order)

-- an edit below what stands behind leaves that alone
pub after_append : (e : Edit) (made rest : List Record) → All (λ r. place_of_edit e < place_of r) rest → after_edit e (made ++ rest) ≡ after_edit e made ++ rest
after_append (Put r) made rest over =
    let p = place_of r in
    let low : below p (made ++ rest) ≡ below p made = below_append p made rest ∙ ap (λ (x : List Record). below p made ++ x) (below_none p rest (λ k d lt. let h = over k d lt in omega arith)) ∙ append-nil (below p made) in
    let high : above p (made ++ rest) ≡ above p made ++ rest = above_append p made rest ∙ ap (λ (x : List Record). above p made ++ x) (above_all p rest over) in
    ap (λ (x : List Record). x ++ r ∷ above p (made ++ rest)) low ∙ ap (λ (x : List Record). below p made ++ r ∷ x) high
    ∙ sym (append_assoc (below p made) (r ∷ above p made) rest)
after_append (Drop key) made rest over =
    let p = place_of_key key in
    let low : below p (made ++ rest) ≡ below p made = below_append p made rest ∙ ap (λ (x : List Record). below p made ++ x) (below_none p rest (λ k d lt. let h = over k d lt in omega arith)) ∙ append-nil (below p made) in
    let high : above p (made ++ rest) ≡ above p made ++ rest = above_append p made rest ∙ ap (λ (x : List Record). above p made ++ x) (above_all p rest over) in
    ap (λ (x : List Record). x ++ above p (made ++ rest)) low ∙ ap (λ (x : List Record). below p made ++ x) high
    ∙ sym (append_assoc (below p made) (above p made) rest)

-- what a filter keeps was there
from_filter : (p : Record → Bool) (rs : List Record) (x : Record) → Contains (filter p rs) x → Contains rs x
from_filter p rs x has = All-contains (Contains rs) (filter p rs) x (All-filter p (Contains rs) rs (All-contains_itself rs)) has

-- what stands after an edit stood before, or was put
stood : (e : Edit) (rs : List Record) (x : Record) → Contains (after_edit e rs) x → Contains rs x ⊎ (place_of x ≡ place_of_edit e)
stood (Put r) rs x has = elim (Contains-append_cases (below (place_of r) rs) (r ∷ above (place_of r) rs) x has) [
  | inl low ↦ inl (from_filter (λ (y : Record). ltb (place_of y) (place_of r)) rs x low)
  | inr later ↦ elim (head_or_tail r (above (place_of r) rs) x later) [
    | inl same ↦ inr (sym (ap place_of same))
    | inr high ↦ inl (from_filter (λ (y : Record). ltb (place_of r) (place_of y)) rs x high)
  ]
]
stood (Drop key) rs x has = elim (Contains-append_cases (below (place_of_key key) rs) (above (place_of_key key) rs) x has) [
  | inl low ↦ inl (from_filter (λ (y : Record). ltb (place_of y) (place_of_key key)) rs x low)
  | inr high ↦ inl (from_filter (λ (y : Record). ltb (place_of_key key) (place_of y)) rs x high)
]

-- the next edit was made
pub ready_after : (made made' : List Record) (left left' : List Edit) (e : Edit) → left ≡ e ∷ left' → made' ≡ after_edit e made → IsReady made left → IsReady made' left'
ready_after made made' left left' e is after ready = record {
  order = subst (λ (x : List Record). InOrder x) (sym after) (order_after e made ready.order);
  ascending = λ i j d le lt. up (suc i) (suc j) d (omega arith) (omega arith);
  behind = λ r f has in_left.
      let there : Contains left f = subst (λ (x : List Edit). Contains x f) (sym is) (suc in_left.0, (let lt = in_left.1 in omega arith), in_left.2) in
      let over : place_of_edit e ≤ place_of_edit f = let h = up 0 (suc in_left.0) f (omega arith) (let lt = in_left.1 in omega arith) in let same = ap place_of_edit in_left.2 in omega arith in
      elim (stood e made r (subst (λ (x : List Record). Contains x r) after has)) [
        | inl before ↦ ready.behind r f before there
        | inr put ↦ omega arith
      ];
}
  where
    up : EditsInOrder (e ∷ left')
    up = subst (λ (x : List Edit). EditsInOrder x) is ready.ascending

pub made_after : (p : ℕ) (first made made' : List Record) (all left left' : List Edit) (e : Edit) → left ≡ e ∷ left' → made' ≡ after_edit e made → place_of_edit e < p → HasMade p first all made left → HasMade p first all made' left'
made_after p first made made' all left left' e is after low h = record {
  same = λ rest from. h.same rest from ∙ ap (λ (x : List Edit). after_edits x (made ++ rest)) is ∙ ap (λ (x : List Record). after_edits left' x) (moves rest from);
  order = λ rest from order. subst (λ (x : List Record). InOrder x) (moves rest from) (order_after e (made ++ rest) (h.order rest from order));
}
  where
    moves : (rest : List Record) → AllFromPlace p rest → after_edit e (made ++ rest) ≡ made' ++ rest
    moves rest from = after_append e made rest (λ k d lt. let h = from k d lt in omega arith) ∙ ap (λ (x : List Record). x ++ rest) (sym after)

-- all records left behind stand at or below the place of the next edit
pub all_behind : (made : List Record) (left left' : List Edit) (e : Edit) → left ≡ e ∷ left' → IsReady made left → All (λ r. place_of r ≤ place_of_edit e) made
all_behind made left left' e is ready k d lt = ready.behind (get_or made k d) e (k, lt, get_or_default made k (get_or made k d) d lt) (subst (λ (x : List Edit). Contains x e) (sym is) (0, omega arith, refl))

-- the pass comes to a record, and leaves it behind
pub ready_more : (made rest : List Record) (left : List Edit) (r : Record) → InOrder (made ++ r ∷ rest) → IsReady made left → All (λ e. place_of r ≤ place_of_edit e) left → IsReady (made ++ r ∷ []) left
ready_more made rest left r order ready over = record {
  order = λ i j d le lt.
      let long = length-append made (r ∷ []) in
      let all = length-append (made ++ r ∷ []) rest in
      let one = ap place_of (get_or_append_left (made ++ r ∷ []) rest d i (omega arith)) in
      let two = ap place_of (get_or_append_left (made ++ r ∷ []) rest d j lt) in
      let here : place_of (get_or ((made ++ r ∷ []) ++ rest) i d) ≤ place_of (get_or ((made ++ r ∷ []) ++ rest) j d) = moved i j d le (omega arith) in
      omega arith;
  ascending = ready.ascending;
  behind = λ x e has in_left. elim (Contains-push_cases made r x has) [
    | inl before ↦ ready.behind x e before in_left
    | inr same ↦
        let h : place_of r ≤ place_of_edit e = All-contains (λ (f : Edit). place_of r ≤ place_of_edit f) left e over in_left in
        let q = ap place_of same in
        omega arith
  ];
}
  where
    moved : InOrder ((made ++ r ∷ []) ++ rest)
    moved = subst (λ (x : List Record). InOrder x) (sym (append_assoc made (r ∷ []) rest)) order

-- in order, what stands behind a record stands at or above it
pub from_order : (made : List Record) (r : Record) (rest : List Record) → InOrder (made ++ r ∷ rest) → AllFromPlace (place_of r) (r ∷ rest)
from_order made r rest order k d lt =
    let long = length-append made (r ∷ rest) in
    let up : place_of (get_or (made ++ r ∷ rest) (length made) d) ≤ place_of (get_or (made ++ r ∷ rest) (length made + k) d) = order (length made) (length made + k) d (omega arith) (omega arith) in
    let here = ap place_of (get_or_at made r rest d (length made) refl) in
    let there = ap place_of (get_or-append-add made (r ∷ rest) k d) in
    omega arith

-- where the pass stands: what it has made, with the records that are left behind it
pub record Stands (made : List Record) (left : List Edit) (rest total : List Record) : Type 0 where
  pub same : after_edits left (made ++ rest) ≡ total
  pub order : InOrder (made ++ rest)
  pub ready : IsReady made left

pub stands_more : (made made' made'' : List Record) (left left' : List Edit) (all rest total : List Record) (r : Record) → all ≡ r ∷ rest → made'' ≡ made' ++ r ∷ []
    → HasMade (place_of r) made left made' left' → IsReady made' left' → All (λ e. place_of r ≤ place_of_edit e) left' → Stands made left all total → Stands made'' left' rest total
stands_more made made' made'' left left' all rest total r is pushed h ready over stands = record {
  same = ap (λ (x : List Record). after_edits left' x) (ap (λ (x : List Record). x ++ rest) pushed ∙ append_assoc made' (r ∷ []) rest) ∙ sym (h.same (r ∷ rest) from) ∙ ap (λ (x : List Record). after_edits left (made ++ x)) (sym is) ∙ stands.same;
  order = subst (λ (x : List Record). InOrder x) (sym (ap (λ (x : List Record). x ++ rest) pushed ∙ append_assoc made' (r ∷ []) rest)) order';
  ready = subst (λ (x : List Record). IsReady x left') (sym pushed) (ready_more made' rest left' r order' ready over);
}
  where
    order : InOrder (made ++ r ∷ rest)
    order = subst (λ (x : List Record). InOrder (made ++ x)) is stands.order

    from : AllFromPlace (place_of r) (r ∷ rest)
    from = from_order made r rest order

    order' : InOrder (made' ++ r ∷ rest)
    order' = h.order (r ∷ rest) from order

pub stands_first : (made : List Record) (left : List Edit) (rest rs : List Record) → made ≡ [] → rest ≡ rs → InOrder rs → EditsInOrder left → Stands made left rest (after_edits left rs)
stands_first made left rest rs none is order ascending = record {
  same = ap (λ (x : List Record). after_edits left x) all;
  order = subst (λ (x : List Record). InOrder x) (sym all) order;
  ready = record {
    order = λ i j d le lt. absurd (let short = ap length none in omega arith);
    ascending = ascending;
    behind = λ r e has in_left. absurd (let lt = has.1 in let short = ap length none in omega arith);
  };
}
  where
    all : made ++ rest ≡ rs
    all = ap (λ (x : List Record). x ++ rest) none ∙ is

pub stands_last : (made made' : List Record) (left : List Edit) (rest total : List Record) → length rest ≡ 0 → made' ≡ after_edits left made → Stands made left rest total → made' ≡ total
stands_last made made' left [] total none is stands = is ∙ ap (λ (x : List Record). after_edits left x) (sym (append-nil made)) ∙ stands.same
stands_last made made' left (r ∷ rest) total none is stands = absurd (omega arith)
