-- Edits in another order, in which those of one place keep theirs, have the same outcome.
use Rattle.std.specs.{List.{filter}, Prelude.{not, ◌&&◌}, Ordering.{is_lt, nat_cmp}, Cmp.{nat_cmp_is}, declared.cmp.Ordering.{Ordering}}
use Rattle.std.specs.declared.cmp.Ordering.TheVariants.{Less, Equal, Greater}
use Rattle.std.proofs.Common.{◌≡◌, ℕ, suc, ◌<◌, ◌≤◌, Bool, true, false, eqb, cond, List, [], ◌∷◌, ◌++◌, refl, ap, sym, subst, ◌∙◌, arith, eq-eqb, ◌⊎◌, inl, inr, All}
use Rattle.std.proofs.lemmas.{Bool.{cases_eq, cases_lt}, List.Elements.{All-nil, All-cons, filter-append}}
use Rattle.rm_base.proofs.Lists.{filter_none}
use Rattle.rm_catalog.specs.{Edits.{place_of_edit, after_edit, after_edits}, declared.record.{Record.{Record}, Edit.{Edit}}}
use Rattle.rm_catalog.proofs.{Found.{differ}, Filters.{after_swap}}

-- whether an edit is of this place
abbrev pub is_at : ℕ → Edit → Bool
is_at p e = eqb (place_of_edit e) p

-- no edit of the list is of this place
abbrev NoneAt : ℕ → List Edit → Type 0
NoneAt p es = All (λ e. is_at p e ≡ false) es

-- a list in which an edit is the first of its place
record Split (xs : List Edit) (p : ℕ) (e : Edit) (es : List Edit) : Type 0 where
  pub front : List Edit
  pub back : List Edit
  pub list : xs ≡ front ++ e ∷ back
  pub none : NoneAt p front
  pub others : filter (is_at p) back ≡ es

heads : (e f : Edit) (es fs : List Edit) → e ∷ es ≡ f ∷ fs → e ≡ f
heads e f es fs h = cc

tails : (e f : Edit) (es fs : List Edit) → e ∷ es ≡ f ∷ fs → es ≡ fs
tails e f es fs h = cc

split : (xs : List Edit) (p : ℕ) (e : Edit) (es : List Edit) → filter (is_at p) xs ≡ e ∷ es → Split xs p e es
split [] p e es h = absurd cc
split (x ∷ xs) p e es h = elim (cases_eq (place_of_edit x) p) [
  | inl here ↦
      let found : x ∷ filter (is_at p) xs ≡ e ∷ es = sym (ap (λ (b : Bool). cond b (x ∷ filter (is_at p) xs) (filter (is_at p) xs)) (eq-eqb (place_of_edit x) p here)) ∙ h in
      let same = heads x e (filter (is_at p) xs) es found in
      record {
        front = [];
        back = xs;
        list = ap (λ (y : Edit). y ∷ xs) same;
        none = All-nil (λ (y : Edit). is_at p y ≡ false);
        others = tails x e (filter (is_at p) xs) es found;
      }
  | inr n ↦
      let no = differ (place_of_edit x) p n in
      let later = split xs p e es (sym (ap (λ (b : Bool). cond b (x ∷ filter (is_at p) xs) (filter (is_at p) xs)) no) ∙ h) in
      record {
        front = x ∷ later.front;
        back = later.back;
        list = ap (λ (ys : List Edit). x ∷ ys) later.list;
        none = All-cons (λ (y : Edit). is_at p y ≡ false) x later.front no later.none;
        others = later.others;
      }
]

-- an edit behind others of other places may come first
to_front : (e : Edit) (front back : List Edit) (rs : List Record) → NoneAt (place_of_edit e) front → after_edits (front ++ e ∷ back) rs ≡ after_edits (e ∷ (front ++ back)) rs
to_front e [] back rs none = refl
to_front e (f ∷ front) back rs none =
    let no : is_at (place_of_edit e) f ≡ false = none 0 f (omega arith) in
    to_front e front back (after_edit f rs) (λ k d lt. none (suc k) d (omega arith))
    ∙ ap (λ (x : List Record). after_edits (front ++ back) x) (after_swap e f rs (λ same. let yes = eq-eqb (place_of_edit f) (place_of_edit e) (sym same) in false_is_not_true (sym no ∙ yes)))
  where
    false_is_not_true : false ≡ true → ⊥
    false_is_not_true h = cc

-- the edits of each place that an edit is of are the same, in the same order
abbrev pub SameAtEach : List Edit → List Edit → Type 0
SameAtEach ys xs = (e : Edit) → filter (is_at (place_of_edit e)) ys ≡ filter (is_at (place_of_edit e)) xs

rest_same : (e : Edit) (ys xs : List Edit) → SameAtEach (e ∷ ys) xs → (s : Split xs (place_of_edit e) e (filter (is_at (place_of_edit e)) ys)) (f : Edit)
    → (place_of_edit e ≡ place_of_edit f) ⊎ ¬ (place_of_edit e ≡ place_of_edit f) → filter (is_at (place_of_edit f)) ys ≡ filter (is_at (place_of_edit f)) (s.front ++ s.back)
rest_same e ys xs same s f (inl one) =
    let p = place_of_edit e in
    let here : filter (is_at p) (s.front ++ s.back) ≡ filter (is_at p) ys = filter-append (is_at p) s.front s.back ∙ ap (λ (x : List Edit). x ++ filter (is_at p) s.back) (filter_none (is_at p) s.front s.none) ∙ s.others in
    subst (λ (q : ℕ). filter (is_at q) ys ≡ filter (is_at q) (s.front ++ s.back)) one (sym here)
rest_same e ys xs same s f (inr n) =
    let q = place_of_edit f in
    let no : is_at q e ≡ false = differ (place_of_edit e) q n in
    let first : filter (is_at q) (e ∷ ys) ≡ filter (is_at q) ys = ap (λ (b : Bool). cond b (e ∷ filter (is_at q) ys) (filter (is_at q) ys)) no in
    let back : filter (is_at q) (e ∷ s.back) ≡ filter (is_at q) s.back = ap (λ (b : Bool). cond b (e ∷ filter (is_at q) s.back) (filter (is_at q) s.back)) no in
    sym first ∙ same f ∙ ap (λ (x : List Edit). filter (is_at q) x) s.list ∙ filter-append (is_at q) s.front (e ∷ s.back)
    ∙ ap (λ (x : List Edit). filter (is_at q) s.front ++ x) back ∙ sym (filter-append (is_at q) s.front s.back)

pub same_outcome : (ys xs : List Edit) (rs : List Record) → SameAtEach ys xs → after_edits ys rs ≡ after_edits xs rs
same_outcome [] [] rs same = refl
same_outcome [] (x ∷ xs) rs same =
    absurd (let yes : [] ≡ x ∷ filter (is_at (place_of_edit x)) xs = same x ∙ ap (λ (b : Bool). cond b (x ∷ filter (is_at (place_of_edit x)) xs) (filter (is_at (place_of_edit x)) xs)) (eq-eqb (place_of_edit x) (place_of_edit x) refl) in cc)
same_outcome (e ∷ ys) xs rs same =
    let p = place_of_edit e in
    let kept : filter (is_at p) (e ∷ ys) ≡ e ∷ filter (is_at p) ys = ap (λ (b : Bool). cond b (e ∷ filter (is_at p) ys) (filter (is_at p) ys)) (eq-eqb p p refl) in
    let s = split xs p e (filter (is_at p) ys) (sym (same e) ∙ kept) in
    same_outcome ys (s.front ++ s.back) (after_edit e rs) (λ f. rest_same e ys xs same s f (cases_eq p (place_of_edit f)))
    ∙ sym (ap (λ (x : List Edit). after_edits x rs) s.list ∙ to_front e s.front s.back rs s.none)

-- two keys tie where they are one place
pub tie_is : (m n : ℕ) → (not (is_lt (nat_cmp m n)) && not (is_lt (nat_cmp n m))) ≡ eqb n m
tie_is m n = elim (cases_eq n m) [
  | inl same ↦
      let one : nat_cmp m n ≡ Equal = sym (nat_cmp_is m n Equal (sym same)) in
      let two : nat_cmp n m ≡ Equal = sym (nat_cmp_is n m Equal same) in
      tie one two ∙ sym (eq-eqb n m same)
  | inr apart ↦ elim (cases_lt m n) [
    | inl lt ↦
        let one : nat_cmp m n ≡ Less = sym (nat_cmp_is m n Less lt) in
        let two : nat_cmp n m ≡ Greater = sym (nat_cmp_is n m Greater lt) in
        tie one two ∙ sym (differ n m apart)
    | inr le ↦
        let gt = above m n apart le in
        let one : nat_cmp m n ≡ Greater = sym (nat_cmp_is m n Greater gt) in
        let two : nat_cmp n m ≡ Less = sym (nat_cmp_is n m Less gt) in
        tie one two ∙ sym (differ n m apart)
  ]
]
  where
    above : (m n : ℕ) → (n ≡ m → ⊥) → n ≤ m → n < m
    above m n apart le = grind arith

    tie : {a b : Ordering} → nat_cmp m n ≡ a → nat_cmp n m ≡ b → (not (is_lt (nat_cmp m n)) && not (is_lt (nat_cmp n m))) ≡ (not (is_lt a) && not (is_lt b))
    tie {a = a} one two = ap (λ (x : Ordering). not (is_lt x) && not (is_lt (nat_cmp n m))) one ∙ ap (λ (x : Ordering). not (is_lt a) && not (is_lt x)) two
