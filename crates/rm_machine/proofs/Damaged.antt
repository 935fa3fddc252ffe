-- The damaged blocks of a state: which changes of it, and of their list, leave them as they should be.
use Rattle.std.specs.Option.{option_map}
use Rattle.std.proofs.Common.{◌≡◌, ◌≢◌, ◌≤◌, ◌-◌, ◌==◌, ◌&&◌, ◌∙◌, inl, inr, nat_lt, ℕ, zero, suc, Bool, true, false, cond, List, [], ◌∷◌, Option, Some, None, IsSome, refl, ap, sym, subst, arith, eqb-true, filter, length, length-set, ltb-true, slice_index_or, slice_set, All}
use Rattle.std.proofs.lemmas.Bool.{and_parts, cases_eq, eq-eqb, or_cases, or_parts, Decides.{nat_tests}}
use Rattle.std.proofs.lemmas.List.Elements.{All-cons, All-filter, All-head, All-nil, All-tail, All-weaker}
use Rattle.std.proofs.lemmas.List.Kept.{AllPairs-cons, AllPairs-filter}
use Rattle.rm_base.specs.{BlockOrder.{AreInOrder, AscendByBlock}, declared.block.{BlockId.{BlockId}, Row.{Row}}}
use Rattle.rm_base.proofs.BlockOrder.{order-leads}
use Rattle.rm_blocks.specs.File.{File, put}
use Rattle.rm_catalog_typed.{specs.Facts.{IsTypedCatalog}, proofs.Trees.{Keeps}}
use Rattle.rm_machine.specs.{Damage.{AreDamaged, IsInPlace, is_before, with_block}, Events.{with_placed_row}}
use Rattle.rm_machine.specs.{State.{current_of, ledger, on_path, placed, tree}, declared.state.State.{State}}
use Rattle.rm_machine.proofs.Tracked.{on_path-stays, on_tree_of}

-- Another state with the same list

-- what stood in place of datafile f has no fewer blocks
abbrev pub Stays : State → ℕ → File → Type 0
Stays q f x = (y : File) × (placed q f ≡ Some y) × (length x.rows ≤ length y.rows)

pub damaged-kept : (s q : State) → q.instance.is_open ≡ s.instance.is_open → q.instance.damaged ≡ s.instance.damaged → ((f : ℕ) (x : File) → placed s f ≡ Some x → Stays q f x) → ((f : ℕ) → IsSome (on_path s f) → IsSome (on_path q f))
    → AreDamaged s → AreDamaged q
damaged-kept s q mode same stays path is = record {
  idle = λ closed. same ∙ is.idle (sym mode ∙ closed);
  ascend = subst AscendByBlock (sym same) is.ascend;
  each = subst (All (IsInPlace q)) (sym same) (All-weaker (IsInPlace s) (IsInPlace q)
      (λ x here.
      let there = stays x.file here.file here.is in
      record { some = here.some; here = path x.file here.here; file = there.0; is = there.1; block = let block = here.block in omega (arith, there.2, block) }) s.instance.damaged is.each);
}

-- q, with the mode, the current incarnation, the datafiles, what is in place and the list of s
abbrev pub damaged_as : State → State → State
damaged_as s q =
    record {
      catalog = record q.catalog { ledger = record (ledger q) { base = record (ledger q).base { current = current_of s }; files = (ledger s).files } };
      instance = record q.instance { is_open = s.instance.is_open; place = s.instance.place; damaged = s.instance.damaged };
    }

-- where the tree is the same
pub damaged-same : (s q : State) → AreDamaged s → AreDamaged (damaged_as s (on_tree_of s q))
damaged-same s q is = damaged-kept s (damaged_as s (on_tree_of s q)) refl refl (λ f x at. (x, at, omega arith)) (λ f here. here) is

-- where it grew
pub damaged-later : (s q : State) → IsTypedCatalog s.catalog → Keeps (tree s) (tree q) → AreDamaged s → AreDamaged (damaged_as s q)
damaged-later s q rules keeps is = damaged-kept s (damaged_as s q) refl refl (λ f x at. (x, at, omega arith)) (on_path-stays s q rules keeps) is

-- where there are none
pub damaged-none : (q : State) → q.instance.damaged ≡ [] → AreDamaged q
damaged-none q none = record {
  idle = λ _. none;
  ascend = subst AscendByBlock (sym none) (λ i j d lt inside. absurd (omega (arith, inside)));
  each = subst (All (IsInPlace q)) (sym none) (All-nil (IsInPlace q));
}

-- A row in place

set-same : {X : Type 0} (place : List (Option X)) (k : ℕ) (new : Option X) (x : X) → slice_index_or place k None ≡ Some x → slice_index_or (slice_set place k new) k None ≡ new
set-same [] k new x is = absurd (cc)
set-same (o ∷ place) zero new x is = refl
set-same (o ∷ place) (suc k) new x is = set-same place k new x is

pub set-other : {X : Type 0} (place : List (Option X)) (m k : ℕ) (new : Option X) → k ≢ m → slice_index_or (slice_set place m new) k None ≡ slice_index_or place k None
set-other [] m k new other = refl
set-other (o ∷ place) zero zero new other = absurd (other refl)
set-other (o ∷ place) zero (suc k) new other = refl
set-other (o ∷ place) (suc m) zero new other = refl
set-other (o ∷ place) (suc m) (suc k) new other = set-other place m k new (λ e. other (ap (λ n. suc n) e))

put-found : (o : Option File) (row : Row) (x : File) → o ≡ Some x → option_map (λ z. put z row) o ≡ Some (put x row)
put-found o row x is = ap (option_map (λ z. put z row)) is

-- what stands in place of a datafile after a row was put
pub placed-put : (s : State) (f : ℕ) (row : Row) (x : File) → placed s f ≡ Some x → placed (with_placed_row s f row) f ≡ Some (put x row)
placed-put s f row x at = set-same s.instance.place (f - 1) (option_map (λ z. put z row) (placed s f)) x at ∙ put-found (placed s f) row x at

-- and of another one
pub placed-put_other : (s : State) (f g : ℕ) (row : Row) → g - 1 ≢ f - 1 → placed (with_placed_row s f row) g ≡ placed s g
placed-put_other s f g row other = set-other s.instance.place (f - 1) (g - 1) (option_map (λ z. put z row) (placed s f)) other

pub put-stays : (s : State) (f : ℕ) (row : Row) (g : ℕ) (x : File) → placed s g ≡ Some x → Stays (with_placed_row s f row) g x
put-stays s f row g x at = elim (cases_eq (g - 1) (f - 1)) [
  | inl same ↦
      let here : placed s f ≡ Some x = ap (λ k. slice_index_or s.instance.place k None) (sym same) ∙ at in
      (put x row, ap (λ k. slice_index_or (with_placed_row s f row).instance.place k None) same ∙ placed-put s f row x here, omega (arith, length-set x.rows row.block row))
  | inr other ↦ (x, placed-put_other s f g row other ∙ at, omega arith)
]

pub damaged-put : (s : State) (f : ℕ) (row : Row) → AreDamaged s → AreDamaged (with_placed_row s f row)
damaged-put s f row is = damaged-kept s (with_placed_row s f row) refl refl (put-stays s f row) (λ g here. here) is

-- Another list

abbrev pub with_list : State → List BlockId → State
with_list s xs = record s { instance = record s.instance { damaged = xs } }

-- some of them
pub damaged-filtered : (s : State) (p : BlockId → Bool) → AreDamaged s → AreDamaged (with_list s (filter p s.instance.damaged))
damaged-filtered s p is = record {
  idle = λ closed. ap (filter p) (is.idle closed);
  ascend = AllPairs-filter AreInOrder p s.instance.damaged is.ascend;
  each = All-weaker (IsInPlace s) (IsInPlace (with_list s (filter p s.instance.damaged)))
      (λ x here. record { some = here.some; here = here.here; file = here.file; is = here.is; block = here.block }) (filter p s.instance.damaged) (All-filter p (IsInPlace s) s.instance.damaged is.each);
}

before-is : (x y : BlockId) → is_before x y ≡ true → AreInOrder x y
before-is x y is = elim (or_cases (nat_lt x.file y.file) ((x.file == y.file) && nat_lt x.block y.block) is) [
  | inl file ↦ inl (ltb-true x.file y.file file)
  | inr both ↦ let parts = and_parts (x.file == y.file) (nat_lt x.block y.block) both in inr (eqb-true x.file y.file parts.0, ltb-true x.block y.block parts.1)
]

behind-by : (x y : BlockId) → is_before x y ≡ false → ((x.file == y.file) && (x.block == y.block)) ≡ false → AreInOrder y x
behind-by x y not_before other =
    let parts = or_parts (nat_lt x.file y.file) ((x.file == y.file) && nat_lt x.block y.block) not_before in
    elim (cases_eq x.file y.file) [
      | inl file ↦
          let at : (x.file == y.file) ≡ true = eq-eqb x.file y.file file in
          let low : nat_lt x.block y.block ≡ false = ap (λ b. b && nat_lt x.block y.block) (sym at) ∙ parts.1 in
          let apart : (x.block == y.block) ≡ false = ap (λ b. b && (x.block == y.block)) (sym at) ∙ other in
          inr (sym file, grind (arith, nat_tests))
      | inr apart ↦ inl (let low = parts.0 in grind (arith, nat_tests))
    ]

-- what is true of each block of a list and of one more is true of each with that
pub All-with_block : (P : BlockId → Type 0) (x : BlockId) (xs : List BlockId) → P x → All P xs → All P (with_block x xs)
All-with_block P x [] here all = All-cons P x [] here all
All-with_block P x (y ∷ ys) here all = by (is_before x y) ((x.file == y.file) && (x.block == y.block)) (All-with_block P x ys here (All-tail P y ys all))
  where
    by : (first same : Bool) → All P (with_block x ys) → All P (cond first (x ∷ y ∷ ys) (cond same (y ∷ ys) (y ∷ with_block x ys)))
    by true same rest = All-cons P x (y ∷ ys) here all
    by false true rest = all
    by false false rest = All-cons P y (with_block x ys) (All-head P y ys all) rest

-- and it ascends
pub ascend-with_block : (x : BlockId) (xs : List BlockId) → AscendByBlock xs → AscendByBlock (with_block x xs)
ascend-with_block x [] are = AllPairs-cons AreInOrder x [] (All-nil (AreInOrder x)) are
ascend-with_block x (y ∷ ys) are = by (is_before x y) refl ((x.file == y.file) && (x.block == y.block)) refl (ascend-with_block x ys (λ i j d lt inside. are (suc i) (suc j) d (omega (arith, lt)) (omega (arith, inside))))
  where
    head : All (AreInOrder y) ys
    head k d inside = are zero (suc k) d (omega arith) (omega (arith, inside))

    by : (first : Bool) → is_before x y ≡ first → (same : Bool) → ((x.file == y.file) && (x.block == y.block)) ≡ same → AscendByBlock (with_block x ys)
        → AscendByBlock (cond first (x ∷ y ∷ ys) (cond same (y ∷ ys) (y ∷ with_block x ys)))
    by true is same other rest =
        let one = before-is x y is in
        AllPairs-cons AreInOrder x (y ∷ ys) (All-cons (AreInOrder x) y ys one (All-weaker (AreInOrder y) (AreInOrder x) (λ z. order-leads x y z one) ys head)) are
    by false is true other rest = are
    by false is false other rest = AllPairs-cons AreInOrder y (with_block x ys) (All-with_block (AreInOrder y) x ys (behind-by x y is other) head) rest

-- one more
pub damaged-more : (s : State) (x : BlockId) → s.instance.is_open ≡ true → IsInPlace s x → AreDamaged s → AreDamaged (with_list s (with_block x s.instance.damaged))
damaged-more s x opened here is =
    let q : State = with_list s (with_block x s.instance.damaged) in
    record {
      idle = λ closed. absurd (let clash : true ≡ false = sym opened ∙ closed in cc);
      ascend = ascend-with_block x s.instance.damaged is.ascend;
      each = All-weaker (IsInPlace s) (IsInPlace q) (λ y at. record { some = at.some; here = at.here; file = at.file; is = at.is; block = at.block }) (with_block x s.instance.damaged)
          (All-with_block (IsInPlace s) x s.instance.damaged here is.each);
    }
