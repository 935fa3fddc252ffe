-- Whatever the order of the records, the first that breaks a rule has one place.
use Rattle.std.specs.Prelude.{Contains, IsPermutation, IfSome, IsSome, IsTrue, IsSomeAnd, MatchBool, ◌||◌, nat_le, not, option_and_then}
use Rattle.std.specs.Option.{option_map_or}
use Rattle.std.proofs.Common.{◌≡◌, ℕ, zero, suc, ◌+◌, ◌-◌, ◌<◌, ◌≤◌, Bool, true, false, eqb, leb, cond, ◌&&◌, List, [], ◌∷◌, length, get_or, Option, Some, None, refl, ap, sym, subst, ◌∙◌, arith, eq-eqb, ◌⊎◌, inl, inr}
use Rattle.std.proofs.lemmas.List.Sorted.{IsPermutation-sym, IsPermutation-trans, Contains-permutation, sum_by-IsPermutation, list_any-IsPermutation}
use Rattle.std.proofs.lemmas.{List.{get_or_append_left, get_or_at}, Bool.{cases_lt, cases_eq, false≢true}}
use Rattle.rm_catalog.specs.Keys.{place, place_of, place_of_key, at, InOrder, IsThere, base, incarnation, datafile, mark, switch, base_in, incarnation_in, datafile_in, mark_in, switch_in}
use Rattle.rm_catalog.specs.Facts.{BeginsOn, is_mark_of, IsCreatedOn, blocks_to, IsWithin}
use Rattle.rm_catalog.specs.{Objects.{IdRule, IsRange, id_kinds, owner_in, FitsDatafile}, Saved.{is_part_of}}
use Rattle.rm_catalog.specs.{Rules.{Obeys, OwnRule, IsOrderOf, IsFirstBad, lasts_below}, SetRules.{FitsSetFile, SetPartRule}}
use Rattle.rm_catalog.specs.Switches.{IsAt, applies_in, began_with, last_in, leaves_one, stays, switch_of, was_enabled}
use Rattle.rm_catalog.specs.declared.record.{Key.{Key}, Record.{Record}, BaseEntry.{BaseEntry}, IncarnationEntry.{IncarnationEntry}}
use Rattle.rm_catalog.specs.declared.record.{DatafileEntry.{DatafileEntry}, MarkEntry.{MarkEntry}, SwitchEntry.{SwitchEntry}}
use Rattle.rm_catalog.{specs.declared.record.SetPart.{SetPart}, proofs.{Found.{differ}, Counts.{alike, alike_count}}}
use Rattle.rm_catalog.proofs.Unique.{none_alike, head_or_tail, in_tail, middle}
use Rattle.rm_catalog.specs.declared.record.Record.TheVariants as records
use Rattle.rm_history.specs.{Threads.{after_switch, is_last, is_on}, declared.world.Switch.{Switch}}

pub at_here : (r : Record) (rs : List Record) (q : ℕ) → place_of r ≡ q → at q (r ∷ rs) ≡ Some r
at_here r rs q e = ap (λ (b : Bool). cond b (Some r) (at q rs)) (eq-eqb (place_of r) q e)

pub at_past : (r : Record) (rs : List Record) (q : ℕ) → (place_of r ≡ q → ⊥) → at q (r ∷ rs) ≡ at q rs
at_past r rs q n = ap (λ (b : Bool). cond b (Some r) (at q rs)) (differ (place_of r) q n)

alike_here : (r : Record) (rs : List Record) (q : ℕ) → place_of r ≡ q → alike q (r ∷ rs) ≡ 1 + alike q rs
unfolding alike
alike_here r rs q e = ap (λ (b : Bool). cond b (1 + alike q rs) (alike q rs)) (eq-eqb (place_of r) q e)

alike_past : (r : Record) (rs : List Record) (q : ℕ) → (place_of r ≡ q → ⊥) → alike q (r ∷ rs) ≡ alike q rs
unfolding alike
alike_past r rs q n = ap (λ (b : Bool). cond b (1 + alike q rs) (alike q rs)) (differ (place_of r) q n)

alike_nil : (q : ℕ) → alike q [] ≡ 0
unfolding alike
alike_nil q = refl

some_same : (x y : Record) → Some x ≡ Some y → x ≡ y
some_same x y h = cc

-- what is found at a place is there, at that place
pub found_is : (rs : List Record) (q : ℕ) (x : Record) → at q rs ≡ Some x → Contains rs x × (place_of x ≡ q)
found_is [] q x h = absurd cc
found_is (r ∷ rs) q x h = elim (cases_eq (place_of r) q) [
  | inl e ↦
      let same : r ≡ x = some_same r x (sym (at_here r rs q e) ∙ h) in
      ((0, omega arith, same), sym (ap place_of same) ∙ e)
  | inr n ↦
      let later = found_is rs q x (sym (at_past r rs q n) ∙ h) in
      (in_tail r rs x later.0, later.1)
]

-- a record at a place is found there, or another one
pub some_is : (rs : List Record) (q : ℕ) (x : Record) → Contains rs x → place_of x ≡ q → IsSome (at q rs)
some_is [] q x has e = absurd (let lt = has.1 in omega arith)
some_is (r ∷ rs) q x has e = elim (cases_eq (place_of r) q) [
  | inl here ↦ subst (λ (o : Option Record). IsSome o) (sym (at_here r rs q here)) refl
  | inr n ↦ elim (head_or_tail r rs x has) [
    | inl same ↦ absurd (n (ap place_of same ∙ e))
    | inr later ↦ subst (λ (o : Option Record). IsSome o) (sym (at_past r rs q n)) (some_is rs q x later e)
  ]
]

-- nothing is found where no record is at the place
none_is : (rs : List Record) (q : ℕ) → at q rs ≡ None → alike q rs ≡ 0
none_is [] q h = alike_nil q
none_is (r ∷ rs) q h = elim (cases_eq (place_of r) q) [
  | inl e ↦ absurd (let no : Some r ≡ None = sym (at_here r rs q e) ∙ h in cc)
  | inr n ↦ alike_past r rs q n ∙ none_is rs q (sym (at_past r rs q n) ∙ h)
]

alone : (rs : List Record) (q : ℕ) (x : Record) → Contains rs x → place_of x ≡ q → 1 ≤ alike q rs
alone rs q (x) has e = elim (cases_eq (alike q rs) 0) [
  | inl none ↦ absurd (none_alike q rs none has.0 x has.1 (ap place_of has.2 ∙ e))
  | inr n ↦ omega arith
]

-- two records at one place where one alone stands are the same
pub one_is : (rs : List Record) (q : ℕ) (x y : Record) → Contains rs x → Contains rs y → place_of x ≡ q → place_of y ≡ q → alike q rs ≤ 1 → x ≡ y
one_is [] q x y a b e f few = absurd (let lt = a.1 in omega arith)
one_is (r ∷ rs) q x y a b e f few = elim (head_or_tail r rs x a) [
  | inl first ↦ elim (head_or_tail r rs y b) [
    | inl second ↦ sym first ∙ second
    | inr later ↦
        let one = alike_here r rs q (ap place_of first ∙ e) in
        let more = alone rs q y later f in
        absurd (omega arith)
  ]
  | inr later ↦ elim (head_or_tail r rs y b) [
    | inl second ↦
        let one = alike_here r rs q (ap place_of second ∙ f) in
        let more = alone rs q x later e in
        absurd (omega arith)
    | inr late ↦ one_is rs q x y later late e f (less (cases_eq (place_of r) q))
  ]
]
  where
    less : (place_of r ≡ q) ⊎ ¬ (place_of r ≡ q) → alike q rs ≤ 1
    less (inl here) = let one = alike_here r rs q here in omega arith
    less (inr n) = let one = alike_past r rs q n in omega arith

-- where one record at most stands at a place, each order has the same there
same_at : (s t : List Record) (q : ℕ) → IsPermutation s t → alike q t ≤ 1 → at q s ≡ at q t
same_at s t q there few = decide (at q s) (at q t) refl refl
  where
    decide : (a b : Option Record) → at q s ≡ a → at q t ≡ b → at q s ≡ at q t
    decide (Some x) (Some y) e f =
        let one = found_is s q x e in
        let two = found_is t q y f in
        let same : x ≡ y = one_is t q x y (Contains-permutation s t x there one.0) two.0 one.1 two.1 few in
        e ∙ ap (λ (z : Record). Some z) same ∙ sym f
    decide (Some x) None e f =
        let one = found_is s q x e in
        let some = alone t q x (Contains-permutation s t x there one.0) one.1 in
        let none = none_is t q f in
        absurd (omega arith)
    decide None (Some y) e f =
        let two = found_is t q y f in
        let some = alone s q y (Contains-permutation t s y (IsPermutation-sym s t there) two.0) two.1 in
        let none = none_is s q e in
        absurd (omega arith)
    decide None None e f = e ∙ sym f

-- the same stands at each place up to p
abbrev pub Agree : List Record → List Record → ℕ → Type 0
Agree s t p = (q : ℕ) → q ≤ p → at q s ≡ at q t

there_moves : (s t : List Record) (q : ℕ) → IsPermutation s t → IsSome (at q s) → IsSome (at q t)
there_moves s t q there some = decide (at q s) refl some
  where
    decide : (a : Option Record) → at q s ≡ a → IsSome a → IsSome (at q t)
    decide (Some x) e h = let one = found_is s q x e in some_is t q x (Contains-permutation s t x there one.0) one.1
    decide None e h = absurd (false≢true h)

base_same : (s t : List Record) (p : ℕ) → Agree s t p → 4294967296 ≤ p → base s ≡ base t
base_same s t p agree le = ap (λ (o : Option Record). option_and_then base_in o) (agree (place 1 0) le)

incarnation_same : (s t : List Record) (p i : ℕ) → Agree s t p → place 2 i ≤ p → incarnation i s ≡ incarnation i t
incarnation_same s t p i agree le = ap (λ (o : Option Record). option_and_then incarnation_in o) (agree (place 2 i) le)

datafile_same : (s t : List Record) (p i : ℕ) → Agree s t p → place 3 i ≤ p → datafile i s ≡ datafile i t
datafile_same s t p i agree le = ap (λ (o : Option Record). option_and_then datafile_in o) (agree (place 3 i) le)

mark_same : (s t : List Record) (p i : ℕ) → Agree s t p → place 6 i ≤ p → mark i s ≡ mark i t
mark_same s t p i agree le = ap (λ (o : Option Record). option_and_then mark_in o) (agree (place 6 i) le)

switch_same : (s t : List Record) (p i : ℕ) → Agree s t p → place 10 i ≤ p → switch i s ≡ switch i t
switch_same s t p i agree le = ap (λ (o : Option Record). option_and_then switch_in o) (agree (place 10 i) le)

-- the same switches, and tests that agree, have the same last one
last_same : (n : ℕ) (s t : List Record) (p q : Switch → Bool) → ((y : Switch) → p y ≡ q y) → ((k : ℕ) → k ≤ n → switch k s ≡ switch k t) → last_in n p s ≡ last_in n q t
unfolding last_in
last_same zero s t p q tests same = refl
last_same (suc n) s t p q tests same =
    ap (λ (o : Option SwitchEntry). option_map_or (λ x. after_switch p (last_in n p s) (switch_of x)) o (last_in n p s)) (same (suc n) (omega arith))
    ∙ ap (λ (l : Option Switch). option_map_or (λ x. after_switch p l (switch_of x)) (switch (suc n) t) l) (last_same n s t p q tests (λ k low. same k (omega (arith, low))))
    ∙ further (switch (suc n) t)
  where
    further : (o : Option SwitchEntry) → option_map_or (λ x. after_switch p (last_in n q t) (switch_of x)) o (last_in n q t) ≡ option_map_or (λ x. after_switch q (last_in n q t) (switch_of x)) o (last_in n q t)
    further (Some x) = ap (λ (b : Bool). cond (b && is_last (switch_of x) (last_in n q t)) (Some (switch_of x)) (last_in n q t)) (tests (switch_of x))
    further None = refl

owner_same : (n i g : ℕ) (s t : List Record) → ((j : ℕ) → incarnation j s ≡ incarnation j t) → owner_in n i g s ≡ owner_in n i g t
unfolding owner_in
owner_same zero i g s t same = refl
owner_same (suc n) i g s t same =
    ap (λ (o : Option IncarnationEntry). option_map_or (λ (x : IncarnationEntry). cond (leb x.reset g) i (owner_in n x.parent g s)) o 1) (same i)
    ∙ further (λ j. owner_same n j g s t same) (incarnation i t)
  where
    further : ((j : ℕ) → owner_in n j g s ≡ owner_in n j g t) → (o : Option IncarnationEntry) → option_map_or (λ (x : IncarnationEntry). cond (leb x.reset g) i (owner_in n x.parent g s)) o 1 ≡ option_map_or (λ (x : IncarnationEntry). cond (leb x.reset g) i (owner_in n x.parent g t)) o 1
    further lower (Some x) = ap (λ (y : ℕ). cond (leb x.reset g) i y) (lower x.parent)
    further lower None = refl

id_moves : (s t : List Record) (kind id : ℕ) → IsPermutation s t → base s ≡ base t → IdRule s kind id → IdRule t kind id
id_moves s t kind id there same h = record {
  number = h.number;
  below = subst (λ (o : Option BaseEntry). IsSomeAnd o (λ (b : BaseEntry). id < b.next_id)) same h.below;
  free = λ k d lt other yes. h.free k d lt other (there_moves t s (place (get_or id_kinds k d) id) (IsPermutation-sym s t there) yes);
}

own_moves : (s t : List Record) (r : Record) → IsPermutation s t → Agree s t (place_of r) → OwnRule s r → OwnRule t r
own_moves s t (records.Base b) there agree h = record {
  dbid = h.dbid;
  threads = h.threads;
  current = there_moves s t (place 2 b.current) there h.current;
  next_id = h.next_id;
  moment = h.moment;
  policy = h.policy;
  parallelism = h.parallelism;
}
own_moves s t (records.Incarnation i) there agree h = record {
  number = h.number;
  origin = record {
    first = h.origin.first;
    branch = λ later.
        let o = h.origin.branch later in
        let lower = o.below in
        record {
          no_gap = there_moves s t (place 2 (i.inc - 1)) there o.no_gap;
          below = o.below;
          parent = subst (λ (o : Option IncarnationEntry). IsSomeAnd o (BeginsOn i)) (incarnation_same s t _ i.parent agree (omega arith)) o.parent;
        };
  };
  range = h.range;
  mark = subst IsTrue (list_any-IsPermutation (is_mark_of i.inc) s t there) h.mark;
}
own_moves s t (records.Datafile f) there agree h = record {
  number = h.number;
  no_gap = record { no_gap = λ later. there_moves s t (place 3 (f.file - 1)) there (h.no_gap.no_gap later) };
  creation = subst (λ (o : Option IncarnationEntry). IsSomeAnd o (IsCreatedOn f)) (incarnation_same s t _ f.inc agree (omega arith)) h.creation;
  blocks = h.blocks;
  room = record { blocks = let same = sum_by-IsPermutation (blocks_to f.file) s t there in let all = h.room.blocks in omega arith };
}
own_moves s t (records.Log l) there agree h = record {
  id = id_moves s t 4 l.id there (base_same s t _ agree (omega arith)) h.id;
  size = h.size;
  thread = h.thread;
  sequence = h.sequence;
  range = subst (λ (o : Option IncarnationEntry). IsSomeAnd o (IsRange l)) (incarnation_same s t _ l.inc agree (omega arith)) h.range;
}
own_moves s t (records.Piece p) there agree h = record {
  id = id_moves s t 5 p.id there (base_same s t _ agree (omega arith)) h.id;
  size = h.size;
  end = subst (λ (o : Option IncarnationEntry). IsSomeAnd o (λ (i : IncarnationEntry). p.high ≤ i.end)) (incarnation_same s t _ p.inc agree (omega arith)) h.end;
  file = fits (datafile p.file s) (subst (λ (o : Option DatafileEntry). o ≡ datafile p.file s) refl refl) h.file;
  checkpoint = h.checkpoint;
  kind = h.kind;
  tag = h.tag;
}
  where
    path_same : (f : DatafileEntry) → FitsDatafile s p f → FitsDatafile t p f
    path_same f fit = record {
      path = sym (owner_same 256 p.inc f.creation s t (λ j. incarnation_same s t _ j agree (omega arith))) ∙ fit.path;
      rows = fit.rows;
    }

    both : (o : Option DatafileEntry) → IsSomeAnd o (FitsDatafile s p) → IsSomeAnd o (FitsDatafile t p)
    both (Some f) fit = path_same f fit
    both None fit = absurd fit

    fits : (o : Option DatafileEntry) → o ≡ datafile p.file s → IsSomeAnd (datafile p.file s) (FitsDatafile s p) → IsSomeAnd (datafile p.file t) (FitsDatafile t p)
    fits o e fit = subst (λ (o : Option DatafileEntry). IsSomeAnd o (FitsDatafile t p)) (datafile_same s t _ p.file agree (omega arith)) (both (datafile p.file s) fit)
own_moves s t (records.Mark m) there agree h = record {
  number = h.number;
  before = λ later. subst (λ (o : Option MarkEntry). IsSomeAnd o (λ (b : MarkEntry). b.moment ≤ m.moment)) (mark_same s t _ (m.id - 1) agree (omega arith)) (h.before later);
  scn = subst (λ (o : Option IncarnationEntry). IsSomeAnd o (IsWithin m.scn)) (incarnation_same s t _ m.inc agree (omega arith)) h.scn;
  moment = subst (λ (o : Option BaseEntry). IsSomeAnd o (λ (b : BaseEntry). m.moment ≤ b.moment)) (base_same s t _ agree (omega arith)) h.moment;
}
own_moves s t (records.Part p) there agree h = record {
  id = id_moves s t 7 p.id there (base_same s t _ agree (omega arith)) h.id;
  size = h.size;
  head = there_moves s t (place 8 0) there h.head;
  one = names (eqb p.file 0) h.one;
  alone = record { alone = let same = sum_by-IsPermutation (λ (r : Record). cond (is_part_of p.file p.thread r) 1 0) s t there in let few = h.alone.alone in omega arith };
}
  where
    names : (b : Bool) → MatchBool b ((1 ≤ p.thread) × (p.thread ≤ 4)) ((p.thread ≡ 0) × IsThere 3 p.file s) → MatchBool b ((1 ≤ p.thread) × (p.thread ≤ 4)) ((p.thread ≡ 0) × IsThere 3 p.file t)
    names true w = w
    names false w = (w.0, there_moves s t (place 3 p.file) there w.1)
own_moves s t (records.Head h) there agree o = record {
  point = λ some. there_moves s t (place 2 h.inc) there (o.point some);
}
own_moves s t (records.Set e) there agree h = record {
  id = id_moves s t 9 e.id there (base_same s t _ agree (omega arith)) h.id;
  size = h.size;
  checkpoint = h.checkpoint;
  parts = record { some = h.parts.some; few = h.parts.few; ascend = h.parts.ascend; each = λ k d inside. part_moves _ (h.parts.each k d inside) };
  tag = h.tag;
}
  where
    file_moves : (p : SetPart) (f : DatafileEntry) → FitsSetFile s e p f → FitsSetFile t e p f
    file_moves p f fit = record {
      path = sym (owner_same 256 e.inc f.creation s t (λ j. incarnation_same s t _ j agree (omega arith))) ∙ fit.path;
      creation = fit.creation;
      rows = fit.rows;
    }

    both : (p : SetPart) (o : Option DatafileEntry) → IsSomeAnd o (FitsSetFile s e p) → IsSomeAnd o (FitsSetFile t e p)
    both p (Some f) fit = file_moves p f fit
    both p None fit = absurd fit

    part_moves : (p : SetPart) → SetPartRule s e p → SetPartRule t e p
    part_moves p h = record {
      file = subst (λ (o : Option DatafileEntry). IsSomeAnd o (FitsSetFile t e p)) (datafile_same s t _ p.file agree (omega arith)) (both p (datafile p.file s) h.file);
      kind = h.kind;
      high = h.high;
      end = subst (λ (o : Option IncarnationEntry). IsSomeAnd o (λ (i : IncarnationEntry). p.high ≤ i.end)) (incarnation_same s t _ e.inc agree (omega arith)) h.end;
    }
own_moves s t (records.Switch x) there agree h = record {
  number = h.number;
  no_gap = record { no_gap = λ later. there_moves s t (place 10 (x.id - 1)) there (h.no_gap.no_gap later) };
  thread = h.thread;
  range = subst (λ (o : Option IncarnationEntry). IsSomeAnd o (IsAt x)) (incarnation_same s t _ x.inc agree (omega arith)) h.range;
  above = λ k low. subst (λ (o : Option SwitchEntry). IfSome o (λ y. y.inc ≡ x.inc → y.scn < x.scn)) (switch_same s t _ k agree (omega (arith, low))) (h.above k low);
  changes = sym (was_same x.thread) ∙ h.changes;
  leaves =
      let same : leaves_one s x ≡ leaves_one t x = λ i. x.on || stays_same 1 i || stays_same 2 i || stays_same 3 i || stays_same 4 i in
      sym same ∙ h.leaves;
  sequence = h.sequence;
}
  where
    tests_same : (m g k : ℕ) (y : Switch) → applies_in s m g k y ≡ applies_in t m g k y
    tests_same m g k y = ap (λ (o : ℕ). eqb y.thread k && nat_le y.scn g && eqb o y.inc) (owner_same 256 m y.scn s t (λ j. incarnation_same s t _ j agree (omega arith)))

    was_same : (k : ℕ) → was_enabled s x k ≡ was_enabled t x k
    was_same k =
        ap (λ (n : ℕ). is_on n k (last_in (x.id - 1) (applies_in s x.inc x.scn k) s)) (ap (λ (o : Option BaseEntry). option_map_or (λ b. b.threads) o 0) (base_same s t _ agree (omega arith)))
        ∙ ap (is_on (began_with t) k) (last_same (x.id - 1) s t (applies_in s x.inc x.scn k) (applies_in t x.inc x.scn k) (tests_same x.inc x.scn k) (λ n low. switch_same s t _ n agree (omega (arith, low))))

    stays_same : (k : ℕ) → stays s x k ≡ stays t x k
    stays_same k = ap (λ (b : Bool). not (eqb k x.thread) && b) (was_same k)

-- a record obeys in each order in which the places up to its own have the same
obeys_moves : (s t : List Record) (r : Record) → IsPermutation s t → Agree s t (place_of r) → Obeys s r → Obeys t r
obeys_moves s t r there agree h = record {
  once = record { once = sum_by-IsPermutation (λ (q : Record). cond (eqb (place_of q) (place_of r)) 1 0) s t there ∙ h.once.once };
  few = record { few = λ low. let same = sum_by-IsPermutation (λ (q : Record). cond (lasts_below (place_of r) q) 1 0) s t there in let few = h.few.few low in omega arith };
  base = there_moves s t (place 1 0) there h.base;
  own = own_moves s t r there agree h.own;
}

-- of a list in order: what stands below the first bad record obeys
below_bad : (t : List Record) (told : Key) → InOrder t → IsFirstBad t told → (x : Record) → Contains t x → place_of x < place_of_key told → Obeys t x
below_bad t told order bad x has low = elim (cases_lt has.0 (length bad.front)) [
  | inl lt ↦
      let same : get_or bad.front has.0 x ≡ x = sym (get_or_append_left bad.front (bad.bad ∷ bad.rest) x has.0 lt) ∙ ap (λ (l : List Record). get_or l has.0 x) (sym bad.list) ∙ has.2 in
      subst (Obeys t) same (bad.before has.0 x lt)
  | inr le ↦
      let here : get_or t (length bad.front) x ≡ bad.bad = ap (λ (l : List Record). get_or l (length bad.front) x) bad.list ∙ get_or_at bad.front bad.bad bad.rest x (length bad.front) refl in
      let up : place_of (get_or t (length bad.front) x) ≤ place_of (get_or t has.0 x) = order (length bad.front) has.0 x le has.1 in
      let one = ap place_of here in
      let two = ap place_of has.2 in
      let three = ap place_of_key bad.key in
      absurd (omega arith)
]

-- no order has its first bad record lower than another
no_lower : (s t : List Record) (k l : Key) → IsPermutation s t → InOrder t → IsFirstBad s k → IsFirstBad t l → place_of_key k < place_of_key l → ⊥
no_lower s t k l there order bad worse low =
    let b = bad.bad in
    let has : Contains s b = subst (λ (x : List Record). Contains x b) (sym bad.list) (middle bad.front b bad.rest) in
    let here : place_of b ≡ place_of_key k = ap place_of_key bad.key in
    let fine : Obeys t b = below_bad t l order worse b (Contains-permutation s t b there has) (omega arith) in
    bad.broken (obeys_moves t s b (IsPermutation-sym s t there) (λ q le. sym (same_at s t q there (once q (omega arith)))) fine)
  where
    once : (q : ℕ) → q < place_of_key l → alike q t ≤ 1
    once q lt = decide (at q t) refl
      where
        decide : (o : Option Record) → at q t ≡ o → alike q t ≤ 1
        decide (Some x) e =
            let one = found_is t q x e in
            let at_q = one.1 in
            let fine : Obeys t x = below_bad t l order worse x one.0 (omega arith) in
            let count : alike (place_of x) t ≡ 1 = alike_count (place_of x) t ∙ fine.once.once in
            let same : alike q t ≡ alike (place_of x) t = ap (λ (p : ℕ). alike p t) (sym at_q) in
            omega arith
        decide None e = let none = none_is t q e in omega arith

-- The first bad record of each order stands at one place.
pub one_told : (rs s t : List Record) (k l : Key) → IsOrderOf s rs → IsOrderOf t rs → IsFirstBad s k → IsFirstBad t l → place_of_key k ≡ place_of_key l
one_told rs s t k l o p bad worse =
    let there : IsPermutation s t = IsPermutation-trans s rs t (IsPermutation-sym rs s o.permutation) p.permutation in
    let not_lower = no_lower s t k l there p.order bad worse in
    let not_higher = no_lower t s l k (IsPermutation-sym s t there) o.order worse bad in
    elim (cases_lt (place_of_key k) (place_of_key l)) [
      | inl low ↦ absurd (not_lower low)
      | inr le ↦ elim (cases_lt (place_of_key l) (place_of_key k)) [
        | inl high ↦ absurd (not_higher high)
        | inr ge ↦ omega arith
      ]
    ]

-- keys at one place are the same
pub one_key : (k l : Key) → k.id < 4294967296 → l.id < 4294967296 → place_of_key k ≡ place_of_key l → k ≡ l
one_key k l small few same =
    let kinds : k.kind ≡ l.kind = omega arith in
    let ids : k.id ≡ l.id = omega arith in
    let first : k ≡ record { kind = l.kind; id = k.id } = ap (λ (n : ℕ). let made : Key = record { kind = n; id = k.id } in made) kinds in
    first ∙ ap (λ (n : ℕ). let made : Key = record { kind = l.kind; id = n } in made) ids
