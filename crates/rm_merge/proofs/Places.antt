-- Rows that stand at the places of their blocks, and one row more of the level 1.
use Rattle.std.specs.{List.{AllPairs}, Option.{option_or}}
use Rattle.std.proofs.Common.{◌≡◌, ◌≢◌, ◌<◌, ◌∙◌, ◌∷◌, [], inl, inr, ℕ, suc, List, Option, Some, None, Bool, false, cond, refl, ap, sym, arith, length, find, take, get_or, set, All, eqb, get_or-set_same, get_or-set_other, length-set}
use Rattle.std.proofs.{Math.Seq.{take-suc}, lemmas.Bool.{cases_eq, eq-eqb, ne_eqb}}
use Rattle.std.proofs.lemmas.List.{ext_get_or, get_or-map, get_or-take, get_or_default, length-map, length-take-le, Folds.{find-append}}
use Rattle.rm_base.specs.declared.block.Row.{Row}
use Rattle.rm_piece.specs.{Rows.{IsWhole}, Valid.{IsBefore}}
use Rattle.rm_merge.specs.Merge.{AreOf, row_at, greater, merged_rows}

find_none_all : {X : Type 0} (p : X → Bool) (xs : List X) → All (λ x. p x ≡ false) xs → find p xs ≡ None
find_none_all p [] none = refl
find_none_all p (x ∷ xs) none =
    let first : p x ≡ false = none 0 x (omega arith) in
    ap (λ b. cond b (Some x) (find p xs)) first ∙ find_none_all p xs (λ k d inside. none (suc k) d (omega (arith, inside)))

-- the rows before the k-th are of other blocks
before_none : (level1 : List Row) → AllPairs IsBefore level1 → (k : ℕ) (d : Row) → k < length level1 → row_at (take k level1) (get_or level1 k d).block ≡ None
before_none level1 up k d inside = find_none_all (λ r. eqb r.block (get_or level1 k d).block) (take k level1) (λ i e within.
    let many : length (take k level1) ≡ k = length-take-le k level1 (omega arith) in
    let small : i < k = omega (arith, within, many) in
    let less : (get_or level1 i e).block < (get_or level1 k e).block = up i k e small inside in
    let one : get_or level1 k e ≡ get_or level1 k d = get_or_default level1 k e d inside in
    let blocks : (get_or level1 k e).block ≡ (get_or level1 k d).block = ap (λ (r : Row). r.block) one in
    ap (λ (r : Row). eqb r.block (get_or level1 k d).block) (get_or-take k level1 i e small)
    ∙ ne_eqb (get_or level1 i e).block (get_or level1 k d).block (λ same. omega (arith, less, blocks, same)))

or_none : {X : Type 0} (o : Option X) → option_or o None ≡ o
or_none None = refl
or_none (Some x) = refl

-- one row more of the level 1
row_more : (level1 : List Row) (k n b : ℕ) (d : Row) → n ≡ suc k → k < length level1 → row_at (take n level1) b ≡ option_or (row_at (take k level1) b) (cond (eqb (get_or level1 k d).block b) (Some (get_or level1 k d)) None)
row_more level1 k n b d one inside =
    ap (λ (m : ℕ). row_at (take m level1) b) one
    ∙ ap (λ xs. row_at xs b) (take-suc level1 k d inside)
    ∙ find-append (λ r. eqb r.block b) (take k level1) (get_or level1 k d ∷ [])

-- it is found at its block
row_here : (level1 : List Row) → AllPairs IsBefore level1 → (k n : ℕ) (d : Row) → n ≡ suc k → k < length level1 → row_at (take n level1) (get_or level1 k d).block ≡ Some (get_or level1 k d)
row_here level1 up k n d one inside =
    row_more level1 k n (get_or level1 k d).block d one inside
    ∙ ap (λ o. option_or o (cond (eqb (get_or level1 k d).block (get_or level1 k d).block) (Some (get_or level1 k d)) None)) (before_none level1 up k d inside)
    ∙ ap (λ (b : Bool). option_or None (cond b (Some (get_or level1 k d)) None)) (eq-eqb (get_or level1 k d).block (get_or level1 k d).block refl)

-- and at no other
row_other : (level1 : List Row) (k n b : ℕ) (d : Row) → n ≡ suc k → k < length level1 → b ≢ (get_or level1 k d).block → row_at (take n level1) b ≡ row_at (take k level1) b
row_other level1 k n b d one inside differ =
    row_more level1 k n b d one inside
    ∙ ap (λ (t : Bool). option_or (row_at (take k level1) b) (cond t (Some (get_or level1 k d)) None)) (ne_eqb (get_or level1 k d).block b (λ same. differ (sym same)))
    ∙ or_none (row_at (take k level1) b)

-- what stands at a place of the merged rows
at_place : (copy level1 : List Row) (i : ℕ) (d : Row) → IsWhole copy → i < length copy → get_or (merged_rows copy level1) i d ≡ greater (get_or copy i d) (row_at level1 i)
at_place copy level1 i d placed inside =
    get_or-map (λ r. greater r (row_at level1 r.block)) copy i d d inside
    ∙ ap (λ (b : ℕ). greater (get_or copy i d) (row_at level1 b)) (placed i d inside)

-- where the row more stands
step_here : (copy level1 : List Row) (k n i : ℕ) (d : Row) → IsWhole copy → AllPairs IsBefore level1 → n ≡ suc k → k < length level1 → i < length copy → i ≡ (get_or level1 k d).block → greater (get_or (merged_rows copy (take k level1)) i d) (Some (get_or level1 k d)) ≡ get_or (merged_rows copy (take n level1)) i d
step_here copy level1 k n i d placed up one inside within here =
    ap (λ r. greater r (Some (get_or level1 k d))) (at_place copy (take k level1) i d placed within
    ∙ ap (λ (b : ℕ). greater (get_or copy i d) (row_at (take k level1) b)) here
    ∙ ap (λ o. greater (get_or copy i d) o) (before_none level1 up k d inside))
    ∙ sym (at_place copy (take n level1) i d placed within
    ∙ ap (λ (b : ℕ). greater (get_or copy i d) (row_at (take n level1) b)) here
    ∙ ap (λ o. greater (get_or copy i d) o) (row_here level1 up k n d one inside))

-- and elsewhere
step_other : (copy level1 : List Row) (k n i : ℕ) (d : Row) → IsWhole copy → n ≡ suc k → k < length level1 → i < length copy → i ≢ (get_or level1 k d).block → get_or (merged_rows copy (take k level1)) i d ≡ get_or (merged_rows copy (take n level1)) i d
step_other copy level1 k n i d placed one inside within differ =
    at_place copy (take k level1) i d placed within
    ∙ ap (λ o. greater (get_or copy i d) o) (sym (row_other level1 k n i d one inside differ))
    ∙ sym (at_place copy (take n level1) i d placed within)

-- a turn of the loop: the row more, or what stood there, at its block
pub merged_step : (copy level1 : List Row) (k n : ℕ) (d old : Row) → IsWhole copy → AreOf (length copy) level1 → n ≡ suc k → k < length level1 → old ≡ get_or (merged_rows copy (take k level1)) (get_or level1 k d).block old → set (merged_rows copy (take k level1)) (get_or level1 k d).block (greater old (Some (get_or level1 k d))) ≡ merged_rows copy (take n level1)
merged_step copy level1 k n d old placed of one inside was =
    let before = merged_rows copy (take k level1) in
    let place = (get_or level1 k d).block in
    let many : length before ≡ length copy = length-map copy (λ r. greater r (row_at (take k level1) r.block)) in
    let more : length (merged_rows copy (take n level1)) ≡ length copy = length-map copy (λ r. greater r (row_at (take n level1) r.block)) in
    let same_length : length (set before place (greater old (Some (get_or level1 k d)))) ≡ length before = length-set before place (greater old (Some (get_or level1 k d))) in
    let there : place < length copy = of.inside k d inside in
    ext_get_or d (set before place (greater old (Some (get_or level1 k d)))) (merged_rows copy (take n level1)) (same_length ∙ many ∙ sym more) (λ i within.
    elim (cases_eq i place) [
      | inl here ↦
          ap (λ (j : ℕ). get_or (set before place (greater old (Some (get_or level1 k d)))) j d) here
          ∙ get_or-set_same before place (greater old (Some (get_or level1 k d))) d (omega (arith, there, many))
          ∙ ap (λ r. greater r (Some (get_or level1 k d))) (was ∙ get_or_default before place old d (omega (arith, there, many)))
          ∙ step_here copy level1 k n place d placed of.ascend one inside there refl
          ∙ ap (λ (j : ℕ). get_or (merged_rows copy (take n level1)) j d) (sym here)
      | inr other ↦
          get_or-set_other before place i (greater old (Some (get_or level1 k d))) d other
          ∙ step_other copy level1 k n i d placed one inside (omega (arith, within, same_length, many)) other
    ])

-- without a row of the level 1 the copy stays
pub merged_none : (copy : List Row) → merged_rows copy [] ≡ copy
merged_none [] = refl
merged_none (r ∷ rs) = ap (λ xs. r ∷ xs) (merged_none rs)
