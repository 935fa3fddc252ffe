-- How high a merged copy reaches.
use Rattle.std.specs.{List.{AllPairs}, Option.{option_map_or}}
use Rattle.std.proofs.Common.{◌≡◌, ◌<◌, ◌≤◌, ◌∙◌, ◌&&◌, inl, inr, nat_le, nat_lt, ℕ, List, Option, Some, Bool, true, false, cond, max, refl, ap, sym, subst, arith, length, get_or, eqb, All, Contains}
use Rattle.std.proofs.lemmas.{Bool.{eqb-true, eq-eqb, Decides.{nat_tests}}, List.{get_or_default, get_or-map, length-map}}
use Rattle.std.proofs.lemmas.List.Elements.{All-map, All-contains}
use Rattle.rm_base.{specs.declared.block.Row.{Row}, proofs.{Lists.{find_cases, find_none}, Keyed.{same_item}}}
use Rattle.rm_history.specs.{Tree.{IsTree, IsThere, is_on_path, is_within, segment_end}, declared.tree.Incarnation.{Incarnation}}
use Rattle.rm_history.proofs.{Paths.{is_on_path-member}, Segments.{within_both}, States.{both-hold}}
use Rattle.rm_piece.specs.{Rows.{IsHigh, IsWhole}, Valid.{IsPiece, IsBefore}, declared.piece.Piece.{Piece}}
use Rattle.rm_piece.proofs.{Highs.{high_of-is, IsHigh-one}, Whole.{placed}}
use Rattle.rm_merge.{specs.Merge.{AreOf, Meets, row_at, greater, merged, merged_rows}, proofs.Merged.{listed, no_level1}}

-- neither row is above the one that is kept, and it is below what both are below
keeps_both : (r n : Row) (b : Bool) → nat_lt n.version r.version ≡ b → (r.version ≤ (cond b r n).version) × (n.version ≤ (cond b r n).version)
keeps_both r n true is = let less : n.version < r.version = grind (arith, nat_tests) in (omega arith, omega (arith, less))
keeps_both r n false is = let most : r.version ≤ n.version = grind (arith, nat_tests) in (omega (arith, most), omega arith)

under_both : (r n : Row) (b : Bool) (m k : ℕ) → r.version < m → n.version < k → (cond b r n).version < max m k
under_both r n true m k first second = omega (arith, first)
under_both r n false m k first second = omega (arith, second)

-- a copy's row is not above the one in its place
old_low : (level1 : List Row) (r : Row) → r.version ≤ (greater r (row_at level1 r.block)).version
old_low level1 r = elim (find_cases (λ x. eqb x.block r.block) level1) [
  | inl none ↦ subst (λ (o : Option Row). r.version ≤ (greater r o).version) (sym none) (omega arith)
  | inr found ↦ subst (λ (o : Option Row). r.version ≤ (greater r o).version) (sym found.is) (keeps_both r found.item (nat_lt found.item.version r.version) refl).0
]

new_under : (level1 : List Row) (r : Row) (m k : ℕ) → r.version < m → All (λ x. x.version < k) level1 → (greater r (row_at level1 r.block)).version < max m k
new_under level1 r m k low all = elim (find_cases (λ x. eqb x.block r.block) level1) [
  | inl none ↦ subst (λ (o : Option Row). (greater r o).version < max m k) (sym none) (omega (arith, low))
  | inr found ↦ subst (λ (o : Option Row). (greater r o).version < max m k) (sym found.is) (under_both r found.item (nat_lt found.item.version r.version) m k low (All-contains (λ (x : Row). x.version < k) level1 found.item all found.held))
]

-- a row of the level 1 is found at its block
found_there : (level1 : List Row) → AllPairs IsBefore level1 → (x : Row) → Contains level1 x → row_at level1 x.block ≡ Some x
found_there level1 up x held = elim (find_cases (λ r. eqb r.block x.block) level1) [
  | inl none ↦ absurd (find_none (λ r. eqb r.block x.block) level1 x none held (eq-eqb x.block x.block refl))
  | inr found ↦ found.is ∙ ap (λ (r : Row). Some r) (same_item (λ (r : Row). r.block) level1 up found.item x found.held held (eqb-true found.item.block x.block found.passes))
]

-- it is not above the one in the place of its block
new_low : (level1 : List Row) → AllPairs IsBefore level1 → (x r : Row) → Contains level1 x → r.block ≡ x.block → x.version ≤ (greater r (row_at level1 r.block)).version
new_low level1 up x r held same =
    subst (λ (o : Option Row). x.version ≤ (greater r o).version) (sym (ap (λ (b : ℕ). row_at level1 b) same ∙ found_there level1 up x held)) (keeps_both r x (nat_lt x.version r.version) refl).1

-- the merged rows as an index reads them
at : (copy level1 : List Row) (k : ℕ) (d : Row) → k < length copy → get_or (merged_rows copy level1) k d ≡ greater (get_or copy k d) (row_at level1 (get_or copy k d).block)
at copy level1 k d inside = get_or-map (λ r. greater r (row_at level1 r.block)) copy k d d inside

is_high : (c0 c h0 h1 : ℕ) (copy level1 : List Row) → IsWhole copy → AreOf (length copy) level1 → c0 ≤ c → IsHigh c0 copy h0 → IsHigh c level1 h1 → IsHigh c (merged_rows copy level1) (max h0 h1)
is_high c0 c h0 h1 copy level1 placed of low old new = record {
  reaches = let r = new.reaches in omega (arith, r);
  above = All-map (λ (r : Row). r.version < max h0 h1) (λ (r : Row). greater r (row_at level1 r.block)) copy (λ k d inside. new_under level1 (get_or copy k d) h0 h1 (old.above k d inside) new.above);
  least = λ n from all.
      let many : length (merged_rows copy level1) ≡ length copy = length-map copy (λ r. greater r (row_at level1 r.block)) in
      let first = old.least n (omega (arith, low, from)) (λ k d inside.
      let here = old_low level1 (get_or copy k d) in
      let less : (greater (get_or copy k d) (row_at level1 (get_or copy k d).block)).version < n = subst (λ (r : Row). r.version < n) (at copy level1 k d inside) (all k d (omega (arith, inside, many))) in
      omega (arith, here, less)) in
      let second = new.least n from (λ k d inside.
      let x = get_or level1 k d in
      let there : x.block < length copy = of.inside k d inside in
      let here = new_low level1 of.ascend x (get_or copy x.block d) (k, inside, get_or_default level1 k x d inside) (placed x.block d there) in
      let less : (greater (get_or copy x.block d) (row_at level1 (get_or copy x.block d).block)).version < n = subst (λ (r : Row). r.version < n) (at copy level1 x.block d there) (all x.block d (omega (arith, there, many))) in
      omega (arith, here, less)) in
      omega (arith, first, second);
}

pub merged_high : (tree : List Incarnation) (copy level1 : Piece) → IsPiece copy → IsPiece level1 → Meets tree copy level1 → (merged copy level1).high ≡ max copy.high level1.high
merged_high tree copy level1 old new meets =
    let low = meets.later in
    let kind = no_level1 tree copy level1 meets in
    IsHigh-one level1.checkpoint (merged_rows copy.rows level1.rows) (merged copy level1).high (max copy.high level1.high) (high_of-is level1.checkpoint (merged_rows copy.rows level1.rows))
    (is_high copy.checkpoint level1.checkpoint copy.high level1.high copy.rows level1.rows (placed copy old kind) (listed copy level1 old new kind meets.blocks) (omega (arith, low))
    (subst (IsHigh copy.checkpoint copy.rows) (sym old.high) (high_of-is copy.checkpoint copy.rows)) (subst (IsHigh level1.checkpoint level1.rows) (sym new.high) (high_of-is level1.checkpoint level1.rows)))

both_true : (a b : Bool) → a ≡ true → b ≡ true → (a && b) ≡ true
both_true true b first second = second
both_true false b first second = absurd (cc)

pub merged_within : (tree : List Incarnation) (i : ℕ) (copy level1 : Piece) → IsTree tree → IsThere tree i → IsThere tree level1.inc → IsPiece copy → IsPiece level1 → Meets tree copy level1 → is_within tree copy.inc i copy.high ≡ true → is_within tree level1.inc i level1.high ≡ true → is_within tree (merged copy level1).inc i (merged copy level1).high ≡ true
merged_within tree i copy level1 is there here old new meets first second =
    let one = both-hold (is_on_path tree copy.inc i) (option_map_or (λ end. nat_le copy.high end) (segment_end tree copy.inc i) true) first in
    let two = both-hold (is_on_path tree level1.inc i) (option_map_or (λ end. nat_le level1.high end) (segment_end tree level1.inc i) true) second in
    let low = both-hold (is_on_path tree copy.inc level1.inc) (option_map_or (λ end. nat_le copy.high end) (segment_end tree copy.inc level1.inc) true) meets.within in
    both_true (is_on_path tree level1.inc i) (option_map_or (λ end. nat_le (merged copy level1).high end) (segment_end tree level1.inc i) true) two.0
    (within_both tree is i level1.inc copy.inc copy.high level1.high (merged copy level1).high there here (merged_high tree copy level1 old new meets) ((is_on_path-member tree i level1.inc).0 two.0) ((is_on_path-member tree level1.inc copy.inc).0 low.0) low.1 one.1 two.1)
