-- A merged copy agrees with what both of its parts agree with, and is valid.
use Rattle.std.specs.List.{AllPairs}
use Rattle.std.proofs.Common.{◌≡◌, ◌≢◌, ◌⊎◌, ◌<◌, ◌≤◌, ◌∙◌, inl, inr, nat_lt, ℕ, List, Option, None, Bool, true, false, cond, refl, ap, sym, subst, arith, length, get_or, eqb, All, Contains}
use Rattle.std.proofs.lemmas.{Bool.{eqb-true, false_from_ne_true, Decides.{nat_tests}}, List.{get_or-map, get_or_default, length-map}}
use Rattle.std.proofs.lemmas.List.{Elements.{All-map}, Folds.{list_any_none}}
use Rattle.rm_base.specs.{Numbers.{last_scn}, declared.{block.{Change.{Change}, Row.{Row}}, kinds.Kind.{Kind}}}
use Rattle.rm_base.{specs.declared.kinds.Kind.TheVariants.{Full, Level0, Level1}, proofs.Lists.{map_from, find_cases, find_none}}
use Rattle.rm_history.specs.{Agrees.{IsRow, BaseAgrees, Level1Agrees, lists}, Artefacts.{high_of}, History.{IsHistory}}
use Rattle.rm_history.specs.{Tree.{IsThere, IsTree}, declared.{tree.Incarnation.{Incarnation}, world.World.{World}}}
use Rattle.rm_history.proofs.{Highs.{high-least, high-above}, Segments.{is_within_alike}}
use Rattle.rm_piece.{specs.{Artefacts.{base_of, level1_of}, declared.piece.Piece.{Piece}}, proofs.Whole.{full}}
use Rattle.rm_piece.specs.Valid as valid
use Rattle.rm_merge.{specs.Merge.{AreOf, Meets, row_at, greater, merged, merged_rows}, proofs.Agreement.{stays_listed, stays_unlisted}}

lt_holds : (a b : ℕ) → nat_lt a b ≡ true → a < b
lt_holds a b h = grind (arith, nat_tests)

-- of two rows the one that is kept is a state, where the other is the older one
kept_of : (w : World) (h : List Change) (i f c : ℕ) (r n : Row) (b : Bool) → nat_lt n.version r.version ≡ b → IsRow w h i f c n → (n.version < r.version → IsRow w h i f c r) → IsRow w h i f c (cond b r n)
kept_of w h i f c r n true is new old = old (lt_holds n.version r.version is)
kept_of w h i f c r n false is new old = new

-- where none is found, none is listed
not_listed : (rows : List Row) (b : ℕ) → row_at rows b ≡ None → lists rows b ≡ false
not_listed rows b none = list_any_none (λ r. eqb r.block b) rows (λ k d inside.
    false_from_ne_true (eqb (get_or rows k d).block b) (find_none (λ r. eqb r.block b) rows (get_or rows k d) none (k, inside, get_or_default rows k (get_or rows k d) d inside)))

-- the row that a merged copy has in the place of a copy's
row_agrees : (w : World) (h : List Change) (copy level1 : Piece) → IsTree w.tree → IsThere w.tree level1.inc → IsHistory w h → valid.IsPiece copy → Meets w.tree copy level1 → BaseAgrees w h (base_of copy) → Level1Agrees w h (level1_of level1) → (r : Row) → Contains copy.rows r → IsRow w h level1.inc copy.file level1.checkpoint (greater r (row_at level1.rows r.block))
row_agrees w h copy level1 is there history piece meets base given r held =
    let new : Level1Agrees w h (record { inc = level1.inc; file = copy.file; from = level1.from; checkpoint = level1.checkpoint; rows = level1.rows }) =
    subst (λ (f : ℕ). Level1Agrees w h (record { inc = level1.inc; file = f; from = level1.from; checkpoint = level1.checkpoint; rows = level1.rows })) (sym meets.file) given in
    let same = is_within_alike w.tree is copy.inc level1.inc copy.high there meets.within in
    let top : copy.high ≡ high_of copy.checkpoint copy.rows = piece.high in
    let above : r.version < high_of copy.checkpoint copy.rows = high-above copy.checkpoint copy.rows r held in
    let least : copy.checkpoint ≤ high_of copy.checkpoint copy.rows = high-least copy.checkpoint copy.rows in
    let under : r.version < copy.high = omega (arith, top, above) in
    let reached : copy.checkpoint ≤ copy.high = omega (arith, top, least) in
    elim (find_cases (λ x. eqb x.block r.block) level1.rows) [
      | inl none ↦ subst (λ (o : Option Row). IsRow w h level1.inc copy.file level1.checkpoint (greater r o)) (sym none)
          (stays_unlisted w h level1.inc copy.inc copy.file copy.checkpoint level1.checkpoint level1.from copy.high r history (base r held) same under reached meets.from (λ inside. new.unlisted r.block inside (not_listed level1.rows r.block none)))
      | inr found ↦ subst (λ (o : Option Row). IsRow w h level1.inc copy.file level1.checkpoint (greater r o)) (sym found.is)
          (let state = (new.listed found.item found.held).0 in
          kept_of w h level1.inc copy.file level1.checkpoint r found.item (nat_lt found.item.version r.version) refl state (λ older.
          stays_listed w h level1.inc copy.inc copy.file copy.checkpoint level1.checkpoint r found.item history (base r held) (same r.version under) state (eqb-true found.item.block r.block found.passes) older))
    ]

pub merged_agrees : (w : World) (h : List Change) (copy level1 : Piece) → IsTree w.tree → IsThere w.tree level1.inc → IsHistory w h → valid.IsPiece copy → Meets w.tree copy level1 → BaseAgrees w h (base_of copy) → Level1Agrees w h (level1_of level1) → BaseAgrees w h (base_of (merged copy level1))
merged_agrees w h copy level1 is there history piece meets base new m held =
    let source = map_from (λ (r : Row). greater r (row_at level1.rows r.block)) copy.rows m held in
    subst (IsRow w h level1.inc copy.file level1.checkpoint) source.is (row_agrees w h copy level1 is there history piece meets base new source.item source.held)

-- the row that is kept has the block
greater_block : (r n : Row) (b : Bool) → n.block ≡ r.block → (cond b r n).block ≡ r.block
greater_block r n true same = refl
greater_block r n false same = same

kept_block : (level1 : List Row) (r : Row) → (greater r (row_at level1 r.block)).block ≡ r.block
kept_block level1 r = elim (find_cases (λ x. eqb x.block r.block) level1) [
  | inl none ↦ ap (λ (o : Option Row). (greater r o).block) none
  | inr found ↦
      ap (λ (o : Option Row). (greater r o).block) found.is
      ∙ greater_block r found.item (nat_lt found.item.version r.version) (eqb-true found.item.block r.block found.passes)
]

ascends : (copy level1 : List Row) → AllPairs valid.IsBefore copy → AllPairs valid.IsBefore (merged_rows copy level1)
ascends copy level1 up i j d less inside =
    let many : length (merged_rows copy level1) ≡ length copy = length-map copy (λ r. greater r (row_at level1 r.block)) in
    let within : j < length copy = omega (arith, inside, many) in
    let first : (get_or (merged_rows copy level1) i d).block ≡ (get_or copy i d).block = ap (λ (r : Row). r.block) (get_or-map (λ r. greater r (row_at level1 r.block)) copy i d d (omega (arith, less, within))) ∙ kept_block level1 (get_or copy i d) in
    let second : (get_or (merged_rows copy level1) j d).block ≡ (get_or copy j d).block = ap (λ (r : Row). r.block) (get_or-map (λ r. greater r (row_at level1 r.block)) copy j d d within) ∙ kept_block level1 (get_or copy j d) in
    let step : (get_or copy i d).block < (get_or copy j d).block = up i j d less within in
    omega (arith, first, second, step)

-- a row of either part is a row of a copy
of_copy : (blocks n least : ℕ) (r : Row) → n ≡ blocks → valid.IsRow n least r → valid.IsRow blocks 0 r
of_copy blocks n least r same is =
    let inside = is.block in
    record { block = omega (arith, inside, same); version = is.version; from = omega arith; content = is.content }

one_of : (blocks : ℕ) (r n : Row) (b : Bool) → valid.IsRow blocks 0 r → valid.IsRow blocks 0 n → valid.IsRow blocks 0 (cond b r n)
one_of blocks r n true first second = first
one_of blocks r n false first second = second

kept_row : (blocks n least : ℕ) (level1 : List Row) (r : Row) → n ≡ blocks → valid.IsRow blocks 0 r → All (valid.IsRow n least) level1 → valid.IsRow blocks 0 (greater r (row_at level1 r.block))
kept_row blocks n least level1 r same is all = elim (find_cases (λ x. eqb x.block r.block) level1) [
  | inl none ↦ subst (λ (o : Option Row). valid.IsRow blocks 0 (greater r o)) (sym none) is
  | inr found ↦ subst (λ (o : Option Row). valid.IsRow blocks 0 (greater r o)) (sym found.is)
      (let at = found.held in
      one_of blocks r found.item (nat_lt found.item.version r.version) is (of_copy blocks n least found.item same (subst (valid.IsRow n least) at.2 (all at.0 found.item at.1))))
]

-- a copy is no level 1
of_kind : (k : Kind) → (k ≡ Full) ⊎ (k ≡ Level0) → k ≢ Level1
of_kind k (inl is) other = let both : Full ≡ Level1 = sym is ∙ other in absurd (cc)
of_kind k (inr is) other = let both : Level0 ≡ Level1 = sym is ∙ other in absurd (cc)

pub no_level1 : (tree : List Incarnation) (copy level1 : Piece) → Meets tree copy level1 → copy.kind ≢ Level1
no_level1 tree copy level1 meets = of_kind copy.kind meets.copy_kind

-- a copy takes over a level 1 of as many blocks
module _ (copy level1 : Piece) (first : valid.IsPiece copy) (second : valid.IsPiece level1) (kind : copy.kind ≢ Level1) (same : copy.blocks ≡ level1.blocks) where
  pub merged_valid : valid.IsPiece (merged copy level1)
  merged_valid = record {
    dbid = first.dbid;
    inc = second.inc;
    file = first.file;
    blocks = first.blocks;
    checkpoint = second.checkpoint;
    kind = (refl, length-map copy.rows (λ r. greater r (row_at level1.rows r.block)) ∙ full copy first kind);
    ascend = ascends copy.rows level1.rows first.ascend;
    rows = All-map (valid.IsRow copy.blocks 0) (λ (r : Row). greater r (row_at level1.rows r.block)) copy.rows (λ k d inside.
        kept_row copy.blocks level1.blocks level1.from level1.rows (get_or copy.rows k d) (sym same) (of_copy copy.blocks copy.blocks copy.from (get_or copy.rows k d) refl (first.rows k d inside)) second.rows);
    high = refl;
  }

  -- the level 1 lists blocks of the copy
  pub listed : AreOf (length copy.rows) level1.rows
  listed =
      let many = full copy first kind in
      record { ascend = second.ascend; inside = λ k d inside. let low = (second.rows k d inside).block in omega (arith, low, many, same) }

  -- each version is the SCN of a change
  pub versions : All (λ r. r.version < last_scn) (merged_rows copy.rows level1.rows)
  versions k d inside = (merged_valid.rows k d inside).version.1
