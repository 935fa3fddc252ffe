use Rattle.std.proofs.Common.{◌<◌, ◌∙◌, ℕ, List, All, ap, sym, subst}
use Rattle.rm_base.specs.{Numbers.{last_scn}, declared.{block.Row.{Row}, kinds.Kind.TheVariants.{Level0}}}
use Rattle.rm_history.specs.Artefacts.{high_of}
use Rattle.rm_piece.{specs.{Rows.{IsWhole}, Valid.{IsPiece}, declared.piece.Piece.{Piece}}, proofs.Whole.{placed}}
use Rattle.rm_merge.{specs.Merge.{merged_rows}, proofs.Merged.{merged_valid, versions}}
use Rattle.rm_merge.proofs.merging.take_over.Goals as goal

pub merged_rows-rows-requires-clause-whole : goal.merged_rows-rows-requires-clause-whole
merged_rows-rows-requires-clause-whole c = subst IsWhole (sym c.into_vec.ensures) (placed c.args.copy c.requires.copy c.requires.kind)

pub high_of-high-requires : goal.high_of-high-requires
high_of-high-requires c =
    let same = c.deref.ensures.value ∙ c.merged_rows-rows.ensures ∙ ap (λ (xs : List Row). merged_rows xs c.as_slice.result.now) c.into_vec.ensures ∙ ap (λ (xs : List Row). merged_rows c.args.copy.rows xs) c.as_slice.ensures in
    subst (λ (xs : List Row). All (λ r. r.version < last_scn) xs) (sym same) (versions c.args.copy c.args.level1.now c.requires.copy c.requires.level1 c.requires.kind c.requires.blocks)

pub returns-clause-valid : goal.returns-clause-valid
returns-clause-valid c =
    let old = c.args.copy in
    let new = c.args.level1.now in
    let same = c.merged_rows-rows.ensures ∙ ap (λ (xs : List Row). merged_rows xs c.as_slice.result.now) c.into_vec.ensures ∙ ap (λ (xs : List Row). merged_rows old.rows xs) c.as_slice.ensures in
    let made : ℕ → List Row → Piece = λ high rows. record { kind = Level0; dbid = old.dbid; inc = new.inc; file = old.file; blocks = old.blocks; from = 0; checkpoint = new.checkpoint; high = high; rows = rows } in
    subst (λ (high : ℕ). IsPiece (made high c.from_vec.result)) (sym (c.high_of-high.ensures ∙ ap (high_of new.checkpoint) (c.deref.ensures.value ∙ same)))
    (subst (λ (rows : List Row). IsPiece (made (high_of new.checkpoint (merged_rows old.rows new.rows)) rows)) (sym (c.from_vec.ensures ∙ same))
    (merged_valid old new c.requires.copy c.requires.level1 c.requires.kind c.requires.blocks))
