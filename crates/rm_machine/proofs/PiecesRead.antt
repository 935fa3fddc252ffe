-- The piece of what was read of a datafile is valid, and true where the rows agree with the history.
use Rattle.std.proofs.Common.{◌≡◌, ◌⊎◌, ◌<◌, ◌≤◌, ◌+◌, ◌-◌, ◌∙◌, ◌==◌, ℕ, List, Option, Some, None, Bool, true, false, cond, refl, sym, subst, arith, length, All, AllPairs, Contains, is_none, nat_le, nat_lt, slice_get, slice_index_or, unwrap_or}
use Rattle.std.proofs.lemmas.{Bool.{and_parts, eqb-true}, List.{Elements.{All-contains}, Sums.{count_by-le-length, length-filter}}}
use Rattle.std.proofs.lemmas.Option.{slice_get_within}
use Rattle.rm_base.specs.declared.{block.{Change.{Change}, Row.{Row}}, kinds.Kind.{Kind, TheVariants.{Full, Level0, Level1}}}
use Rattle.rm_base.proofs.{Lists.{filter_from}, Sealing.{length-sealed}, Slots.{all-get}}
use Rattle.rm_catalog.specs.Objects.{FitsKind as FitsEntry, FitsRows, IsTag}
use Rattle.rm_history.specs.{Agrees.{BaseAgrees, IsBelow}, Artefacts.{high_of}, Tree.{owner}, World.{blocks_of, exists}}
use Rattle.rm_history.{specs.declared.world.Datafile.{Datafile}, proofs.Highs.{high-bound, high-least}}
use Rattle.rm_catalog_typed.specs.LedgerFacts.{IsCreated, IsPieceEntry}
use Rattle.rm_piece.specs.{Level1s.{IsRead}, Spelling.{body_of}, Valid.{FitsKind, IsBefore, IsPiece, IsRow}, declared.piece.Piece.{Piece}}
use Rattle.rm_piece.proofs.{Bodies.{length-body}, Fitting.{fits}, Highs.{count_fits}, Picked.{picked_agrees, picked_valid}}
use Rattle.rm_piece.specs.Artefacts as piece
use Rattle.rm_lang_statement.specs.declared.command.BackupForm.{BackupForm}
use Rattle.rm_machine.specs.{MadePieces.{entry_for, piece_by}, Backup.{is_copy, kind_by, rows_from}, Effect.{a_piece}}
use Rattle.rm_machine.specs.{Machine.{IsTrueArtefact, PieceAgrees}, Sound.{IsPlacedRow, IsSound}}
use Rattle.rm_machine.specs.{State.{ledger, tree, world, current_of, now_of}, declared.{job.Job.{Job}, state.State.{State}}}
use Rattle.rm_machine.proofs.Numbers.{blocks-at}

-- a row that was read up to now
pub record IsFound (t : State) (r : Row) : Type 0 where
  pub row : IsPlacedRow r
  pub below : r.version < now_of t

-- Rows of a datafile on the current path: their blocks ascend, and each is one of its blocks.
pub record AreRead (t : State) (f : ℕ) (rows : List Row) : Type 0 where
  pub some : 0 < f
  pub datafile : Datafile
  pub is : slice_get (ledger t).files (f - 1) ≡ Some datafile
  pub here : exists (world t) (current_of t) (now_of t) datafile ≡ true
  pub ascend : AllPairs IsBefore rows
  pub inside : All (λ (r : Row). r.block < datafile.blocks) rows
  pub each : All (IsFound t) rows

-- all blocks are read for a backup that begins up to the creation of its datafile
abbrev pub AreAll : ℕ → Option ℕ → ℕ → ℕ → Type 0
AreAll creation from rows blocks = unwrap_or from 0 ≤ creation → rows ≡ blocks

-- the checkpoint of a backup, and where it begins
pub record IsCheckpoint (t : State) (checkpoint : ℕ) : Type 0 where
  pub some : 1 ≤ checkpoint
  pub most : checkpoint ≤ now_of t

abbrev pub BeginsBelow : ℕ → Option ℕ → Type 0
BeginsBelow checkpoint None = Unit {0}
BeginsBelow checkpoint (Some from) = (1 ≤ from) × (from ≤ checkpoint)

-- the blocks of a datafile
pub blocks-by : (q : State) (f : ℕ) (d : Datafile) → 0 < f → slice_get (ledger q).files (f - 1) ≡ Some d → blocks_of (world q) f ≡ d.blocks
blocks-by q f d some is =
    let number : 1 + (f - 1) ≡ f = omega (arith, some) in
    subst (λ n. blocks_of (world q) n ≡ d.blocks) number (blocks-at (world q) (f - 1) d is)

-- each block of a level 1 was read, or was below its beginning at or after the checkpoint
abbrev pub AreOthers : State → List Change → ℕ → ℕ → List Row → Option ℕ → Type 0
AreOthers t h f checkpoint rows begins =
    (from : ℕ) → begins ≡ Some from → (k : ℕ) → k < blocks_of (world t) f → IsRead rows k ⊎ IsBelow (world t) h (current_of t) f checkpoint from k

-- What a full backup and one of level 0 have in common

pub whole-by : (P : Kind → Type 0) (k : Bool) → P Full → P Level0 → P (cond k Full Level0)
whole-by P true full level0 = full
whole-by P false full level0 = level0

module _ (t : State) (b : BackupForm) (f checkpoint : ℕ) (rows : List Row) (sound : IsSound t) (are : AreRead t f rows) (at : IsCheckpoint t checkpoint) where
  abbrev job : Option ℕ → Job
  job from = record { file = f; from = from }

  abbrev of : Option ℕ → Piece
  of from = piece_by (ledger t) b checkpoint (job from) rows

  pub created : IsCreated (tree t) are.datafile
  created = all-get (IsCreated (tree t)) (ledger t).files (f - 1) are.datafile are.is sound.catalog.ledger.datafiles.each

  pub blocks-are : blocks_of (world t) f ≡ are.datafile.blocks
  blocks-are = blocks-by t f are.datafile are.some are.is

  -- the rows alone, as a piece of this kind that begins here
  abbrev of_kind : Kind → ℕ → Piece
  of_kind kind from = record (of None) { kind = kind; from = from }

  rows-are : (from : ℕ) → from ≤ 1 → All (IsRow (blocks_of (world t) f) from) rows
  rows-are from low m d within =
      let found : IsFound t (slice_index_or rows m d) = are.each m d within in
      let last = (sound.catalog.ledger.incarnations.ranges (current_of t) sound.catalog.ledger.current).2 in
      record {
        block = omega (arith, are.inside m d within, blocks-are);
        version = (found.row.version, omega (arith, found.below, last));
        from = omega (arith, found.row.version, low);
        content = found.row.content;
      }

  valid-as : (kind : Kind) (from : ℕ) → from ≤ 1 → FitsKind kind (of_kind kind from) → IsPiece (of_kind kind from)
  valid-as kind from low fit =
      let within = slice_get_within (ledger t).files (f - 1) are.datafile are.is in
      let there = sound.catalog.ledger.current in
      let range = sound.catalog.ledger.incarnations.ranges (current_of t) there in
      record {
        dbid = (sound.catalog.ledger.base.dbid, sound.dbid);
        inc = (omega (arith, there.0), omega (arith, there.1, sound.catalog.ledger.incarnations.few));
        file = (omega (arith, are.some), omega (arith, within, sound.catalog.ledger.datafiles.few));
        blocks = (omega (arith, blocks-are, created.blocks.0), omega (arith, blocks-are, created.blocks.1));
        checkpoint = (at.some, omega (arith, at.most, range.2));
        kind = fit;
        ascend = are.ascend;
        rows = rows-are from low;
        high = refl;
      }

  pub piece-valid : (from : Option ℕ) → BeginsBelow checkpoint from → AreAll are.datafile.creation from (length rows) are.datafile.blocks → IsPiece (of from)
  piece-valid None begins all =
      let many : length rows ≡ blocks_of (world t) f = all (omega arith) ∙ sym blocks-are in
      valid-as (kind_by b None) 0 (omega arith) (whole-by (λ k. FitsKind k (of_kind k 0)) (is_none b.level) (refl, many) (refl, many))
  piece-valid (Some from) begins all = picked_valid (of_kind Level1 1) from (valid-as Level1 1 (omega arith) (omega arith, at.some)) begins.0 begins.1

  few-read : length rows ≤ are.datafile.blocks
  few-read = omega (arith, count_fits rows (blocks_of (world t) f) 0 are.ascend (rows-are 0 (omega arith)), blocks-are)

  pub few-rows : (from : Option ℕ) → length (rows_from from rows) ≤ are.datafile.blocks
  few-rows None = few-read
  few-rows (Some from) =
      let kept = length-filter (λ (r : Row). nat_le from r.version) rows in
      let few = count_by-le-length (λ (r : Row). nat_le from r.version) rows in
      omega (arith, kept, few, few-read)

  found-in : (from : Option ℕ) (r : Row) → Contains (rows_from from rows) r → Contains rows r
  found-in None r has = has
  found-in (Some from) r has = (filter_from (λ x. nat_le from x.version) rows r has).0

  pub high-most : (from : Option ℕ) → high_of checkpoint (rows_from from rows) ≤ now_of t
  high-most from = high-bound checkpoint (now_of t) (rows_from from rows) at.most (λ r has.
      omega (arith, (All-contains (IsFound t) rows r are.each (found-in from r has)).below))

  rows-fit : (from : Option ℕ) → AreAll are.datafile.creation from (length rows) are.datafile.blocks → FitsRows (kind_by b from) (length (rows_from from rows)) are.datafile.blocks
  rows-fit None all = let many = all (omega arith) in whole-by (λ k. FitsRows k (length rows) are.datafile.blocks) (is_none b.level) many many
  rows-fit (Some from) all = few-rows (Some from)

  kind-fits : (tag : List ℕ) (from : Option ℕ) → BeginsBelow checkpoint from → FitsEntry (kind_by b from) (entry_for t b tag (is_copy b (job from)) (of from))
  kind-fits tag None begins = whole-by (λ k. FitsEntry k (entry_for t b tag (is_copy b (job None)) (of None))) (is_none b.level) refl refl
  kind-fits tag (Some from) begins = (refl, begins.0, begins.1)

  pub entry-is : (tag : List ℕ) → IsTag tag → (from : Option ℕ) → BeginsBelow checkpoint from → AreAll are.datafile.creation from (length rows) are.datafile.blocks → IsPieceEntry (tree t) (ledger t).files (entry_for t b tag (is_copy b (job from)) (of from))
  entry-is tag tagged from begins all =
      let parts = and_parts (nat_lt are.datafile.creation (now_of t)) (owner (tree t) (current_of t) are.datafile.creation == are.datafile.inc) are.here in
      let body = length-body (of from) (fits (of from) (piece-valid from begins all)) in
      record {
        there = sound.catalog.ledger.current;
        file = record {
          number = are.some;
          datafile = are.datafile;
          is = are.is;
          path = eqb-true (owner (tree t) (current_of t) are.datafile.creation) are.datafile.inc parts.1;
          rows = rows-fit from all;
        };
        checkpoint = (at.some, high-least checkpoint (rows_from from rows));
        high = high-most from;
        kind = kind-fits tag from begins;
        tag = tagged;
        size = omega (arith, body, length-sealed (body_of (of from)), created.blocks.1, few-rows from);
      }

  piece-agrees : (h : List Change) → BaseAgrees (world t) h (piece.base_of (of None)) → (from : Option ℕ) → AreOthers t h f checkpoint rows from → PieceAgrees (world t) h (kind_by b from) (of from)
  piece-agrees h agrees None others = whole-by (λ k. PieceAgrees (world t) h k (of None)) (is_none b.level) agrees agrees
  piece-agrees h agrees (Some from) others = picked_agrees (world t) h (current_of t) f checkpoint from rows (record { read = agrees; others = others from refl })

  pub piece-true : (h : List Change) → BaseAgrees (world t) h (piece.base_of (of None)) → (from : Option ℕ) → BeginsBelow checkpoint from → AreAll are.datafile.creation from (length rows) are.datafile.blocks → AreOthers t h f checkpoint rows from
      → IsTrueArtefact (world t) h (a_piece (of from))
  piece-true h agrees from begins all others =
      record {
        agrees = piece-agrees h agrees from others;
        valid = piece-valid from begins all;
        within = (sound.catalog.ledger.current, high-least checkpoint (rows_from from rows), high-most from);
        of = omega (arith, slice_get_within (ledger t).files (f - 1) are.datafile are.is, are.some);
      }
