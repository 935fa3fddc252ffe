-- RESTORE: each datafile comes to stand in place as a backup has it, or as it was created.
use Rattle.std.proofs.Common.{◌≡◌, ◌≢◌, ◌<◌, ◌≤◌, ◌+◌, ◌-◌, ◌∙◌, inl, inr, ℕ, List, Option, Some, None, IsSomeAnd, false, refl, ap, sym, subst, arith, length, slice_get, Contains}
use Rattle.std.proofs.lemmas.List.Elements.{All-contains, All-weaker}
use Rattle.rm_base.specs.{Store.{Held}, declared.{block.Row.{Row}, kinds.Kind.{Kind, TheVariants.{Full, Level0, Level1, Place}}}}
use Rattle.rm_base.proofs.{Lists.{map_from}, Slots.{all-get}, Standing.{at-place, each-get}}
use Rattle.rm_blocks.{specs.File.{File, created, created_rows}, proofs.Rows.{created-row, in_order-created, length-created}}
use Rattle.rm_catalog.specs.{Objects.{FitsRows}, declared.record.{PieceEntry.{PieceEntry}, SetEntry.{SetEntry}}}
use Rattle.rm_catalog.specs.declared.record.Record.TheVariants as kind
use Rattle.rm_apply.specs.Recover.{IsEvidence}
use Rattle.rm_apply.specs.Restore.{AreRestored, IsBackupFor, IsRestoration, Restores, backed_up, file_by, restored as file_of_restoration}
use Rattle.rm_apply.{specs.declared.{origin.Origin.{Origin}, recovering.Recovered.{Recovered}}, proofs.Restorations.{chosen_in_order}}
use Rattle.rm_evidence.specs.{Known.{FitsPiece, FitsTree, IsPartOf, IsRecorded}, Database.{datafiles}, Objects.{HasPieceFields}}
use Rattle.rm_evidence.{specs.declared.evidence.Evidence.{Evidence}, proofs.{Fitting.{gathered-recorded}, Seen.{seen-so}}}
use Rattle.rm_history.specs.{Tree.{IsThere, end_of}, World.{file_of}, declared.{tree.Incarnation.{Incarnation}, world.Datafile.{Datafile}}}
use Rattle.rm_history.{specs.declared.world.World.{World}, proofs.Highs.{high-bound}}
use Rattle.rm_catalog_typed.specs.{LedgerFacts.{IsCreated, IsPieceEntry, IsSetEntry, IsSetPart}, TypedCatalog.{records_of}}
use Rattle.rm_catalog_typed.proofs.{Members.{piece-in, set-in}, Records.{files-told, tree-told, world-told}}
use Rattle.rm_piece.specs.{Valid.{FitsKind, IsPiece, IsRow}, declared.piece.Piece.{Piece}}
use Rattle.rm_machine.specs.{Recovery.{in_place, put_over}, Restore.{restored}, Sound.{IsPlaced, IsPlacedRow, IsSound}}
use Rattle.rm_machine.{specs.{State.{ledger, tree, world}, declared.state.State.{State}}, proofs.Exchanging.{sound-exchanged}}
use Rattle.rm_machine.proofs.{Numbers.{file-at, file-place}, Placing.{over-cases, over-length}}

-- a piece that is no level 1 has each block
pub entry-rows : (k : Kind) (n m : ℕ) → k ≢ Level1 → FitsRows k n m → n ≡ m
entry-rows Full n m other is = is
entry-rows Level0 n m other is = is
entry-rows Level1 n m other is = absurd (other refl)
entry-rows Place n m other is = is

pub piece-rows : (k : Kind) (a : Piece) → k ≢ Level1 → FitsKind k a → length a.rows ≡ a.blocks
piece-rows Full a other is = is.1
piece-rows Level0 a other is = is.1
piece-rows Level1 a other is = absurd (other refl)
piece-rows Place a other is = is.1

-- what the records tell of a backup of the datafile: it is whole, of an incarnation that is there, and lies up to its end
record IsToldOf (s : State) (d : Datafile) (a : Piece) : Type 0 where
  blocks : length a.rows ≡ d.blocks
  there : IsThere (tree s) a.inc
  checkpoint : 1 ≤ a.checkpoint
  high : a.high ≤ end_of (tree s) a.inc

module _ (s : State) (sound : IsSound s) (k : ℕ) (d : Datafile) (file : slice_get (ledger s).files k ≡ Some d) where
  -- a datafile as it was created could stand in place
  created-placed : IsPlaced (tree s) k d (created (1 + k) d.inc d.creation d.blocks)
  created-placed =
      let made = all-get (IsCreated (tree s)) (ledger s).files k d file sound.catalog.ledger.datafiles.each in
      let rows = created_rows d.creation d.blocks in
      let low = made.creation.0 in
      let first = (sound.catalog.ledger.incarnations.ranges d.inc made.there).0 in
      record {
        file = omega arith;
        blocks = length-created d.creation d.blocks;
        order = in_order-created d.creation d.blocks;
        rows = each-get IsPlacedRow rows (λ b r row. subst IsPlacedRow (created-row d.creation d.blocks b r row) (record { version = omega (arith, low, first); content = refl }));
        there = made.there;
        checkpoint = omega arith;
        high = high-bound (d.creation + 1) (end_of (tree s) d.inc) rows (omega (arith, made.creation.1))
            (λ r has. let row = at-place rows r has in subst (λ (x : Row). x.version < end_of (tree s) d.inc) (created-row d.creation d.blocks row.0 r row.1) made.creation.1);
      }

  module _ (a : Piece) (valid : IsPiece a) (number : a.file ≡ 1 + k) (whole : a.kind ≢ Level1) where
    -- a piece or an image copy
    piece-told : (p : PieceEntry) → Contains (records_of s.catalog) (kind.Piece p) → HasPieceFields p a → IsToldOf s d a
    piece-told p has fields =
        let entry = All-contains (IsPieceEntry (tree s) (ledger s).files) (ledger s).pieces p sound.catalog.ledger.pieces (piece-in s.catalog p sound.catalog has) in
        let place : p.file - 1 ≡ k = omega (arith, number, fields.file) in
        let both : Some entry.file.datafile ≡ Some d = sym entry.file.is ∙ ap (slice_get (ledger s).files) place ∙ file in
        let same : entry.file.datafile ≡ d = cc in
        record {
          blocks = fields.rows ∙ entry-rows p.kind p.rows entry.file.datafile.blocks (λ level. whole (fields.kind ∙ level)) entry.file.rows ∙ ap (λ (y : Datafile). y.blocks) same;
          there = subst (IsThere (tree s)) (sym fields.inc) entry.there;
          checkpoint = omega (arith, entry.checkpoint.0, fields.checkpoint);
          high = subst (λ (j : ℕ). a.high ≤ end_of (tree s) j) (sym fields.inc) (omega (arith, fields.high, entry.high));
        }

    -- what a set has of it
    part-told : (e : SetEntry) → Contains (records_of s.catalog) (kind.Set e) → IsPartOf (records_of s.catalog) e a → IsToldOf s d a
    part-told e has of =
        let entry = All-contains (IsSetEntry (tree s) (ledger s).files) (ledger s).sets e sound.catalog.ledger.sets (set-in s.catalog e sound.catalog has) in
        let part = All-contains (IsSetPart (tree s) (ledger s).files e) e.parts of.part entry.parts of.held in
        let place : a.file - 1 ≡ k = omega (arith, number) in
        let here : slice_get (datafiles (records_of s.catalog)) (a.file - 1) ≡ Some d = ap (λ (ds : List Datafile). slice_get ds (a.file - 1)) (files-told s.catalog) ∙ ap (slice_get (ledger s).files) place ∙ file in
        let blocks : a.blocks ≡ d.blocks = subst (λ (o : Option Datafile). IsSomeAnd o (λ x. a.blocks ≡ x.blocks)) here of.blocks in
        record {
          blocks = piece-rows a.kind a whole valid.kind ∙ blocks;
          there = subst (IsThere (tree s)) (sym of.inc) entry.there;
          checkpoint = omega (arith, entry.checkpoint, of.checkpoint);
          high = subst (λ (j : ℕ). a.high ≤ end_of (tree s) j) (sym of.inc) (omega (arith, of.high, part.high.1));
        }

    recorded-told : (id : ℕ) → IsRecorded (records_of s.catalog) (id, a) → IsToldOf s d a
    recorded-told id (inl own) = piece-told own.0 own.1 own.3
    recorded-told id (inr of) = part-told of.0 of.1 of.3

  module _ (held : Option Held) (e : Evidence) (hand : IsEvidence held (records_of s.catalog) (in_place s) e) (i at : ℕ) where
    -- a backup could
    backup-placed : (x : ℕ × Piece) → IsBackupFor (tree s) e.bases i at (1 + k) (Some x) → IsPlaced (tree s) k d (backed_up x.1)
    backup-placed x chosen =
        let a = x.1 in
        let fits : FitsTree (tree s) e = subst (λ (ns : List Incarnation). FitsTree ns e) (tree-told s.catalog) hand.fits in
        let valid = (All-contains (λ (y : ℕ × Piece). FitsPiece (tree s) y.1) e.bases x fits.bases chosen.held).valid in
        let whole = All-contains (λ (y : ℕ × Piece). y.1.kind ≢ Level1) e.bases x fits.no_level1 chosen.held in
        let is = All-contains (λ (y : ℕ × Piece). 0 < y.0 → IsRecorded (records_of s.catalog) y) e.bases x (seen-so held hand.at_hand (λ h at. gathered-recorded h (records_of s.catalog) (in_place s) e at)) chosen.held chosen.passes.backup in
        let told = recorded-told a valid chosen.passes.file whole x.0 is in
        record {
          file = omega (arith, chosen.passes.file);
          blocks = told.blocks;
          order = chosen_in_order (tree s) e i at (1 + k) (Some x) fits chosen;
          rows = All-weaker (IsRow a.blocks a.from) IsPlacedRow (λ r row. record { version = row.version.0; content = row.content }) a.rows valid.rows;
          there = told.there;
          checkpoint = told.checkpoint;
          high = omega (arith, valid.high, told.high);
        }

    origin-placed : (o : Option (ℕ × Piece)) → IsBackupFor (tree s) e.bases i at (1 + k) o → IsPlaced (tree s) k d (file_by (1 + k) d o)
    origin-placed None chosen = created-placed
    origin-placed (Some x) chosen = backup-placed x chosen

-- a restored datafile has its number
pub file-number : (ns : List Incarnation) (bases : List (ℕ × Piece)) (i at f : ℕ) (d : Datafile) (o : Option (ℕ × Piece)) → IsBackupFor ns bases i at f o → (file_by f d o).file ≡ f
file-number ns bases i at f d None chosen = refl
file-number ns bases i at f d (Some x) chosen = chosen.passes.file

module _ (s : State) (held : Option Held) (i at : ℕ) (only : Option ℕ) (back : Recovered) (origins : List Origin) (sound : IsSound s) (restores : Restores held (records_of s.catalog) (in_place s) i at only back origins) where
  pub are-restored : AreRestored (world s) restores.evidence.bases i at restores.numbers back.files origins
  are-restored = subst (λ (w : World). AreRestored w restores.evidence.bases i at restores.numbers back.files origins) (world-told s.catalog) restores.restored

  -- what came to a place could stand there
  came-placed : (k : ℕ) (d : Datafile) (x : File) → slice_get (ledger s).files k ≡ Some d → Contains back.files x → x.file - 1 ≡ k → IsPlaced (tree s) k d x
  came-placed k d x file has at_place =
      let w = world s in
      let bases = restores.evidence.bases in
      let r = map_from file_of_restoration are-restored.restorations x (subst (λ (ys : List File). Contains ys x) are-restored.are has) in
      let is = All-contains (IsRestoration w bases i at) are-restored.restorations r.item are-restored.each r.held in
      let o = r.item.backup in
      let f = r.item.number in
      let number_is : x.file ≡ f = sym (ap (λ (y : File). y.file) r.is) ∙ file-number (tree s) bases i at f r.item.datafile o is.chosen in
      let next : f ≡ 1 + k = omega (arith, number_is, (file-place w f r.item.datafile is.is).number, at_place) in
      let one : Some r.item.datafile ≡ Some d = sym is.is ∙ ap (file_of w) next ∙ file-at w k d file in
      let same : r.item.datafile ≡ d = cc in
      let here : file_by (1 + k) d o ≡ x = ap (λ n. file_by n d o) (sym next) ∙ ap (λ (y : Datafile). file_by f y o) (sym same) ∙ r.is in
      subst (IsPlaced (tree s) k d) here (origin-placed s sound k d file held restores.evidence restores.is i at o (subst (λ n. IsBackupFor (tree s) bases i at n o) next is.chosen))

  pub sound-restored : s.instance.is_open ≡ false → IsSound (restored s back.files)
  sound-restored closed = sound-exchanged s None (put_over back.files s.instance.place) sound closed (over-length back.files s.instance.place)
      (λ k d x file is. elim (over-cases back.files s.instance.place k x is) [
        | inr old ↦ inl old
        | inl new ↦ inr (came-placed k d x file new.0 new.1)
      ])
      (λ n point. absurd (let clash : None ≡ Some n = point in cc))
