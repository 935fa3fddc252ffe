-- What is in place fits the records: each is valid, and of an incarnation that is there.
use Rattle.std.{specs.List.{filter_map}, proofs.Common.{◌≡◌, ℕ, List, Some, false, refl, sym, subst, arith, All, length, slice_get}}
use Rattle.std.proofs.lemmas.{List.Elements.{All-contains}, Option.{slice_get_within}}
use Rattle.rm_base.{specs.Store.{Held}, proofs.{Lists.{map_from}, Slots.{all-get}, Standing.{at-place, each-in, present-in}}}
use Rattle.rm_blocks.specs.File.{File}
use Rattle.rm_catalog.specs.declared.record.Record.{Record}
use Rattle.rm_evidence.specs.{Gathered.{IsGathered, placed_piece}, Known.{FitsLog, FitsPiece}, Place.{FitsPlace}}
use Rattle.rm_evidence.{specs.declared.evidence.{Evidence.{Evidence}, InPlace.{InPlace}}, proofs.Fitting.{ascends}}
use Rattle.rm_history.{specs.declared.world.Datafile.{Datafile}, proofs.Highs.{high-above, high-least}}
use Rattle.rm_catalog_typed.{specs.{LedgerFacts.{IsCreated}, TypedCatalog.{records_of}}, proofs.{Lookups.{item-at}, Records.{tree-told}}}
use Rattle.rm_piece.specs.Valid.{IsRow}
use Rattle.rm_redo.specs.Online.{IsThread}
use Rattle.rm_machine.specs.{Damage.{undamaged}, Recovery.{IsAtHand, in_place}, Sound.{IsPlaced, IsPlacedRow, IsSound}}
use Rattle.rm_machine.{specs.{State.{ledger, tree, counted, online, is_lost}, declared.state.State.{State}}, proofs.AtHand.{online-in}}
use Rattle.rm_machine.proofs.{Threads.{thread-in}, Undamaged.{undamaged-at}}

module _ (s : State) (sound : IsSound s) where
  -- a whole copy of a datafile is a valid piece
  placed-valid : (k : ℕ) (d : Datafile) (x : File) → slice_get (ledger s).files k ≡ Some d → IsPlaced (tree s) k d x → FitsPiece (tree s) (placed_piece (ledger s).base.dbid x)
  placed-valid k d x file is =
      let rules = sound.catalog.ledger in
      let made = all-get (IsCreated (tree s)) (ledger s).files k d file rules.datafiles.each in
      let last = (rules.incarnations.ranges x.inc is.there).2 in
      record {
        valid = record {
          dbid = (rules.base.dbid, sound.dbid);
          inc = (omega (arith, is.there.0), omega (arith, is.there.1, rules.incarnations.few));
          file = (omega (arith, is.file), omega (arith, is.file, slice_get_within (ledger s).files k d file, rules.datafiles.few));
          blocks = (omega (arith, is.blocks, made.blocks.0), omega (arith, is.blocks, made.blocks.1));
          checkpoint = (is.checkpoint, omega (arith, high-least x.checkpoint x.rows, is.high, last));
          kind = (refl, refl);
          ascend = ascends x.rows is.order;
          rows = each-in (IsRow (length x.rows) 0) x.rows (λ r has.
              let at = at-place x.rows r has in
              let row = All-contains IsPlacedRow x.rows r is.rows has in
              record {
                block = omega (arith, is.order at.0 r at.1, slice_get_within x.rows at.0 r at.1);
                version = (row.version, omega (arith, high-above x.checkpoint x.rows r has, is.high, last));
                from = omega arith;
                content = row.content;
              });
          high = refl;
        };
        inc = is.there;
      }

  -- so is what stands in place
  pub stands-valid : (k : ℕ) (x : File) → slice_get s.instance.place k ≡ Some (Some x) → FitsPiece (tree s) (placed_piece (ledger s).base.dbid (counted s x))
  stands-valid k x at =
      let file = item-at (ledger s).files k (omega (arith, slice_get_within s.instance.place k (Some x) at, sound.place.many)) in
      placed-valid k file.0 (counted s x) file.1 (sound.place.each k file.0 x file.1 at)

  online-valid : (t : ℕ) → IsThread s.instance.logs t → is_lost s.instance.logs t ≡ false → FitsLog (tree s) (online s t)
  online-valid t is found = record { valid = (sound.logs.each t is found).valid; inc = sound.logs.there }

-- what is in place fits the records
pub place-fits : (s : State) → IsSound s → FitsPlace (records_of s.catalog) (in_place s)
place-fits s sound = record {
  files = subst (λ ns. All (λ x. FitsPiece ns (placed_piece (ledger s).base.dbid x)) (in_place s).files) (sym (tree-told s.catalog))
      (each-in (λ x. FitsPiece (tree s) (placed_piece (ledger s).base.dbid x)) (in_place s).files (λ x has.
      let place = undamaged s.instance.damaged 1 s.instance.place in
      let file = map_from (counted s) (filter_map (λ o. o) place) x has in
      let at = present-in place file.item file.held in
      let was = undamaged-at s.instance.damaged 1 s.instance.place at.0 file.item at.1 in
      subst (λ y. FitsPiece (tree s) (placed_piece (ledger s).base.dbid y)) file.is (stands-valid s sound at.0 file.item was.0)));
  logs = subst (λ ns. All (FitsLog ns) (in_place s).logs) (sym (tree-told s.catalog))
      (each-in (FitsLog (tree s)) (in_place s).logs (λ a has.
      let found = online-in s 1 4 a has in
      subst (FitsLog (tree s)) found.is (online-valid s sound found.thread (thread-in s.instance.logs found.thread (omega (arith, found.low)) found.there) found.found)));
}

-- what is gathered is at hand
pub gathered-hand : (s : State) (rs : List Record) (place : InPlace) (held : Held) (e : Evidence) → rs ≡ records_of s.catalog → place ≡ in_place s → IsGathered held rs place e → IsAtHand s held e
gathered-hand s rs place held e records is gathered = coe 0 1 (i. IsGathered held (records i) (is i) e) gathered
