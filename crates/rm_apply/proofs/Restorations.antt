-- Datafiles that are restored, one after the other.
use Rattle.std.specs.{Prelude.{IsSomeAnd}, Option.{option_map}}
use Rattle.std.proofs.Common.{◌≡◌, ◌≢◌, ◌<◌, ◌≤◌, ◌+◌, ◌∙◌, ℕ, List, [], ◌∷◌, ◌++◌, Option, Some, None, IfSome, get_or, length, map, take, refl, sym, ap, subst, arith}
use Rattle.std.proofs.lemmas.List.{map-append, Elements.{All-append, All-cons, All-contains, All-nil}}
use Rattle.std.proofs.lemmas.Option.{get_or_from_slice_get, slice_get_within}
use Rattle.rm_base.specs.{Numbers.{last_scn}, declared.{kinds.Kind.TheVariants.{Level1}, block.Row.{Row}}}
use Rattle.rm_blocks.specs.File.{File, IsInOrder}
use Rattle.rm_catalog.specs.{Facts.{IsCreatedOn}, Keys.{datafile, incarnation}, Rules.{HasDatabase, IsCatalog}}
use Rattle.rm_catalog.specs.declared.record.{DatafileEntry.{DatafileEntry}, IncarnationEntry.{IncarnationEntry}, Record.{Record}}
use Rattle.rm_catalog.proofs.{Datafiles.{datafile-rule, datafile-there}, Numbering.{incarnation-rule}}
use Rattle.rm_evidence.specs.{Known.{FitsPiece, FitsTree}, Database.{created_by, world_of}, declared.evidence.Evidence.{Evidence}}
use Rattle.rm_evidence.proofs.{Files.{file_of-is}, DatabaseWorlds.{is-sound}}
use Rattle.rm_history.specs.{World.{file_of}, declared.{tree.Incarnation.{Incarnation}, world.{Datafile.{Datafile}, World.{World}}}}
use Rattle.rm_piece.{specs.declared.piece.Piece.{Piece}, proofs.Whole.{placed}}
use Rattle.rm_apply.specs.Restore.{AreRestored, IsBackupFor, IsRestoration, Restoration, file_by, origin_by, origin_of, restored}
use Rattle.rm_apply.specs.declared.{origin.Origin.{Origin}, targets.TargetFile.{TargetFile}}
use Rattle.rm_apply.proofs.Numbers.{no_file, number, numbers_more}

module _ (w : World) (bases : List (ℕ × Piece)) (i s : ℕ) where
  -- one of a number
  pub one_restored : (f : ℕ) (d : Datafile) (o : Option (ℕ × Piece)) → file_of w f ≡ Some d → IsBackupFor w.tree bases i s f o → AreRestored w bases i s (f ∷ []) (file_by f d o ∷ []) (origin_by o ∷ [])
  one_restored f d o is chosen =
      let r : Restoration = record { number = f; datafile = d; backup = o } in
      record {
        restorations = r ∷ [];
        numbers = refl;
        each = All-cons (IsRestoration w bases i s) r [] (record { is = is; chosen = chosen }) (All-nil (IsRestoration w bases i s));
        are = refl;
        from = refl;
      }

  -- that of the next datafile comes to those before it
  pub next_restored : (ts : List TargetFile) (k : ℕ) (xs ys new : List File) (os ps next : List Origin)
      → k < length ts → new ≡ xs ++ ys → next ≡ os ++ ps
      → AreRestored w bases i s (map number (take k ts)) xs os → AreRestored w bases i s ((get_or ts k no_file).number ∷ []) ys ps
      → AreRestored w bases i s (map number (take (k + 1) ts)) new next
  next_restored ts k xs ys new os ps next inside files origins a b =
      let of : Restoration → ℕ = λ r. r.number in
      record {
        restorations = a.restorations ++ b.restorations;
        numbers = map-append of a.restorations b.restorations ∙ ap (λ ns. ns ++ map of b.restorations) a.numbers ∙ ap (λ ns. map number (take k ts) ++ ns) b.numbers ∙ sym (numbers_more ts k inside);
        each = All-append (IsRestoration w bases i s) a.restorations b.restorations a.each b.each;
        are = files ∙ ap (λ zs. zs ++ ys) a.are ∙ ap (λ zs. map restored a.restorations ++ zs) b.are ∙ sym (map-append restored a.restorations b.restorations);
        from = origins ∙ ap (λ zs. zs ++ ps) a.from ∙ ap (λ zs. map origin_of a.restorations ++ zs) b.from ∙ sym (map-append origin_of a.restorations b.restorations);
      }

-- the choice is that of an equal tree among equal bases
pub same_choice : (tree same : List Incarnation) (bases all : List (ℕ × Piece)) (i s f : ℕ) (o : Option (ℕ × Piece)) → tree ≡ same → bases ≡ all → IsBackupFor tree bases i s f o → IsBackupFor same all i s f o
same_choice tree same bases all i s f o one other is = subst (λ (xs : List (ℕ × Piece)). IsBackupFor same xs i s f o) other (subst (λ (ns : List Incarnation). IsBackupFor ns bases i s f o) one is)

-- each row of the backup that is chosen stands at the place of its block
pub chosen_in_order : (tree : List Incarnation) (e : Evidence) (i s f : ℕ) (o : Option (ℕ × Piece)) → FitsTree tree e → IsBackupFor tree e.bases i s f o → IfSome o (λ x. IsInOrder x.1.rows)
chosen_in_order tree e i s f None fits chosen = tt
chosen_in_order tree e i s f (Some x) fits chosen = λ k r is.
    let valid = (All-contains (λ (y : ℕ × Piece). FitsPiece tree y.1) e.bases x fits.bases chosen.held).valid in
    let other : x.1.kind ≢ Level1 = All-contains (λ (y : ℕ × Piece). y.1.kind ≢ Level1) e.bases x fits.no_level1 chosen.held in
    ap (λ (z : Row). z.block) (sym (get_or_from_slice_get x.1.rows k r r is)) ∙ placed x.1 valid other k r (slice_get_within x.1.rows k r is)

below_end : (rs : List Record) (f : DatafileEntry) (o : Option IncarnationEntry) → IsCatalog rs → incarnation f.inc rs ≡ o → IsSomeAnd o (IsCreatedOn f) → f.creation < last_scn
below_end rs f None catalog is some = absurd some
below_end rs f (Some i) catalog is on = let end = (incarnation-rule rs f.inc i catalog is).range.2 in let less = on.end in omega (arith, end, less)

-- a datafile was created below the last SCN
pub created_below : (rs : List Record) (f : ℕ) (d : Datafile) → IsCatalog rs → file_of (world_of rs) f ≡ Some d → d.creation < last_scn
created_below rs f d catalog is = by (datafile f rs) refl (sym (file_of-is rs f catalog) ∙ is)
  where
    by : (o : Option DatafileEntry) → datafile f rs ≡ o → option_map created_by o ≡ Some d → d.creation < last_scn
    by None e some = absurd (cc)
    by (Some entry) e some =
        let there = datafile-there rs f entry catalog e in
        let same : created_by entry ≡ d = cc in
        subst (λ (z : Datafile). z.creation < last_scn) same (below_end rs entry (incarnation entry.inc rs) catalog refl (datafile-rule rs entry catalog there.0).creation)

-- and with as many blocks as a datafile may have
pub created_with : (rs : List Record) (f : ℕ) (d : Datafile) → IsCatalog rs → HasDatabase rs → file_of (world_of rs) f ≡ Some d → (1 ≤ d.blocks) × (d.blocks ≤ 65536)
created_with rs f d catalog database is = ((is-sound rs catalog database).files f d is).blocks
