-- A recovery of a duplicate brings back what the source was.
use Rattle.std.proofs.Common.{◌≡◌, ◌<◌, ◌≤◌, ◌^◌, ◌∙◌, ℕ, List, [], ◌∷◌, Option, Some, None, map, Contains, sym, ap, subst, arith}
use Rattle.rm_apply.specs.{Files.{AreExactly}, Recover.{FindsGap, TellsAll, outside}, Restore.{backed_up}, Told.{AreFilesAt, IsGapOfAll}}
use Rattle.rm_apply.specs.declared.recovering.Recovered.{Recovered}
use Rattle.rm_base.{specs.{Store.{Held}, declared.block.Change.{Change}}, proofs.Members.{none-in}}
use Rattle.rm_blocks.specs.File.{File}
use Rattle.rm_catalog.specs.{Rules.{HasDatabase, IsCatalog}, Trees.{nodes}, declared.record.Record.{Record}}
use Rattle.rm_catalog_typed.{specs.{Changes.{with_moment}, Facts.{IsTypedCatalog}, TypedCatalog.{TypedCatalog, records_of}}, proofs.{Recorded.{one-catalog}, Records.{tree-told}}}
use Rattle.rm_evidence.specs.{Database.{world_of}, Gathered.{IsGathered}, Known.{known_of}, declared.evidence.Evidence.{Evidence}}
use Rattle.rm_evidence.specs.declared.evidence.InPlace.{InPlace}
use Rattle.rm_history.specs.{Evidence.{Agrees}, History.{IsHistory}, Tree.{IsThere}, declared.tree.Incarnation.{Incarnation}}
use Rattle.rm_history.{specs.declared.world.World.{World}, proofs.Facts.{no-gap}}
use Rattle.rm_piece.specs.declared.piece.Piece.{Piece}
use Rattle.rm_plan.specs.{Plan.{IsFileTarget}, declared.plan.Gap.{Gap}}
use Rattle.rm_dup.specs.{Copies.{duplicated, first_until, made_of}, Duplicate.{IsDuplicate}}
use Rattle.rm_dup.specs.{Entries.{AreLater, HoldsCopies, catalog_of, moment_in, nothing, restored, standing}, declared.database.Duplicate.{Duplicate}}
use Rattle.rm_dup.proofs.{Back.{AreCopies, all-back}, Gathered.{at-hand, catalog_at, duplicate-told}, Made.{back-is}, Source.{none-told}, Valid.{range}}
use Rattle.rm_dup.proofs.Whole.{later-is, pieces-valid}

-- of one incarnation, which begins at or below its end, the end is in range
in-range : (n : Incarnation) → n.reset ≤ n.end → IsThere (n ∷ []) 1 × (outside (n ∷ []) 1 n.end ≡ None)
in-range n order = ((omega arith, omega arith), none-told n.end n.reset n.end (n.reset, n.end) order (omega arith))

pub datafiles-are : (held : Option Held) (rs : List Record) (place : InPlace) (i s dbid : ℕ) (d : Duplicate) → IsDuplicate held rs place i s dbid d → AreExactly (IsFileTarget (world_of rs) i s) d.from
datafiles-are held rs place i s dbid d is = subst (λ (ns : List ℕ). AreExactly (IsFileTarget (world_of rs) i s) ns) (sym is.from) is.tells.files.numbers

module _ (rs : List Record) (catalog : IsCatalog rs) (database : HasDatabase rs) (held : Option Held) (place : InPlace) (i s dbid : ℕ) (there : IsThere (nodes rs) i) (inside : outside (nodes rs) i s ≡ None)
    (some : (1 ≤ dbid) × (dbid < 2 ^ 32)) (d : Duplicate) (is : IsDuplicate held rs place i s dbid d) where
  abbrev w : World
  w = world_of rs

  abbrev files : List File
  files = is.recovered.files

  abbrev made : TypedCatalog
  made = catalog_of w dbid (moment_in rs) s files

  pub ranged : IsThere (nodes d.records) 1 × (outside (nodes d.records) 1 s ≡ None)
  ranged =
      let told : nodes d.records ≡ first_until w s ∷ [] = ap nodes is.records ∙ tree-told (catalog_of w dbid (moment_in rs) s files) in
      let from = range rs catalog database is.tells.evidence is.tells.is.fits i s dbid files there inside some is.tells.files in
      subst (λ (t : List Incarnation). IsThere t 1 × (outside t 1 s ≡ None)) (sym told) (in-range (first_until w s) from.1)

  -- the catalog that later records are of
  catalog-later : (later : List Record) (due : AreLater d.records later) → due.catalog ≡ made
  catalog-later later due = let one : Some due.catalog ≡ Some made = one-catalog (Some due.catalog) (Some made) (due.of ∙ is.records) in cc

  pub records-later : (later : List Record) (due : AreLater d.records later) → later ≡ records_of (catalog_at w dbid (moment_in rs) due.moment s files)
  records-later later due = due.is ∙ ap (λ c. records_of (with_moment c due.moment)) (catalog-later later due)

  pub typed-later : (later : List Record) (due : AreLater d.records later) → IsTypedCatalog (catalog_at w dbid (moment_in rs) due.moment s files)
  typed-later later due =
      let kept : moment_in rs ≤ due.moment = subst (λ (c : TypedCatalog). c.ledger.base.moment ≤ due.moment) (catalog-later later due) due.kept in
      later-is rs catalog database held place i s dbid there inside some is.recovered is.tells due.moment kept due.last

  -- with some of the copies in place
  module _ (later : List Record) (due : AreLater d.records later) (to : Held) (put : HoldsCopies to d.pieces) (stand : List File)
      (from : (x : File) → Contains stand x → Contains (map backed_up d.pieces) x) where
    abbrev new : List Record
    new = records_of (catalog_at w dbid (moment_in rs) due.moment s files)

    copies : (e : Evidence) → IsGathered to new (standing stand) e → AreCopies s files (known_of e)
    copies e gathered =
        at-hand w dbid (moment_in rs) due.moment s files (typed-later later due)
        (pieces-valid rs catalog database held place i s dbid there inside some is.recovered is.tells) to (subst (λ (ps : List Piece). HoldsCopies to ps) is.pieces put) stand
        (λ x has. subst (λ (ps : List Piece). Contains (map backed_up ps) x) is.pieces (from x has)) e gathered

    no-gap-by : (x : Gap) → ¬ FindsGap (Some to) later (standing stand) 1 s x
    no-gap-by x found =
        let finds : FindsGap (Some to) new (standing stand) 1 s x = subst (λ (xs : List Record). FindsGap (Some to) xs (standing stand) 1 s x) (records-later later due) found in
        let gap = subst (λ (v : World). IsGapOfAll v (known_of finds.evidence) 1 s x) (duplicate-told w dbid (moment_in rs) due.moment s files) finds.gap in
        let all = all-back w (known_of is.tells.evidence) (known_of finds.evidence) i s files is.tells.files (copies finds.evidence finds.is.at_hand) in
        no-gap (duplicated w s files) (known_of finds.evidence) 1 s x.file x.block x.inc x.scn (all x.file x.block gap.first.target) gap.first.gap

    same-blocks-by : (h : List Change) (back : Recovered) → IsHistory w h → Agrees w h (known_of is.tells.evidence) → TellsAll (Some to) later (standing stand) 1 s back → back.files ≡ made_of w h i s d.from
    same-blocks-by h back history agrees told =
        let again : TellsAll (Some to) new (standing stand) 1 s back = subst (λ (xs : List Record). TellsAll (Some to) xs (standing stand) 1 s back) (records-later later due) told in
        let at = subst (λ (v : World). AreFilesAt v (known_of again.evidence) 1 s back.files) (duplicate-told w dbid (moment_in rs) due.moment s files) again.files in
        back-is w (known_of is.tells.evidence) (known_of again.evidence) i s files is.tells.files (copies again.evidence again.is.at_hand) h back.files history agrees at
        ∙ ap (λ (ns : List ℕ). made_of w h i s ns) (sym is.from)

  module _ (later : List Record) (due : AreLater d.records later) (to : Held) (put : HoldsCopies to d.pieces) where
    pub no-gap-found : (x : Gap) → ¬ FindsGap (Some to) later nothing 1 s x
    no-gap-found = no-gap-by later due to put [] (λ x has. absurd (none-in x has))

    pub no-gap-restored : (x : Gap) → ¬ FindsGap (Some to) later (restored d.pieces) 1 s x
    no-gap-restored = no-gap-by later due to put (map backed_up d.pieces) (λ x has. has)

    pub same-blocks : (h : List Change) (back : Recovered) → IsHistory w h → Agrees w h (known_of is.tells.evidence) → TellsAll (Some to) later nothing 1 s back → back.files ≡ made_of w h i s d.from
    same-blocks = same-blocks-by later due to put [] (λ x has. absurd (none-in x has))

    pub restored-blocks : (h : List Change) (back : Recovered) → IsHistory w h → Agrees w h (known_of is.tells.evidence) → TellsAll (Some to) later (restored d.pieces) 1 s back
        → back.files ≡ made_of w h i s d.from
    restored-blocks = same-blocks-by later due to put (map backed_up d.pieces) (λ x has. has)
