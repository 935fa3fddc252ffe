-- The datafiles that are brought back have their places and their lines.
use Rattle.std.specs.Option.{option_map_or}
use Rattle.std.proofs.Common.{◌≡◌, ◌<◌, ◌≤◌, ◌∙◌, ℕ, List, Option, Some, ap, sym, subst, arith, length, All, Contains}
use Rattle.std.proofs.lemmas.{List.Elements.{All-contains}, Option.{slice_get_within}}
use Rattle.rm_base.{specs.Store.{Held}, proofs.{Lists.{map_from, map_to}, Slots.{all-get}, Standing.{each-in}}}
use Rattle.rm_blocks.specs.File.{File}
use Rattle.rm_evidence.specs.Known.{known_of}
use Rattle.rm_history.specs.declared.world.{Datafile.{Datafile}, World.{World}}
use Rattle.rm_catalog_typed.{specs.{LedgerFacts.{IsCreated}, TypedCatalog.{records_of}}, proofs.Records.{world-told}}
use Rattle.rm_plan.specs.Plan.{IsFileTarget}
use Rattle.rm_apply.specs.{Files.{AreExactly, IsAsked}, Recover.{TellsAll}, Restore.{IsRestoration, Restoration, Restores, restored}}
use Rattle.rm_apply.specs.{Told.{AreFilesAt, IsTold}, declared.{origin.Origin.{Origin}, recovering.Recovered.{Recovered}}}
use Rattle.rm_machine.specs.{Recovery.{in_place}, Sound.{IsSound}, State.{ledger, tree, world}, declared.state.State.{State}}
use Rattle.rm_machine.proofs.{Numbers.{file-place}, Placing.{number}, Restoring.{are-restored, file-number}, Told.{tells-files}}
use Rattle.rm_step_recover.specs.{Lines.{HasLines}, Placing.{HasPlace}}

module _ (held : Option Held) (s : State) (sound : IsSound s) (i at : ℕ) where
  -- a datafile of the target has its place
  target-place : (f : ℕ) → IsFileTarget (world s) i at f → (0 < f) × (f ≤ length s.instance.place)
  target-place f target =
      let place = file-place (world s) f target.datafile target.is in
      let inside = slice_get_within (ledger s).files place.place target.datafile place.is in
      let is = place.number in
      let many = sound.place.many in
      (omega (arith, is), omega (arith, is, inside, many))

  -- and at most 65,536 blocks
  target-blocks : (f n : ℕ) (target : IsFileTarget (world s) i at f) → n ≡ option_map_or (λ (d : Datafile). d.blocks) (Some target.datafile) 0 → n ≤ 65536
  target-blocks f n target is =
      let place = file-place (world s) f target.datafile target.is in
      let most = (all-get (IsCreated (tree s)) (ledger s).files place.place target.datafile place.is sound.catalog.ledger.datafiles.each).blocks.1 in
      omega (arith, is, most)

  module _ (back : Recovered) (tells : TellsAll held (records_of s.catalog) (in_place s) i at back) where
    files-told : AreFilesAt (world s) (known_of tells.evidence) i at back.files
    files-told = tells-files s held i at back tells

    target-of : (x : File) → Contains back.files x → IsFileTarget (world s) i at x.file
    target-of x has = (files-told.numbers.exact x.file).0 (map_to number back.files x has)

    pub told-places : All (HasPlace (length s.instance.place)) back.files
    told-places = each-in (HasPlace (length s.instance.place)) back.files (λ x has. target-place x.file (target-of x has))

    pub told-lines : All HasLines back.files
    told-lines = each-in HasLines back.files (λ x has.
        let target = target-of x has in
        let told = All-contains (λ (y : File). IsTold (world s) (known_of tells.evidence) i at y.file y) back.files x files-told.each has in (
          (target-place x.file target).0,
          target-blocks x.file (length x.rows) target (told.blocks ∙ ap (λ (o : Option Datafile). option_map_or (λ d. d.blocks) o 0) target.is),
        ))

  module _ (only : Option ℕ) (back : Recovered) (origins : List Origin) (restores : Restores held (records_of s.catalog) (in_place s) i at only back origins) where
    asked : AreExactly (IsAsked (world s) i at only) restores.numbers
    asked = subst (λ (w : World). AreExactly (IsAsked w i at only) restores.numbers) (world-told s.catalog) restores.asked

    pub restored-places : All (HasPlace (length s.instance.place)) back.files
    restored-places = each-in (HasPlace (length s.instance.place)) back.files (λ x has.
        let are = are-restored s held i at only back origins sound restores in
        let r = map_from restored are.restorations x (subst (λ (ys : List File). Contains ys x) are.are has) in
        let is = All-contains (IsRestoration (world s) restores.evidence.bases i at) are.restorations r.item are.each r.held in
        let number_is : r.item.number ≡ x.file = sym (file-number (tree s) restores.evidence.bases i at r.item.number r.item.datafile r.item.backup is.chosen) ∙ ap number r.is in
        let listed = subst (λ ns. Contains ns r.item.number) are.numbers (map_to (λ (y : Restoration). y.number) are.restorations r.item r.held) in
        subst (λ f. (0 < f) × (f ≤ length s.instance.place)) number_is (target-place r.item.number ((asked.exact r.item.number).0 listed).0))
