-- What is recovered of the current incarnation can stand as a standby, and has the states where the history made it.
use Rattle.std.specs.{Prelude.{sum_by, ◌^◌, ◌-◌}, Option.{option_map_or}}
use Rattle.std.proofs.Common.{◌≡◌, ◌<◌, ◌≤◌, ◌+◌, ◌∙◌, ℕ, zero, suc, List, [], ◌∷◌, Option, Some, None, Contains, length, map, slice_get, refl, ap, sym, subst, arith, true}
use Rattle.std.proofs.lemmas.{List.{Elements.{All-contains}, Sums.{sum_by-cons}}, Option.{slice_get_within}}
use Rattle.rm_apply.specs.{Recover.{TellsAll, outside}, Told.{AreFilesAt, IsTold}, declared.recovering.Recovered.{Recovered}}
use Rattle.rm_base.{specs.{Store.{Held}, declared.block.{Change.{Change}, Row.{Row}}}, proofs.Lists.{map_from, map_to, unmapped-pairs}}
use Rattle.rm_base.proofs.{Members.{behind, in-front}, Slots.{all-get}, Standing.{each-get, each-in}}
use Rattle.rm_blocks.specs.File.{File}
use Rattle.rm_catalog_typed.specs.{LedgerFacts.{IsCreated}, TypedCatalog.{records_of}}
use Rattle.rm_dup.{specs.Copies.{as_first}, proofs.{Back.{solid}, Blocks.{few-blocks}, Source.{within}}}
use Rattle.rm_evidence.{specs.Known.{known_of}, proofs.Contents.{seen-content}}
use Rattle.rm_history.specs.{History.{IsHistory}, State.{rows_from, states}, Tree.{IsThere, end_of, owner, reset_of}}
use Rattle.rm_history.specs.{World.{blocks_of, exists, file_of}, declared.world.{Datafile.{Datafile}, World.{World}}}
use Rattle.rm_machine.specs.{Recovery.{AreMadeAt, file_at, in_place}, Sound.{IsSound}, State.{current_of, ledger, tree, world}}
use Rattle.rm_machine.{specs.declared.state.State.{State}, proofs.{Numbers.{file-place}, Told.{tells-files, tells-fits}}}
use Rattle.rm_plan.specs.Plan.{IsFileTarget}
use Rattle.rm_piece.specs.declared.set.Set.{Set}
use Rattle.rm_standby.specs.{Image.{AreStates, CanImage, StandsAt, imaged}, Standby.{HoldsStates}}

-- the rows of datafiles are as many as their blocks
same-blocks : (w : World) (xs : List File) → ((x : File) → Contains xs x → length x.rows ≡ blocks_of w x.file)
    → sum_by (λ (x : File). length x.rows) xs ≡ sum_by (λ (d : Datafile). d.blocks) (map (λ (x : File). as_first w x.file) xs)
same-blocks w [] each = refl
same-blocks w (x ∷ xs) each =
    let rest = same-blocks w xs (λ y has. each y (behind x xs y has)) in
    let own = each x (in-front x xs) in
    let left = sum_by-cons (λ (y : File). length y.rows) x xs in
    let right = sum_by-cons (λ (d : Datafile). d.blocks) (as_first w x.file) (map (λ (y : File). as_first w y.file) xs) in
    omega (arith, rest, own, left, right)

length-rows_from : (row : ℕ → Row) (b n : ℕ) → length (rows_from row b n) ≡ n
length-rows_from row b zero = refl
length-rows_from row b (suc n) = ap (λ k. suc k) (length-rows_from row (b + 1) n)

module _ (s : State) (sound : IsSound s) (from : Option Held) (i until : ℕ) (there : IsThere (tree s) i) (inside : outside (tree s) i until ≡ None) (back : Recovered)
    (tells : TellsAll from (records_of s.catalog) (in_place s) i until back) where
  at : AreFilesAt (world s) (known_of tells.evidence) i until back.files
  at = tells-files s from i until back tells

  range : (reset_of (tree s) i ≤ until) × (until ≤ end_of (tree s) i)
  range = within until (reset_of (tree s) i) (end_of (tree s) i) (reset_of (tree s) i, end_of (tree s) i) inside

  target-of : (x : File) → Contains back.files x → IsFileTarget (world s) i until x.file
  target-of x has = (at.numbers.exact x.file).0 (map_to (λ (y : File). y.file) back.files x has)

  told-of : (x : File) → Contains back.files x → IsTold (world s) (known_of tells.evidence) i until x.file x
  told-of x has = All-contains (λ (y : File). IsTold (world s) (known_of tells.evidence) i until y.file y) back.files x at.each has

  -- the datafile of the database, at its place
  record IsOf (x : File) : Type 0 where
    datafile : Datafile
    is : file_of (world s) x.file ≡ Some datafile
    exists : exists (world s) i until datafile ≡ true
    number : (1 ≤ x.file) × (x.file ≤ 64)
    found : slice_get (ledger s).files (x.file - 1) ≡ Some datafile
    size : blocks_of (world s) x.file ≡ datafile.blocks
    created : 1 ≤ datafile.creation
    few : (1 ≤ datafile.blocks) × (datafile.blocks ≤ 65536)

  is-of : (x : File) → Contains back.files x → IsOf x
  is-of x has =
      let target = target-of x has in
      let place = file-place (world s) x.file target.datafile target.is in
      let number = place.number in
      let low = slice_get_within (ledger s).files place.place target.datafile place.is in
      let most = sound.catalog.ledger.datafiles.few in
      let fit = all-get (IsCreated (tree s)) (ledger s).files place.place target.datafile place.is sound.catalog.ledger.datafiles.each in
      let begun = (sound.catalog.ledger.incarnations.ranges target.datafile.inc fit.there).0 in
      let back : place.place ≡ x.file - 1 = omega (arith, number) in
      record {
        datafile = target.datafile;
        is = target.is;
        exists = target.exists;
        number = (omega (arith, number), omega (arith, number, low, most));
        found = subst (λ k. slice_get (ledger s).files k ≡ Some target.datafile) back place.is;
        size = ap (λ (o : Option Datafile). option_map_or (λ (d : Datafile). d.blocks) o 0) target.is;
        created = omega (arith, begun, fit.creation.0);
        few = fit.blocks;
      }

  stands : (x : File) → Contains back.files x → StandsAt (world s) i until x
  stands x has =
      let of = is-of x has in
      let told = told-of x has in
      let rows = (solid (world s) (known_of tells.evidence) i until x (target-of x has) told).rows in
      record {
        number = of.number;
        datafile = of.datafile;
        is = of.is;
        exists = of.exists;
        of = told.inc;
        at = told.checkpoint;
        created = of.created;
        few = of.few;
        order = λ b r is. (rows b r is).0;
        contents = each-get (λ (r : Row). length r.content.0 ≡ 64) x.rows (λ b r is.
            seen-content (tree s) tells.evidence (tells-fits s from i until back tells) (world s) x.file b (owner (tree s) i r.version) r.version r.content (told.rows b r is).1.seen);
        blocks = told.blocks ∙ of.size;
        below = each-get (λ (r : Row). r.version < until) x.rows (λ b r is. (rows b r is).2);
      }

  -- they can stand as a standby
  pub can-image : (dbid : ℕ) → dbid ≡ (ledger s).base.dbid → i < 2 ^ 32 → length back.files ≤ 64 → CanImage (world s) dbid i until back.files
  can-image dbid is short few =
      let some = sound.catalog.ledger.base.dbid in
      let most = sound.dbid in
      let above = range.1 in
      let last = (sound.catalog.ledger.incarnations.ranges i there).2 in
      let sum = same-blocks (world s) back.files (λ x has. (told-of x has).blocks) in
      let all = few-blocks (world s) (ledger s).files back.files at.numbers.ascends (λ x has. let of = is-of x has in let number = of.number.0 in (omega (arith, number), (of.datafile, of.found, of.size))) in
      let room = sound.catalog.ledger.datafiles.room in
      let low = there.0 in
      record {
        number = (omega (arith, is, some), subst (λ n. n < 2 ^ 32) (sym is) most);
        there = there;
        last = omega (arith, above, last);
        positive = (omega (arith, low), short);
        few = few;
        room = omega (arith, sum, all, room);
        ascend = unmapped-pairs (λ (m n : ℕ). m < n) (λ (x : File). x.file) back.files at.numbers.ascends;
        each = each-in (StandsAt (world s) i until) back.files stands;
      }

-- as the history made them they have the states
pub made-states : (w : World) (h : List Change) (i until : ℕ) (files : List File) → IsThere w.tree i → AreMadeAt w h i until files → AreStates w h i until files
made-states w h i until files there made = record {
  every = λ f d is exists. let has = (made.exact.exact f).1 (record { there = there; datafile = d; is = is; exists = exists }) in
      (file_at w h i until f, subst (λ (xs : List File). Contains xs (file_at w h i until f)) (sym made.are) (map_to (file_at w h i until) made.numbers f has), refl);
  rows = λ x has.
      let r = map_from (file_at w h i until) made.numbers x (subst (λ (xs : List File). Contains xs x) made.are has) in
      subst (λ (y : File). y.rows ≡ states w h i until y.file (length y.rows)) r.is
      (ap (λ n. states w h i until r.item n) (sym (length-rows_from _ 0 (blocks_of w r.item))));
}

-- The image of what is recovered of the current incarnation, by the arguments of its call
module _ (s : State) (sound : IsSound s) (dbid inc until : ℕ) (back : Recovered) (files : List File) (same : files ≡ back.files) (number : dbid ≡ (ledger s).base.dbid) (current : inc ≡ current_of s)
    (inside : outside (tree s) inc until ≡ None) (told : (from : Option Held) × TellsAll from (records_of s.catalog) (in_place s) inc until back) (few : length back.files ≤ 64) (short : inc < 2 ^ 32) where
  pub image-can : CanImage (world s) dbid inc until files
  image-can =
      let there = subst (IsThere (tree s)) (sym current) sound.catalog.ledger.current in
      subst (CanImage (world s) dbid inc until) (sym same) (can-image s sound told.0 inc until there inside back told.1 dbid number short few)

  pub image-is : (new : Set) → new ≡ imaged (world s) dbid inc until files → new ≡ imaged (world s) (ledger s).base.dbid (current_of s) until back.files
  image-is new is = is ∙ (λ i. imaged (world s) (number i) (current i) until (same i))

  pub image-holds : (new : Set) → ((h : List Change) → IsHistory (world s) h → CanImage (world s) dbid inc until files → AreStates (world s) h inc until files → HoldsStates (world s) h new)
      → (h : List Change) → IsHistory (world s) h → AreMadeAt (world s) h (current_of s) until back.files → HoldsStates (world s) h new
  image-holds new holds h history made =
      holds h history image-can (coe 1 0 (i. AreStates (world s) h (current i) until (same i)) (made-states (world s) h (current_of s) until back.files sound.catalog.ledger.current made))
