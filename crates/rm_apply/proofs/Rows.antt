-- The parts of a plan, as the rows of a datafile that is told.
use Rattle.std.specs.{Option.{option_map_or}, Prelude.{All}}
use Rattle.std.proofs.Common.{◌≡◌, ◌∙◌, ℕ, zero, suc, List, [], ◌∷◌, Option, Some, Contains, map, slice_get, get_or, refl, sym, ap, subst, arith}
use Rattle.std.proofs.lemmas.{List.{length-map, Elements.{All-contains, All-map, All-weaker}}, Option.{slice_get-get_or}, Simd.{map-map}}
use Rattle.rm_base.{specs.{Content.{zero_block}, declared.block.{Part.{Part}, Row.{Row}}}, proofs.Lists.{map_from}}
use Rattle.rm_blocks.specs.File.{File, IsInOrder}
use Rattle.rm_channel.specs.Applied.{row_of}
use Rattle.rm_history.specs.{World.{blocks_of}, Evidence.{Evidence}, FirstGap.{IsRecoverable}, Known.{Determined}}
use Rattle.rm_history.specs.declared.world.{Datafile.{Datafile}, World.{World}}
use Rattle.rm_plan.specs.{FirstGap.{FileDetermined}, Plan.{AreParts, IsFileTarget}}
use Rattle.rm_apply.specs.{Applying.{ArePlanned, IsPlanned, applied}, Files.{AreExactly}, Told.{AreFilesAt, IsTold}}
use Rattle.rm_apply.specs.declared.plans.Plan.{Plan}

-- the part of a row
part-at : (parts : List Part) (k : ℕ) (r : Row) → slice_get (map row_of parts) k ≡ Some r → (p : Part) × (slice_get parts k ≡ Some p) × (row_of p ≡ r)
part-at [] k r is = absurd (cc)
part-at (p ∷ ps) zero r is = (p, refl, cc)
part-at (p ∷ ps) (suc k) r is = part-at ps k r is

abbrev number : File → ℕ
number x = x.file

module _ (w : World) (e : Evidence) (i s : ℕ) where
  abbrev Told : File → Type 0
  Told x = IsTold w e i s x.file x

  module _ (f : ℕ) (parts : List Part) (are : AreParts w e i s f (blocks_of w f) parts) where
    pub rows-in-order : IsInOrder (map row_of parts)
    rows-in-order k r is =
        let p = part-at parts k r is in
        sym (ap (λ (x : Row). x.block) p.2) ∙ (are.each k p.0 p.1).block

    row-told : (k : ℕ) (r : Row) → slice_get (map row_of parts) k ≡ Some r → Determined w e i s f k r.version r.content
    row-told k r is =
        let p = part-at parts k r is in
        subst (λ (x : Row). Determined w e i s f k x.version x.content) p.2 (are.each k p.0 p.1).tells.determined

    -- the datafile with these rows is told
    rows-told : IsTold w e i s f (record { file = f; inc = i; checkpoint = s; rows = map row_of parts })
    rows-told = record {
      file = refl;
      inc = refl;
      checkpoint = refl;
      blocks = length-map parts row_of ∙ are.len;
      rows = λ k r is. (rows-in-order k r is, row-told k r is);
    }

  -- so the datafiles that plans make are told, and have their numbers
  module _ (ns : List ℕ) (plans : List Plan) (are : ArePlanned w e i s ns plans) where
    pub applied-told : All Told (map (applied i s) plans)
    applied-told = All-map Told (applied i s) plans (All-weaker (IsPlanned w e i s) (λ (p : Plan). Told (applied i s p)) (λ p planned. rows-told p.number p.parts planned.parts) plans are.each)

    pub applied-numbers : map number (map (applied i s) plans) ≡ ns
    applied-numbers = map-map number (applied i s) plans ∙ are.numbers

    pub files-at : AreExactly (IsFileTarget w i s) ns → AreFilesAt w e i s (map (applied i s) plans)
    files-at exact = record { numbers = subst (AreExactly (IsFileTarget w i s)) (sym applied-numbers) exact; each = applied-told }

  -- each block of a datafile that is told is determined
  told-determined : (f : ℕ) (x : File) → IsTold w e i s f x → FileDetermined w e i s f
  told-determined f x told b target =
      let size : blocks_of w f ≡ target.datafile.blocks = ap (λ (o : Option Datafile). option_map_or (λ d. d.blocks) o 0) target.is in
      let long = told.blocks in
      let inside = target.block in
      let r : Row = get_or x.rows b (record { block = 0; version = 0; content = zero_block }) in
      record { version = r.version; content = r.content; is = (told.rows b r (slice_get-get_or x.rows b _ (omega (arith, long, inside, size)))).1 }

  -- of these as well
  pub member-determined : (files : List File) (f : ℕ) → All Told files → Contains (map number files) f → FileDetermined w e i s f
  member-determined files f told has =
      let x = map_from number files f has in
      subst (FileDetermined w e i s) x.is (told-determined x.item.file x.item (All-contains Told files x.item told x.held))

  -- and of all
  pub files-recoverable : (files : List File) → AreFilesAt w e i s files → IsRecoverable w e i s
  files-recoverable files are f b target =
      let file : IsFileTarget w i s f = record { there = target.there; datafile = target.datafile; is = target.is; exists = target.exists } in
      member-determined files f are.each ((are.numbers.exact f).1 file) b target
