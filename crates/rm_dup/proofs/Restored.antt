-- What RESTORE puts in place of a duplicate of which nothing stands there: its copies.
use Rattle.std.specs.{List.{enumerate_from}}
use Rattle.std.proofs.Common.{◌≡◌, ◌<◌, ◌≤◌, ◌+◌, ◌-◌, ◌^◌, ◌∙◌, ℕ, true, List, [], ◌∷◌, Option, None, Some, map, slice_get, Contains, refl, sym, ap, subst, arith}
use Rattle.std.proofs.lemmas.{List.Elements.{All-contains}, Option.{same_Some, slice_get-map}}
use Rattle.rm_base.specs.Store.{Held}
use Rattle.rm_base.proofs.{Lists.{map_from, map_to, pairs-mapped}, Members.{behind, in-front, none-in}, Numbered.{numbered-at, numbered-of}, OneOrder.{one-order}}
use Rattle.rm_blocks.specs.File.{File}
use Rattle.rm_catalog.specs.{Rules.{HasDatabase, IsCatalog}, Trees.{nodes}, declared.record.Record.{Record}}
use Rattle.rm_catalog_typed.specs.TypedCatalog.{records_of}
use Rattle.rm_evidence.specs.{Database.{world_of}, Known.{known_of}, declared.evidence.InPlace.{InPlace}}
use Rattle.rm_history.specs.{Tree.{IsThere, is_within, is_on_path, segment_end}, World.{creation_of, file_of}, declared.{tree.Incarnation.{Incarnation}, world.{Datafile.{Datafile}, World.{World}}}}
use Rattle.rm_history.proofs.Worlds.{file-there}
use Rattle.rm_piece.specs.declared.piece.Piece.{Piece}
use Rattle.rm_apply.specs.{Files.{AreExactly, IsAsked}, Recover.{outside}, Restore.{AreRestored, IsBackupFor, IsRestoration, MayRestore, Restoration, Restores, backed_up, file_by}}
use Rattle.rm_apply.specs.Restore.{restored as restored_of}
use Rattle.rm_apply.specs.declared.{origin.Origin.{Origin}, recovering.Recovered.{Recovered}}
use Rattle.rm_dup.specs.{Copies.{as_first, copies_of, copy_as, duplicated, first_until}, Duplicate.{IsDuplicate}, Entries.{AreLater, HoldsCopies, moment_in, nothing}, declared.database.Duplicate.{Duplicate}}
use Rattle.rm_dup.proofs.{Back.{all-solid, mapped}, Gathered.{backup-is, backup-there, catalog_at, duplicate-told}, Made.{exists-there}, Recovery.{records-later, typed-later}, Valid.{copies-ascend}, Whole.{pieces-valid}}

-- an incarnation that is the only one is on its own path, up to any SCN
own : (n : Incarnation) (high : ℕ) → is_within (n ∷ []) 1 1 high ≡ true
unfolding is_on_path segment_end
own n high = refl

-- two lists of which the items with one number give one thing
alike : {X Y Z : Type 0} (f : X → ℕ) (g : Y → ℕ) (F : X → Z) (G : Y → Z) (xs : List X) (ys : List Y) → map f xs ≡ map g ys
    → ((x : X) (y : Y) → Contains xs x → Contains ys y → f x ≡ g y → F x ≡ G y) → map F xs ≡ map G ys
alike f g F G [] [] same each = refl
alike f g F G [] (y ∷ ys) same each = absurd cc
alike f g F G (x ∷ xs) [] same each = absurd cc
alike f g F G (x ∷ xs) (y ∷ ys) same each =
    let first : f x ≡ g y = cc in
    let others : map f xs ≡ map g ys = cc in
    let one : F x ≡ G y = each x y (in-front x xs) (in-front y ys) first in
    let rest = alike f g F G xs ys others (λ u v here there. each u v (behind x xs u here) (behind y ys v there)) in
    λ j. one j ∷ rest j

module _ (w : World) (dbid s : ℕ) (files : List File) (bases : List (ℕ × Piece))
    (only-copies : (x : ℕ × Piece) → Contains bases x → 0 < x.0 → Contains (copies_of dbid s files) x.1)
    (all-copies : (a : Piece) → Contains (copies_of dbid s files) a → Contains bases (a.file, a))
    (created : (k : ℕ) (x : File) → slice_get files k ≡ Some x → creation_of w x.file < s) where
  abbrev copies : List Piece
  copies = copies_of dbid s files

  abbrev v : World
  v = duplicated w s files

  -- a copy is that of a datafile, under its number
  record IsCopyOf (a : Piece) : Type 0 where
    place : ℕ
    file : File
    there : slice_get files place ≡ Some file
    is : copy_as dbid s (1 + place, file) ≡ a

  copy-of : (a : Piece) → Contains copies a → IsCopyOf a
  copy-of a has =
      let from = map_from (copy_as dbid s) (enumerate_from 1 files) a has in
      let of = numbered-of 1 files from.item from.held in
      record { place = of.place; file = from.item.1; there = of.there; is = ap (λ n. copy_as dbid s (n, from.item.1)) of.number ∙ from.is }

  -- of each datafile there is one
  one-copy : (a b : Piece) → Contains copies a → Contains copies b → a.file ≡ b.file → a ≡ b
  one-copy a b here there same =
      let p = copy-of a here in
      let q = copy-of b there in
      let first = ap (λ (c : Piece). c.file) p.is in
      let second = ap (λ (c : Piece). c.file) q.is in
      let place : p.place ≡ q.place = omega (arith, first, second, same) in
      let file : p.file ≡ q.file = same_Some p.file q.file (sym p.there ∙ ap (λ k. slice_get files k) place ∙ q.there) in
      sym p.is ∙ (λ j. copy_as dbid s (1 + place j, file j)) ∙ q.is

  has-copy : (f : ℕ) (d : Datafile) → file_of v f ≡ Some d → (a : Piece) × Contains copies a × (a.file ≡ f)
  has-copy f d is =
      let there = file-there v f d is in
      let some = there.0 in
      let at = sym (slice_get-map (λ (x : File). as_first w x.file) files (f - 1)) ∙ there.1 in
      let found = mapped (λ (x : File). as_first w x.file) (slice_get files (f - 1)) d at in
      let has = numbered-at 1 files (f - 1) found.0 found.1 in
      let p : ℕ × File = (1 + (f - 1), found.0) in
      (copy_as dbid s p, map_to (copy_as dbid s) (enumerate_from 1 files) p has, omega (arith, some))

  may-restore : (a : Piece) → Contains copies a → MayRestore v.tree 1 s a.file (a.file, a)
  may-restore a has =
      let of = copy-of a has in
      subst (λ (c : Piece). MayRestore v.tree 1 s c.file (c.file, c)) of.is
      (record { backup = omega arith; file = refl; within = own (first_until w s) s; checkpoint = omega arith })

  -- each datafile is restored from its copy
  restored-from : (r : Restoration) (a : Piece) → IsRestoration v bases 1 s r → Contains copies a → r.number ≡ a.file → restored_of r ≡ backed_up a
  restored-from r a is has number = by-backup r.backup refl is.chosen
    where
      by-backup : (o : Option (ℕ × Piece)) → r.backup ≡ o → IsBackupFor v.tree bases 1 s r.number o → restored_of r ≡ backed_up a
      by-backup None shown none =
          absurd (none (a.file, a) (all-copies a has) (subst (λ n. MayRestore v.tree 1 s n (a.file, a)) (sym number) (may-restore a has)))
      by-backup (Some x) shown first =
          let may = first.passes in
          ap (file_by r.number r.datafile) shown ∙ ap backed_up (one-copy x.1 a (only-copies x first.held may.backup) has (may.file ∙ number))

  abbrev numbers : List ℕ
  numbers = map (λ (a : Piece). a.file) copies

  numbers-are : (ns : List ℕ) → AreExactly (IsAsked v 1 s None) ns → ns ≡ numbers
  numbers-are ns asked =
      one-order (λ m n. m < n) (λ m n less more. omega (arith, less, more)) ns numbers asked.ascends
      (pairs-mapped (λ (a : Piece). a.file) (λ (a b : Piece). a.file < b.file) (λ m n. m < n) (λ a b less. less) copies (copies-ascend dbid s files))
      (λ n. (
        λ has.
            let target = ((asked.exact n).0 has).0 in
            let of = has-copy n target.datafile target.is in
            subst (λ m. Contains numbers m) of.2 (map_to (λ (a : Piece). a.file) copies of.0 of.1),
        λ has.
            let a = map_from (λ (b : Piece). b.file) copies n has in
            let of = copy-of a.item a.held in
            let number = ap (λ (b : Piece). b.file) of.is ∙ a.is in
            let target = exists-there w s files of.place of.file of.there (created of.place of.file of.there) in
            (asked.exact n).1 (subst (λ m. IsAsked v 1 s None m) number (target, tt)),
      ))

  pub files-are : (ns : List ℕ) (back : List File) (origins : List Origin) → AreExactly (IsAsked v 1 s None) ns → AreRestored v bases 1 s ns back origins
      → back ≡ map backed_up copies
  files-are ns back origins asked are =
      are.are ∙ alike (λ (r : Restoration). r.number) (λ (a : Piece). a.file) restored_of backed_up are.restorations copies (are.numbers ∙ numbers-are ns asked)
      (λ r a here there number. restored-from r a (All-contains (IsRestoration v bases 1 s) are.restorations r are.each here) there number)

module _ (rs : List Record) (catalog : IsCatalog rs) (database : HasDatabase rs) (held : Option Held) (place : InPlace) (i s dbid : ℕ)
    (there : IsThere (nodes rs) i) (inside : outside (nodes rs) i s ≡ None)
    (some : (1 ≤ dbid) × (dbid < 2 ^ 32)) (d : Duplicate) (is : IsDuplicate held rs place i s dbid d) (later : List Record)
    (due : AreLater d.records later) (to : Held) (put : HoldsCopies to d.pieces) where
  abbrev w : World
  w = world_of rs

  abbrev files : List File
  files = is.recovered.files

  abbrev new : List Record
  new = records_of (catalog_at w dbid (moment_in rs) due.moment s files)

  -- with nothing in place, a restore to (1, s) puts the copies there
  pub copies-restored : (back : Recovered) (origins : List Origin) → Restores (Some to) later nothing 1 s None back origins
      → back.files ≡ map backed_up d.pieces
  copies-restored back origins restores =
      let here : Restores (Some to) new nothing 1 s None back origins =
      subst (λ (xs : List Record). Restores (Some to) xs nothing 1 s None back origins)
      (records-later rs catalog database held place i s dbid there inside some d is later due) restores in
      let told = duplicate-told w dbid (moment_in rs) due.moment s files in
      let typed = typed-later rs catalog database held place i s dbid there inside some d is later due in
      let valid = pieces-valid rs catalog database held place i s dbid there inside some is.recovered is.tells in
      let stand = subst (λ ps. HoldsCopies to ps) is.pieces put in
      let bare : (x : File) → Contains [] x → Contains (map backed_up (copies_of dbid s files)) x = λ x has. absurd (none-in x has) in
      files-are w dbid s files here.evidence.bases
      (backup-is w dbid (moment_in rs) due.moment s files typed valid to stand [] bare here.evidence here.is.at_hand)
      (backup-there w dbid (moment_in rs) due.moment s files typed valid to stand [] bare here.evidence here.is.at_hand)
      (λ k x at. (all-solid w (known_of is.tells.evidence) i s files is.tells.files k x at).created)
      here.numbers back.files origins
      (subst (λ (v : World). AreExactly (IsAsked v 1 s None) here.numbers) told here.asked)
      (subst (λ (v : World). AreRestored v here.evidence.bases 1 s here.numbers back.files origins) told here.restored)
      ∙ ap (map backed_up) (sym is.pieces)
