-- Where the copies stand under their names, and nothing but some of them is in place, what is at hand of a duplicate is
-- the copies, and nothing else.
use Rattle.std.{specs.List.{enumerate_from}, proofs.Common.{◌≡◌, ◌<◌, ◌∙◌, inl, inr, ℕ, List, [], ◌∷◌, map, Contains, All, refl, sym, ap, subst, arith}}
use Rattle.std.proofs.lemmas.{List.Elements.{All-contains, Contains-append_cases, Contains-append_right}, Option.{same_Some}}
use Rattle.rm_apply.specs.Restore.{backed_up}
use Rattle.rm_base.{specs.{Store.{Held}, declared.kinds.Kind.{Kind, TheVariants.{Level0, Level1}}}, proofs.Lists.{map_from, map_to}}
use Rattle.rm_base.proofs.Members.{in-front, none-in}
use Rattle.rm_blocks.specs.File.{File}
use Rattle.rm_catalog.specs.declared.record.{PieceEntry.{PieceEntry}, Record.{Record}}
use Rattle.rm_catalog_typed.specs.{Changes.{with_moment}, Facts.{IsTypedCatalog}, TypedCatalog.{TypedCatalog, records_of}}
use Rattle.rm_catalog_typed.proofs.{Members.{log-in, piece-has, piece-in, set-in}, Records.{world-told}}
use Rattle.rm_evidence.specs.{Available.{HasPieceObject}, Database.{database_in, dbid_in, world_of}}
use Rattle.rm_evidence.specs.{Gathered.{IsBaseOf, IsGathered, IsLevel1Of, IsLogOf, IsPieceAmong, placed, placed_piece}, Known.{known_of}}
use Rattle.rm_evidence.specs.declared.evidence.Evidence.{Evidence}
use Rattle.rm_history.specs.declared.world.World.{World}
use Rattle.rm_history.specs.Artefacts as artefact
use Rattle.rm_piece.specs.{Artefacts.{base_of, level1_of}, Spelling.{spelling}, Valid.{IsPiece}, declared.piece.Piece.{Piece}}
use Rattle.rm_piece.proofs.Fitting.{spelling_same}
use Rattle.rm_redo.specs.{LogFile.{log_of}, declared.log_file.LogFile.{LogFile}}
use Rattle.rm_dup.specs.{Copies.{copies_of, copy_as, duplicated}, Entries.{HoldsCopies, catalog_of, entry_of, standing}}
use Rattle.rm_dup.proofs.Back.{AreCopies, base_as}

-- the catalog of a duplicate, at this moment
abbrev pub catalog_at : World → (dbid moment now s : ℕ) → List File → TypedCatalog
catalog_at w dbid moment now s files = with_moment (catalog_of w dbid moment s files) now

none-of : {X : Type 0} (xs : List X) → ((x : X) → ¬ Contains xs x) → xs ≡ []
none-of [] none = refl
none-of (x ∷ xs) none = absurd (none x (in-front x xs))

not-level1 : ¬ (◌≡◌ {A = Kind} Level0 Level1)
not-level1 is = cc

module _ (w : World) (dbid moment now s : ℕ) (files : List File) (typed : IsTypedCatalog (catalog_at w dbid moment now s files)) (valid : All IsPiece (copies_of dbid s files)) (held : Held)
    (put : HoldsCopies held (copies_of dbid s files)) (stand : List File) (from : (x : File) → Contains stand x → Contains (map backed_up (copies_of dbid s files)) x) (e : Evidence)
    (is : IsGathered held (records_of (catalog_at w dbid moment now s files)) (standing stand) e) where
  abbrev copies : List Piece
  copies = copies_of dbid s files

  abbrev new : TypedCatalog
  new = catalog_at w dbid moment now s files

  abbrev rs : List Record
  rs = records_of new

  piece-valid : (a : Piece) → Contains copies a → IsPiece a
  piece-valid a has = All-contains IsPiece copies a valid has

  -- what the store has of the record of a copy is the copy
  piece-is : (a : Piece) → Contains copies a → (b : Piece) → HasPieceObject held (entry_of moment a) b → b ≡ a
  piece-is a has b at =
      let bytes = same_Some (spelling a) at.bytes (sym (put a has) ∙ at.there) in
      spelling_same b a at.object.valid (piece-valid a has) (sym (bytes ∙ at.object.spelled))

  has-object : (a : Piece) → Contains copies a → HasPieceObject held (entry_of moment a) a
  has-object a has = record {
    status = refl;
    bytes = spelling a;
    there = put a has;
    object = record {
      digest = record { size = refl; sha = refl };
      valid = piece-valid a has;
      spelled = refl;
      fields = record { kind = refl; inc = refl; file = refl; from = refl; checkpoint = refl; high = refl; rows = refl };
    };
  }

  level0 : (a : Piece) → Contains copies a → a.kind ≡ Level0
  level0 a has = let of = map_from (copy_as dbid s) (enumerate_from 1 files) a has in sym (ap (λ (b : Piece). b.kind) of.is)

  -- each piece at hand is a copy, and each copy is at hand
  piece-from : (id : ℕ) (b : Piece) → IsPieceAmong held (database_in rs) rs id b → Contains copies b
  piece-from id b (inl (p, has, named, at)) =
      let of = map_from (entry_of moment) copies p (piece-in new p typed has) in
      let same = piece-is of.item of.held b (subst (λ (q : PieceEntry). HasPieceObject held q b) (sym of.is) at) in
      subst (λ (x : Piece). Contains copies x) (sym same) of.held
  piece-from id b (inr (t, has, named, r, object, m, member, same)) = absurd (none-in t (set-in new t typed has))

  base-to : (a : Piece) → Contains copies a → IsBaseOf held rs a.file a
  base-to a has =
      (inl (entry_of moment a, piece-has new (entry_of moment a) (map_to (entry_of moment) copies a has), refl, has-object a has), λ one. not-level1 (sym (level0 a has) ∙ one))

  -- what is in place, as evidence
  abbrev in_front : List (ℕ × Piece)
  in_front = placed (map (placed_piece (dbid_in rs)) stand)

  -- a copy, as evidence
  copy-in : (a : Piece) → Contains copies a → Contains (map (base_as s) (enumerate_from 1 files)) (base_of a)
  copy-in a has =
      let of = map_from (copy_as dbid s) (enumerate_from 1 files) a has in
      subst (λ (y : artefact.Base). Contains (map (base_as s) (enumerate_from 1 files)) y) (ap base_of of.is) (map_to (base_as s) (enumerate_from 1 files) of.item of.held)

  -- what is in place tells as much as the copy that was restored
  placed-in : (x : ℕ × Piece) → Contains in_front x → Contains (map (base_as s) (enumerate_from 1 files)) (base_of x.1)
  placed-in x has =
      let under = map_from (λ (a : Piece). (0, a)) (map (placed_piece (dbid_in rs)) stand) x has in
      let file = map_from (placed_piece (dbid_in rs)) stand under.item under.held in
      let copy = map_from backed_up copies file.item (from file.item file.held) in
      let same : base_of copy.item ≡ base_of x.1 = ap (λ (y : File). base_of (placed_piece (dbid_in rs) y)) copy.is ∙ ap base_of file.is ∙ ap (λ (y : ℕ × Piece). base_of y.1) under.is in
      subst (λ (y : artefact.Base). Contains (map (base_as s) (enumerate_from 1 files)) y) same (copy-in copy.item copy.held)

  -- each backup at hand is a copy, and each copy is one
  pub backup-is : (x : ℕ × Piece) → Contains e.bases x → 0 < x.0 → Contains copies x.1
  backup-is x has some = elim (Contains-append_cases in_front is.bases.rest x (subst (λ (xs : List (ℕ × Piece)). Contains xs x) is.bases.list has)) [
    | inl here ↦
        let under = map_from (λ (a : Piece). (0, a)) (map (placed_piece (dbid_in rs)) stand) x here in
        let none = ap (λ (y : ℕ × Piece). y.0) under.is in
        absurd (omega (arith, none, some))
    | inr rest ↦ piece-from x.0 x.1 ((is.bases.exact x.0 x.1).0 rest).0
  ]

  pub backup-there : (a : Piece) → Contains copies a → Contains e.bases (a.file, a)
  backup-there a has =
      subst (λ (xs : List (ℕ × Piece)). Contains xs (a.file, a)) (sym is.bases.list)
      (Contains-append_right in_front is.bases.rest (a.file, a) ((is.bases.exact a.file a).1 (base-to a has)))

  base-in : (b : artefact.Base) → Contains (known_of e).bases b → Contains (map (base_as s) (enumerate_from 1 files)) b
  base-in b has =
      let found = map_from (λ (x : ℕ × Piece). base_of x.1) e.bases b has in
      let all = subst (λ (xs : List (ℕ × Piece)). Contains xs found.item) is.bases.list found.held in
      let told : Contains (map (base_as s) (enumerate_from 1 files)) (base_of found.item.1) = elim (Contains-append_cases in_front is.bases.rest found.item all) [
        | inl here ↦ placed-in found.item here
        | inr rest ↦ copy-in found.item.1 (piece-from found.item.0 found.item.1 ((is.bases.exact found.item.0 found.item.1).0 rest).0)
      ] in
      subst (λ (y : artefact.Base). Contains (map (base_as s) (enumerate_from 1 files)) y) found.is told

  base-has : (b : artefact.Base) → Contains (map (base_as s) (enumerate_from 1 files)) b → Contains (known_of e).bases b
  base-has b has =
      let of = map_from (base_as s) (enumerate_from 1 files) b has in
      let a = copy_as dbid s of.item in
      let all = backup-there a (map_to (copy_as dbid s) (enumerate_from 1 files) of.item of.held) in
      subst (λ (y : artefact.Base). Contains (known_of e).bases y) of.is (map_to (λ (y : ℕ × Piece). base_of y.1) e.bases (a.file, a) all)

  not-one : (id : ℕ) (b : Piece) → ¬ IsLevel1Of held rs id b
  not-one id b (among, one) = not-level1 (sym (level0 b (piece-from id b among)) ∙ one)

  no-log : (id : ℕ) (b : LogFile) → ¬ IsLogOf held rs id b
  no-log id b (l, has, named, at) = none-in l (log-in new l typed has)

  pub at-hand : AreCopies s files (known_of e)
  at-hand = record {
    bases = λ b. (base-in b, base-has b);
    no_level1 = ap (map (λ (x : ℕ × Piece). level1_of x.1)) (none-of e.level1s (λ x has.
        let rest = subst (λ (xs : List (ℕ × Piece)). Contains xs x) is.level1s.list has in
        not-one x.0 x.1 ((is.level1s.exact x.0 x.1).0 rest)));
    no_log = ap (map (λ (x : ℕ × LogFile). log_of x.1)) (none-of e.logs (λ x has.
        let rest = subst (λ (xs : List (ℕ × LogFile)). Contains xs x) is.logs.list has in
        no-log x.0 x.1 ((is.logs.exact x.0 x.1).0 rest)));
  }

-- the database that the records of a duplicate tell
pub duplicate-told : (w : World) (dbid moment now s : ℕ) (files : List File) → world_of (records_of (catalog_at w dbid moment now s files)) ≡ duplicated w s files
duplicate-told w dbid moment now s files = world-told (catalog_at w dbid moment now s files)
