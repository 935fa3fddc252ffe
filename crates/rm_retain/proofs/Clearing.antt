-- What is gathered before and after obsolete records went.
use Rattle.std.proofs.Common.{◌≡◌, ◌<◌, ◌∙◌, ◌⊎◌, inl, inr, nat_lt, ℕ, List, [], refl, ap, sym, subst, map, filter, Contains}
use Rattle.std.proofs.lemmas.{List.Elements.{All-contains}, Bool.{ltb-true}}
use Rattle.rm_base.{specs.Store.{Held}, proofs.{Members.{none-in}, Lists.{filter_from, map_from, map_to}}}
use Rattle.rm_catalog.specs.{Keys.{part_piece}, declared.record.{PieceEntry.{PieceEntry}, Record.{Record}, SetEntry.{SetEntry}}}
use Rattle.rm_catalog.specs.declared.record.SetPart.{SetPart}
use Rattle.rm_catalog.specs.declared.record.Record.TheVariants as records
use Rattle.rm_blocks.specs.File.{File}
use Rattle.rm_evidence.specs.{Available.{HasPieceObject, HasSetObject}, Database.{Database, database_in, dbid_in}}
use Rattle.rm_evidence.specs.{Gathered.{IsGathered, IsPieceAmong, IsBaseOf, IsLevel1Of, IsLogOf, placed, placed_piece}, Known.{known_of}}
use Rattle.rm_evidence.specs.{Names.{piece_name, set_name}, Objects.{IsSetObject}, declared.evidence.Evidence.{Evidence}}
use Rattle.rm_evidence.{specs.declared.evidence.InPlace.{InPlace}, proofs.{Backups.{base-recorded}, Parts.{part-of}}}
use Rattle.rm_evidence.proofs.Going.{seen, IsOfGone, named_had, named_seen, named_stays}
use Rattle.rm_history.specs.{Artefacts.{Base, Level1, Log}, declared.world.World.{World}}
use Rattle.rm_piece.specs.{Artefacts.{base_of, level1_of}, Sets.{IsMember}, Valid.{IsPiece}, declared.{piece.Piece.{Piece}, set.Set.{Set}}}
use Rattle.rm_piece.specs.declared.set.SetFile.{SetFile}
use Rattle.rm_redo.specs.{LogFile.{log_of}, declared.log_file.LogFile.{LogFile}}
use Rattle.rm_retain.specs.{Chosen.{Retention}, Obsolete.{IsNeedlessBackup, IsNeedlessLog}}
use Rattle.rm_retain.specs.Catalogued.{backup_of, backup_in, backups_of, copies_in}
use Rattle.rm_retain.specs.{Losing.{Describes, IsWhole, HasCopy, IsGone, LosesNeedless}, Cleared.{IsCleared}}
use Rattle.rm_retain.specs.declared.copies.Backup.{Backup}

-- a piece that a needless record describes
pub record PieceGone (r : Retention) (id : ℕ) (a : Piece) : Type 0 where
  pub valid : IsPiece a
  pub needless : IsNeedlessBackup r (backup_of (id, a))

described : (id : ℕ) (a : Piece) → IsPiece a → Describes (backup_of (id, a)) a.inc a.file a.checkpoint a.rows
described id a valid = record { inc = refl; file = refl; checkpoint = refl; high = valid.high }

-- what is at hand of a record is valid
pub piece_valid : (held : Held) (base : Database) (rs : List Record) (id : ℕ) (a : Piece) → IsPieceAmong held base rs id a → IsPiece a
piece_valid held base rs id a (inl own) = own.3.object.valid
piece_valid held base rs id a (inr set) = subst IsPiece set.7 (All-contains (IsMember set.3) set.3.members set.5 set.4.object.valid.members set.6).piece

-- files in place are the same copies, whatever number the database has
placed_base : (d e : ℕ) (files : List File) (x : ℕ × Piece) → Contains (placed (map (placed_piece d) files)) x → Contains (seen base_of (placed (map (placed_piece e) files))) (base_of x.1)
placed_base d e files x held =
    let s = map_from (λ (a : Piece). (0, a)) (map (placed_piece d) files) x held in
    let t = map_from (placed_piece d) files s.item s.held in
    let here : base_of (placed_piece e t.item) ≡ base_of x.1 = ap base_of t.is ∙ ap (λ (y : ℕ × Piece). base_of y.1) s.is in
    subst (Contains (seen base_of (placed (map (placed_piece e) files)))) here
    (map_to (λ (y : ℕ × Piece). base_of y.1) (placed (map (placed_piece e) files)) (0, placed_piece e t.item) (map_to (λ (a : Piece). (0, a)) (map (placed_piece e) files) (placed_piece e t.item) (map_to (placed_piece e) files t.item t.held)))

pub same_backup : (x y : Backup) → x.id ≡ y.id → x.inc ≡ y.inc → x.file ≡ y.file → x.checkpoint ≡ y.checkpoint → x.high ≡ y.high → x ≡ y
same_backup x y id inc file checkpoint high =
    let first : ℕ → Backup = λ n. record x { id = n } in
    let second : ℕ → Backup = λ n. record x { id = y.id; inc = n } in
    let third : ℕ → Backup = λ n. record x { id = y.id; inc = y.inc; file = n } in
    let fourth : ℕ → Backup = λ n. record x { id = y.id; inc = y.inc; file = y.file; checkpoint = n } in
    let fifth : ℕ → Backup = λ n. record { id = y.id; inc = y.inc; file = y.file; checkpoint = y.checkpoint; high = n } in
    ap first id ∙ ap second inc ∙ ap third file ∙ ap fourth checkpoint ∙ ap fifth high

-- the record of a piece describes its piece
own_backup : (held : Held) (p : PieceEntry) (id : ℕ) (a : Piece) → p.id ≡ id → HasPieceObject held p a → backup_in p ≡ backup_of (id, a)
own_backup held p id a number has =
    let f = has.object.fields in
    same_backup (backup_in p) (backup_of (id, a)) number (sym f.inc) (sym f.file) (sym f.checkpoint) (sym f.high)

-- and a part of the record of a set its member
part_backup : (held : Held) (base : Database) (e : SetEntry) (s : Set) (m : SetFile) (id : ℕ) (a : Piece) → e.id ≡ id → HasSetObject held base e s → Contains s.members m → m.piece ≡ a → Contains (backups_of e) (backup_of (id, a))
part_backup held base e s m id a number has member is =
    let f = has.object.fields in
    let of = (All-contains (IsMember s) s.members m has.object.valid.members member).of in
    let found = part-of e.parts s.members m f.parts member in
    let p = found.2 in
    let same : backup_in (part_piece e found.0) ≡ backup_of (id, m.piece) =
    same_backup (backup_in (part_piece e found.0)) (backup_of (id, m.piece)) number (sym (of.inc ∙ f.inc)) (sym p.file) (sym (of.checkpoint ∙ f.checkpoint)) (sym p.high) in
    subst (Contains (backups_of e)) (same ∙ ap (λ (b : Piece). backup_of (id, b)) is) (map_to (λ (q : SetPart). backup_in (part_piece e q)) e.parts found.0 found.1)

-- an object that stands in another store is one there
piece_moved : (held now : Held) (p : PieceEntry) (a : Piece) → now (piece_name p.copy p.id) ≡ held (piece_name p.copy p.id) → HasPieceObject held p a → HasPieceObject now p a
piece_moved held now p a stands has = record { status = has.status; bytes = has.bytes; there = stands ∙ has.there; object = has.object }

set_moved : (held now : Held) (base other : Database) (e : SetEntry) (s : Set) → base ≡ other → now (set_name e.id) ≡ held (set_name e.id) → HasSetObject held base e s → HasSetObject now other e s
set_moved held now base other e s same stands has =
    record { status = has.status; bytes = has.bytes; there = stands ∙ has.there; object = subst (λ (d : Database). IsSetObject d e has.bytes s) same has.object }

module _ (held now : Held) (rs left : List Record) (r : Retention) (cleared : IsCleared r rs left held now) (same : database_in left ≡ database_in rs) where
  among_had : (id : ℕ) (a : Piece) → IsPieceAmong now (database_in left) left id a → IsPieceAmong held (database_in rs) rs id a
  among_had id a (inl own) = inl (own.0, cleared.had (records.Piece own.0) own.1, own.2, piece_moved now held own.0 a (sym (cleared.pieces own.0 own.1)) own.3)
  among_had id a (inr set) = inr (set.0, cleared.had (records.Set set.0) set.1, set.2, set.3, set_moved now held (database_in left) (database_in rs) set.0 set.3 same (sym (cleared.sets set.0 set.1)) set.4, set.5, set.6, set.7)

  piece_stays : (id : ℕ) (a : Piece) → IsPieceAmong held (database_in rs) rs id a → IsPieceAmong now (database_in left) left id a ⊎ PieceGone r id a
  piece_stays id a (inl own) = elim (cleared.stays (records.Piece own.0) own.1) [
    | inl row ↦ inl (inl (own.0, row, own.2, piece_moved held now own.0 a (cleared.pieces own.0 row) own.3))
    | inr obsolete ↦ inr (record { valid = own.3.object.valid; needless = subst (IsNeedlessBackup r) (own_backup held own.0 id a own.2 own.3) obsolete.needless })
  ]
  piece_stays id a (inr set) = elim (cleared.stays (records.Set set.0) set.1) [
    | inl row ↦ inl (inr (set.0, row, set.2, set.3, set_moved held now (database_in rs) (database_in left) set.0 set.3 (sym same) (cleared.sets set.0 row) set.4, set.5, set.6, set.7))
    | inr obsolete ↦ inr (record {
      valid = piece_valid held (database_in rs) rs id a (inr set);
      needless = All-contains (IsNeedlessBackup r) (backups_of set.0) (backup_of (id, a)) obsolete.needless (part_backup held (database_in rs) set.0 set.3 set.5 id a set.2 set.4 set.6 set.7);
    })
  ]

  pub base_had : (id : ℕ) (a : Piece) → IsBaseOf now left id a → IsBaseOf held rs id a
  base_had id a is = (among_had id a is.0, is.1)

  level1_had : (id : ℕ) (a : Piece) → IsLevel1Of now left id a → IsLevel1Of held rs id a
  level1_had id a is = (among_had id a is.0, is.1)

  -- a copy of a record is at hand, or needless
  pub base_stays : (id : ℕ) (a : Piece) → IsBaseOf held rs id a → IsBaseOf now left id a ⊎ PieceGone r id a
  base_stays id a is = elim (piece_stays id a is.0) [ inl stay ↦ inl (stay, is.1) | inr gone ↦ inr gone ]

  level1_stays : (id : ℕ) (a : Piece) → IsLevel1Of held rs id a → IsLevel1Of now left id a ⊎ PieceGone r id a
  level1_stays id a is = elim (piece_stays id a is.0) [ inl stay ↦ inl (stay, is.1) | inr gone ↦ inr gone ]

  log_had : (id : ℕ) (a : LogFile) → IsLogOf now left id a → IsLogOf held rs id a
  log_had id a is = (is.0, cleared.had (records.Log is.0) is.1, is.2, record { status = is.3.status; bytes = is.3.bytes; there = sym (cleared.logs is.0 is.1) ∙ is.3.there; object = is.3.object })

  log_stays : (id : ℕ) (a : LogFile) → IsLogOf held rs id a → IsLogOf now left id a ⊎ IsNeedlessLog r a.inc a.next
  log_stays id a is = elim (cleared.stays (records.Log is.0) is.1) [
    | inl row ↦ inl (is.0, row, is.2, record { status = is.3.status; bytes = is.3.bytes; there = cleared.logs is.0 row ∙ is.3.there; object = is.3.object })
    | inr obsolete ↦
        let f = is.3.object.fields in
        inr (subst (IsNeedlessLog r a.inc) (sym f.next) (subst (λ k. IsNeedlessLog r k is.0.next) (sym f.inc) obsolete.needless))
  ]

  -- the copy of a record is at hand, or the record is needless
  pub copy_stays : (w : World) (place : InPlace) (old new : Evidence) → ((y : ℕ × Piece) → Contains old.bases y → 0 < y.0 → IsWhole w (base_of y.1)) → IsGathered held rs place old → IsGathered now left place new → (x : Backup) → Contains (copies_in old) x → HasCopy w (known_of new) x ⊎ IsNeedlessBackup r x
  copy_stays w place old new whole before after x in_copies =
      let s = map_from backup_of (filter (λ (y : ℕ × Piece). nat_lt 0 y.0) old.bases) x in_copies in
      let from = filter_from (λ (y : ℕ × Piece). nat_lt 0 y.0) old.bases s.item s.held in
      let some = ltb-true 0 s.item.0 from.1 in
      let first = placed (map (placed_piece (dbid_in rs)) place.files) in
      let is = base-recorded held rs place old before s.item.0 s.item.1 some from.0 in
      elim (base_stays s.item.0 s.item.1 is) [
        | inl stay ↦ inl (record {
          copy = base_of s.item.1;
          held = named_seen base_of first (placed (map (placed_piece (dbid_in left)) place.files)) old.bases new.bases (IsBaseOf held rs) (IsBaseOf now left) before.bases after.bases s.item.0 s.item.1 stay;
          described = subst (λ (y : Backup). Describes y s.item.1.inc s.item.1.file s.item.1.checkpoint s.item.1.rows) s.is (described s.item.0 s.item.1 (piece_valid held (database_in rs) rs s.item.0 s.item.1 is.0));
          whole = whole s.item from.0 some;
        })
        | inr gone ↦ inr (subst (IsNeedlessBackup r) s.is gone.needless)
      ]

  is_gone : (id : ℕ) (a : Piece) → PieceGone r id a → IsGone r a.inc a.file a.checkpoint a.rows
  is_gone id a gone = record { backup = backup_of (id, a); described = described id a gone.valid; needless = gone.needless }

  gone_base : (b : Base) → IsOfGone base_of (PieceGone r) b → IsGone r b.inc b.file b.checkpoint b.rows
  gone_base b gone =
      subst (λ (y : Base). IsGone r y.inc y.file y.checkpoint y.rows) gone.is (is_gone gone.id gone.item gone.gone)

  gone_level1 : (b : Level1) → IsOfGone level1_of (PieceGone r) b → IsGone r b.inc b.file b.checkpoint b.rows
  gone_level1 b gone =
      subst (λ (y : Level1). IsGone r y.inc y.file y.checkpoint y.rows) gone.is (is_gone gone.id gone.item gone.gone)

  gone_log : (b : Log) → IsOfGone log_of (λ id a. IsNeedlessLog r a.inc a.next) b → IsNeedlessLog r b.inc b.next
  gone_log b gone = subst (λ (y : Log). IsNeedlessLog r y.inc y.next) gone.is gone.gone

  either_gone : {X Y Z : Type 0} → (Y → Z) → X ⊎ Y → X ⊎ Z
  either_gone f (inl x) = inl x
  either_gone f (inr y) = inr (f y)

  -- what is gathered is left
  pub gathered_left : (place : InPlace) (old new : Evidence) → r.copies ≡ copies_in old → ((y : ℕ × Piece) → Contains old.bases y → 0 < y.0 → IsWhole r.world (base_of y.1)) → IsGathered held rs place old → IsGathered now left place new → LosesNeedless r (known_of old) (known_of new)
  gathered_left place old new copies whole before after =
      let first = placed (map (placed_piece (dbid_in rs)) place.files) in
      let last = placed (map (placed_piece (dbid_in left)) place.files) in
      record {
        bases_had = named_had base_of first last old.bases new.bases (IsBaseOf held rs) (IsBaseOf now left) before.bases after.bases (placed_base (dbid_in left) (dbid_in rs) place.files) base_had;
        level1s_had = named_had level1_of [] [] old.level1s new.level1s (IsLevel1Of held rs) (IsLevel1Of now left) before.level1s after.level1s (λ x none. absurd (none-in x none)) level1_had;
        logs_had = named_had log_of (placed place.logs) (placed place.logs) old.logs new.logs (IsLogOf held rs) (IsLogOf now left) before.logs after.logs (λ x in_place. map_to (λ (y : ℕ × LogFile). log_of y.1) (placed place.logs) x in_place) log_had;
        bases = λ a at_hand. either_gone (gone_base a) (named_stays base_of first last old.bases new.bases (IsBaseOf held rs) (IsBaseOf now left) before.bases after.bases (placed_base (dbid_in rs) (dbid_in left) place.files) (PieceGone r) base_stays a at_hand);
        level1s = λ a at_hand. either_gone (gone_level1 a) (named_stays level1_of [] [] old.level1s new.level1s (IsLevel1Of held rs) (IsLevel1Of now left) before.level1s after.level1s (λ x none. absurd (none-in x none)) (PieceGone r) level1_stays a at_hand);
        logs = λ a at_hand. either_gone (gone_log a) (named_stays log_of (placed place.logs) (placed place.logs) old.logs new.logs (IsLogOf held rs) (IsLogOf now left) before.logs after.logs (λ x in_place. map_to (λ (y : ℕ × LogFile). log_of y.1) (placed place.logs) x in_place) (λ id a. IsNeedlessLog r a.inc a.next) log_stays a at_hand);
        copies = λ x named. copy_stays r.world place old new whole before after x (subst (λ (xs : List Backup). Contains xs x) copies named);
      }
