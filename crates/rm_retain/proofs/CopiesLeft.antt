-- The copies that are gathered before and after needless records went.
use Rattle.std.proofs.Common.{◌≡◌, ◌<◌, inl, inr, nat_lt, ℕ, List, [], ◌∷◌, Bool, subst, arith, map, filter, get_or, AllPairs, Contains}
use Rattle.std.proofs.lemmas.Bool.{lt-ltb, ltb-true}
use Rattle.rm_base.specs.{Store.{Held}, declared.kinds.Policy.{Policy}}
use Rattle.rm_base.proofs.Lists.{filter_from, filter_to, map_from, map_to, pairs-append, pairs-head, pairs-tail, only-in}
use Rattle.rm_catalog.specs.declared.record.Record.{Record}
use Rattle.rm_catalog.specs.declared.record.Record.TheVariants as records
use Rattle.rm_evidence.specs.{Gathered.{ByIdAndFile, IsGathered, IsBaseOf}, Database.{current_in, database_in, world_of}}
use Rattle.rm_evidence.specs.declared.evidence.{Evidence.{Evidence}, InPlace.{InPlace}}
use Rattle.rm_evidence.proofs.Backups.{backups-ascend, base-gathered, base-recorded}
use Rattle.rm_history.specs.declared.world.World.{World}
use Rattle.rm_piece.specs.declared.piece.Piece.{Piece}
use Rattle.rm_retain.specs.{Chosen.{Retention, Ascend}, Obsolete.{IsNeedlessBackup}}
use Rattle.rm_retain.specs.{Catalogued.{backup_of, backup_in, backups_of, copies_in, by_records, IsObsoleteRecord}, Cleared.{IsCleared}}
use Rattle.rm_retain.{specs.{Remaining.{AreRemaining, with_copies}, declared.copies.Backup.{Backup}}, proofs.Ranks.{IsEarlier}}
use Rattle.rm_retain.proofs.{Clearing.{base_had, base_stays}, SecondTime.{backup_again, log_again}}

ascend_copies : (xs : List (ℕ × Piece)) → AllPairs ByIdAndFile xs → Ascend (map backup_of xs)
ascend_copies [] ascend = λ i j d less inside. absurd (omega arith)
ascend_copies (x ∷ xs) ascend =
    pairs-append IsEarlier (backup_of x ∷ []) (map backup_of xs) (λ i j d less inside. absurd (omega arith)) (ascend_copies xs (pairs-tail ByIdAndFile x xs ascend))
    (λ a b first later.
    let s = map_from backup_of xs b later in
    subst (λ (y : Backup). IsEarlier y b) (only-in (backup_of x) a first) (subst (IsEarlier (backup_of x)) s.is (pairs-head ByIdAndFile x xs s.item ascend s.held)))

-- copies that are gathered ascend
pub gathered_ascend : (held : Held) (rs : List Record) (place : InPlace) (e : Evidence) → IsGathered held rs place e → Ascend (copies_in e)
gathered_ascend held rs place e gathered = ascend_copies (filter (λ x. nat_lt 0 x.0) e.bases) (backups-ascend held rs place e gathered)

-- a copy of a record, among those gathered
named_copy : (held : Held) (rs : List Record) (place : InPlace) (e : Evidence) → IsGathered held rs place e → (id : ℕ) (a : Piece) → 0 < id → IsBaseOf held rs id a → Contains (copies_in e) (backup_of (id, a))
named_copy held rs place e gathered id a some is =
    let p : (ℕ × Piece) → Bool = λ x. nat_lt 0 x.0 in
    map_to backup_of (filter p e.bases) (id, a) (filter_to p e.bases (id, a) (base-gathered held rs place e gathered id a is) (lt-ltb 0 id some))

-- and the other way round
pub record CopyOf (held : Held) (rs : List Record) (x : Backup) : Type 0 where
  pub id : ℕ
  pub piece : Piece
  pub some : 0 < id
  pub base : IsBaseOf held rs id piece
  pub is : backup_of (id, piece) ≡ x

copy_named : (held : Held) (rs : List Record) (place : InPlace) (e : Evidence) → IsGathered held rs place e → (x : Backup) → Contains (copies_in e) x → CopyOf held rs x
copy_named held rs place e gathered x in_copies =
    let p : (ℕ × Piece) → Bool = λ y. nat_lt 0 y.0 in
    let s = map_from backup_of (filter p e.bases) x in_copies in
    let from = filter_from p e.bases s.item s.held in
    let some = ltb-true 0 s.item.0 from.1 in
    record { id = s.item.0; piece = s.item.1; some = some; base = base-recorded held rs place e gathered s.item.0 s.item.1 some from.0; is = s.is }

module _ (held now : Held) (rs left : List Record) (place : InPlace) (old new : Evidence) (policy : Policy) (start : ℕ) (before : IsGathered held rs place old) (after : IsGathered now left place new) (cleared : IsCleared (by_records rs old policy start) rs left held now) (same : database_in left ≡ database_in rs) where
  copies_left : AreRemaining (by_records rs old policy start) (copies_in new)
  copies_left =
      let r = by_records rs old policy start in
      record {
        ascend = gathered_ascend held rs place old before;
        ascend_left = gathered_ascend now left place new after;
        had = λ x in_new.
            let c = copy_named now left place new after x in_new in
            subst (Contains (copies_in old)) c.is (named_copy held rs place old before c.id c.piece c.some (base_had held now rs left r cleared same c.id c.piece c.base));
        stays = λ x in_old.
            let c = copy_named held rs place old before x in_old in
            elim (base_stays held now rs left r cleared same c.id c.piece c.base) [
              | inl stay ↦ inl (subst (Contains (copies_in new)) c.is (named_copy now left place new after c.id c.piece c.some stay))
              | inr gone ↦ inr (subst (IsNeedlessBackup r) c.is gone.needless)
            ];
      }

  obsolete_again : (row : Record) → IsObsoleteRecord (with_copies (by_records rs old policy start) (copies_in new)) row → IsObsoleteRecord (by_records rs old policy start) row
  obsolete_again (records.Log l) is = record { policy = is.policy; not_kept = is.not_kept; needless = log_again (by_records rs old policy start) (copies_in new) copies_left l.inc l.next is.needless }
  obsolete_again (records.Piece p) is = record { policy = is.policy; not_kept = is.not_kept; needless = backup_again (by_records rs old policy start) (copies_in new) copies_left (backup_in p) is.needless }
  obsolete_again (records.Set e) is = record { policy = is.policy; not_kept = is.not_kept; needless = λ k d inside. backup_again (by_records rs old policy start) (copies_in new) copies_left (get_or (backups_of e) k d) (is.needless k d inside) }
  obsolete_again _ is = absurd is

  -- what is obsolete by what is left was obsolete
  pub was_obsolete : world_of left ≡ world_of rs → current_in left ≡ current_in rs → (row : Record) → IsObsoleteRecord (by_records left new policy start) row → IsObsoleteRecord (by_records rs old policy start) row
  was_obsolete world current row is =
      let made : World → ℕ → Retention = λ w c. record { world = w; current = c; policy = policy; start = start; copies = copies_in new } in
      obsolete_again row (subst (λ c. IsObsoleteRecord (made (world_of rs) c) row) current (subst (λ w. IsObsoleteRecord (made w (current_in left)) row) world is))
