-- What is at hand agrees with the history, where digests tell.
use Rattle.std.proofs.Common.{◌≡◌, ◌≢◌, ◌+◌, ◌-◌, ◌∙◌, inl, inr, ℕ, suc, List, [], Option, Some, None, refl, ap, sym, subst, arith, All, Contains, slice_index_or}
use Rattle.std.proofs.lemmas.List.Elements.{All-contains}
use Rattle.rm_base.specs.{Store.{Held}, declared.{block.Change.{Change}, kinds.Kind.{Kind, TheVariants.{Full, Level0, Level1, Place}}}}
use Rattle.rm_base.proofs.{Lists.{map_from}, Members.{none-in}, Slots.{index-get}}
use Rattle.rm_catalog.specs.declared.record.{LogEntry.{LogEntry}, PieceEntry.{PieceEntry}, SetEntry.{SetEntry}}
use Rattle.rm_evidence.specs.{Available.{HasLogObject, HasPieceObject, HasSetObject}, Gathered.{IsGathered}, Known.{known_of}}
use Rattle.rm_evidence.specs.{Seen.{IsSeen}, Names.{log_name, piece_name, set_name}, declared.evidence.Evidence.{Evidence}}
use Rattle.rm_history.specs.{Agrees.{BaseAgrees, Level1Agrees, LogAgrees}, History.{IsHistory}, declared.world.World.{World}}
use Rattle.rm_history.specs.Evidence as known
use Rattle.rm_piece.specs.{Artefacts.{base_of, level1_of}, SetSpelling.{set_spelling}, declared.{piece.Piece.{Piece}, set.Set.{Set}}}
use Rattle.rm_piece.{specs.declared.set.SetFile.{SetFile}, proofs.Fitting.{spelling_same as piece_same}}
use Rattle.rm_piece.proofs.SetFitting.{spelling_same as set_same}
use Rattle.rm_piece.specs.Spelling as piece_format
use Rattle.rm_redo.{specs.{LogFile.{log_of}, declared.log_file.LogFile.{LogFile}}, proofs.LogFitting.{spelling_same as log_same}}
use Rattle.rm_redo.specs.LogFormat as log_format
use Rattle.rm_machine.specs.{Damage.{has_file}, Effect.{Made, a_log, a_piece, a_set}}
use Rattle.rm_machine.specs.Machine.{DigestsTell, DigestsTellFor, IsBorneOut, IsSoundBy, IsTrueArtefact, Machine, PieceAgrees, TellBy}
use Rattle.rm_machine.specs.{Recovery.{IsAtHand, in_place}, State.{ledger, world}, declared.state.State.{State}}
use Rattle.rm_machine.proofs.Places.{placed-is}
use Rattle.rm_catalog_typed.specs.{TypedCatalog.{records_of}, Worlds.{database_of}}
use Rattle.rm_machine_laws.proofs.AtHand.{BackupFrom, BaseFrom, Level1From, LogFrom, base-from, from_copy, from_log, from_online, from_piece, from_place, from_set, level1-from, log-from}

-- a piece that is no level 1 agrees as a copy
as-base : (w : World) (h : List Change) (k : Kind) (a : Piece) → k ≢ Level1 → PieceAgrees w h k a → BaseAgrees w h (base_of a)
as-base w h Full a not agrees = agrees
as-base w h Level0 a not agrees = agrees
as-base w h Level1 a not agrees = absurd (not refl)
as-base w h Place a not agrees = agrees

module _ (s : State) (h : List Change) (objects : Held) (made : List Made) (touched : List (List ℕ)) (borne : IsBorneOut s h objects made touched) (tells : DigestsTellFor objects made touched (ledger s)) where
  -- an available log is the one that was recorded
  pub log-agrees : (l : LogEntry) (a : LogFile) → Contains (ledger s).logs l → HasLogObject objects l a → LogAgrees h (log_of a)
  log-agrees l a has there =
      let kept = borne.records.logs l has in
      let was : Made = record { name = log_name l.id; artefact = a_log kept.artefact } in
      let is : IsTrueArtefact (world s) h (a_log kept.artefact) = borne.artefacts was kept.is in
      let bytes : there.bytes ≡ log_format.spelling kept.artefact = elim kept.there [
        | inl given ↦ tells.logs l kept.artefact there.bytes given has kept.is kept.digest there.there there.object.digest
        | inr stands ↦ let one : Some there.bytes ≡ Some (log_format.spelling kept.artefact) = sym there.there ∙ stands in cc
      ] in
      let same : kept.artefact ≡ a = log_same kept.artefact a is.valid there.object.valid (sym bytes ∙ there.object.spelled) in
      subst (λ x. LogAgrees h (log_of x)) same is.agrees

  -- an available piece is the one that was recorded
  piece-agrees : (p : PieceEntry) (a : Piece) → Contains (ledger s).pieces p → HasPieceObject objects p a → PieceAgrees (world s) h a.kind a
  piece-agrees p a has there =
      let kept = borne.records.pieces p has in
      let was : Made = record { name = piece_name p.copy p.id; artefact = a_piece kept.artefact } in
      let is : IsTrueArtefact (world s) h (a_piece kept.artefact) = borne.artefacts was kept.is in
      let bytes : there.bytes ≡ piece_format.spelling kept.artefact = elim kept.there [
        | inl given ↦ tells.pieces p kept.artefact there.bytes given has kept.is kept.digest there.there there.object.digest
        | inr stands ↦ let one : Some there.bytes ≡ Some (piece_format.spelling kept.artefact) = sym there.there ∙ stands in cc
      ] in
      let same : kept.artefact ≡ a = piece_same kept.artefact a is.valid there.object.valid (sym bytes ∙ there.object.spelled) in
      subst (λ (x : Piece). PieceAgrees (world s) h x.kind x) same is.agrees

  -- an available set is the one that was recorded
  set-agrees : (e : SetEntry) (a : Set) → Contains (ledger s).sets e → HasSetObject objects (database_of (ledger s)) e a → All (λ m. PieceAgrees (world s) h m.piece.kind m.piece) a.members
  set-agrees e a has there =
      let kept = borne.records.sets e has in
      let was : Made = record { name = set_name e.id; artefact = a_set kept.artefact } in
      let is : IsTrueArtefact (world s) h (a_set kept.artefact) = borne.artefacts was kept.is in
      let bytes : there.bytes ≡ set_spelling kept.artefact = elim kept.there [
        | inl given ↦ tells.sets e kept.artefact there.bytes given has kept.is kept.digest there.there there.object.digest
        | inr stands ↦ let one : Some there.bytes ≡ Some (set_spelling kept.artefact) = sym there.there ∙ stands in cc
      ] in
      let same : kept.artefact ≡ a = set_same kept.artefact a is.valid there.object.valid (sym bytes ∙ there.object.spelled) in
      subst (λ (x : Set). All (λ m. PieceAgrees (world s) h m.piece.kind m.piece) x.members) same is.agrees

  -- so each backup at hand agrees
  backup-agrees : (a : Piece) → BackupFrom s objects a → PieceAgrees (world s) h a.kind a
  backup-agrees _ (from_piece p a has there) = piece-agrees p a has there
  backup-agrees _ (from_set e a m has there member) =
      All-contains (λ (n : SetFile). PieceAgrees (world s) h n.piece.kind n.piece) a.members m (set-agrees e a has there) member

  log-by : (a : LogFile) → LogFrom s objects a → LogAgrees h (log_of a)
  log-by _ (from_online t there found) = borne.keeps.online t there found
  log-by _ (from_log l a has there) = log-agrees l a has there

  pub base-by : (a : Piece) → BaseFrom s objects a → BaseAgrees (world s) h (base_of a)
  base-by _ (from_place k x at clear) =
      let back : suc k - 1 ≡ k = omega arith in
      let stands = index-get s.instance.place k x at in
      let number : x.file ≡ 1 + k = omega (arith, (placed-is s k x borne.state.place stands).file) in
      borne.keeps.place (suc k) x (ap (λ n. slice_index_or s.instance.place n None) back ∙ stands) (ap (has_file s.instance.damaged) number ∙ clear)
  base-by _ (from_copy a kind backup) = as-base (world s) h a.kind a kind (backup-agrees a backup)

  pub level1-by : (a : Piece) → Level1From s objects a → Level1Agrees (world s) h (level1_of a)
  level1-by a from = subst (λ k. PieceAgrees (world s) h k a) from.kind (backup-agrees a from.backup)

  -- all that is at hand agrees
  pub evidence-agrees : (e : Evidence) → IsAtHand s objects e → known.Agrees (world s) h (known_of e)
  evidence-agrees e gathered = record {
    bases = λ a has.
        let found = map_from (λ (x : ℕ × Piece). base_of x.1) e.bases a has in
        subst (BaseAgrees (world s) h) found.is (base-by found.item.1 (base-from s objects borne.state e gathered found.item.0 found.item.1 found.held));
    level1s = λ a has.
        let found = map_from (λ (x : ℕ × Piece). level1_of x.1) e.level1s a has in
        subst (Level1Agrees (world s) h) found.is (level1-by found.item.1 (level1-from s objects borne.state e gathered found.item.0 found.item.1 found.held));
    logs = λ a has.
        let found = map_from (λ (x : ℕ × LogFile). log_of x.1) e.logs a has in
        subst (LogAgrees h) found.is (log-by found.item.1 (log-from s objects borne.state e gathered found.item.0 found.item.1 found.held));
  }

-- where HOST touched no name, digests tell
untouched-by : (o : Option State) (objects : Held) (made : List Made) → TellBy o objects made []
untouched-by None objects made = tt
untouched-by (Some s) objects made = record {
  logs = λ e a bytes given. absurd (none-in (log_name e.id) given);
  pieces = λ e a bytes given. absurd (none-in (piece_name e.copy e.id) given);
  sets = λ e a bytes given. absurd (none-in (set_name e.id) given);
}

pub untouched-tell : (m : Machine) → m.touched ≡ [] → DigestsTell m
untouched-tell m none = subst (TellBy m.state m.objects m.made) (sym none) (untouched-by m.state m.objects m.made)

-- where digests tell, what is at hand of the machine's database agrees with its history
pub agreed : (from : Option Held) (s : State) (m : Machine) (e : Evidence) → from ≡ Some m.objects → m.state ≡ Some s → IsSoundBy m.state m.history m.objects m.made m.touched
    → IsSeen from (λ h. IsGathered h (records_of s.catalog) (in_place s) e) → DigestsTell m → IsHistory (world s) m.history × known.Agrees (world s) m.history (known_of e)
agreed from s m e store state sound seen digests =
    let borne = subst (λ o. IsSoundBy o m.history m.objects m.made m.touched) state sound in
    let tell = subst (λ o. TellBy o m.objects m.made m.touched) state digests in
    let at_hand = subst (λ o. IsSeen o (λ h. IsGathered h (records_of s.catalog) (in_place s) e)) store seen in
    (borne.keeps.history, evidence-agrees s m.history m.objects m.made m.touched borne tell e at_hand)
