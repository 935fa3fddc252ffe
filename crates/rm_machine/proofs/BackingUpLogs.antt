-- BACKUP ARCHIVELOG ALL: backups of logs can be recorded, one after another.
use Rattle.std.proofs.Common.{◌≡◌, ◌≤◌, ℕ, suc, List, ◌∷◌, None, refl, sym, subst, arith, length, All, Contains, rules}
use Rattle.std.proofs.lemmas.List.Elements.{All-contains, All-tail, All-weaker}
use Rattle.rm_base.proofs.Sealing.{length-sealed}
use Rattle.rm_catalog.specs.declared.record.LogEntry.{LogEntry}
use Rattle.rm_history.specs.Tree.{IsThere, end_of, reset_of}
use Rattle.rm_catalog_typed.specs.{LedgerFacts.{IsLogEntry}, Ledger.{Ledger, ledger_records}, Changes.{with_new_log}, Fitting.{FitsNewLog}}
use Rattle.rm_catalog_typed.proofs.Fitted.{new_log_fits}
use Rattle.rm_evidence.specs.Objects.{HasLogFields}
use Rattle.rm_redo.{specs.{LogFormat.{IsLogFile, body_of}, declared.log_file.LogFile.{LogFile}}, proofs.LogBodies.{length-body}}
use Rattle.rm_redo.proofs.LogFitting.{fits as fits-log}
use Rattle.rm_machine.specs.{BackupLogs.{copies_of, copies_refusal, copy_entry, with_copies}, Sound.{IsSound}, Upkeep.{with_catalog}}
use Rattle.rm_machine.{specs.{State.{ledger, tree}, declared.state.State.{State}}, proofs.{Left.{HasRoom}, Further.{roomy}}}
use Rattle.rm_machine.proofs.{Later.{sound-with}, NewObjects.{count-logged}}

-- the log of a record can be recorded again
pub record CanRecord (s : State) (a : LogFile) : Type 0 where
  pub valid : IsLogFile a
  pub entry : IsLogEntry (tree s) (copy_entry (0, a))

pub can-record : (s : State) (e : LogEntry) (a : LogFile) → IsSound s → Contains (ledger s).logs e → IsLogFile a → HasLogFields e a → CanRecord s a
can-record s e a sound has valid fields =
    let ns = tree s in
    let is : IsLogEntry ns e = All-contains (IsLogEntry ns) (ledger s).logs e sound.catalog.ledger.logs has in
    let low : reset_of ns a.inc ≤ e.first = subst (λ i. reset_of ns i ≤ e.first) (sym fields.inc) is.range.0 in
    let high : e.next ≤ end_of ns a.inc = subst (λ i. e.next ≤ end_of ns i) (sym fields.inc) is.range.2 in
    record {
      valid = valid;
      entry = record {
        there = subst (IsThere ns) (sym fields.inc) is.there;
        thread = valid.thread;
        sequence = valid.sequence.0;
        range = (omega (arith, fields.first, low), omega (arith, fields.first, fields.next, is.range.1), omega (arith, fields.next, high));
        size = omega (arith, length-body a (fits-log a valid), length-sealed (body_of a), valid.few);
      };
    }

-- the database with a backup of the log more, under the next id
abbrev pub with_copy : State → LogFile → State
with_copy s a = with_catalog s (with_new_log s.catalog (copy_entry ((ledger s).base.next_id, a)))

-- One log
module _ (s : State) (a : LogFile) (n : ℕ) (sound : IsSound s) (can : CanRecord s a) (room : HasRoom s (suc n)) where
  abbrev l : Ledger
  l = s.catalog.ledger

  abbrev pub id : ℕ
  id = l.base.next_id

  abbrev pub q : State
  q = with_copy s a

  pub copy-fits : FitsNewLog s.catalog (copy_entry (id, a))
  copy-fits =
      let is = can.entry in
      record {
        log = record { there = is.there; thread = is.thread; sequence = is.sequence; range = is.range; size = is.size };
        id = refl;
        last = omega (arith, room.ids);
        room = omega (arith, room.records);
      }

  pub copy-sound : IsSound q
  copy-sound = sound-with s q.catalog (new_log_fits s.catalog (copy_entry (id, a)) sound.catalog copy-fits) sound

-- the others can be recorded still
pub can-next : (s : State) (a : LogFile) (logs : List LogFile) → All (CanRecord s) (a ∷ logs) → All (CanRecord (with_copy s a)) logs
can-next s a logs all = All-weaker (CanRecord s) (CanRecord (with_copy s a)) (λ b can. record { valid = can.valid; entry = can.entry }) logs (All-tail (CanRecord s) a logs all)

pub room-next : (s : State) (a : LogFile) (n : ℕ) → HasRoom s (suc n) → HasRoom (with_copy s a) n
room-next s a n room =
    record { records = omega (arith, count-logged s s.instance (copy_entry ((ledger s).base.next_id, a)), room.records); ids = omega (arith, room.ids) }

-- All of them

abbrev pub after_copies : State → List LogFile → State
after_copies s logs = with_catalog s (with_copies s.catalog (copies_of s logs))

-- Why it was not refused

pub room-for : (s : State) (logs : List LogFile) → IsSound s → copies_refusal s logs ≡ None → HasRoom s (length logs)
room-for s logs sound is =
    record { records = roomy (length logs) (length (ledger_records (ledger s))) (search rules) sound.catalog.ledger.few; ids = search rules }
