-- SWITCH LOGFILE: the log of a thread becomes an archived one, and the database stays sound.
use Rattle.std.proofs.Common.{◌≡◌, ◌≢◌, ◌<◌, ◌≤◌, ◌+◌, ◌-◌, ◌^◌, ◌∙◌, nat_lt, inl, inr, ℕ, [], true, false, refl, ap, sym, subst, arith, length, All, AllPairs, slice_get}
use Rattle.std.proofs.lemmas.{Bool.{and_parts, cases_eq, ltb-true, Decides.{nat_tests}}, List.Elements.{All-nil}}
use Rattle.rm_catalog.specs.declared.record.LogEntry.{LogEntry}
use Rattle.rm_history.specs.Tree.{IsThere, end_of, reset_of}
use Rattle.rm_catalog_typed.specs.{LedgerFacts.{IsLogEntry}, Facts.{IsTypedCatalog}, Ledger.{Ledger, ledger_records}}
use Rattle.rm_catalog_typed.{specs.Switches.{is_enabled_in}, proofs.Fitted.{new_log_fits}}
use Rattle.rm_redo.specs.{LogFile.{log_file_of}, LogFormat.{IsLogRecord, body_of}, Logs.{IsBefore, Logs}}
use Rattle.rm_redo.specs.{Online.{IsThread, first_of, has_log, sequence_of, switched}, declared.log_file.LogFile.{LogFile}}
use Rattle.rm_redo.proofs.{LogBodies.{length-body}, LogFitting.{fits as fits-log}}
use Rattle.rm_redo.proofs.Logs.{around-switched, first_of-switched, is_lost-switched, other-switched, thread_records-switched, sequence_of-switched}
use Rattle.rm_base.proofs.Sealing.{length-sealed}
use Rattle.rm_machine.specs.{Marks.{lacks_room}, Sound.{IsOnline, IsSound}, State.{is_lost, is_online, online, redo_end}}
use Rattle.rm_machine.specs.{SwitchLogfile.{is_due, log_entry, with_archived}, declared.state.State.{State}}
use Rattle.rm_machine.proofs.{Further.{roomy-either}, Threads.{file_by, gone-switched, online-parts, thread-before}, Tracked.{tracked-same}}
use Rattle.rm_machine.proofs.Damaged.{damaged-same}

-- An empty log

log-other : (logs : Logs) (t u now next : ℕ) → 0 < t → 0 < u → u ≢ t → log_file_of (switched logs t now) u next ≡ log_file_of logs u next
log-other logs t u now next here there other =
    let after : Logs = switched logs t now in
    let around = around-switched logs t now in
    ap (λ n. file_by u next n after.inc (slice_get after.threads (u - 1))) around.dbid
    ∙ ap (λ n. file_by u next logs.dbid n (slice_get after.threads (u - 1))) around.inc
    ∙ ap (file_by u next logs.dbid logs.inc) (other-switched logs t u now here there other)

-- Why it was not refused

pub record CanArchive (s : State) (t : ℕ) : Type 0 where
  pub roomy : lacks_room s 1 ≡ false
  pub ids : s.catalog.ledger.base.next_id + 69 ≤ 4294967295
  pub sequence : sequence_of s.instance.logs t < 4294967295
  pub there : IsThread s.instance.logs t
  pub found : is_lost s.instance.logs t ≡ false
  pub some : first_of s.instance.logs t < redo_end s

pub not-above : (a b : ℕ) → nat_lt a b ≡ false → b ≤ a
not-above a b is = grind (arith, nat_tests)

-- what has something to archive
pub record IsDue (s : State) (t : ℕ) : Type 0 where
  pub there : has_log s.instance.logs t ≡ true
  pub found : is_lost s.instance.logs t ≡ false
  pub some : first_of s.instance.logs t < redo_end s

pub due-parts : (s : State) (t : ℕ) → is_due s t ≡ true → IsDue s t
due-parts s t due =
    let both = and_parts (is_online s.instance.logs t) (nat_lt (first_of s.instance.logs t) (redo_end s)) due in
    let log = online-parts s.instance.logs t both.0 in
    record { there = log.0; found = log.1; some = ltb-true (first_of s.instance.logs t) (redo_end s) both.1 }

-- The state after it, where there was something to archive
module _ (s : State) (t : ℕ) (sound : IsSound s) (a : CanArchive s t) where
  abbrev pub l : Ledger
  l = s.catalog.ledger

  abbrev id : ℕ
  id = l.base.next_id

  abbrev pub log : LogFile
  log = online s t

  abbrev entry : LogEntry
  entry = log_entry id log

  abbrev pub q : State
  q = with_archived s t

  pub log-is : IsOnline l.tree log
  log-is = sound.logs.each t a.there a.found

  pub entry-is : IsLogEntry l.tree entry
  entry-is =
      record {
        there = sound.logs.there;
        thread = log-is.valid.thread;
        sequence = log-is.valid.sequence.0;
        range = (log-is.begun, a.some, omega arith);
        size = omega (arith, length-body log (fits-log log log-is.valid), length-sealed (body_of log), log-is.valid.few);
      }

  catalog-after : IsTypedCatalog q.catalog
  catalog-after =
      new_log_fits s.catalog entry sound.catalog (record {
        log = entry-is;
        id = refl;
        last = omega (arith, a.ids);
        room = elim (roomy-either 1 (length (ledger_records l) + 1) a.roomy) [ inl none ↦ absurd (omega (arith, none)) | inr room ↦ room ];
      })

  pub redo-after : redo_end q ≡ redo_end s
  redo-after = ap (end_of l.tree) (around-switched s.instance.logs t (redo_end s)).inc

  -- the log of another thread stays
  pub other-after : (u : ℕ) → 0 < u → u ≢ t → online q u ≡ online s u
  other-after u here other =
      ap (λ e. log_file_of (switched s.instance.logs t (redo_end s)) u e) redo-after
      ∙ log-other s.instance.logs t u (redo_end s) (redo_end s) a.there.0 here other

  not-first : first_of s.instance.logs t ≢ redo_end s
  not-first e = let some = a.some in absurd (omega (arith, some, e))

  -- that of the thread is empty
  pub empty-after : (online q t).records ≡ []
  empty-after = thread_records-switched s.instance.logs t (redo_end s) a.there not-first

  pub begun-after : (online q t).first ≡ redo_end s
  begun-after = first_of-switched s.instance.logs t (redo_end s) a.there

  anew-is : IsOnline l.tree (online q t)
  anew-is =
      let around = around-switched s.instance.logs t (redo_end s) in
      let number = sequence_of-switched s.instance.logs t (redo_end s) a.there not-first in
      let valid = log-is.valid in
      let bounds = (sound.catalog.ledger.incarnations.ranges s.instance.logs.inc sound.logs.there).1 in
      record {
        valid = record {
          dbid = subst (λ x. (1 ≤ x) × (x < 2 ^ 32)) (sym around.dbid) valid.dbid;
          inc = subst (λ x. (1 ≤ x) × (x < 2 ^ 32)) (sym around.inc) valid.inc;
          thread = valid.thread;
          sequence = (omega (arith, number), omega (arith, number, a.sequence));
          range = (omega (arith, begun-after, valid.range.0, valid.range.1), omega (arith, begun-after, redo-after), omega (arith, redo-after, valid.range.2));
          few = subst (λ xs. length xs ≤ 65536) (sym empty-after) (omega arith);
          ascend = subst (AllPairs IsBefore) (sym empty-after) (λ i j d less inside. absurd (omega (arith, inside)));
          records = subst (All (IsLogRecord (online q t).first (redo_end q))) (sym empty-after) (All-nil (IsLogRecord (online q t).first (redo_end q)));
        };
        begun = subst (λ j. reset_of l.tree j ≤ (online q t).first) (sym around.inc) (omega (arith, begun-after, bounds));
      }

  log-after : (u : ℕ) → IsThread q.instance.logs u → is_lost q.instance.logs u ≡ false → IsOnline l.tree (online q u)
  log-after u is found = elim (cases_eq u t) [
    | inl same ↦ subst (λ v. IsOnline l.tree (online q v)) (sym same) anew-is
    | inr other ↦ subst (IsOnline l.tree) (sym (other-after u is.0 other)) (sound.logs.each u (thread-before s.instance.logs q.instance.logs u (around-switched s.instance.logs t (redo_end s)) is) (sym (is_lost-switched s.instance.logs t u (redo_end s)) ∙ found))
  ]

  pub sound-after : IsSound q
  sound-after =
      let around = around-switched s.instance.logs t (redo_end s) in
      record {
        catalog = catalog-after;
        dbid = sound.dbid;
        place = record { many = sound.place.many; each = sound.place.each };
        logs = record {
          dbid = around.dbid ∙ sound.logs.dbid;
          there = subst (IsThere l.tree) (sym around.inc) sound.logs.there;
          four = around.threads ∙ sound.logs.four;
          threads = λ u low high. around.there u ∙ sound.logs.threads u low high ∙ sym (ap (λ i. is_enabled_in l i (end_of l.tree i) u) around.inc);
          gone = gone-switched s.instance.logs t (redo_end s) a.there sound.logs.gone;
          each = log-after;
        };
        damaged = damaged-same s q sound.damaged;
        tracker = tracked-same s q sound.tracker;
        in_open = λ opened.
            let was = sound.in_open opened in
            record { inc = around.inc ∙ was.inc; found = λ u is. is_lost-switched s.instance.logs t u (redo_end s) ∙ was.found u (thread-before s.instance.logs q.instance.logs u around is); point = was.point };
        point = λ at here. let was = sound.point at here in record { low = was.low; high = was.high; stands = was.stands };
      }
