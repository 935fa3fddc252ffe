-- HOST LOSE LOG leads on: the online log of a thread is lost.
use Rattle.std.proofs.{Common.{◌≡◌, ◌<◌, ◌∙◌, inl, inr, ℕ, List, None, true, false, ap, sym, subst}, lemmas.Bool.{cases_eq, false≢true}}
use Rattle.rm_base.{specs.{Store.{Held}, declared.block.Change.{Change}}, proofs.Conditions.{unless}}
use Rattle.rm_lang_statement.specs.declared.command.Command.TheVariants.{LoseLog}
use Rattle.rm_history.specs.{Agrees.{LogAgrees}, Tree.{IsThere, end_of}}
use Rattle.rm_catalog_typed.specs.Switches.{is_enabled_in}
use Rattle.rm_redo.specs.{LogFile.{log_of}, Logs.{Logs}, Online.{IsThread, with_loss, first_of, thread_records, sequence_of}}
use Rattle.rm_redo.specs.declared.{log_file.LogFile.{LogFile}, online.LogRecord.{LogRecord}}
use Rattle.rm_redo.proofs.Logs.{IsLost-with_loss, around-with_loss, first_of-with_loss, is_lost-with_loss_other, thread_records-with_loss, sequence_of-with_loss}
use Rattle.rm_machine.specs.{Effect.{Made}, LoseLog.{lose_log_refusal, without_log}, Machine.{HistoryFits, IsBorneOut}, Mount.{as_mounted}}
use Rattle.rm_machine.specs.Sound.{AreOnline, IsOnline, IsSound}
use Rattle.rm_machine.specs.{State.{ledger, tree, current_of, is_lost, is_no_thread, online, redo_end}, declared.state.State.{State}}
use Rattle.rm_machine.proofs.{Damaged.{damaged-none}, Tracked.{tracked-same}, Mounting.{mode-either, sound-as_mounted}}
use Rattle.rm_machine.proofs.Threads.{gone-with_loss, thread-before, thread-of}
use Rattle.rm_machine_laws.proofs.{CountedLogs.{AgreeOnline, counted-agree, counted-online, with_logs}, Leading.{LeadsOnBy, StaysBy}}
use Rattle.rm_machine_laws.proofs.{Mounting.{closed-as_mounted, none-mounted, stands-as_mounted}, Quiet.{quiet-on, quiet-stays}}

-- a log as a file, by its parts
abbrev file_by : ℕ → ℕ → ℕ → ℕ → ℕ → ℕ → List LogRecord → LogFile
file_by thread next dbid inc sequence first records = record { dbid = dbid; inc = inc; thread = thread; sequence = sequence; first = first; next = next; records = records }

module _ (s : State) (t : ℕ) (sound : IsSound s) (shut : s.instance.is_open ≡ false) (there : IsThread s.instance.logs t) where
  abbrev before : Logs
  before = s.instance.logs

  abbrev after : Logs
  after = with_loss before t

  abbrev mid : State
  mid = with_logs s after

  abbrev q : State
  q = without_log s t

  -- what the log of each thread tells is the same
  same-log : (u : ℕ) → online mid u ≡ online s u
  same-log u =
      let around = around-with_loss before t in
      let end : redo_end mid ≡ redo_end s = ap (end_of (tree s)) around.inc in
      ap (λ n. file_by u n after.dbid after.inc (sequence_of after u) (first_of after u) (thread_records after u)) end
      ∙ ap (λ n. file_by u (redo_end s) n after.inc (sequence_of after u) (first_of after u) (thread_records after u)) around.dbid
      ∙ ap (λ n. file_by u (redo_end s) before.dbid n (sequence_of after u) (first_of after u) (thread_records after u)) around.inc
      ∙ ap (λ n. file_by u (redo_end s) before.dbid before.inc n (first_of after u) (thread_records after u)) (sequence_of-with_loss before t u)
      ∙ ap (λ n. file_by u (redo_end s) before.dbid before.inc (sequence_of before u) n (thread_records after u)) (first_of-with_loss before t u)
      ∙ ap (λ rs. file_by u (redo_end s) before.dbid before.inc (sequence_of before u) (first_of before u) rs) (thread_records-with_loss before t u)

  -- one that is not lost was not lost
  found-before : (u : ℕ) → 0 < u → is_lost after u ≡ false → is_lost before u ≡ false
  found-before u some found = elim (cases_eq u t) [
    | inl same ↦
        let lost : is_lost after t ≡ true = IsLost-with_loss before t there in
        absurd (let e : false ≡ true = sym found ∙ ap (is_lost after) same ∙ lost in cc)
    | inr other ↦ sym (is_lost-with_loss_other before t u there.0 some other) ∙ found
  ]

  thread-was : (u : ℕ) → IsThread after u → IsThread before u
  thread-was u is = thread-before before after u (around-with_loss before t) is

  online-mid : AreOnline mid
  online-mid =
      let around = around-with_loss before t in
      record {
        dbid = around.dbid ∙ sound.logs.dbid;
        there = subst (IsThere (tree s)) (sym around.inc) sound.logs.there;
        four = around.threads ∙ sound.logs.four;
        threads = λ u some few. around.there u ∙ sound.logs.threads u some few ∙ sym (ap (λ i. is_enabled_in (ledger s) i (end_of (tree s) i) u) around.inc);
        gone = gone-with_loss before t there sound.logs.gone;
        each = λ u is found. subst (IsOnline (tree s)) (sym (same-log u)) (sound.logs.each u (thread-was u is) (found-before u is.0 found));
      }

  sound-lost : IsSound q
  sound-lost =
      let logs = counted-online mid (current_of s) sound.catalog.ledger.current online-mid in
      record {
        catalog = sound.catalog;
        dbid = sound.dbid;
        place = record { many = sound.place.many; each = sound.place.each };
        logs = record { dbid = logs.dbid; there = logs.there; four = logs.four; threads = logs.threads; gone = logs.gone; each = logs.each };
        damaged = damaged-none q (sound.damaged.idle shut);
        tracker = tracked-same s q sound.tracker;
        in_open = λ mode. absurd (false≢true (sym shut ∙ mode));
        point = λ at here. let was = sound.point at here in record { low = was.low; high = was.high; stands = was.stands };
      }

  agree-mid : (h : List Change) → HistoryFits s h → AgreeOnline mid h
  agree-mid h keeps u is found = subst (λ l. LogAgrees h (log_of l)) (sym (same-log u)) (keeps.online u (thread-was u is) (found-before u is.0 found))

  fits-lost : (h : List Change) → HistoryFits s h → HistoryFits q h
  fits-lost h keeps = record {
    history = keeps.history;
    below = keeps.below;
    online = counted-agree mid (current_of s) sound.catalog.ledger.current online-mid h (agree-mid h keeps);
    place = keeps.place;
    tracker = keeps.tracker;
    in_open = λ mode. absurd (false≢true (sym shut ∙ mode));
    point = keeps.point;
  }

  borne-lost : (h : List Change) (objects : Held) (made : List Made) (touched : List (List ℕ)) → IsBorneOut s h objects made touched → IsBorneOut q h objects made touched
  borne-lost h objects made touched is = record {
    state = sound-lost;
    keeps = fits-lost h is.keeps;
    artefacts = is.artefacts;
    records = record { logs = is.records.logs; pieces = is.records.pieces; sets = is.records.sets };
  }

-- the logs stay when the database is mounted
thread-mounted : (s : State) (t : ℕ) → lose_log_refusal s t ≡ None → IsThread (as_mounted s).instance.logs t
thread-mounted s t is =
    let there = thread-of s t (unless (is_no_thread s t) _ _ is).0 in
    mode-either (λ q. IsThread q.instance.logs t) s s.instance.is_open (λ opened. there) there

pub lose_log-on : (t : ℕ) → LeadsOnBy (LoseLog t)
lose_log-on t s h objects made touched said e q after well stands tell none does effect =
    let there = thread-mounted s t none in
    let mid = stands-as_mounted s h objects made touched stands in
    quiet-on (without_log (as_mounted s) t) h objects made touched _ said e q after does effect (borne-lost (as_mounted s) t mid.state (closed-as_mounted s) there h objects made touched mid)

pub lose_log-stays : (t : ℕ) → StaysBy (LoseLog t)
lose_log-stays t s objects said e q well sound none accepted does =
    let there = thread-mounted s t accepted in
    quiet-stays (without_log (as_mounted s) t) _ said e q does (sound-lost (as_mounted s) t (sound-as_mounted s sound) (closed-as_mounted s) there) (none-mounted s none)
