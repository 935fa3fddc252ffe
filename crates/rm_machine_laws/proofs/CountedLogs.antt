-- Where all logs are lost, they count as logs of another incarnation, of the threads that are enabled at its end.
use Rattle.std.{specs.Option.{option_map_or}, proofs.Common.{◌≡◌, ◌-◌, ◌∙◌, ℕ, List, Bool, true, false, cond, refl, ap, sym}}
use Rattle.rm_base.specs.declared.block.Change.{Change}
use Rattle.rm_history.specs.{Agrees.{LogAgrees}, Tree.{IsThere, end_of}}
use Rattle.rm_catalog_typed.specs.Switches.{enabled_at, is_enabled_in}
use Rattle.rm_redo.specs.{LogFile.{log_of}, Logs.{Logs}, Online.{IsThread, are_lost, counted_as, lost_log, lost_logs}}
use Rattle.rm_redo.specs.declared.online.ThreadLog.{ThreadLog}
use Rattle.rm_machine.specs.{Sound.{AreOnline}, State.{is_lost, ledger, online, tree}, declared.state.State.{State}}
use Rattle.rm_machine.proofs.Threads.{all-where_gone, where-there}
use Rattle.rm_machine_laws.proofs.FreshLogs.{where-get}

-- the state with other logs
abbrev pub with_logs : State → Logs → State
with_logs s logs = record s { instance = record s.instance { logs = logs } }

-- each log that is not lost agrees
abbrev pub AgreeOnline : State → List Change → Type 0
AgreeOnline s h = (t : ℕ) → IsThread s.instance.logs t → is_lost s.instance.logs t ≡ false → LogAgrees h (log_of (online s t))

module _ (s : State) (i : ℕ) (there : IsThere (tree s) i) (are : AreOnline s) where
  abbrev enabled : List Bool
  enabled = enabled_at (ledger s) i (end_of (tree s) i)

  abbrev lost : Logs
  lost = lost_logs s.instance.logs.dbid i enabled

  -- there each thread's log is lost
  clash-lost : {X : Type 0} (t : ℕ) → IsThread lost t → is_lost lost t ≡ false → X
  clash-lost t is found =
      let gone : is_lost lost t ≡ true = ap (λ o. option_map_or (λ (l : ThreadLog). l.is_lost) o false) (where-get lost_log enabled (t - 1) is.2) in
      absurd (let e : true ≡ false = sym gone ∙ found in cc)

  online-lost : AreOnline (with_logs s lost)
  online-lost = record {
    dbid = are.dbid;
    there = there;
    four = refl;
    threads = where-there s.instance.logs.dbid i lost_log refl (is_enabled_in (ledger s) i (end_of (tree s) i));
    gone = all-where_gone s.instance.logs.dbid i lost_log refl (is_enabled_in (ledger s) i (end_of (tree s) i));
    each = λ t is found. clash-lost t is found;
  }

  counted-by : (b : Bool) → AreOnline (with_logs s (cond b lost s.instance.logs))
  counted-by true = online-lost
  counted-by false = record { dbid = are.dbid; there = are.there; four = are.four; threads = are.threads; gone = are.gone; each = are.each }

  pub counted-online : AreOnline (with_logs s (counted_as s.instance.logs i enabled))
  counted-online = counted-by (are_lost s.instance.logs.threads)

  agree-by : (h : List Change) (b : Bool) → AgreeOnline s h → AgreeOnline (with_logs s (cond b lost s.instance.logs)) h
  agree-by h true agree t is found = clash-lost t is found
  agree-by h false agree t is found = agree t is found

  pub counted-agree : (h : List Change) → AgreeOnline s h → AgreeOnline (with_logs s (counted_as s.instance.logs i enabled)) h
  counted-agree h agree = agree-by h (are_lost s.instance.logs.threads) agree
