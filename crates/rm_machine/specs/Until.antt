-- Where an UNTIL leads: to an SCN of an incarnation, or nowhere.
use Rattle.std.specs.Prelude.{ℕ, ◌==◌, ◌&&◌, ◌||◌, if◌then◌else◌, Bool, Option, Some, None, List, filter, find, unwrap_or}
use Rattle.std.specs.Option.{option_map, option_map_or}
use Rattle.rm_base.specs.declared.{block.Mark.{Mark}, refusal.{Absent.TheVariants.{Thread}, Refusal.{Refusal}}}
use Rattle.rm_base.specs.declared.refusal.{Refusal.TheVariants.{Rm05, Rm12, Rm14}, Unknown.TheVariants.{Log}}
use Rattle.rm_catalog.specs.declared.record.LogEntry.{LogEntry}
use Rattle.rm_history.specs.Tree.{end_of}
use Rattle.rm_moments.specs.{Marks.{first_from, last_until}, Meant.{moment_meant}}
use Rattle.rm_retain.specs.Window.{is_on_path}
use Rattle.rm_lang_statement.specs.declared.command.Until.{Until, TheVariants.{Scn, Sequence, Time}}
use Rattle.rm_machine.specs.{State.{is_lost, is_no_thread, ledger, online, tree}, declared.state.State.{State}}

-- the first option that has a value
abbrev pub or_else : {X : Type 0} → Option X → Option X → Option X
or_else None o = o
or_else (Some x) o = Some x

-- the record is that of log n of thread t of incarnation i
abbrev pub is_log : ℕ → ℕ → ℕ → LogEntry → Bool
is_log i t n e = (e.inc == i) && (e.thread == t) && (e.sequence == n)

-- the first SCN of the online log of thread t, where it is log n of incarnation i, and not lost
abbrev pub online_first : State → ℕ → ℕ → ℕ → Option ℕ
online_first s i t n =
    if is_no_thread s t || is_lost s.instance.logs t then None
    else if (s.instance.logs.inc == i) && ((online s t).sequence == n) then Some (online s t).first
    else None

-- the first SCN of log n of thread t of incarnation i: recorded, whatever its status, or online and not lost
abbrev pub log_first : State → ℕ → ℕ → ℕ → Option ℕ
log_first s i t n = or_else (option_map (λ e. e.first) (find (is_log i t n) (ledger s).logs)) (online_first s i t n)

-- the marks on the path of incarnation i
abbrev pub marks_on : State → ℕ → List Mark
marks_on s i = filter (is_on_path (tree s) i) (ledger s).marks

-- the moment that the text means at the moment of the statement
abbrev pub moment_in : State → List ℕ → ℕ
moment_in s text = moment_meant text (ledger s).base.moment

-- The SCN at the moment t on the path of incarnation i: that of the first mark at or after it, or else the end. None where no
-- mark is at or before it.
abbrev pub scn_at : State → ℕ → ℕ → Option ℕ
scn_at s i t = option_map (λ before. unwrap_or (first_from t (marks_on s i)) (end_of (tree s) i)) (last_until t (marks_on s i))

-- the SCN at which a recovery of incarnation i stops: where its UNTIL leads, or the end
abbrev pub target_of : State → ℕ → Option Until → Option ℕ
target_of s i None = Some (end_of (tree s) i)
target_of s i (Some (Scn at)) = Some at
target_of s i (Some (Sequence n t)) = log_first s i t n
target_of s i (Some (Time text)) = scn_at s i (moment_in s text)

-- why an UNTIL is refused at once: its redo thread has no online log
abbrev pub thread_refusal : State → Option Until → Option Refusal
thread_refusal s (Some (Sequence n t)) = if is_no_thread s t then Some (Rm05 (Thread t)) else None
thread_refusal s _ = None

-- why an UNTIL leads nowhere: there is no such log, or no mark at or before the moment
abbrev pub nowhere_refusal : State → Option Until → Option Refusal
nowhere_refusal s (Some (Sequence n t)) = Some (Rm12 (Log n t))
nowhere_refusal s (Some (Time text)) = Some (Rm14 (moment_in s text))
nowhere_refusal s _ = None

-- why a statement with an UNTIL is refused: by its target, where the UNTIL leads to one; or else for another reason, or since it
-- leads nowhere
abbrev pub refusal_at : State → ℕ → Option Until → (ℕ → Option Refusal) → Option Refusal → Option Refusal
refusal_at s i until by_target otherwise = option_map_or by_target (target_of s i until) (or_else otherwise (nowhere_refusal s until))

-- the same, where the redo thread of the UNTIL is looked at first
abbrev pub until_refusal : State → ℕ → Option Until → (ℕ → Option Refusal) → Option Refusal → Option Refusal
until_refusal s i until by_target otherwise = or_else (thread_refusal s until) (refusal_at s i until by_target otherwise)
