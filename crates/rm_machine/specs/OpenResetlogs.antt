-- ALTER DATABASE OPEN RESETLOGS
use Rattle.std.specs.Prelude.{ℕ, ◌≡◌, ◌+◌, nat_le, if◌then◌else◌, true, false, Option, Some, List, [], ◌∷◌, ◌++◌, length, IsSomeAnd}
use Rattle.std.specs.Option.{option_map_or}
use Rattle.rm_base.specs.declared.refusal.{Refusal.{Refusal, TheVariants.{Rm04, Rm10, Rm11}}, Limit.TheVariants.{Incarnations}}
use Rattle.rm_redo.specs.Online.{begun_logs}
use Rattle.rm_report.specs.declared.line.Line.{Line, TheVariants.{Opened}}
use Rattle.rm_catalog_typed.specs.{Changes.{with_base, with_incarnation}, Switches.{enabled_at}, TypedCatalog.{TypedCatalog}}
use Rattle.rm_machine.specs.{Archive.{after_all, archiving, archiving_refusal, lines_from}, Effect.{Outcome, done}, Open.{opened}}
use Rattle.rm_machine.specs.{State.{ledger, tree, current_of}, Tracked.{first_tracker}, declared.state.State.{State}}

-- why it is refused at a point: no incarnation is left, or the logs can't be archived, where the new incarnation
-- and its mark are two records more
abbrev pub branch_refusal : State → Option Refusal
branch_refusal s = if nat_le 256 (length (tree s)) then Some (Rm11 Incarnations) else archiving_refusal s 2

-- why it is refused
abbrev pub resetlogs_refusal : State → Option Refusal
resetlogs_refusal s = if s.instance.is_open then Some (Rm04 false) else option_map_or (λ at. branch_refusal s) s.instance.point (Some Rm10)

-- the number of the new incarnation
abbrev pub next_incarnation : State → ℕ
next_incarnation s = length (tree s) + 1

-- The catalog with the new incarnation, which branches off the current one at an SCN, begins and ends there, has its
-- mark at the moment of the statement, and is the current one.
abbrev pub with_branched_off : State → ℕ → TypedCatalog
with_branched_off s at =
    with_base (with_incarnation s.catalog (current_of s) at (ledger s).base.moment) (record (ledger s).base { current = next_incarnation s })

-- the database opened there as the new incarnation: the logs of the threads that are enabled there begin anew, with sequence 1 at that
-- SCN, and changes are tracked anew
abbrev pub branched_off : State → ℕ → State
branched_off s at =
    record {
      catalog = with_branched_off s at;
      instance = record (opened s at).instance {
        logs = begun_logs (ledger s).base.dbid (next_incarnation s) (enabled_at (with_branched_off s at).ledger (next_incarnation s) at) at;
        tracker = first_tracker true (with_branched_off s at).ledger;
      };
    }

-- the line of each log that is archived, and that of the opening
abbrev pub resetlogs_lines : State → ℕ → List Line
resetlogs_lines s at = lines_from false s 1 4 ++ Opened (next_incarnation s) at ∷ []

-- it archives what there is of each log, and opens the database at its point as a new incarnation
abbrev pub IsResetlogsOutcome : State → Outcome → Type 0
IsResetlogsOutcome s o = IsSomeAnd s.instance.point (λ at. o ≡ done (resetlogs_lines s at) (archiving s) (branched_off (after_all s) at))
