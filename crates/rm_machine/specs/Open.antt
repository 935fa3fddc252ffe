-- ALTER DATABASE OPEN
use Rattle.std.specs.Prelude.{ℕ, ◌≡◌, ◌==◌, ◌&&◌, not, if◌then◌else◌, Bool, true, false, Option, Some, None, List, [], ◌∷◌}
use Rattle.std.specs.Option.{option_map_or}
use Rattle.rm_base.specs.declared.refusal.Refusal.{Refusal, TheVariants.{Rm04, Rm10}}
use Rattle.rm_blocks.specs.File.{File}
use Rattle.rm_history.specs.{World.{exists}, declared.world.{Datafile.{Datafile}, World.{World}}}
use Rattle.rm_report.specs.declared.line.Line.TheVariants.{Opened}
use Rattle.rm_machine.specs.{Effect.{Outcome, done, no_effect}, Marks.{ids_refusal}, State.{has_lost, ledger, world, current_of, now_of}}
use Rattle.rm_machine.specs.{Tracked.{first_tracker}, declared.state.State.{State}}

-- what stands in place, without the datafiles that do not exist at (i, s)
abbrev pub kept_in_place : World → ℕ → ℕ → List Datafile → List (Option File) → List (Option File)
kept_in_place w i s [] place = []
kept_in_place w i s (d ∷ ds) [] = []
kept_in_place w i s (d ∷ ds) (x ∷ xs) = (if exists w i s d then x else None) ∷ kept_in_place w i s ds xs

-- the database opened at an SCN: the datafiles that do not exist there go out of place, and changes are tracked anew
abbrev pub opened : State → ℕ → State
opened s at =
    record s {
      instance = record s.instance {
        is_open = true;
        point = None;
        place = kept_in_place (world s) (current_of s) at (ledger s).files s.instance.place;
        tracker = first_tracker true (ledger s);
      };
    }

-- The database can be opened as it is: it stands at its end, no online log is lost, and they are its own.
abbrev pub is_recovered : State → Bool
is_recovered s =
    option_map_or (λ at. at == now_of s) s.instance.point false && not (has_lost s.instance.logs) && (s.instance.logs.inc == current_of s)

-- why it is refused
abbrev pub open_refusal : State → Option Refusal
open_refusal s = if s.instance.is_open then Some (Rm04 false) else if is_recovered s then ids_refusal s else Some Rm10

-- it opens the database at `now`
abbrev pub IsOpenOutcome : State → Outcome → Type 0
IsOpenOutcome s o = o ≡ done (Opened (current_of s) (now_of s) ∷ []) no_effect (opened s (now_of s))
