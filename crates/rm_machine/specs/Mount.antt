-- SHUTDOWN, STARTUP MOUNT and STARTUP FORCE MOUNT
use Rattle.std.specs.Prelude.{ℕ, ◌≡◌, ◌+◌, ◌&&◌, if◌then◌else◌, is_none, false, Option, Some, None, List, [], ◌∷◌, map}
use Rattle.std.specs.Option.{option_map}
use Rattle.rm_blocks.specs.File.{File, standing}
use Rattle.rm_history.specs.{World.{exists}, declared.world.{Datafile.{Datafile}, World.{World}}}
use Rattle.rm_report.specs.declared.line.Line.TheVariants.{Mounted}
use Rattle.rm_machine.specs.{Damage.{without_damaged}, Effect.{Outcome, done, no_effect}, State.{ledger, world, current_of, now_of}}
use Rattle.rm_machine.specs.declared.state.State.{State}

-- of the datafiles from f on, the first that exists at (i, s) and is lost
abbrev pub first_lost : World → ℕ → ℕ → ℕ → List Datafile → List (Option File) → Option ℕ
first_lost w i s f [] place = None
first_lost w i s f (d ∷ ds) [] = None
first_lost w i s f (d ∷ ds) (x ∷ xs) = if exists w i s d && is_none x then Some f else first_lost w i s (f + 1) ds xs

-- the point of an open database that is mounted: `now`, where no datafile of the current path is lost
abbrev pub mount_point : State → Option ℕ
mount_point s = if is_none (first_lost (world s) (current_of s) (now_of s) 1 (ledger s).files s.instance.place) then Some (now_of s) else None

-- the mounted database: what is in place stands at `now`, and no change is tracked any longer
abbrev pub mounted : State → State
mounted s =
    record s {
      instance = record s.instance {
        is_open = false;
        point = mount_point s;
        place = map (option_map (λ x. standing x (current_of s) (now_of s))) s.instance.place;
        tracker = [];
      };
    }

-- an open database is mounted, where each datafile of which a block is damaged is lost before
abbrev pub as_mounted : State → State
as_mounted s = if s.instance.is_open then mounted (without_damaged s) else s

-- it mounts an open database, and leaves a mounted one as it is
abbrev pub IsMountOutcome : State → Outcome → Type 0
IsMountOutcome s o = o ≡ done (Mounted ∷ []) no_effect (as_mounted s)
