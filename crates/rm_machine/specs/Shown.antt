-- REPORT SCHEMA and SHOW ALL
use Rattle.std.specs.Prelude.{ℕ, ◌≡◌, ◌+◌, if◌then◌else◌, Option, Some, None, List, [], ◌∷◌}
use Rattle.rm_blocks.specs.File.{File}
use Rattle.rm_history.specs.{World.{exists}, declared.world.Datafile.{Datafile}}
use Rattle.rm_report.specs.declared.line.{Line.{Line, TheVariants.{Parallelism, Retention, Schema, Tracking}}, SchemaPlace.{SchemaPlace}}
use Rattle.rm_report.specs.declared.line.SchemaPlace.TheVariants.{At, Lost, OffPath}
use Rattle.rm_machine.specs.{Effect.{Outcome, told}, State.{counted, current_of, ledger, now_of, placed, world}}
use Rattle.rm_machine.specs.declared.state.State.{State}

-- what stands in place of a datafile stands at its checkpoint, in an open database at `now`; or it is lost
abbrev pub stands_at : State → Option File → SchemaPlace
stands_at s None = Lost
stands_at s (Some x) = At (counted s x).checkpoint

-- where datafile f stands
abbrev pub place_of : State → ℕ → Datafile → SchemaPlace
place_of s f d = if exists (world s) (current_of s) (now_of s) d then stands_at s (placed s f) else OffPath

-- a line for each datafile from f on
abbrev pub schema_lines : State → ℕ → List Datafile → List Line
schema_lines s f [] = []
schema_lines s f (d ∷ ds) = Schema f d.blocks d.creation d.inc (place_of s f d) ∷ schema_lines s (f + 1) ds

-- REPORT SCHEMA tells of each datafile
abbrev pub IsSchemaOutcome : State → Outcome → Type 0
IsSchemaOutcome s o = o ≡ told (schema_lines s 1 (ledger s).files)

-- SHOW ALL tells the settings
abbrev pub IsShowOutcome : State → Outcome → Type 0
IsShowOutcome s o = o ≡ told (Retention (ledger s).base.policy ∷ Parallelism (ledger s).base.parallelism ∷ Tracking (ledger s).base.tracking ∷ [])
