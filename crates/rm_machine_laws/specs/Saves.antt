-- How a session ends: its site is saved, or that was stopped.
use Rattle.std.specs.Prelude.{◌≡◌, ◌⊎◌, ◌&&◌, not, is_none, MatchBool, Bool, Option, List, []}
use Rattle.rm_base.specs.Store.{Held}
use Rattle.rm_catalog.specs.declared.record.Record.{Record}
use Rattle.rm_lang_statement.specs.declared.command.Command.{Command}
use Rattle.rm_report.specs.declared.line.Reply.{Reply}
use Rattle.rm_machine.specs.{Laws.{only_tells}, Machine.{Machine}, Rest.{Rest, at_rest}, Saving.{IsSavedBy}}
use Rattle.rm_machine_laws.specs.{Holds.{Holds, HoldsRest, Stands, View, saved_in}, Stopped.{IsLeft}}

-- a list of edits was applied for the statement: it was not refused, and does more than tell
abbrev pub applies : Command → Reply → Bool
applies c reply = not reply.refused && not (only_tells c)

-- A session that applied a list saves its site. One that applied none leaves all as it is; then a saved site may still stand.
abbrev pub IsEnded : Bool → Machine → Rest → Type 0
IsEnded applied m r = MatchBool (applied && is_none (saved_in m.state)) (IsSavedBy m.state m r) (r ≡ at_rest m)

-- so for whatever machine the site stands for
abbrev pub Saves : Option Held → Option (List Record) → View → Option Held → Option (List Record) → Type 0
Saves held kept v held' kept' = (m : Machine) → Stands v m → Holds held kept m → (r : Rest) × IsEnded v.applied m r × HoldsRest held' kept' r

-- and where that was stopped, nothing of it is recorded, or all of it
abbrev pub StopsSaving : Option Held → Option (List Record) → View → Option Held → Option (List Record) → Type 0
StopsSaving held kept v held' kept' =
    (m : Machine) → Stands v m → Holds held kept m → (r : Rest) × (IsLeft [] m r ⊎ IsEnded v.applied m r) × HoldsRest held' kept' r
