-- What a call has at hand before anything changes.
use Rattle.std.specs.{Prelude.{ℕ, ◌≡◌, All, IfSome, IsSomeAnd, List, None, Option, Some}, Option.{option_map}}
use Rattle.rm_base.specs.Store.{Held}
use Rattle.rm_catalog.specs.declared.record.Record.{Record}
use Rattle.rm_lang_words.specs.declared.standby.StandbyTask.{StandbyTask}
use Rattle.rm_machine.specs.declared.state.State.{State}
use Rattle.rm_machine_laws.specs.Holds.{View}
use Rattle.rm_piece.specs.{SetSpelling.{set_spelling}, Sets.{IsSet}, declared.set.Set.{Set}}
use Rattle.rm_report.specs.{Reply.{LineHasDate}, declared.line.Line.{Line}}
use Rattle.rm_standby_store.specs.Names.{standby_name}
use Rattle.rm_tool_opening.specs.Opening.{IsSource}
use Rattle.rm_tool_standby.specs.{Asked.{Sides, sides}, Done.{Comes, ComesTo, text_of}, Kept.{Stops, next_number}, Refused.{number_refusal}}
use Rattle.rm_tool_standby.specs.declared.{keeping.Change.{Change}, preparing.Ready.{Ready}, work.Work.{Work}}

-- whatever records the database has that is shown so, this is so of the sides
abbrev pub OfShown : Option Held → Option Held → State → (Sides → Type 0) → Type 0
OfShown from to s Is =
    (records : Option (List Record)) (v : View) → IsSource from records v → v.state ≡ Some s → Is (sides from records to)

-- a number is left for the new standby, which is valid
abbrev pub IsFit : Option (ℕ × Set) → Option Set → Type 0
IsFit found new = IfSome new (λ a. (number_refusal found ≡ None) × IsSet a)

-- What a task comes to over the standby that was found: its new standby and its lines, none of which has a date that is too late.
pub record IsWork (from : Option Held) (s : State) (found : Option (ℕ × Set)) (task : StandbyTask) (w : Work) : Type 0 where
  pub comes : (to : Option Held) → OfShown from to s (λ a. ComesTo a s task found w.new w.lines)
  pub fit : IsFit found w.new
  pub dated : All LineHasDate w.lines

-- what is put and what goes where a new standby takes the place of that of before
abbrev pub change_of : Option (ℕ × Set) → Set → Change
change_of found new = record {
  name = standby_name (next_number found);
  bytes = set_spelling new;
  old = option_map (λ x. standby_name x.0) found;
}

-- without a new one nothing is
abbrev pub changes : Option (ℕ × Set) → Option Set → Option Change
changes found new = option_map (change_of found) new

-- it was stopped where a new standby takes the place of that of before
abbrev pub StopsAt : Option (ℕ × Set) → Option Set → Option Held → Option Held → Type 0
StopsAt found new to to' = IsSomeAnd new (λ a. Stops found a to to')

-- what is at hand of a task: what is put and what goes, and the text of its lines
abbrev pub ready_of : Option (ℕ × Set) → Option Set → List Line → Ready
ready_of found new lines = record { change = changes found new; text = text_of lines }

-- this is at hand of what the task comes to
pub record IsReady (a : Sides) (task : StandbyTask) (ready : Ready) : Type 0 where
  pub found : Option (ℕ × Set)
  pub new : Option Set
  pub lines : List Line
  pub comes : Comes a task found new lines
  pub fit : IsFit found new
  pub is : ready ≡ ready_of found new lines
