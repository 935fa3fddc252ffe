-- How a standby ends, and what it leaves.
use Rattle.std.specs.Prelude.{ℕ, ◌≡◌, Option, Some, None, List}
use Rattle.rm_base.specs.{Outside.{Appends}, Store.{Held}, declared.refusal.Refusal.{Refusal}}
use Rattle.rm_lang_words.specs.declared.standby.StandbyTask.{StandbyTask}
use Rattle.rm_piece.specs.declared.set.Set.{Set}
use Rattle.rm_report.specs.declared.line.Line.{Line}
use Rattle.rm_tool_opening.specs.Opening.{BeginsBadRecord, TellsValid, WritesBadRecord}
use Rattle.rm_tool_ends.specs.{Writing.{WritesFront, refusal_line}, declared.ended.Ended.{Ended}}
use Rattle.rm_tool_ends.specs.declared.ended.Ended.TheVariants as ended
use Rattle.rm_tool_standby.specs.{Asked.{Sides}, Done.{Comes, text_of}, Kept.{Replaces, Stops}, Refused.{Refuses}}

-- a new standby takes the place of that of before; without a new one nothing changes
abbrev pub Takes : Option (ℕ × Set) → Option Set → Option Held → Option Held → Type 0
Takes found None to to' = to' ≡ to
Takes found (Some new) to to' = Replaces found new to to'

-- All of it was done, and exactly its lines were written.
pub record Finishes (task : StandbyTask) (a b : Sides) (before now : Option (List ℕ)) : Type 0 where
  pub found : Option (ℕ × Set)
  pub new : Option Set
  pub lines : List Line
  pub comes : Comes a task found new lines
  pub takes : Takes found new a.to b.to
  pub written : Appends before now (text_of lines)

-- It was refused, and the line of that was written.
pub record EndsRefused (task : StandbyTask) (a : Sides) (before now : Option (List ℕ)) : Type 0 where
  pub refusal : Refusal
  pub refuses : Refuses a task refusal
  pub written : Appends before now (refusal_line refusal)

-- The sink failed in a text, of which a front was written that is not all of it: in the line of a record or of a refusal, with nothing
-- changed; or in its lines, after all was done.
pub data EndsInText (task : StandbyTask) (a b : Sides) (before now : Option (List ℕ)) : Type 0 where
  in_bad_record : b ≡ a → BeginsBadRecord a.records before now → EndsInText task a b before now
  in_refusal : (refusal : Refusal) → b ≡ a → Refuses a task refusal → WritesFront before now (refusal_line refusal) → EndsInText task a b before now
  in_lines : (found : Option (ℕ × Set)) (new : Option Set) (lines : List Line) → Comes a task found new lines → Takes found new a.to b.to
      → WritesFront before now (text_of lines) → EndsInText task a b before now

-- It was stopped, with nothing written: nothing changed, or it was stopped where a new standby takes the place of that of before.
pub data EndsStopped (task : StandbyTask) (a b : Sides) (before now : Option (List ℕ)) : Type 0 where
  before_changes : now ≡ before → b ≡ a → EndsStopped task a b before now
  in_changes : (found : Option (ℕ × Set)) (new : Set) (lines : List Line) → now ≡ before → Comes a task found (Some new) lines
      → Stops found new a.to b.to → EndsStopped task a b before now

-- what it leaves where it ends early; a store fails only where the records are valid
abbrev pub Leaves : StandbyTask → Sides → Sides → Option (List ℕ) → Option (List ℕ) → Ended → Type 0
Leaves task a b before now ended.Refused = (b ≡ a) × EndsRefused task a before now
Leaves task a b before now ended.BadRecord = (b ≡ a) × WritesBadRecord a.records before now
Leaves task a b before now ended.Sink = EndsInText task a b before now
Leaves task a b before now ended.Store = TellsValid a.records × EndsStopped task a b before now
Leaves task a b before now ended.Keeper = (now ≡ before) × (b ≡ a)
Leaves task a b before now ended.NoMemory = EndsStopped task a b before now
