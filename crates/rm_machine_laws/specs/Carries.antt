-- What a statement hands out is carried out, or stopped.
use Rattle.std.specs.Prelude.{ℕ, ◌≡◌, ◌≤◌, Option, Some, None, List}
use Rattle.rm_base.specs.{Numbers.{last_moment}, Store.{Held}}
use Rattle.rm_catalog.specs.{Edits.{after_edits}, declared.record.Record.{Record}}
use Rattle.rm_commit.specs.{Carrying.{Carried, Halted}, declared.commit.Commit.{Commit}}
use Rattle.rm_lang_statement.specs.declared.command.Command.{Command}
use Rattle.rm_report.specs.{Reply.{said}, declared.line.Line.{Line}}
use Rattle.rm_machine.specs.{Effect.{Effect, LeavesObjects, Outcome, done}, Machine.{IsSoundMachine, Machine}, State.{at_moment}}
use Rattle.rm_machine.specs.{Step.{IsOutcome, IsOutcomeWithout, IsStatement, StepBy, and_drops}, declared.state.State.{State}}
use Rattle.rm_machine_laws.specs.{Holds.{records_in}, Moments.{IsMomentIn}, Steps.{StepsAt}, Stopped.{StopsAt}}

-- what a statement comes to at this moment, where there is a database or none
abbrev pub IsOutcomeIn : Option State → Held → Command → ℕ → Outcome → Type 0
IsOutcomeIn None held c moment o = IsOutcomeWithout c moment o
IsOutcomeIn (Some s) held c moment o = IsOutcome (at_moment s moment) held c o

-- Where there is no database, what is at hand leads a sound machine on to a sound one.
abbrev pub LeadsOnWithout : Command → Type 0
LeadsOnWithout c =
    (m : Machine) (moment : ℕ) (lines : List Line) (effect : Effect) (t : State) (after : Held)
    → IsStatement c → m.state ≡ None → IsSoundMachine m → moment ≤ last_moment
    → IsOutcomeWithout c moment (done lines effect t) → LeavesObjects effect m.objects after
    → (n : Machine) × StepBy None m c (done lines effect t) (said lines) n × (n.objects ≡ after) × IsSoundMachine n

-- The statement came to these lines, to this change outside, and to the state t, where the store tells what it
-- holds. The objects of a saved site go with those of the effect. The edits make the records those of t.
pub record IsHanded (held : Option Held) (o : Option State) (c : Command) (moment : ℕ) (lines : List Line) (x : Commit) (t : State) : Type 0 where
  pub effect : Effect
  pub comes : (objects : Held) → held ≡ Some objects → IsOutcomeIn o objects c moment (done lines effect t)
  pub puts : x.objects ≡ effect.puts
  pub removes : x.removes ≡ (and_drops o effect).removes
  pub edits : after_edits x.edits (records_in o) ≡ records_in (Some t)

-- What is handed out and carried out is a step.
abbrev pub CarriesOn : Command → Type 0
CarriesOn c =
    (held held' : Option Held) (kept kept' : Option (List Record)) (o : Option State) (moment : ℕ) (lines : List Line) (x : Commit) (t : State)
    → IsStatement c → IsMomentIn o moment → IsHanded held o c moment lines x t → Carried x held kept held' kept'
    → StepsAt held kept o c moment (said lines) held' kept' (Some t)

-- And where carrying it out was stopped, the machine before it is left, or the one after it.
abbrev pub StopsWell : Command → Type 0
StopsWell c =
    (held held' : Option Held) (kept kept' : Option (List Record)) (o : Option State) (moment : ℕ) (lines : List Line) (x : Commit) (t : State)
    → IsStatement c → IsMomentIn o moment → IsHanded held o c moment lines x t → Halted x held kept held' kept'
    → StopsAt held kept o c moment held' kept'
