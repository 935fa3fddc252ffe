-- What each statement keeps.
use Rattle.std.specs.Prelude.{ℕ, ◌≡◌, ◌≤◌, Bool, Some, None, List}
use Rattle.rm_base.specs.{Numbers.{last_moment}, Store.{Held}}
use Rattle.rm_lang_statement.specs.declared.command.Command.{Command}
use Rattle.rm_report.specs.{Reply.{said}, declared.line.Line.{Line}}
use Rattle.rm_machine.specs.{Effect.{Effect, LeavesObjects, done, told}, Honest.{IsHonest}, Machine.{Machine, IsSoundMachine}}
use Rattle.rm_machine.specs.{Nature.{nature_of, tells}, Sound.{IsSound}, State.{ledger, at_moment}}
use Rattle.rm_machine.specs.{Step.{IsStatement, IsOutcome, StepBy, and_drops}, declared.state.State.{State}}

-- the moment is one of a statement: none that was kept is later, and it is not past the last
pub record IsMomentOf (s : State) (moment : ℕ) : Type 0 where
  pub kept : (ledger s).base.moment ≤ moment
  pub last : moment ≤ last_moment

-- Where the world is honest, what is at hand is a step of the machine: from a sound one to a sound one.
abbrev pub LeadsOn : Command → Type 0
LeadsOn c =
    (m : Machine) (s : State) (moment : ℕ) (lines : List Line) (effect : Effect) (t : State) (after : Held)
    → IsStatement c → m.state ≡ Some s → IsSoundMachine m → IsHonest m c → IsMomentOf s moment
    → IsOutcome (at_moment s moment) m.objects c (done lines effect t) → LeavesObjects (and_drops (Some s) effect) m.objects after
    → (n : Machine) × StepBy (Some (at_moment s moment)) m c (done lines effect t) (said lines) n × (n.objects ≡ after) × IsSoundMachine n

-- Where the world is honest, what a statement tells is a step of the machine, from a sound one to itself.
abbrev pub TellsOn : Command → Type 0
TellsOn c =
    (m : Machine) (s : State) (moment : ℕ) (lines : List Line)
    → IsStatement c → m.state ≡ Some s → IsSoundMachine m → IsHonest m c → IsMomentOf s moment
    → IsOutcome (at_moment s moment) m.objects c (told lines) → StepBy (Some (at_moment s moment)) m c (told lines) (said lines) m

-- Whatever the devices hold, and whatever was ever written, the statement leaves a sound state, and no saved site.
abbrev pub StaysSound : Command → Type 0
StaysSound c =
    (s : State) (held : Held) (moment : ℕ) (lines : List Line) (effect : Effect) (t : State)
    → IsStatement c → IsSound s → IsMomentOf s moment → IsOutcome (at_moment s moment) held c (done lines effect t)
    → IsSound t × (t.catalog.saved ≡ None)

-- the statement only tells
abbrev pub only_tells : Command → Bool
only_tells c = tells (nature_of c)
