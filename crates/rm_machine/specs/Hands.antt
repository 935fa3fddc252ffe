-- What a statement hands out, to be carried out, and what one tells.
use Rattle.std.specs.Prelude.{◌≡◌, Option, Some, List}
use Rattle.rm_base.specs.{Store.{Held}, declared.refusal.Refusal.{Refusal}}
use Rattle.rm_lang_statement.specs.declared.command.Command.{Command}
use Rattle.rm_report.specs.declared.line.Line.{Line}
use Rattle.rm_machine.specs.{Effect.{Effect, done, refused, told}, Step.{IsDone}, declared.{handed.Handed.{Handed}, state.State.{State}}}

-- Where the store tells what it holds, the statement comes to these lines, this effect and the state t; the
-- objects that come and go are those of the effect.
pub record Hands (held : Option Held) (s : State) (c : Command) (x : Handed) (t : State) : Type 0 where
  pub effect : Effect
  pub comes : (objects : Held) → held ≡ Some objects → IsDone s objects c (done x.lines effect t)
  pub puts : x.objects ≡ effect.puts
  pub removes : x.removes ≡ effect.removes

-- Where the store tells what it holds, the statement tells these lines, and nothing changes.
abbrev pub Tells : Option Held → State → Command → List Line → Type 0
Tells held s c lines = (objects : Held) → held ≡ Some objects → IsDone s objects c (told lines)

-- Where the store tells what it holds, the statement is refused by what is at hand.
abbrev pub Refuses : Option Held → State → Command → Refusal → Type 0
Refuses held s c r = (objects : Held) → held ≡ Some objects → IsDone s objects c (refused r)
