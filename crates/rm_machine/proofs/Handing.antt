-- What a statement hands out is what it comes to.
use Rattle.std.proofs.Common.{◌≡◌, List, Option, Some, sym, subst}
use Rattle.rm_base.specs.Store.{Held}
use Rattle.rm_lang_statement.specs.declared.command.Command.{Command}
use Rattle.rm_report.specs.declared.line.Line.{Line}
use Rattle.rm_machine.specs.{Effect.{Effect, done}, Hands.{Hands}, Step.{IsDone}, declared.{handed.Handed.{Handed}, state.State.{State}}}

-- by these lines, this effect and this state
pub hands-by : (held : Option Held) (s : State) (c : Command) (x : Handed) (t : State) (lines : List Line) (e : Effect) (q : State)
    → ((objects : Held) → held ≡ Some objects → IsDone s objects c (done lines e q)) → x.lines ≡ lines → x.objects ≡ e.puts → x.removes ≡ e.removes → t ≡ q → Hands held s c x t
hands-by held s c x t lines e q comes said puts removes is = record {
  effect = e;
  comes = λ objects tells. subst (λ u. IsDone s objects c (done x.lines e u)) (sym is) (subst (λ (ls : List Line). IsDone s objects c (done ls e q)) (sym said) (comes objects tells));
  puts = puts;
  removes = removes;
}
