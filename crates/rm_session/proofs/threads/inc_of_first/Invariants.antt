use Rattle.std.{specs.Prelude.{◌≡◌}, proofs.Common.{drop}}
use Rattle.rm_machine.specs.Loading.{inc_of_first}
use Rattle.rm_session.proofs.threads.inc_of_first.Given as goal

abbrev pub invariant-loop-log : goal.invariant-loop-log
invariant-loop-log l = inc_of_first l.current (drop l.log-index l.logs) ≡ inc_of_first l.current l.logs
