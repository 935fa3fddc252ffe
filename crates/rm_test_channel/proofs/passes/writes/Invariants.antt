use Rattle.rm_live.specs.Passes.{IsLater}
use Rattle.rm_test_channel.proofs.passes.writes.Given as goal

abbrev pub invariant-loop : goal.invariant-loop
invariant-loop g l = IsLater l.fn.pass l.pass
