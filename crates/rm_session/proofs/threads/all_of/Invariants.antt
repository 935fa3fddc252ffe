use Rattle.std.specs.{Prelude.{◌≡◌, ◌++◌, map}, Vec.Iter.{into_iter_items}}
use Rattle.rm_machine.specs.Loading.{where_of}
use Rattle.rm_session.proofs.threads.all_of.Given as goal

abbrev pub invariant-loop-log : goal.invariant-loop-log
invariant-loop-log l = (l.kept.items ≡ map (where_of l.inc) l.yielded) × (l.fn.logs ≡ l.yielded ++ into_iter_items l.log-iterator)
