use Rattle.std.proofs.Common.{◌≡◌, ◌<◌, ◌≤◌, All}
use Rattle.rm_redo.specs.Online.{IsThread, IsLost, thread_records, first_of}
use Rattle.rm_test_libraries.proofs.logs.a_full_log.Given as goal

abbrev pub invariant-loop-scn : goal.invariant-loop-scn
invariant-loop-scn l = record {
  thread : IsThread l.logs 1;
  there : ¬ IsLost l.logs 1;
  inc : l.logs.inc ≡ 1;
  first : first_of l.logs 1 ≤ l.scn;
  above : All (λ r. r.scn < l.scn) (thread_records l.logs 1);
}
