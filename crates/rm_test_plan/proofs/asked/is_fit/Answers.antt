use Rattle.std.proofs.Common.{refl}
use Rattle.rm_test_plan.proofs.asked.is_fit.Goals as goal

pub returns : goal.returns
returns c ok = record {
  bases = rw c.as_slice.ensures at c.if-not-are_bases.ensures.fit refl;
  no_level1 = rw c.as_slice.ensures at c.if-not-are_bases.ensures.kind refl;
  level1s = rw c.as_slice-2.ensures at c.if-not-are_level1s.ensures.fit refl;
  all_level1 = rw c.as_slice-2.ensures at c.if-not-are_level1s.ensures.kind refl;
  logs = rw c.as_slice-3.ensures at c.are_logs.ensures ok;
}
