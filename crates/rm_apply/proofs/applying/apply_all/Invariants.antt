use Rattle.std.specs.Vec.{vec_capacity, vec_len, Iter.{into_iter_items, into_iter_len}}
use Rattle.std.proofs.Common.{◌≡◌, ◌+◌, ◌≤◌, ◌++◌, All, length, map}
use Rattle.rm_apply.specs.Applying.{IsReady, applied}
use Rattle.rm_apply.proofs.applying.apply_all.Given as goal

abbrev pub invariant-loop-plan : goal.invariant-loop-plan
invariant-loop-plan g l = record {
  files : l.files.items ++ map (applied l.i l.s) (into_iter_items l.plan-iterator) ≡ map (applied l.i l.s) (into_iter_items l.initial.plan-iterator);
  ready : All IsReady (into_iter_items l.plan-iterator);
  room : vec_len l.files + length (into_iter_items l.plan-iterator) ≤ vec_capacity l.files;
  left : into_iter_len l.plan-iterator ≡ length (into_iter_items l.plan-iterator);
}
