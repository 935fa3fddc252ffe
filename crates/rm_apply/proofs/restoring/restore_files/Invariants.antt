use Rattle.std.proofs.Common.{◌≤◌, ◌<◌, ℕ, get_or, length, map, take}
use Rattle.rm_catalog.specs.Trees.{nodes}
use Rattle.rm_evidence.specs.Database.{world_of}
use Rattle.rm_apply.{specs.{Restore.{AreRestored}, Taking.{Stays}}, proofs.Numbers.{no_file}}
use Rattle.rm_apply.proofs.restoring.restore_files.Given as goal

-- what is chosen for each datafile that is left is what was chosen at first
abbrev pub invariant-loop-target : goal.invariant-loop-target
invariant-loop-target l = record {
  restored : AreRestored (world_of l.catalog) l.fn.bases l.i l.s (map (λ x. x.number) (take l.target-index l.targets)) l.files l.origins;
  left : (j : ℕ) → l.target-index ≤ j → j < length l.targets → Stays (nodes l.catalog) l.i l.s l.fn.bases l.bases (get_or l.targets j no_file).number;
}
