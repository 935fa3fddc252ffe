use Rattle.std.proofs.Common.{◌≡◌, ℕ}
use Rattle.rm_evidence.specs.Database.{world_of}
use Rattle.rm_plan.specs.{Covers.{threads_cover}, Spans.{AreApart, covers}}
use Rattle.rm_plan.proofs.cover.log_cover.Given as goal

abbrev pub invariant-loop-thread : goal.invariant-loop-thread
invariant-loop-thread l = record {
  same : (g : ℕ) → covers l.cover.items g ≡ threads_cover (world_of l.catalog) l.i l.ways l.logs l.s g l.thread;
  apart : AreApart l.cover.items;
}
