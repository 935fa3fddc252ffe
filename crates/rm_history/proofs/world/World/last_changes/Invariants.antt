use Rattle.std.proofs.Common.{◌≡◌, ◌<◌, ℕ, None, length, slice_index_or}
use Rattle.rm_history.{specs.State.{concerns, latest}, proofs.States.{latest-on}}
use Rattle.rm_history.proofs.world.World.last_changes.Given as goal

-- what is left to be noted, on top of what was noted, is the last change of each block
abbrev pub invariant-loop-change : goal.invariant-loop-change
invariant-loop-change l = record {
  many : length l.last.items ≡ l.blocks;
  each : (b : ℕ) → b < l.blocks → latest-on (concerns l.self l.i l.s l.file b) l.change-iterator.iter.rest.now (slice_index_or l.last.items b None) ≡ latest (concerns l.self l.i l.s l.file b) l.history;
}
