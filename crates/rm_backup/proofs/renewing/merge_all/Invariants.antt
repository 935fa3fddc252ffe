use Rattle.std.proofs.Common.{◌-◌}
use Rattle.rm_piece.specs.Valid.{IsPiece}
use Rattle.rm_backup.specs.Level1s.{IsReached}
use Rattle.rm_backup.proofs.renewing.merge_all.Given as goal

abbrev pub invariant-loop-level1 : goal.invariant-loop-level1
invariant-loop-level1 l = record {
  reached : IsReached l.catalog l.file l.tag l.until l.level1s l.fn.copy l.now;
  valid : IsPiece l.now;
}

abbrev pub decreases-loop-level1 : goal.decreases-loop-level1
decreases-loop-level1 l = l.until - l.now.checkpoint
