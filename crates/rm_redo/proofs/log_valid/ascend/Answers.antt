use Rattle.std.proofs.Common.{refl, arith}
use Rattle.rm_base.proofs.Items.{AllPairs-from_adjacent}
use Rattle.rm_redo.{specs.Logs.{IsBefore}, proofs.LogFitting.{before_then}}
use Rattle.rm_redo.proofs.log_valid.ascend.Goals as goal

pub returns : goal.returns
returns c = (
  λ _. AllPairs-from_adjacent IsBefore before_then c.args.records.now (λ k d inside. c.loop-i.invariant k d (omega arith)),
  λ _. refl,
)
