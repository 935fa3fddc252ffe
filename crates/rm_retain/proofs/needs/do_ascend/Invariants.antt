use Rattle.std.proofs.Common.{take}
use Rattle.rm_retain.proofs.Taking.{copies_of, AscendTo}
use Rattle.rm_retain.proofs.needs.do_ascend.Given as goal

abbrev pub invariant-loop-piece : goal.invariant-loop-piece
invariant-loop-piece l = AscendTo l.id l.file (copies_of (take l.piece-index l.bases))
