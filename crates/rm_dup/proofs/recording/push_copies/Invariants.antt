use Rattle.std.proofs.Common.{◌≡◌, ◌++◌, map, take}
use Rattle.rm_catalog.specs.declared.record.Record.TheVariants as kind
use Rattle.rm_dup.specs.Entries.{entry_of}
use Rattle.rm_dup.proofs.recording.push_copies.Given as goal

abbrev pub invariant-loop-piece : goal.invariant-loop-piece
invariant-loop-piece l = l.records.items ≡ l.fn.records.items ++ map kind.Piece (map (entry_of l.moment) (take l.piece-index l.pieces))
