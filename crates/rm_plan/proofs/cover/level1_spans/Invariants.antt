use Rattle.std.{specs.List.{list_any}, proofs.Common.{◌≡◌, ℕ, take}}
use Rattle.rm_plan.specs.{Covers.{level1_covers}, Spans.{covers}}
use Rattle.rm_plan.proofs.cover.level1_spans.Given as goal

abbrev pub invariant-loop-piece : goal.invariant-loop-piece
invariant-loop-piece l = (g : ℕ) → covers l.out.items g ≡ list_any (level1_covers l.ways l.file l.block g) (take l.piece-index l.level1s)
