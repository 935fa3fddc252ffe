use Rattle.rm_merge.proofs.Merged.{merged_valid, no_level1}
use Rattle.rm_merge.proofs.laws.a_merged_copy_is_a_piece.Goals as goal

pub returns : goal.returns
returns c = λ tree copy level1 first second meets. merged_valid copy level1 first second (no_level1 tree copy level1 meets) meets.blocks
