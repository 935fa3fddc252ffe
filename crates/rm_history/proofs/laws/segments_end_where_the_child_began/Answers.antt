use Rattle.rm_history.proofs.Paths.{segment_end-child}
use Rattle.rm_history.proofs.laws.segments_end_where_the_child_began.Goals as goal

pub returns : goal.returns
returns c tree i child is = segment_end-child tree is.parents i child
