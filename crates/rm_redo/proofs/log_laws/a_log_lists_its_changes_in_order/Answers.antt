use Rattle.rm_redo.proofs.Changes.{changes-ascend}
use Rattle.rm_redo.proofs.log_laws.a_log_lists_its_changes_in_order.Goals as goal

pub returns : goal.returns
returns c l valid = changes-ascend l valid.ascend
