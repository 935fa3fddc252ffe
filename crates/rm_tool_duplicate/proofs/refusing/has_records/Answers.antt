use Rattle.rm_shelf.specs.Shelved.{under}
use Rattle.rm_tool_duplicate.proofs.Reasons.{has-records}
use Rattle.rm_tool_duplicate.proofs.refusing.has_records.Goals as goal

pub returns-clause-told : goal.returns-clause-told
returns-clause-told g c =
    has-records (under c.args.number (g.H.Shelf.shelved c.args.shelf.now)) c.in_ok-records.records c.is_empty.result c.in_ok-records.ensures.records c.is_empty.ensures
