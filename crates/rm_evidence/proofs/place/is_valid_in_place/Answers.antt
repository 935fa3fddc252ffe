use Rattle.std.proofs.Common.{rules}
use Rattle.rm_evidence.proofs.Fitting.{ascends}
use Rattle.rm_evidence.proofs.place.is_valid_in_place.Goals as goal

pub returns-then-is_up_to-3 : goal.returns-then-is_up_to-3
returns-then-is_up_to-3 c = let up = ascends c.args.file.now.rows c.rows-rows.ensures.order in search (rules, up)
