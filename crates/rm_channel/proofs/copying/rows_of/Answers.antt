use Rattle.std.proofs.Common.{rules}
use Rattle.rm_channel.proofs.Whole.{only-rows}
use Rattle.rm_channel.proofs.copying.rows_of.Goals as goal

pub returns : goal.returns
returns c = (c.in_ok-done.done, search rules, only-rows c.in_ok-done.done.rows.items c.swap_remove.result (search rules) c.swap_remove.ensures.value)
