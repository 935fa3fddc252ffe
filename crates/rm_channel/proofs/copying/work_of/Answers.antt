use Rattle.std.proofs.Common.{◌∙◌, ap, sym, rules}
use Rattle.rm_channel.specs.Jobs.{lists}
use Rattle.rm_channel.proofs.copying.work_of.Goals as goal

pub returns : goal.returns
returns c = (c.in_ok-rows.field-0, search rules, search rules, c.in_ok-reads.ensures, ap lists (sym c.as_slice.ensures.value) ∙ c.in_ok-scns.ensures)
