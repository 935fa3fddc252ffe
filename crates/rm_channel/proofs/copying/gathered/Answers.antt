use Rattle.std.proofs.Common.{◌∙◌, ap, rules}
use mathlib.Core.List.{map-append}
use Rattle.rm_channel.specs.Jobs.{lists}
use Rattle.rm_channel.proofs.copying.gathered.Goals as goal

pub returns : goal.returns
returns c =
    let answers = c.in_ok-append.ensures.items in (
      c.in_ok-front.front,
      c.in_ok-back.back,
      search rules,
      search rules,
      search rules,
      ap lists answers ∙ map-append _ c.in_ok-front.front.answers.items c.in_ok-back.back.answers.items,
    )
