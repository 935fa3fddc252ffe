use Rattle.rm_tool.proofs.Tallies.{refused-told}
use Rattle.rm_tool.proofs.tally.Tally.has_refused.Goals as goal

pub returns : goal.returns
returns c replies is = refused-told c.args.self replies is
