use Rattle.std.proofs.Common.{lit<, refl}
use Rattle.rm_tool_opening.proofs.Source.{told-err}
use Rattle.rm_tool.specs.Early.{IsOfLong}
use Rattle.rm_tool.specs.declared.early.Early.TheVariants as early
use Rattle.rm_tool.proofs.ends.script_of.Goals as goal

pub returns-in_err-write_all-in-Err-TooLong-clause-long_only : goal.returns-in_err-write_all-in-Err-TooLong-clause-long_only
returns-in_err-write_all-in-Err-TooLong-clause-long_only g c counted many = told-err c.from_residual.result early.Sink IsOfLong c.from_residual.ensures.1 (1, lit< tt, refl)
