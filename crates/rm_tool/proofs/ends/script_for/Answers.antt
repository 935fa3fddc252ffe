use Rattle.std.proofs.Common.{◌∙◌}
use Rattle.rm_drill.proofs.Lengths.{script-short}
use Rattle.rm_tool.proofs.ends.script_for.Goals as goal

pub returns-in_ok-drill_script-in-Some-clause-within : goal.returns-in_ok-drill_script-in-Some-clause-within
returns-in_ok-drill_script-in-Some-clause-within g c = rw (c.into_vec.ensures ∙ c.in_ok-drill_script-in-Some.ensures) (script-short c.in-Some.number)
