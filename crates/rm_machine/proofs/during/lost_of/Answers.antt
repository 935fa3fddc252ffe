use Rattle.std.proofs.Common.{◌∙◌, arith, sym}
use Rattle.rm_machine.proofs.Refused.{lost-number}
use Rattle.rm_machine.proofs.during.lost_of.Goals as goal

pub overflow_cast-result : goal.overflow_cast-result
overflow_cast-result c = omega (arith, lost-number c.args.state.now c.args.writes.now c.in_ok-first_lost.field-0 c.requires.sound c.requires.there (sym c.first_lost.ensures ∙ c.in_ok-first_lost.was))
