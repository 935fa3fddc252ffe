use Rattle.std.proofs.Common.{◌∙◌, sym}
use Rattle.rm_base.proofs.Sealing.{sealed_same}
use Rattle.rm_step_upkeep.proofs.finding.read_piece.Goals as goal

pub returns-in-Err-Bad-clause-none : goal.returns-in-Err-Bad-clause-none
returns-in-Err-Bad-clause-none c a valid spelled =
    let told = c.in-Err-Bad.ensures.only a valid (sealed_same _ _ (sym c.in-Some.ensures.sealed ∙ spelled)) in
    absurd cc
