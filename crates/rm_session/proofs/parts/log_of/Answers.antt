use Rattle.std.proofs.Common.{◌∙◌, sym}
use Rattle.rm_base.proofs.Sealing.{sealed_same}
use Rattle.rm_session.proofs.parts.log_of.Goals as goal

pub returns-in-Err-Bad : goal.returns-in-Err-Bad
returns-in-Err-Bad c x is =
    let told = c.in-Err-Bad.ensures.only x is.valid (sealed_same _ _ (sym c.in-Some.ensures.sealed ∙ is.spelled)) in
    absurd cc
