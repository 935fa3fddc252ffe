use Rattle.std.proofs.Common.{◌∙◌, sym}
use Rattle.rm_base.proofs.Sealing.{sealed_same}
use Rattle.rm_redo.proofs.log_reading.decode_log.Goals as goal

pub returns-clause-only : goal.returns-clause-only
returns-clause-only c p valid same = c.log_of_body.ensures.only p valid (sealed_same _ _ (sym c.in-Some.ensures.sealed ∙ same))
