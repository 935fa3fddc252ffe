use Rattle.rm_verify.proofs.Expired.{expired-missing}
use Rattle.rm_verify.proofs.laws.what_expires_is_missing.Goals as goal

pub returns : goal.returns
returns c = λ held rs class r x catalog has of is status. expired-missing held class rs r x catalog has of is status
