use Rattle.std.proofs.Common.{arith}
use Rattle.rm_base.proofs.Sealing.{length-sealed}
use Rattle.rm_redo.{specs.LogFormat.{body_of}, proofs.{LogBodies.{length-body}, LogFitting.{fits}}}
use Rattle.rm_redo.proofs.log_laws.a_log_has_a_length.Goals as goal

pub returns : goal.returns
returns c l valid =
    let body = length-body l (fits l valid) in
    let whole = length-sealed (body_of l) in
    omega arith
