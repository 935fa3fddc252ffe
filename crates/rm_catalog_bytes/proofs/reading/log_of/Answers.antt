use Rattle.std.proofs.Common.{◌∙◌, List, ℕ, length, ap, arith}
use Rattle.rm_catalog_bytes.proofs.Told.{length-log}
use Rattle.rm_catalog_bytes.proofs.reading.log_of.Goals as goal

pub returns-then-bytes-ne68-clause-none : goal.returns-then-bytes-ne68-clause-none
returns-then-bytes-ne68-clause-none c r fits is =
    let len = ap (λ (x : List ℕ). length x) is ∙ length-log r fits in
    omega (arith, len)
