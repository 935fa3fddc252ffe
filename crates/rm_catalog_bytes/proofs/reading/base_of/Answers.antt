use Rattle.std.proofs.Common.{◌∙◌, List, ℕ, length, ap, arith}
use Rattle.rm_catalog_bytes.proofs.Told.{length-base}
use Rattle.rm_catalog_bytes.proofs.reading.base_of.Goals as goal

pub returns-then-bytes-ne31-clause-none : goal.returns-then-bytes-ne31-clause-none
returns-then-bytes-ne31-clause-none c r fits is =
    let len = ap (λ (x : List ℕ). length x) is ∙ length-base r in
    omega (arith, len)
