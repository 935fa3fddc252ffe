use Rattle.std.proofs.Common.{◌∙◌, List, ℕ, length, ap, arith}
use Rattle.rm_catalog_bytes.proofs.Told.{length-incarnation}
use Rattle.rm_catalog_bytes.proofs.reading.incarnation_of.Goals as goal

pub returns-then-bytes-ne20-clause-none : goal.returns-then-bytes-ne20-clause-none
returns-then-bytes-ne20-clause-none c r fits is =
    let len = ap (λ (x : List ℕ). length x) is ∙ length-incarnation r in
    omega (arith, len)
