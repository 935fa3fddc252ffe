use Rattle.std.proofs.Common.{◌∙◌, List, ℕ, length, ap, arith}
use Rattle.rm_catalog_bytes.proofs.Told.{length-part}
use Rattle.rm_catalog_bytes.proofs.reading.part_of.Goals as goal

pub returns-then-bytes-ne45-clause-none : goal.returns-then-bytes-ne45-clause-none
returns-then-bytes-ne45-clause-none c r fits is =
    let len = ap (λ (x : List ℕ). length x) is ∙ length-part r fits in
    omega (arith, len)
