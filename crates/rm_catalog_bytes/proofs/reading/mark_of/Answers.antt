use Rattle.std.proofs.Common.{◌∙◌, List, ℕ, length, ap, arith}
use Rattle.rm_catalog_bytes.proofs.Told.{length-mark}
use Rattle.rm_catalog_bytes.proofs.reading.mark_of.Goals as goal

pub returns-then-bytes-ne20-clause-none : goal.returns-then-bytes-ne20-clause-none
returns-then-bytes-ne20-clause-none c r fits is =
    let len = ap (λ (x : List ℕ). length x) is ∙ length-mark r in
    omega (arith, len)
