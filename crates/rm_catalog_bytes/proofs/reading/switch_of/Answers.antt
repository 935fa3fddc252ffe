use Rattle.std.proofs.Common.{◌∙◌, List, ℕ, length, ap, arith}
use Rattle.rm_catalog_bytes.proofs.Told.{length-switch}
use Rattle.rm_catalog_bytes.proofs.reading.switch_of.Goals as goal

pub returns-then-bytes-ne18-clause-none : goal.returns-then-bytes-ne18-clause-none
returns-then-bytes-ne18-clause-none c r fits is =
    let len = ap (λ (x : List ℕ). length x) is ∙ length-switch r in
    omega (arith, len)
