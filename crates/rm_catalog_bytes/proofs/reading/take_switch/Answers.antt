use Rattle.std.proofs.Common.{◌≡◌, ◌++◌, ◌∷◌, sym, arith}
use Rattle.rm_base.specs.Number.{four, eight}
use Rattle.rm_catalog_bytes.{specs.Spelling.{switch_bytes}, proofs.Told.{switch_told}}
use Rattle.rm_catalog_bytes.proofs.reading.take_switch.Goals as goal

pub returns-in_default-clause-none : goal.returns-in_default-clause-none
returns-in_default-clause-none c r rest fits same =
    let whole : c.take_u8-thread.result.0 ∷ (four c.take_u32-inc.result.0 ++ (eight c.take_u64-scn.result.0 ++ (c.take_u8-on.result.0 ∷ (four c.take_u32-sequence.result.0 ++ c.take_u32-sequence.result.1.now)))) ≡ switch_bytes r ++ rest = cc in
    let told = switch_told r _ _ _ _ _ _ _ fits (omega arith) (omega arith) (omega arith) whole in
    c.in_default.ensures.none r.on (sym told.on)
