use Rattle.std.proofs.Common.{◌≡◌, ◌++◌, ◌∷◌, sym, arith}
use Rattle.rm_base.specs.Number.{four, eight}
use Rattle.rm_catalog_bytes.{specs.Spelling.{set_part_bytes}, proofs.Told.{set_part_told}}
use Rattle.rm_catalog_bytes.proofs.sets.take_set_part.Goals as goal

pub returns-in_default-clause-none : goal.returns-in_default-clause-none
returns-in_default-clause-none c p rest fits same =
    let whole : four c.take_u32-file.result.0 ++ (c.take_u8-kind.result.0 ∷ (eight c.take_u64-from.result.0 ++ (eight c.take_u64-high.result.0 ++ (four c.take_u32-rows.result.0 ++ c.take_u32-rows.result.1.now)))) ≡ set_part_bytes p ++ rest = cc in
    let told = set_part_told p _ _ _ _ _ _ _ fits (omega arith) (omega arith) (omega arith) (omega arith) whole in
    c.in_default.ensures.none p.kind (sym told.kind)
