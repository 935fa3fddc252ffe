use Rattle.std.proofs.Common.{◌≡◌, ◌++◌, ◌∷◌, sym, arith}
use Rattle.rm_base.specs.Number.{four, eight}
use Rattle.rm_catalog_bytes.{specs.Spelling.{piece_head}, proofs.Told.{piece_told}}
use Rattle.rm_catalog_bytes.proofs.reading.take_piece_head.Goals as goal

pub returns-in_default-clause-none : goal.returns-in_default-clause-none
returns-in_default-clause-none c r rest fits same =
    let whole : c.take_u8-copy.result.0 ∷ (c.take_u8-kind.result.0 ∷ (four c.take_u32-inc.result.0 ++ (four c.take_u32-file.result.0 ++ (eight c.take_u64-from.result.0 ++ (eight c.take_u64-checkpoint.result.0 ++ (eight c.take_u64-high.result.0 ++ (four c.take_u32-rows.result.0 ++ c.take_u32-rows.result.1.now))))))) ≡ piece_head r ++ rest = cc in
    let told = piece_told r _ _ _ _ _ _ _ _ _ _ fits (omega arith) (omega arith) (omega arith) (omega arith) (omega arith) (omega arith) whole in
    c.in_default.ensures.none r.copy (sym told.copy)

pub returns-in_default-kind_of-clause-none : goal.returns-in_default-kind_of-clause-none
returns-in_default-kind_of-clause-none c r rest fits same =
    let whole : c.take_u8-copy.result.0 ∷ (c.take_u8-kind.result.0 ∷ (four c.take_u32-inc.result.0 ++ (four c.take_u32-file.result.0 ++ (eight c.take_u64-from.result.0 ++ (eight c.take_u64-checkpoint.result.0 ++ (eight c.take_u64-high.result.0 ++ (four c.take_u32-rows.result.0 ++ c.take_u32-rows.result.1.now))))))) ≡ piece_head r ++ rest = cc in
    let told = piece_told r _ _ _ _ _ _ _ _ _ _ fits (omega arith) (omega arith) (omega arith) (omega arith) (omega arith) (omega arith) whole in
    c.in_default-kind_of.ensures.none r.kind (sym told.kind)
