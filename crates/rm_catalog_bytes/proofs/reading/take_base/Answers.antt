use Rattle.std.proofs.Common.{◌≡◌, ◌++◌, ◌∷◌, sym, arith}
use Rattle.rm_base.specs.Number.{four, eight}
use Rattle.rm_catalog_bytes.{specs.Spelling.{base_bytes}, proofs.Told.{base_told}}
use Rattle.rm_catalog_bytes.proofs.reading.take_base.Goals as goal

pub returns-in_default-clause-none : goal.returns-in_default-clause-none
returns-in_default-clause-none c r rest fits same =
    let whole : four c.take_u32-dbid.result.0 ++ (c.take_u8-threads.result.0 ∷ (four c.take_u32-current.result.0 ++ (four c.take_u32-next_id.result.0 ++ (eight c.take_u64-moment.result.0 ++ (c.take_u8-code.result.0 ∷ (four c.take_u32-number.result.0 ++ (four c.take_u32-parallelism.result.0 ++ (c.take_u8-tracking.result.0 ∷ c.take_u8-tracking.result.1.now)))))))) ≡ base_bytes r ++ rest = cc in
    let told = base_told r _ _ _ _ _ _ _ _ _ _ _ fits (omega arith) (omega arith) (omega arith) (omega arith) (omega arith) (omega arith) whole in
    c.in_default.ensures.none r.policy (sym told.code) (sym told.number)

pub returns-in_default-flag_of-clause-none : goal.returns-in_default-flag_of-clause-none
returns-in_default-flag_of-clause-none c r rest fits same =
    let whole : four c.take_u32-dbid.result.0 ++ (c.take_u8-threads.result.0 ∷ (four c.take_u32-current.result.0 ++ (four c.take_u32-next_id.result.0 ++ (eight c.take_u64-moment.result.0 ++ (c.take_u8-code.result.0 ∷ (four c.take_u32-number.result.0 ++ (four c.take_u32-parallelism.result.0 ++ (c.take_u8-tracking.result.0 ∷ c.take_u8-tracking.result.1.now)))))))) ≡ base_bytes r ++ rest = cc in
    let told = base_told r _ _ _ _ _ _ _ _ _ _ _ fits (omega arith) (omega arith) (omega arith) (omega arith) (omega arith) (omega arith) whole in
    c.in_default-flag_of.ensures.none r.tracking (sym told.tracking)
