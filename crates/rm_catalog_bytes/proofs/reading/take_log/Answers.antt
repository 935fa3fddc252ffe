use Rattle.std.proofs.Common.{◌≡◌, ◌++◌, ◌∷◌, sym, arith}
use Rattle.rm_base.specs.Number.{four, eight}
use Rattle.rm_catalog_bytes.{specs.Spelling.{log_bytes}, proofs.Told.{log_told}}
use Rattle.rm_catalog_bytes.proofs.reading.take_log.Goals as goal

pub returns-in_default-clause-none : goal.returns-in_default-clause-none
returns-in_default-clause-none c r rest fits same =
    let whole : c.take_u8-archived.result.0 ∷ (four c.take_u32-inc.result.0 ++ (c.take_u8-thread.result.0 ∷ (four c.take_u32-sequence.result.0 ++ (eight c.take_u64-first.result.0 ++ (eight c.take_u64-next.result.0 ++ (eight c.take_u64-size.result.0 ++ (c.take_digest.result.0 ++ (c.take_u8-status.result.0 ∷ (c.take_u8-keep.result.0 ∷ c.take_u8-keep.result.1.now))))))))) ≡ log_bytes r ++ rest = cc in
    let told = log_told r _ _ _ _ _ _ _ _ _ _ _ _ fits (omega arith) (omega arith) (omega arith) (omega arith) (omega arith) c.take_digest.ensures.size whole in
    c.in_default.ensures.none r.archived (sym told.archived)

pub returns-in_default-status_of-clause-none : goal.returns-in_default-status_of-clause-none
returns-in_default-status_of-clause-none c r rest fits same =
    let whole : c.take_u8-archived.result.0 ∷ (four c.take_u32-inc.result.0 ++ (c.take_u8-thread.result.0 ∷ (four c.take_u32-sequence.result.0 ++ (eight c.take_u64-first.result.0 ++ (eight c.take_u64-next.result.0 ++ (eight c.take_u64-size.result.0 ++ (c.take_digest.result.0 ++ (c.take_u8-status.result.0 ∷ (c.take_u8-keep.result.0 ∷ c.take_u8-keep.result.1.now))))))))) ≡ log_bytes r ++ rest = cc in
    let told = log_told r _ _ _ _ _ _ _ _ _ _ _ _ fits (omega arith) (omega arith) (omega arith) (omega arith) (omega arith) c.take_digest.ensures.size whole in
    c.in_default-status_of.ensures.none r.status (sym told.status)

pub returns-in_default-flag_of-clause-none : goal.returns-in_default-flag_of-clause-none
returns-in_default-flag_of-clause-none c r rest fits same =
    let whole : c.take_u8-archived.result.0 ∷ (four c.take_u32-inc.result.0 ++ (c.take_u8-thread.result.0 ∷ (four c.take_u32-sequence.result.0 ++ (eight c.take_u64-first.result.0 ++ (eight c.take_u64-next.result.0 ++ (eight c.take_u64-size.result.0 ++ (c.take_digest.result.0 ++ (c.take_u8-status.result.0 ∷ (c.take_u8-keep.result.0 ∷ c.take_u8-keep.result.1.now))))))))) ≡ log_bytes r ++ rest = cc in
    let told = log_told r _ _ _ _ _ _ _ _ _ _ _ _ fits (omega arith) (omega arith) (omega arith) (omega arith) (omega arith) c.take_digest.ensures.size whole in
    c.in_default-flag_of.ensures.none r.keep (sym told.keep)
