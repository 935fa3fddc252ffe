use Rattle.std.proofs.Common.{◌≡◌, ◌++◌, ◌∷◌, sym, arith}
use Rattle.rm_base.specs.Number.{eight}
use Rattle.rm_catalog_bytes.{specs.Spelling.{ending_front}, proofs.Told.{ending_told}}
use Rattle.rm_catalog_bytes.proofs.ending.take_ending_front.Goals as goal

pub returns-in_default-clause-none : goal.returns-in_default-clause-none
returns-in_default-clause-none c e n rest fits few same =
    let whole : eight c.take_u64-size.result.0 ++ (c.take_digest.result.0 ++ (c.take_u8-status.result.0 ∷ (c.take_u8-keep.result.0 ∷ (eight c.take_u64-count.result.0 ++ c.take_u64-count.result.1.now)))) ≡ ending_front e n ++ rest = cc in
    let told = ending_told e n _ _ _ _ _ _ _ fits few (omega arith) c.take_digest.ensures.size (omega arith) whole in
    c.in_default.ensures.none e.status (sym told.status)

pub returns-in_default-flag_of-clause-none : goal.returns-in_default-flag_of-clause-none
returns-in_default-flag_of-clause-none c e n rest fits few same =
    let whole : eight c.take_u64-size.result.0 ++ (c.take_digest.result.0 ++ (c.take_u8-status.result.0 ∷ (c.take_u8-keep.result.0 ∷ (eight c.take_u64-count.result.0 ++ c.take_u64-count.result.1.now)))) ≡ ending_front e n ++ rest = cc in
    let told = ending_told e n _ _ _ _ _ _ _ fits few (omega arith) c.take_digest.ensures.size (omega arith) whole in
    c.in_default-flag_of.ensures.none e.keep (sym told.keep)
