use Rattle.std.proofs.Common.{◌∙◌, sym, arith, rules}
use Rattle.rm_catalog_bytes.{specs.Spelling.{set_ending}, proofs.SetTold.{behind_long, long, parts_told, set_behind, set_found, set_same}}
use Rattle.rm_catalog_bytes.proofs.sets.set_of.Goals as goal
use Rattle.rm_base.proofs.Fronts.{parted}

pub returns-then-bytes-lt20-clause-only : goal.returns-then-bytes-lt20-clause-only
returns-then-bytes-lt20-clause-only c r fits id is = let all = long r c.args.bytes.now is in absurd (omega (arith, all))

pub returns-then-count-rest-clause-only : goal.returns-then-count-rest-clause-only
returns-then-count-rest-clause-only c r fits id is =
    let told = set_behind r _ _ _ _ _ _ _ fits (omega arith) (omega arith) (omega arith) c.take_u32-inc.ensures.parts c.take_u64-checkpoint.ensures.parts c.take_u64-count.ensures.parts is in
    let all = behind_long r _ fits told.rest in
    absurd (omega (arith, all, told.count, c.if-count-rest.true))

pub returns-in_err-parts-clause-only : goal.returns-in_err-parts-clause-only
returns-in_err-parts-clause-only c r fits id is =
    let told = set_behind r _ _ _ _ _ _ _ fits (omega arith) (omega arith) (omega arith) c.take_u32-inc.ensures.parts c.take_u64-checkpoint.ensures.parts c.take_u64-count.ensures.parts is in
    let parts = parted _ c.take_u64-count.result.1.now c.split_at.result.0.now c.split_at.result.1.now c.split_at.ensures.front c.split_at.ensures.back in
    let split = parts_told r _ c.split_at.result.0.now c.split_at.result.1.now fits (omega (arith, c.split_at.ensures.front_len, told.count)) parts told.rest in
    let none = c.in_err-parts.ensures.only r.parts (omega (arith, told.count)) fits.parts split.0 in
    search rules

pub returns-in_err-size-clause-only : goal.returns-in_err-size-clause-only
returns-in_err-size-clause-only c r fits id is =
    let told = set_behind r _ _ _ _ _ _ _ fits (omega arith) (omega arith) (omega arith) c.take_u32-inc.ensures.parts c.take_u64-checkpoint.ensures.parts c.take_u64-count.ensures.parts is in
    let parts = parted _ c.take_u64-count.result.1.now c.split_at.result.0.now c.split_at.result.1.now c.split_at.ensures.front c.split_at.ensures.back in
    let split = parts_told r _ c.split_at.result.0.now c.split_at.result.1.now fits (omega (arith, c.split_at.ensures.front_len, told.count)) parts told.rest in
    let none = c.in_err-size.ensures.only (set_ending r) fits.ending split.1 in
    search rules

pub returns-clause-found : goal.returns-clause-found
returns-clause-found c =
    set_found _ _ _ _ _ _ _ _ c.take_u32-inc.ensures.parts c.take_u64-checkpoint.ensures.parts c.take_u64-count.ensures.parts c.in_ok-parts.ensures.count (parted _ _ _ _ c.split_at.ensures.front c.split_at.ensures.back) c.in_ok-parts.ensures.found c.in_ok-size.ensures.found

pub returns-clause-only : goal.returns-clause-only
returns-clause-only c r fits id is =
    set_same _ r (record { inc = omega arith; checkpoint = omega arith; count = omega (arith, c.in_ok-parts.ensures.count); parts = c.in_ok-parts.ensures.fits; ending = c.in_ok-size.ensures.fits }) fits (sym id) (sym (returns-clause-found c) ∙ is)
