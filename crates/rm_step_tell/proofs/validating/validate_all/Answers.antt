use Rattle.std.proofs.Common.{◌≡◌, ◌<◌, ◌^◌, ℕ, List, [], length, subst}
use Rattle.rm_base.specs.declared.kinds.Bad.{Bad}
use Rattle.rm_evidence.{specs.{Available.{IsSkipped}, Gathered.{Lists}}, proofs.Seen.{seen-told}}
use Rattle.rm_step_tell.proofs.Validated.{validated, validated-dated, with-count}
use Rattle.rm_step_tell.proofs.validating.validate_all.Goals as goal

pub returns-clause-tells : goal.returns-clause-tells
returns-clause-tells g c =
    let bad = c.in_ok-bad.bad in
    let count = c.count_available.result in
    let n = c.count_of.result in
    let counted : length bad < 2 ^ 32 → n ≡ length bad = subst (λ (xs : List (ℕ × Bad)). length xs < 2 ^ 32 → n ≡ length xs) c.as_slice-2.ensures c.count_of.ensures in
    let is = with-count bad c.as_slice.result.now c.in_ok-lines.lines c.push.new.self count n c.as_slice.ensures c.in_ok-lines.ensures c.in_ok-push.ensures.ok in
    let held = g.D.Store.held c.args.store.now in
    validated c.args.state.now c.requires.sound held c.in_ok-records.records bad count n c.push.new.self c.in_ok-records.ensures.records
    (seen-told held (λ h. Lists Bad [] (IsSkipped h c.in_ok-records.records) bad) c.in_ok-bad.ensures.bad) c.count_available.ensures counted is

pub returns-clause-dates : goal.returns-clause-dates
returns-clause-dates g c =
    let bad = c.in_ok-bad.bad in
    let count = c.count_available.result in
    let n = c.count_of.result in
    validated-dated c.push.new.self bad count n (with-count bad c.as_slice.result.now c.in_ok-lines.lines c.push.new.self count n c.as_slice.ensures c.in_ok-lines.ensures c.in_ok-push.ensures.ok)
