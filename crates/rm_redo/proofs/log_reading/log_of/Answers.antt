use Rattle.std.proofs.Common.{◌∙◌, List, ℕ, length, sym, ap, arith}
use Rattle.rm_redo.proofs.LogBodies.{length-body, head_same, length-records, body_same, whole, whole_fits}
use Rattle.rm_redo.proofs.log_reading.log_of.Goals as goal

pub returns-then-body-lt38-clause-only : goal.returns-then-body-lt38-clause-only
returns-then-body-lt38-clause-only c p fits same =
    let long = ap (λ (x : List ℕ). length x) same ∙ length-body p fits in
    absurd (omega arith)

pub returns-then-rest-count-clause-only : goal.returns-then-rest-count-clause-only
returns-then-rest-count-clause-only c p fits same =
    let one = head_same _ p _ (length p.records) _ _ c.in-Some.ensures.fits fits.head c.in-Some.ensures.count fits.count (sym c.in-Some.ensures.parts ∙ same) in
    let long = length-records p.records fits.records in
    let rest = ap (λ (x : List ℕ). length x) one.rest in
    let count = one.count in
    absurd (omega arith)

pub returns-clause-only : goal.returns-clause-only
returns-clause-only c p fits same =
    body_same _ p
    (whole_fits c.in-Some.head _ _ c.in-Some.ensures.fits c.in-Some.ensures.count c.in_ok-records.ensures.count c.in_ok-records.ensures.fits)
    fits
    (sym (whole c.in-Some.head _ _ _ _ c.in-Some.ensures.parts c.in_ok-records.ensures.records c.in_ok-records.ensures.count) ∙ same)

pub returns-clause-found : goal.returns-clause-found
returns-clause-found c = whole c.in-Some.head _ _ _ _ c.in-Some.ensures.parts c.in_ok-records.ensures.records c.in_ok-records.ensures.count
