use Rattle.std.proofs.Common.{ap, refl}
use Rattle.rm_catalog.specs.declared.record.BaseEntry.{BaseEntry}
use Rattle.rm_step_repair.proofs.Gathering.{gap-by, place-fits-records, targets, told-by}
use Rattle.rm_step_repair.proofs.telling.tell_blocks.Goals as goal

pub gather_by-requires-clause-place : goal.gather_by-requires-clause-place
gather_by-requires-clause-place g c κs within =
    let hand = c.in_ok-hand.hand in
    place-fits-records c.args.state.now hand.records hand.place c.in_ok-hand.ensures.records c.in_ok-hand.ensures.place c.requires.sound

pub mend_jobs-requires-clause-there : goal.mend_jobs-requires-clause-there
mend_jobs-requires-clause-there g c =
    let hand = c.in_ok-hand.hand in
    targets c.args.state.now hand.records hand.place c.in_ok-hand.ensures.records c.in_ok-hand.ensures.place _ _ (ap (λ (b : BaseEntry). b.current) c.base-inc.ensures.value) c.now-scn.ensures c.args.blocks.now c.requires.there

pub returns-in-Ok-clause-told : goal.returns-in-Ok-clause-told
returns-in-Ok-clause-told g c =
    let hand = c.in_ok-hand.hand in
    let e = c.in_ok-evidence.evidence in
    told-by c.args.state.now hand.records hand.place c.in_ok-hand.ensures.records c.in_ok-hand.ensures.place _ _ (ap (λ (b : BaseEntry). b.current) c.base-inc.ensures.value) c.now-scn.ensures c.args.blocks.now (g.D.Store.held c.args.store.now) e c.in_ok-evidence.ensures.gathered _ c.in_ok-evidence.ensures.fits c.in-Ok.ensures.jobs refl

pub returns-in-Err-Gap-clause-gap : goal.returns-in-Err-Gap-clause-gap
returns-in-Err-Gap-clause-gap g c =
    let hand = c.in_ok-hand.hand in
    let e = c.in_ok-evidence.evidence in
    gap-by c.args.state.now hand.records hand.place c.in_ok-hand.ensures.records c.in_ok-hand.ensures.place _ _ (ap (λ (b : BaseEntry). b.current) c.base-inc.ensures.value) c.now-scn.ensures c.args.blocks.now (g.D.Store.held c.args.store.now) e c.in_ok-evidence.ensures.gathered
    c.in-Err-Gap.field-0 c.in-Err-Gap.gap _ c.in-Err-Gap.field-0-is c.in-Err-Gap.ensures.gap c.gap_refusal.ensures
