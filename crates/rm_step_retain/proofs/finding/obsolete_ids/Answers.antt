use Rattle.std.proofs.Common.{ap}
use Rattle.rm_catalog.specs.declared.record.BaseEntry.{BaseEntry}
use Rattle.rm_step_retain.proofs.Obsolete.{ids-few, ids-some, obsolete-in}
use Rattle.rm_step_retain.proofs.finding.obsolete_ids.Goals as goal

pub returns-clause-are : goal.returns-clause-are
returns-clause-are g c =
    let looked = c.in_ok-looked.looked in
    let policy = ap (λ (b : BaseEntry). b.policy) c.base-policy.ensures.value in
    let found = c.in_ok-obsolete.ensures in
    obsolete-in c.args.state.now c.requires.sound looked.records c.in_ok-looked.ensures.records looked.evidence c.base-policy.result.policy c.start_by-start.result policy c.start_by-start.ensures
    c.in_ok-obsolete.field-0.items found.exact found.ascends (g.D.Store.held c.args.store.now) c.in_ok-looked.ensures.at_hand

pub returns-clause-some : goal.returns-clause-some
returns-clause-some g c =
    let looked = c.in_ok-looked.looked in
    let policy = ap (λ (b : BaseEntry). b.policy) c.base-policy.ensures.value in
    ids-some c.args.state.now c.requires.sound looked.records c.in_ok-looked.ensures.records looked.evidence c.base-policy.result.policy c.start_by-start.result policy c.start_by-start.ensures
    c.in_ok-obsolete.field-0.items c.in_ok-obsolete.ensures.exact

pub returns-clause-few : goal.returns-clause-few
returns-clause-few g c =
    let looked = c.in_ok-looked.looked in
    let policy = ap (λ (b : BaseEntry). b.policy) c.base-policy.ensures.value in
    let found = c.in_ok-obsolete.ensures in
    ids-few c.args.state.now c.requires.sound looked.records c.in_ok-looked.ensures.records looked.evidence c.base-policy.result.policy c.start_by-start.result policy c.start_by-start.ensures
    c.in_ok-obsolete.field-0.items found.exact found.ascends
