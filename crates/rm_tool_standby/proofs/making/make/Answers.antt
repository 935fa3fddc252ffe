use Rattle.std.{specs.Prelude.{IfErr}, proofs.Common.{◌∙◌, ◌++◌, ◌∷◌, [], ℕ, List, Result, IfOk, ap, subst, sym}}
use Rattle.rm_apply.specs.{Recover.{TellsAll}, declared.recovering.Recovered.{Recovered}}
use Rattle.rm_base.specs.declared.{kinds.Bad.{Bad}, refusal.Refusal.{Refusal}}
use Rattle.rm_catalog.specs.declared.record.BaseEntry.{BaseEntry}
use Rattle.rm_catalog_typed.specs.TypedCatalog.{records_of}
use Rattle.rm_machine.specs.Recovery.{in_place, skipped_lines}
use Rattle.rm_step_recover.specs.Gap.{NamesGap}
use Rattle.rm_tool_standby.{specs.{Done.{made_line}, Refused.{gap, make}}, proofs.Working.{made-work}}
use Rattle.rm_tool_standby.proofs.making.make.Goals as goal

pub returns-in-Some-clause-refused : goal.returns-in-Some-clause-refused
returns-in-Some-clause-refused g c = make c.args.until c.in-Some.refusal (sym c.make_refusal.ensures ∙ c.in-Some.is)

pub returns-in-Err-clause-refused : goal.returns-in-Err-clause-refused
returns-in-Err-clause-refused g c =
    let held = g.D.Store.held c.args.from.now in
    let s = c.args.state.now in
    let until = c.args.until in
    let current = ap (λ (b : BaseEntry). b.current) c.base-base.ensures.value in
    let named = subst (λ (y : Result Recovered Refusal). IfErr y (NamesGap held s c.base-base.result.current until)) c.in-Err.is c.in_ok-back.ensures.gap in
    gap until c.in-Err.refusal (sym c.make_refusal.ensures ∙ c.in_default.is) (subst (λ (i : ℕ). NamesGap held s i until c.in-Err.refusal) current named)

pub returns-clause-work : goal.returns-clause-work
returns-clause-work g c =
    let held = g.D.Store.held c.args.from.now in
    let s = c.args.state.now in
    let until = c.args.until in
    let found = c.args.found.now in
    let back = c.in-Ok.back in
    let new = c.in_ok-new.new in
    let current = ap (λ (b : BaseEntry). b.current) c.base-base.ensures.value in
    let tells = subst (λ (y : Result Recovered Refusal). IfOk y (TellsAll held (records_of s.catalog) (in_place s) c.base-base.result.current until)) c.in-Ok.is c.in_ok-back.ensures.tells in
    made-work held s until found back new c.in_ok-lines.lines (sym c.make_refusal.ensures ∙ c.in_default.is)
    (subst (λ (i : ℕ). TellsAll held (records_of s.catalog) (in_place s) i until back) current tells)
    c.in_ok-new.ensures.imaged c.in_ok-new.ensures.valid c.in_ok-new.ensures.holds
    (c.in_ok-lines.ensures ∙ ap (λ (xs : List (ℕ × Bad)). skipped_lines xs ++ made_line found new ∷ []) c.as_slice.ensures)
