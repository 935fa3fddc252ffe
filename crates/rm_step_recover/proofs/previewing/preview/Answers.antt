use Rattle.std.proofs.Common.{◌≡◌, ◌∙◌, ◌++◌, ◌∷◌, [], ℕ, List, None, ap, subst, sym}
use Rattle.rm_apply.specs.{Preview.{Previews}, Recover.{until_in}, declared.origin.Origin.{Origin}}
use Rattle.rm_base.specs.declared.kinds.Bad.{Bad}
use Rattle.rm_catalog.specs.declared.record.BaseEntry.{BaseEntry}
use Rattle.rm_history.specs.Tree.{IsThere}
use Rattle.rm_machine.specs.{Recovery.{in_place, range_refusal, skipped_lines}, Restore.{gap_line, origin_lines}, State.{current_of, tree}}
use Rattle.rm_catalog_typed.specs.TypedCatalog.{records_of}
use Rattle.rm_step_recover.proofs.{Dates.{previewed-dated}, Handing.{preview-tells}}
use Rattle.rm_step_recover.proofs.Records.{exact-numbers, fits, of-state, preview-within, there, within}
use Rattle.rm_step_recover.proofs.previewing.preview.Goals as goal

pub preview_from-requires-clause-place : goal.preview_from-requires-clause-place
preview_from-requires-clause-place g c κs within =
    let hand = c.in_ok-hand.hand in
    fits c.args.state.now hand.records c.in_ok-hand.ensures.records hand.place c.in_ok-hand.ensures.place c.requires.sound

pub preview_from-requires-clause-there : goal.preview_from-requires-clause-there
preview_from-requires-clause-there g c κs within =
    let s = c.args.state.now in
    let current = ap (λ (b : BaseEntry). b.current) c.base-current.ensures.value in
    there s c.in_ok-hand.hand.records c.in_ok-hand.ensures.records c.base-current.result.current (subst (IsThere (tree s)) (sym current) c.requires.sound.catalog.ledger.current)

pub fault_of-requires-clause-range : goal.fault_of-requires-clause-range
fault_of-requires-clause-range g c =
    let s = c.args.state.now in
    let current = ap (λ (b : BaseEntry). b.current) c.base-current.ensures.value in
    let at = c.in-Some.at in
    within s c.in_ok-hand.hand.records c.in_ok-hand.ensures.records c.base-current.result.current at (until_in c.in-Err.fault) c.in-Err.ensures.until
    (subst (λ i. range_refusal (tree s) i at ≡ None) (sym current) (preview-within s c.args.until.now at (sym c.recover_target.ensures.value ∙ c.in-Some.is) c.requires.accepted))

pub datafiles_at-requires-clause-there : goal.datafiles_at-requires-clause-there
datafiles_at-requires-clause-there g c =
    let s = c.args.state.now in
    let current = ap (λ (b : BaseEntry). b.current) c.base-current.ensures.value in
    there s c.in_ok-hand.hand.records c.in_ok-hand.ensures.records c.base-current.result.current (subst (IsThere (tree s)) (sym current) c.requires.sound.catalog.ledger.current)

pub returns-clause-tells : goal.returns-clause-tells
returns-clause-tells g c =
    let held = g.D.Store.held c.args.store.now in
    let s = c.args.state.now in
    let at = c.in-Some.at in
    let hand = c.in_ok-hand.hand in
    let told = c.in-Ok.told in
    let is = c.in_ok-hand.ensures.records in
    let i = c.base-current.result.current in
    let current = ap (λ (b : BaseEntry). b.current) c.base-current.ensures.value in
    let exact = exact-numbers s hand.records is i (current_of s) at c.in_ok-targets.targets c.as_slice.result.now c.deref.result.now current c.as_slice.ensures (c.deref.ensures.value ∙ c.in_ok-numbers.ensures) c.in_ok-targets.ensures.numbers in
    let previews = subst (λ n. Previews held (records_of s.catalog) (in_place s) n at told.0 told.1 told.2) current
    (of-state s hand.records is hand.place c.in_ok-hand.ensures.place (λ rs place. Previews held rs place i at told.0 told.1 told.2) c.in-Ok.ensures.previews) in
    let lines = c.in_ok-lines_of.ensures
    ∙ ap (λ (xs : List (ℕ × Bad)). skipped_lines xs ++ origin_lines c.deref.result.now c.as_slice-2.result.now ++ gap_line told.1 ∷ []) c.as_slice-3.ensures
    ∙ ap (λ (os : List Origin). skipped_lines told.2 ++ origin_lines c.deref.result.now os ++ gap_line told.1 ∷ []) c.as_slice-2.ensures in
    preview-tells held s c.args.until.now at (sym c.recover_target.ensures.value ∙ c.in-Some.is) c.deref.result.now told.0 told.1 told.2 c.in_ok-lines_of.field-0 exact previews lines

pub returns-clause-dates : goal.returns-clause-dates
returns-clause-dates g c = previewed-dated c.in_ok-lines_of.field-0 c.as_slice-3.result.now c.deref.result.now c.as_slice-2.result.now c.in-Ok.told.1 c.in_ok-lines_of.ensures
