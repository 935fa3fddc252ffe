use Rattle.std.proofs.Common.{◌∙◌, ◌++◌, ◌∷◌, [], List, ℕ, ap, length, map}
use Rattle.rm_report.specs.declared.line.Line.TheVariants.{NeedsBackup, NeedCount}
use Rattle.rm_step_retain.proofs.{Dates.{counted-dated}, Needed.{need-tells}}
use Rattle.rm_step_retain.proofs.needing.report_need_backup.Goals as goal

pub returns-clause-tells : goal.returns-clause-tells
returns-clause-tells g c =
    need-tells c.args.state.now c.in_ok-looked.looked.evidence (g.D.Store.held c.args.store.now) c.in_ok-files.files.items c.in_ok-lines_of.field-0 c.in_ok-looked.ensures.at_hand c.in_ok-files.ensures.exact
    (c.in_ok-lines_of.ensures ∙ ap (λ (ns : List ℕ). map NeedsBackup ns ++ NeedCount (length ns) ∷ []) c.deref.ensures.value)

pub returns-clause-dates : goal.returns-clause-dates
returns-clause-dates g c =
    let files = c.deref.result.now in
    counted-dated NeedsBackup (NeedCount (length files)) (λ n. tt) tt files c.in_ok-lines_of.field-0 c.in_ok-lines_of.ensures
