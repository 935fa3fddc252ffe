use Rattle.std.{specs.Prelude.{Result}, proofs.{Common.{◌≡◌, ◌&&◌, [], ◌∷◌, true, false, refl, rules, subst}, lemmas.Option.{IfSome_then}}}
use Rattle.rm_base.specs.declared.kinds.Bad.{Bad}
use Rattle.rm_evidence.specs.{Taking.{IsTold}, Seen.{IsSeen}, Names.{log_name}, Objects.{IsLogObject}}
use Rattle.rm_evidence.proofs.Seen.{seen-all, seen-object, seen-told}
use Rattle.rm_machine.specs.Validate.{is_available}
use Rattle.rm_redo.specs.declared.log_file.LogFile.{LogFile}
use Rattle.rm_step_backup.specs.{Logs.{Adds}, declared.looking.Looked.{Looked}}
use Rattle.rm_step_backup.proofs.Archived.{adds-bad, adds-found, adds-none, counted, keeps-more, not-counted}
use Rattle.rm_step_backup.proofs.looking.look_at.Goals as goal

pub returns-then-not-counts-clause-adds : goal.returns-then-not-counts-clause-adds
returns-then-not-counts-clause-adds g c =
    let e = c.args.entry.now in
    let old : Looked = c.args.looked.now in
    let not : (e.archived && is_available e.status) ≡ false = search rules in
    let held = g.D.Store.held c.args.store.now in
    seen-told held (λ h. Adds h (e ∷ []) old old) (seen-all held (λ h. adds-none h e old old refl (not-counted e not)))

pub returns-in_ok-push-in-Ok-clause-adds : goal.returns-in_ok-push-in-Ok-clause-adds
returns-in_ok-push-in-Ok-clause-adds g c =
    let e = c.args.entry.now in
    let old : Looked = c.args.looked.now in
    let counts : (e.archived && is_available e.status) ≡ true = search rules in
    let both = counted e counts in
    let held = g.D.Store.held c.args.store.now in
    IfSome_then held (seen-told held (λ h. IsTold (IsLogObject e) (h (log_name e.id)) c.in_ok-log.field-0) c.in_ok-log.ensures.told)
    (λ h told. adds-found h e c.in-Ok.log old (record old { found = c.push.new.self }) both.0 both.1 (subst (λ (t : Result LogFile Bad). IsTold (IsLogObject e) (h (log_name e.id)) t) c.in-Ok.is told) c.in_ok-push-in-Ok.ensures.ok refl)

pub returns-in_ok-push-in-Ok-clause-recorded : goal.returns-in_ok-push-in-Ok-clause-recorded
returns-in_ok-push-in-Ok-clause-recorded g c =
    let e = c.args.entry.now in
    let old : Looked = c.args.looked.now in
    let held = g.D.Store.held c.args.store.now in
    let told = subst (λ (t : Result LogFile Bad). IsSeen held (λ h. IsTold (IsLogObject e) (h (log_name e.id)) t)) c.in-Ok.is c.in_ok-log.ensures.told in
    let is = seen-object (IsLogObject e) (log_name e.id) c.in-Ok.log held told in
    keeps-more e c.in-Ok.log old (record old { found = c.push.new.self }) c.in_ok-push-in-Ok.ensures.ok is.1.valid is.1.fields

pub returns-in_ok-push-in-Err-clause-adds : goal.returns-in_ok-push-in-Err-clause-adds
returns-in_ok-push-in-Err-clause-adds g c =
    let e = c.args.entry.now in
    let old : Looked = c.args.looked.now in
    let counts : (e.archived && is_available e.status) ≡ true = search rules in
    let both = counted e counts in
    let held = g.D.Store.held c.args.store.now in
    IfSome_then held (seen-told held (λ h. IsTold (IsLogObject e) (h (log_name e.id)) c.in_ok-log.field-0) c.in_ok-log.ensures.told)
    (λ h told. adds-bad h e c.in-Err.bad old (record old { skipped = c.push-in-Err.new.self }) both.0 both.1 (subst (λ (t : Result LogFile Bad). IsTold (IsLogObject e) (h (log_name e.id)) t) c.in-Err.is told) refl c.in_ok-push-in-Err.ensures.ok)
