use Rattle.std.proofs.{Common.{◌≡◌, ◌∙◌, ◌+◌, ◌++◌, ℕ, List, None, Some, ap, arith, sym}, lemmas.Bool.{le-ltb}}
use Rattle.rm_commit.specs.declared.commit.Object.{Object}
use Rattle.rm_machine.specs.Recover.{recover_target}
use Rattle.rm_machine.specs.RecoverCopy.{AreRenewed, copies_gone, copies_lines, copies_put, copy_refusal_at, renewed_refusal, targetless_refusal}
use Rattle.rm_machine.{specs.{Recovery.{skipped_lines}, State.{current_of, ledger}}, proofs.Renewing.{ids-left}}
use Rattle.rm_report.specs.declared.line.Line.{Line}
use Rattle.rm_step_copies.proofs.{Fit.{all-fit, all-short}, Handing.{all-dated, leads-on, renew-hands, renew-refused}}
use Rattle.rm_step_copies.proofs.statement.recover_copy.Goals as goal

pub unreachable-requires : goal.unreachable-requires
unreachable-requires g c =
    let s = c.args.state.now in
    let tag = c.args.tag.now in
    leads-on s (current_of s) c.args.until.now (copy_refusal_at s tag) (targetless_refusal s tag) c.requires.accepted (sym c.recover_target.ensures.value ∙ c.in_default.is)

pub renewed_refusal-requires-clause-short : goal.renewed_refusal-requires-clause-short
renewed_refusal-requires-clause-short g c =
    let s = c.args.state.now in
    let e = c.in_ok-evidence.evidence in
    let tag = c.args.tag.now in
    let xs = c.as_slice-copies.result.now in
    let are = coe 1 0 (i. AreRenewed s e tag c.in-Some.at (c.as_slice-copies.ensures.value i)) c.in_ok-made.ensures.renewed in
    let of = c.in_ok-evidence.ensures in
    all-short s tag xs (all-fit s e c.requires.sound of.fits of.recorded of.level1s tag c.in-Some.at xs are)

pub renew_all-requires-clause-fit : goal.renew_all-requires-clause-fit
renew_all-requires-clause-fit g c =
    let s = c.args.state.now in
    let e = c.in_ok-evidence.evidence in
    let tag = c.args.tag.now in
    let are = coe 1 0 (i. AreRenewed s e tag c.in-Some.at (c.as_slice-copies.ensures.value i)) c.in_ok-made.ensures.renewed in
    let of = c.in_ok-evidence.ensures in
    all-fit s e c.requires.sound of.fits of.recorded of.level1s tag c.in-Some.at c.as_slice-copies.result.now are

pub returns-in-Some-renewed_refusal-clause-refuses : goal.returns-in-Some-renewed_refusal-clause-refuses
returns-in-Some-renewed_refusal-clause-refuses g c =
    let s = c.args.state.now in
    let e = c.in_ok-evidence.evidence in
    let tag = c.args.tag.now in
    let xs = c.as_slice-copies.result.now in
    let are = coe 1 0 (i. AreRenewed s e tag c.in-Some.at (c.as_slice-copies.ensures.value i)) c.in_ok-made.ensures.renewed in
    let target : recover_target s c.args.until.now ≡ Some c.in-Some.at = sym c.recover_target.ensures.value ∙ c.in-Some.is in
    let of : renewed_refusal s xs ≡ Some c.in-Some-renewed_refusal.refusal = sym c.renewed_refusal.ensures ∙ c.in-Some-renewed_refusal.is in
    renew-refused (g.D.Store.held c.args.store.now) s tag c.args.until.now c.in-Some.at e xs c.requires.sound target c.in_ok-evidence.ensures.at_hand are c.in-Some-renewed_refusal.refusal of

pub returns-clause-hands : goal.returns-clause-hands
returns-clause-hands g c =
    let s = c.args.state.now in
    let e = c.in_ok-evidence.evidence in
    let tag = c.args.tag.now in
    let xs = c.as_slice-copies.result.now in
    let are = coe 1 0 (i. AreRenewed s e tag c.in-Some.at (c.as_slice-copies.ensures.value i)) c.in_ok-made.ensures.renewed in
    let made = c.in_ok-renew_all.ensures in
    let target : recover_target s c.args.until.now ≡ Some c.in-Some.at = sym c.recover_target.ensures.value ∙ c.in-Some.is in
    let of : renewed_refusal s xs ≡ None = sym c.renewed_refusal.ensures ∙ c.in_default-renewed_refusal.is in
    let first = c.in_ok-skipped_lines.ensures.lines ∙ ap skipped_lines (c.as_slice.ensures ∙ c.keep_of_copies-skipped.ensures) in
    renew-hands (g.D.Store.held c.args.store.now) s tag c.args.until.now c.in-Some.at e xs c.requires.sound target c.in_ok-evidence.ensures.at_hand are c.renew_all.new.handed c.renew_all.new.state of
    (made.lines ∙ ap (λ (ls : List Line). ls ++ copies_lines s tag xs) first) (made.objects ∙ ap (λ (os : List Object). os ++ copies_put s tag xs) c.new.ensures)
    (made.removes ∙ ap (λ (ns : List (List ℕ)). ns ++ copies_gone xs) c.new-2.ensures) made.after

pub returns-clause-dates : goal.returns-clause-dates
returns-clause-dates g c =
    all-dated c.args.state.now c.args.tag.now c.as_slice-copies.result.now c.in_ok-skipped_lines.field-0 c.renew_all.new.handed.lines c.in_ok-skipped_lines.ensures.dates c.in_ok-renew_all.ensures.lines

pub returns-clause-ids : goal.returns-clause-ids
returns-clause-ids g c =
    let s = c.args.state.now in
    let xs = c.as_slice-copies.result.now in
    let of : renewed_refusal s xs ≡ None = sym c.renewed_refusal.ensures ∙ c.in_default-renewed_refusal.is in
    le-ltb 4294967295 ((ledger s).base.next_id + 0 + 68) (omega (arith, ids-left s xs of))
