use Rattle.std.proofs.Common.{◌≡◌, ◌∙◌, ◌+◌, ◌∷◌, ◌++◌, [], ℕ, Option, Vec, Global, IfNone, IfSome, length, ap, sym, subst, arith}
use Rattle.rm_backup.specs.{Renewed.{IsRenewed}, declared.renewing.Renewed.{Renewed}}
use Rattle.rm_machine.specs.RecoverCopy.{HasTaken}
use Rattle.rm_catalog_typed.specs.TypedCatalog.{records_of}
use Rattle.rm_step_copies.proofs.Walked.{AreRenewedBelow, below-all, below-more, below-past, below-start}
use Rattle.rm_step_copies.proofs.renewals.renewals.Goals.{in-Some+in_ok-push, in_default}
use Rattle.rm_step_copies.proofs.renewals.renewals.Goals as goal

pub loop-file-init : goal.loop-file-init
loop-file-init c =
    subst (AreRenewedBelow c.args.state.now c.args.evidence.now c.args.tag.now c.args.at 1) (sym c.new-copies.ensures.items)
    (below-start c.args.state.now c.args.evidence.now c.args.tag.now c.args.at)

pub loop-file-preserved : goal.loop-file-preserved
loop-file-preserved c =
    let s = c.args.state.now in
    let e = c.args.evidence.now in
    let tag = c.args.tag.now in
    let at = c.args.at in
    let n = c.loop-file.file in
    let xs = c.loop-file.copies.items in
    let was = c.loop-file.invariant in
    elim c.match-branch-2.branch [
      | in-Some+in_ok-push w ↦
          let some = subst (λ (o : Option Renewed). IfSome o (λ r. HasTaken s tag n × IsRenewed (records_of s.catalog) e n tag at r)) w.in-Some.is c.in_ok-renewed.ensures.some in
          let is : c.match-branch-2.copies.items ≡ xs ++ (n, w.in-Some.renewed) ∷ [] = ap (λ (v : Vec (ℕ × Renewed) Global). v.items) w.copies-is ∙ w.in_ok-push.ensures.items in
          subst (AreRenewedBelow s e tag at (n + 1)) (sym is) (below-more s e tag at n xs was w.in-Some.renewed some.0 some.1)
      | in_default w ↦
          let none = subst (λ (o : Option Renewed). IfNone o (¬ HasTaken s tag n)) w.in_default.is c.in_ok-renewed.ensures.none in
          subst (AreRenewedBelow s e tag at (n + 1)) (sym (ap (λ (v : Vec (ℕ × Renewed) Global). v.items) w.copies-is)) (below-past s e tag at n xs was none)
    ]

pub returns-clause-renewed : goal.returns-clause-renewed
returns-clause-renewed c =
    below-all c.args.state.now c.args.evidence.now c.args.tag.now c.args.at c.loop-file.file c.loop-file.copies.items c.loop-file.invariant (omega (arith, ap length c.files.ensures, c.loop-file-test.false))

pub returns-clause-few : goal.returns-clause-few
returns-clause-few c = omega (arith, c.loop-file.invariant.few, c.loop-file.auto.file-end, ap length c.files.ensures, c.requires.sound.catalog.ledger.datafiles.few)
