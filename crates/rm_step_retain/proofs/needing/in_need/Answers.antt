use Rattle.std.proofs.{Common.{◌≤◌, ◌+◌, ◌∙◌, ◌∷◌, [], ℕ, List, arith, length, subst, sym, ap}, lemmas.Bool.{false≢true}}
use Rattle.std.proofs.lemmas.List.{length-append}
use Rattle.rm_apply.{specs.Files.{AreExactly}, proofs.Numbers.{Below, all_numbers, one_more, one_past}}
use Rattle.rm_history.specs.declared.world.Datafile.{Datafile}
use Rattle.rm_machine.specs.{Obsolete.{NeedsBackup, retention_of}, State.{ledger}}
use Rattle.rm_step_retain.proofs.{Needed.{needs-number}, needing.in_need.Goals.{then-branch+in_ok-push, else-branch}}
use Rattle.rm_step_retain.proofs.needing.in_need.Goals as goal

pub loop-index-preserved : goal.loop-index-preserved
loop-index-preserved c =
    let W : ℕ → Type 0 = NeedsBackup (retention_of c.args.state.now c.args.looked.now.evidence) in
    let n = c.loop-index.index + 1 in
    let old = c.loop-index.files.items in
    let before = c.loop-index.invariant in
    let tells = c.in_ok-needs_backup.ensures in
    elim c.if-branch.branch [
      | then-branch+in_ok-push w ↦
          let items = ap (λ v. v.items) w.files-is ∙ w.in_ok-push.ensures.items in
          record {
            exact = subst (AreExactly (Below W (n + 1))) (sym items) (one_more W n old before.exact (tells.0 w.if-branch.true));
            few = subst (λ (ns : List ℕ). length ns ≤ n) (sym items) (let few = before.few in omega (arith, few, length-append old (n ∷ [])));
          }
      | else-branch w ↦
          let items = ap (λ v. v.items) w.files-is in
          record {
            exact = subst (AreExactly (Below W (n + 1))) (sym items) (one_past W n old before.exact (λ needs. false≢true (sym w.if-branch.false ∙ tells.1 needs)));
            few = subst (λ (ns : List ℕ). length ns ≤ n) (sym items) (let few = before.few in omega (arith, few));
          }
    ]

pub returns-clause-exact : goal.returns-clause-exact
returns-clause-exact c =
    let s = c.args.state.now in
    let e = c.args.looked.now.evidence in
    let n = c.loop-index.index + 1 in
    let all : length (ledger s).files ≤ c.loop-index.index = (let ended = c.loop-index-test.false in let same = ap (λ (ds : List Datafile). length ds) c.files.ensures in omega (arith, ended, same)) in
    all_numbers (NeedsBackup (retention_of s e)) n c.loop-index.files.items (λ f needs. let most = (needs-number s e f needs).1 in omega (arith, most, all)) c.loop-index.invariant.exact
