use Rattle.std.proofs.Common.{◌≡◌, ◌∙◌, ℕ, suc, ◌+◌, ◌-◌, List, [], ◌∷◌, ◌++◌, Bool, Some, None, cond, ap, arith, drop, slice_get, sym}
use Rattle.std.proofs.{lemmas.{Bool.{ne_eqb}, List.{append_assoc}, Option.{get_or_from_slice_get, slice_get_within}}, Math.Seq.{drop-cons}}
use Rattle.rm_catalog.specs.declared.record.Record.{Record}
use Rattle.rm_history.specs.{Tree.{incarnation}, declared.tree.Incarnation.{Incarnation}}
use Rattle.rm_catalog_typed.specs.Ledger.{incarnation_record, numbered}
use Rattle.rm_catalog_typed.proofs.telling.tell_incarnations.Goals as goal

-- what is told next
told-next : (tree : List Incarnation) (k : ℕ) (n : Incarnation) → incarnation tree (k + 1) ≡ Some n → numbered incarnation_record (k + 1) (drop k tree) ≡ incarnation_record (k + 1) n ∷ numbered incarnation_record (k + 1 + 1) (drop (k + 1) tree)
told-next tree k n is =
    let ne = ne_eqb (k + 1) 0 (λ e. omega (arith, e)) in
    let place : (k + 1) - 1 ≡ k = omega arith in
    let next : suc k ≡ k + 1 = omega arith in
    let at : slice_get tree k ≡ Some n = sym (ap (λ (b : Bool). cond b None (slice_get tree ((k + 1) - 1))) ne ∙ ap (slice_get tree) place) ∙ is in
    let rest : drop k tree ≡ n ∷ drop (suc k) tree = drop-cons tree k n (slice_get_within tree k n at) ∙ ap (λ x. x ∷ drop (suc k) tree) (get_or_from_slice_get tree k n n at) in
    ap (numbered incarnation_record (k + 1)) rest ∙ ap (λ (j : ℕ). incarnation_record (k + 1) n ∷ numbered incarnation_record (k + 1 + 1) (drop j tree)) next

pub loop-k-preserved : goal.loop-k-preserved
loop-k-preserved c =
    let r = incarnation_record (c.loop-k.k + 1) c.in-Some.node in
    let rest = numbered incarnation_record (c.loop-k.k + 1 + 1) (drop (c.loop-k.k + 1) c.args.tree.now) in
    ap (λ (rs : List Record). rs ++ rest) c.in_ok-push.ensures.items ∙ append_assoc c.loop-k.records.items (r ∷ []) rest
    ∙ ap (λ (rs : List Record). c.loop-k.records.items ++ rs) (sym (told-next c.args.tree.now c.loop-k.k c.in-Some.node (sym c.in-Some.ensures.value))) ∙ c.loop-k.invariant
