use Rattle.std.{specs.Option.{option_map_or}, proofs.Common.{◌≡◌, ◌≤◌, ◌++◌, ◌∷◌, [], ◌∙◌, ap, sym, subst, arith, refl, inl, inr, List}}
use Rattle.rm_history.specs.{Tree.{IsTree, IsThere, reset_of, end_of, branched}, declared.tree.Incarnation.{Incarnation}}
use Rattle.rm_history.proofs.Branches.{IsTree-with_branch}
use Rattle.rm_history.proofs.tree.Tree.branch.Goals as goal

pub invariant_of-self-2 : goal.invariant_of-self-2
invariant_of-self-2 c =
    let tree = c.args.self.now in
    let there : IsThere tree c.args.parent = c.in-Some.ensures.there.0 refl in
    let reset : c.in-Some.field-0.reset ≡ reset_of tree c.args.parent = ap (λ o. option_map_or (λ n. n.reset) o 0) c.in-Some.ensures.value in
    let begun : reset_of tree c.args.parent ≤ c.args.at = omega (arith, reset, c.in-Some.reset-is) in
    let sound : IsTree tree = subst IsTree c.self.view_is c.self.invariant in
    let grown = c.in_ok-push.ensures.items ∙ ap (λ (xs : List Incarnation). xs ++ branched c.args.parent c.args.at ∷ []) c.self.view_is in
    subst IsTree (sym grown) (IsTree-with_branch tree c.args.parent c.args.at sound c.requires.few there begun)

pub returns-clause-outside : goal.returns-clause-outside
returns-clause-outside c =
    let tree = c.args.self.now in
    let reset : c.in-Some.field-0.reset ≡ reset_of tree c.args.parent = ap (λ o. option_map_or (λ n. n.reset) o 0) c.in-Some.ensures.value in
    let end : c.in-Some.field-0.end ≡ end_of tree c.args.parent = ap (λ o. option_map_or (λ n. n.end) o 0) c.in-Some.ensures.value in (
      (λ fails. absurd (cc)),
      λ both. elim both.1 [
        | inl low ↦ absurd (omega (arith, reset, low, c.in-Some.reset-is))
        | inr high ↦ absurd (omega (arith, end, high, c.in-Some.end-is))
      ],
    )
