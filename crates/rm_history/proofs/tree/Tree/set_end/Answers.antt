use Rattle.std.{specs.Option.{option_map_or}, proofs.Common.{◌≡◌, ◌-◌, ◌∙◌, ℕ, List, ap, sym, subst, refl, slice_set}}
use Rattle.rm_history.specs.{Tree.{IsTree, IsThere, parent_of, reset_of}, declared.tree.Incarnation.{Incarnation}}
use Rattle.rm_history.proofs.Ends.{IsTree-with_end}
use Rattle.rm_history.proofs.tree.Tree.set_end.Goals as goal

pub invariant_of-self : goal.invariant_of-self
invariant_of-self c =
    let tree = c.args.self.now in
    let i = c.args.i in
    let end = c.args.end in
    let there : IsThere tree i = c.in-Some.ensures.there.0 refl in
    let parent : c.in-Some.old.parent ≡ parent_of tree i = ap (λ o. option_map_or (λ n. n.parent) o 0) c.in-Some.ensures.value in
    let reset : c.in-Some.old.reset ≡ reset_of tree i = ap (λ o. option_map_or (λ n. n.reset) o 0) c.in-Some.ensures.value in
    let by_parent : ℕ → List Incarnation = λ p. slice_set tree (i - 1) (record { parent = p; reset = c.in-Some.old.reset; end = end }) in
    let by_reset : ℕ → List Incarnation = λ r. slice_set tree (i - 1) (record { parent = parent_of tree i; reset = r; end = end }) in
    let new : Incarnation = record { parent = c.in-Some.old.parent; reset = c.in-Some.old.reset; end = end } in
    let same = ap (λ (t : List Incarnation). slice_set t (i - 1) new) c.self.view_is ∙ ap by_parent parent ∙ ap by_reset reset in
    subst IsTree (sym same) (IsTree-with_end tree i end there (subst IsTree c.self.view_is c.self.invariant))
