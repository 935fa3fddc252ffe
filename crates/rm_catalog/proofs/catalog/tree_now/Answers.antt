use Rattle.std.{specs.Prelude.{IfOk}, proofs.Common.{◌≡◌, ◌∙◌, ℕ, List, ap, sym, subst}}
use Rattle.rm_history.specs.declared.tree.Incarnation.{Incarnation}
use Rattle.rm_catalog.specs.{Edits.{below}, Trees.{nodes, as_tree, BranchInTurn}, declared.record.Record.{Record}}
use Rattle.rm_catalog.proofs.{Passing.{take_below}, Trees.{below_in_turn, nodes_below}}
use Rattle.rm_catalog.proofs.catalog.tree_now.Goals as goal

pub build-requires : goal.build-requires
build-requires c =
    let rs = c.args.records.now in
    let front = take_below rs c.place.result c.count_before-n.result c.count_before-n.ensures.below c.count_before-n.ensures.above ∙ ap (λ (p : ℕ). below p rs) c.place.ensures.is in
    subst (λ (x : List Record). BranchInTurn x) (sym front) (below_in_turn rs (record { order = c.requires.order; valid = c.requires.valid }))

pub returns : goal.returns
returns c =
    let rs = c.args.records.now in
    let front = take_below rs c.place.result c.count_before-n.result c.count_before-n.ensures.below c.count_before-n.ensures.above ∙ ap (λ (p : ℕ). below p rs) c.place.ensures.is in
    subst (λ (ns : List Incarnation). IfOk c.build.result (λ t. t ≡ as_tree ns)) (ap (λ (x : List Record). nodes x) front ∙ nodes_below rs) c.build.ensures
