use Rattle.std.proofs.Common.{◌≡◌, ◌∙◌, ◌++◌, take, List, ap, sym, subst, option_to_list}
use Rattle.rm_history.specs.declared.tree.Incarnation.{Incarnation}
use Rattle.rm_catalog.{specs.Trees.{node_in, nodes, as_tree, known_in, IsNext}, proofs.Trees.{known_is, at_index, nodes_more}}
use Rattle.rm_catalog.proofs.tree.build.Goals as goal

pub with_row-requires-clause-next : goal.with_row-requires-clause-next
with_row-requires-clause-next c i is =
    let rs = c.args.records.now in
    let k = c.loop-row.row-index in
    let known : known_in c.loop-row.tree ≡ nodes (take k rs) = ap known_in c.loop-row.invariant ∙ known_is (nodes (take k rs)) in
    subst (λ (ns : List Incarnation). IsNext ns i) (sym known) (c.requires k i (at_index rs k c.row-item.result _ c.loop-row-test.true c.row-item.is is))

pub loop-row-preserved : goal.loop-row-preserved
loop-row-preserved c =
    let rs = c.args.records.now in
    let k = c.loop-row.row-index in
    let known : known_in c.loop-row.tree ≡ nodes (take k rs) = ap known_in c.loop-row.invariant ∙ known_is (nodes (take k rs)) in
    c.in_ok-tree.ensures ∙ ap (λ (ns : List Incarnation). as_tree (ns ++ option_to_list (node_in c.row-item.result))) known
    ∙ ap as_tree (sym (nodes_more rs k c.row-item.result c.loop-row-test.true c.row-item.is))
