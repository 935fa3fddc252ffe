use Rattle.std.{specs.{Prelude.{IfOk}, List.{filter}}, proofs.Common.{◌≡◌, ◌∙◌, ℕ, List, take, ltb, ap, sym, subst}}
use Rattle.std.proofs.lemmas.List.Sorted.{IsNonDecreasingBy-take}
use Rattle.rm_history.specs.declared.tree.Incarnation.{Incarnation}
use Rattle.rm_catalog.specs.{Keys.{place_of, InOrder}, Edits.{below, place_of_edit, after_edits}, Trees.{nodes, as_tree, BranchInTurn}}
use Rattle.rm_catalog.{specs.declared.record.{Edit.{Edit}, Record.{Record}}, proofs.{Filters.{below_after}, Found.{AllBelow, AllFrom}}}
use Rattle.rm_catalog.proofs.{Passing.{take_below}, Trees.{below_in_turn, nodes_below}}
use Rattle.rm_catalog.proofs.catalog.tree_after.Goals as goal

-- the front of the records after the edits of the front is the front of the records after all
front_is : (rs front made : List Record) (es chosen : List Edit) (p q n : ℕ) → p ≡ q → AllBelow rs p n → AllFrom rs p n → front ≡ take n rs → chosen ≡ filter (λ (e : Edit). ltb (place_of_edit e) p) es
    → made ≡ after_edits chosen front → made ≡ below q (after_edits es rs)
front_is rs front made es chosen p q n same low high front_of chosen_of made_of =
    made_of ∙ ap (λ (x : List Edit). after_edits x front) chosen_of
    ∙ ap (λ (x : List Record). after_edits (filter (λ (e : Edit). ltb (place_of_edit e) p) es) x) (front_of ∙ take_below rs p n low high)
    ∙ sym (below_after p es rs) ∙ ap (λ (m : ℕ). below m (after_edits es rs)) same

pub make-requires : goal.make-requires
make-requires c = record { order = subst (λ (x : List Record). InOrder x) (sym c.in_ok-front.ensures) (IsNonDecreasingBy-take place_of c.count_before-n.result c.args.records.now c.requires.order) }

pub build-requires : goal.build-requires
build-requires c =
    let rs = c.args.records.now in
    let made = front_is rs c.in_ok-front.front.items c.make.new.records.items c.args.edits.now c.in_ok-edits_below.field-0.items c.place-place.result _ c.count_before-n.result c.place-place.ensures.is
    c.count_before-n.ensures.below c.count_before-n.ensures.above c.in_ok-front.ensures c.in_ok-edits_below.ensures c.in_ok-make.ensures.ok in
    subst (λ (x : List Record). BranchInTurn x) (sym (c.deref.ensures.value ∙ made)) (below_in_turn (after_edits c.args.edits.now rs) c.requires.catalog)

pub returns : goal.returns
returns c =
    let rs = c.args.records.now in
    let made = front_is rs c.in_ok-front.front.items c.make.new.records.items c.args.edits.now c.in_ok-edits_below.field-0.items c.place-place.result _ c.count_before-n.result c.place-place.ensures.is
    c.count_before-n.ensures.below c.count_before-n.ensures.above c.in_ok-front.ensures c.in_ok-edits_below.ensures c.in_ok-make.ensures.ok in
    subst (λ (ns : List Incarnation). IfOk c.build.result (λ t. t ≡ as_tree ns)) (ap (λ (x : List Record). nodes x) (c.deref.ensures.value ∙ made) ∙ nodes_below (after_edits c.args.edits.now rs)) c.build.ensures
