use Rattle.std.{specs.{Prelude.{not, ◌&&◌}, Ordering.{is_lt, nat_cmp}}, proofs.Common.{rules, List, sym, ◌∙◌}}
use Rattle.std.proofs.lemmas.List.{Elements.{filter_agree}, Sorted.{IsNonDecreasingBy-from_sort_by_key, answers_always}}
use Rattle.rm_catalog.{specs.{Edits.{place_of_edit}, declared.record.Edit.{Edit}}, proofs.Stable.{same_outcome, is_at, tie_is}}
use Rattle.rm_catalog.proofs.edits.by_place.Goals as goal

pub returns-clause-order : goal.returns-clause-order
returns-clause-order c = IsNonDecreasingBy-from_sort_by_key place_of_edit _ c.in_ok-sort_by_key.ensures.sorted (λ a r q k. search rules)

pub returns-clause-same : goal.returns-clause-same
returns-clause-same c rs =
    let ties_of = λ (e : Edit) (f : Edit). not (is_lt (nat_cmp (place_of_edit e) (place_of_edit f))) && not (is_lt (nat_cmp (place_of_edit f) (place_of_edit e))) in
    let agree = λ (e : Edit) (es : List Edit). filter_agree (ties_of e) (is_at (place_of_edit e)) (λ f. tie_is (place_of_edit e) (place_of_edit f)) es in
    let stable = c.in_ok-sort_by_key.ensures.stable place_of_edit (answers_always _ _ _ (λ f a r g h. search rules)) in
    same_outcome c.sort_by_key.new.self.items c.args.edits.items rs (λ e. sym (agree e c.sort_by_key.new.self.items) ∙ stable e ∙ agree e c.args.edits.items)
