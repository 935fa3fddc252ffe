use Rattle.std.{specs.Vec.Iter.{into_iter_items}, proofs.Common.{◌≡◌, ◌∙◌, ℕ, ◌≤◌, ◌∷◌, length, ap, sym, subst, arith, reverse, All}}
use Rattle.rm_catalog.specs.{Edits.{place_of_edit}, Passes.{HasMade}, declared.record.Edit.{Edit}}
use Rattle.rm_catalog.proofs.Passing.{stands_more, stands_first, stands_last}
use Rattle.rm_catalog.proofs.edits.merge.Goals as goal

pub make_below-requires-clause-ready : goal.make_below-requires-clause-ready
make_below-requires-clause-ready c = c.loop-row.invariant.stands.ready

pub make_below-requires-clause-room : goal.make_below-requires-clause-room
make_below-requires-clause-room c = let room = c.loop-row.invariant.room in omega arith

pub loop-row-preserved : goal.loop-row-preserved
loop-row-preserved c =
    let at = c.loop-row in
    let r = c.in-Some.row in
    let rest = into_iter_items c.next.new.self in
    let steps : into_iter_items at.row-iterator ≡ r ∷ rest = c.in-Some.ensures.steps.0 in
    let left = reverse c.make_below.new.edits.items in
    record {
      len = let was = at.invariant.len in let gone = c.in-Some.ensures.steps.1 in let short = ap length steps in omega arith;
      stands = stands_more at.to.items c.make_below.new.records.items c.push.new.records.items (reverse at.edits.items) left (into_iter_items at.row-iterator) rest _ r steps c.push.ensures.items
          (subst (λ (p : ℕ). HasMade p at.to.items (reverse at.edits.items) c.make_below.new.records.items left) c.place.ensures.is c.make_below.ensures.made)
          c.make_below.ensures.ready
          (subst (λ (p : ℕ). All (λ (e : Edit). p ≤ place_of_edit e) left) c.place.ensures.is c.make_below.ensures.above)
          at.invariant.stands;
      room = let was = at.invariant.room in let gone = c.in-Some.ensures.steps.1 in let one = c.push.ensures.len in let two = c.make_below.ensures.room in
          let three = c.make_below.ensures.capacity in let four = c.push.ensures.capacity in omega arith;
    }

pub loop-row-init : goal.loop-row-init
loop-row-init c =
    let gives = c.into_iter-row-iterator.ensures.into_iter_gives in
    record {
      len = let one = gives.1 in let two = ap length gives.0 in omega (arith, c.args.records.ok.0);
      stands = stands_first c.args.to.items (reverse c.args.edits.items) _ c.args.records.items c.requires.empty gives.0 c.requires.order c.requires.ascending;
      room = let none = ap length c.requires.empty in let len = gives.1 in let room = c.requires.room in omega (arith, c.args.to.ok.0);
    }

pub returns : goal.returns
returns c =
    let none = c.in-None.ensures.steps in
    stands_last c.loop-row.to.items c.make_rest.new.records.items (reverse c.loop-row.edits.items) (into_iter_items c.loop-row.row-iterator) _
    (sym c.loop-row.invariant.len ∙ none.0) c.make_rest.ensures c.loop-row.invariant.stands
