use Rattle.std.proofs.{Common.{◌≡◌, ◌∙◌, [], ◌∷◌, ◌++◌, List, ap, sym, arith, reverse}, lemmas.List.{reverse-append}}
use Rattle.rm_catalog.specs.{Edits.{after_edits}, declared.record.{Record.{Record}, Edit.{Edit}}}
use Rattle.rm_catalog.proofs.Passing.{all_behind, ready_after}
use Rattle.rm_catalog.proofs.edits.make_rest.Goals as goal

-- the last one of a list comes first where it is reversed
turned : (es fs : List Edit) (e : Edit) → es ≡ fs ++ e ∷ [] → reverse es ≡ e ∷ reverse fs
turned es fs e is = ap (λ (x : List Edit). reverse x) is ∙ reverse-append fs (e ∷ [])

pub make_at_end-requires-clause-last : goal.make_at_end-requires-clause-last
make_at_end-requires-clause-last c =
    all_behind c.edits.records.items (reverse c.edits.edits.items) (reverse c.pop.new.self.items) c.in-Some.edit
    (turned c.edits.edits.items c.pop.new.self.items c.in-Some.edit c.in-Some.ensures.items) c.edits.invariant.ready

pub edits-preserved : goal.edits-preserved
edits-preserved c =
    let is = turned c.edits.edits.items c.pop.new.self.items c.in-Some.edit c.in-Some.ensures.items in
    record {
      same = ap (λ (x : List Record). after_edits (reverse c.pop.new.self.items) x) c.make_at_end.ensures.items
          ∙ sym (ap (λ (x : List Edit). after_edits x c.edits.records.items) is) ∙ c.edits.invariant.same;
      ready = ready_after c.edits.records.items c.make_at_end.new.records.items (reverse c.edits.edits.items) (reverse c.pop.new.self.items) c.in-Some.edit
          is c.make_at_end.ensures.items c.edits.invariant.ready;
      room = let one = c.make_at_end.ensures.len in let two = c.in-Some.ensures.len in let three = c.edits.invariant.room in let four = c.make_at_end.ensures.capacity in omega arith;
    }
