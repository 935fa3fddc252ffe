use Rattle.std.proofs.Common.{arith, reverse}
use Rattle.rm_catalog.proofs.Passing.{all_behind, ready_after, made_after}
use Rattle.rm_catalog.proofs.edits.make_below.Goals as goal

pub make_at_end-requires-clause-last : goal.make_at_end-requires-clause-last
make_at_end-requires-clause-last c =
    all_behind c.edits.records.items (reverse c.edits.edits.items) (reverse c.next_below.new.edits.items) c.in-Some.edit c.in-Some.ensures.some c.edits.invariant.ready

pub edits-preserved : goal.edits-preserved
edits-preserved c = record {
  made = made_after c.args.place c.args.records.now.items c.edits.records.items c.make_at_end.new.records.items
      (reverse c.args.edits.now.items) (reverse c.edits.edits.items) (reverse c.next_below.new.edits.items) c.in-Some.edit
      c.in-Some.ensures.some c.make_at_end.ensures.items c.in-Some.ensures.below c.edits.invariant.made;
  ready = ready_after c.edits.records.items c.make_at_end.new.records.items (reverse c.edits.edits.items) (reverse c.next_below.new.edits.items) c.in-Some.edit
      c.in-Some.ensures.some c.make_at_end.ensures.items c.edits.invariant.ready;
  room = let one = c.make_at_end.ensures.len in let two = c.in-Some.ensures.len in let three = c.edits.invariant.room in omega arith;
  capacity = let one = c.make_at_end.ensures.capacity in let two = c.edits.invariant.capacity in omega arith;
}
