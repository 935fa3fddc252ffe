use Rattle.std.{specs.{List.{flat_map}, Vec.Iter.{into_iter_items}}, proofs.Common.{◌≡◌, ◌++◌}}
use Rattle.rm_step_tell.proofs.listing.lines_of.Given as goal

abbrev pub invariant-loop-more : goal.invariant-loop-more
invariant-loop-more l = l.lines ++ flat_map (λ x. x.1) (into_iter_items l.more-iterator) ≡ flat_map (λ x. x.1) (into_iter_items l.initial.more-iterator)
