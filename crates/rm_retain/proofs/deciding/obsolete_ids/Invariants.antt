use Rattle.std.proofs.Common.{◌≢◌, take, AllPairs}
use Rattle.rm_retain.specs.{Needs.{needed_by}, Catalogued.{AreObsolete}}
use Rattle.rm_retain.proofs.deciding.obsolete_ids.Given as goal

abbrev pub invariant-loop-row : goal.invariant-loop-row
invariant-loop-row l = record {
  exact : AreObsolete (take l.row-index l.records) (needed_by l.catalog l.needs) l.ids.items;
  apart : AllPairs (λ i j. i ≢ j) l.ids.items;
}
