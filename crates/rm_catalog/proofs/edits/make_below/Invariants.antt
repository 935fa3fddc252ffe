use Rattle.std.{specs.Vec.{vec_len, vec_capacity}, proofs.Common.{◌+◌, ◌≤◌, reverse}}
use Rattle.rm_catalog.specs.Passes.{IsReady, HasMade}
use Rattle.rm_catalog.proofs.edits.make_below.Given as goal

abbrev pub invariant-edits : goal.invariant-edits
invariant-edits l = record {
  made : HasMade l.place l.fn.records.items (reverse l.fn.edits.items) l.records.items (reverse l.edits.items);
  ready : IsReady l.records.items (reverse l.edits.items);
  room : vec_len l.records + vec_len l.edits ≤ vec_len l.fn.records + vec_len l.fn.edits;
  capacity : vec_capacity l.fn.records ≤ vec_capacity l.records;
}

abbrev pub decreases-edits : goal.decreases-edits
decreases-edits l = vec_len l.edits
