use Rattle.std.{specs.Vec.{vec_len, vec_capacity}, proofs.Common.{◌≡◌, ◌+◌, ◌≤◌, reverse}}
use Rattle.rm_catalog.specs.{Edits.{after_edits}, Passes.{IsReady}}
use Rattle.rm_catalog.proofs.edits.make_rest.Given as goal

abbrev pub invariant-edits : goal.invariant-edits
invariant-edits l = record {
  same : after_edits (reverse l.edits.items) l.records.items ≡ after_edits (reverse l.fn.edits.items) l.fn.records.items;
  ready : IsReady l.records.items (reverse l.edits.items);
  room : vec_len l.records + vec_len l.edits ≤ vec_capacity l.records;
}

abbrev pub decreases-edits : goal.decreases-edits
decreases-edits l = vec_len l.edits
