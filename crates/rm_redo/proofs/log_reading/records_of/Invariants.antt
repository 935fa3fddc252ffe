use Rattle.std.{specs.List.{flat_map}, proofs.Common.{◌≡◌, ◌++◌, ◌+◌, ◌*◌, length, All}}
use Rattle.rm_redo.specs.{LogFits.{RecordFits}, LogFormat.{record_bytes}}
use Rattle.rm_redo.proofs.log_reading.records_of.Given as goal

abbrev pub invariant-loop : goal.invariant-loop
invariant-loop l = record {
  parts : l.bytes ≡ flat_map record_bytes l.records.items ++ l.rest;
  count : length l.records.items ≡ l.counter;
  left : length l.rest + 80 * l.counter ≡ 80 * l.count;
  fits : All RecordFits l.records.items;
}
