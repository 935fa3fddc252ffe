use Rattle.std.{specs.String.{string_bytes}, proofs.Common.{◌≡◌, ◌++◌}}
use Rattle.rm_drill.specs.Script.{number_after_writes, writes_text}
use Rattle.rm_drill.proofs.round.push_writes.Given as goal

abbrev pub invariant-loop-k : goal.invariant-loop-k
invariant-loop-k l = record {
  text : string_bytes l.out ≡ string_bytes l.fn.out ++ writes_text l.number l.round l.k;
  number : l.now ≡ number_after_writes l.number l.k;
}
