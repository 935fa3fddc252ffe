use Rattle.std.{specs.String.{string_bytes}, proofs.Common.{◌≡◌, ◌++◌}}
use Rattle.rm_drill.specs.Script.{number_after_rounds, rounds_text}
use Rattle.rm_drill.proofs.script.push_rounds.Given as goal

abbrev pub invariant-loop-index : goal.invariant-loop-index
invariant-loop-index l = record {
  text : string_bytes l.out ≡ string_bytes l.fn.out ++ rounds_text l.number l.index;
  number : l.now ≡ number_after_rounds l.number l.index;
}
