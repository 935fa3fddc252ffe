use Rattle.std.{specs.String.{string_bytes}, proofs.Common.{◌≡◌, take}}
use Rattle.rm_base.proofs.text.Text.from_ascii.Given as goal

abbrev pub invariant-loop-byte : goal.invariant-loop-byte
invariant-loop-byte l = string_bytes l.string ≡ take l.byte-index l.bytes
