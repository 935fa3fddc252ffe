use Rattle.std.{specs.Str.{all_ascii_digits}, proofs.Common.{◌≡◌, drop}}
use Rattle.rm_lang_words.proofs.values.are_digits.Given as goal

abbrev pub invariant-loop-byte : goal.invariant-loop-byte
invariant-loop-byte l = all_ascii_digits l.fn.text ≡ all_ascii_digits (drop l.byte-index l.fn.text)
