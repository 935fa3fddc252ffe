use Rattle.std.proofs.Common.{◌≡◌, codes, map, take}
use Rattle.rm_lang_grammar.specs.Spelling.{spelled, many_spelled}
use Rattle.rm_lang_reading.specs.{Creating.{write_part}, Values.{write_values}}
use Rattle.rm_lang.proofs.backup.writes.Given as goal

abbrev pub invariant-loop-form : goal.invariant-loop-form
invariant-loop-form l = l.spelling ≡ many_spelled (codes "WRITE") (spelled write_part) (map write_values (take l.form-index l.writes))
