use Rattle.std.proofs.Common.{◌≡◌, codes, map, length, ◌-◌}
use Rattle.rm_lang_grammar.{specs.Reading.{begins_with, many_at}, proofs.Manys.{put_before}}
use Rattle.rm_lang_reading.specs.{Backups.{write_at}, Values.{write_values}}
use Rattle.rm_lang_reading.proofs.backup.writes.Given as goal

abbrev pub invariant-loop : goal.invariant-loop
invariant-loop l =
    put_before (map write_values l.writes.items) (many_at (begins_with (codes "WRITE")) write_at (length l.fn.tokens - l.counter) l.rest)
    ≡ many_at (begins_with (codes "WRITE")) write_at (length l.fn.tokens) l.fn.tokens
