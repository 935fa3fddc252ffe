use Rattle.std.proofs.Common.{◌≡◌, length, ◌-◌}
use Rattle.rm_lang_grammar.{specs.{Reading.{many_at}, Forms.{command_in}, Blocks.{goes_on}}, proofs.Manys.{put_before}}
use Rattle.rm_lang_reading.specs.Language.{inner_forms}
use Rattle.rm_lang_reading.proofs.run.all_inner.Given as goal

abbrev pub invariant-loop : goal.invariant-loop
invariant-loop l =
    put_before l.found.items (many_at goes_on (command_in inner_forms) (length l.fn.tokens - l.counter) l.rest)
    ≡ many_at goes_on (command_in inner_forms) (length l.fn.tokens) l.fn.tokens
