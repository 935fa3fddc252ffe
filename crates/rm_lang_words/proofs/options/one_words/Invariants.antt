use Rattle.std.{specs.String.{string_bytes}, proofs.Common.{◌≡◌, [], map, drop, option_map}}
use Rattle.rm_lang_words.specs.{Options.{given_in}, Form.{form_of, is_flag}, Reading.{with_left, words_behind}}
use Rattle.rm_lang_words.proofs.options.one_words.Given as goal

abbrev pub invariant-loop-word : goal.invariant-loop-word
invariant-loop-word l = words_behind [] (given_in (is_flag (form_of l.fn.form)) l.fn.words)
    ≡ with_left (is_flag (form_of l.form)) (map string_bytes l.options.items) (option_map (λ s. s.now) l.waiting) (drop l.word-index l.words)
