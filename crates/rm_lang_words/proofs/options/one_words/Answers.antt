use Rattle.std.specs.String.{string_bytes}
use Rattle.std.proofs.Common.{◌≡◌, ◌∙◌, ◌∷◌, [], List, drop, drop-cons, add-one, ◌+◌, ℕ, sym, ap, map, option_map}
use Rattle.rm_lang_words.{specs.{Form.{form_of, is_flag}, Options.{given_in}, Reading.{with_left, words_behind}}, proofs.Told.{fails}}
use Rattle.rm_lang_words.proofs.options.one_words.Goals as goal

pub returns-in_err-waiting : goal.returns-in_err-waiting
returns-in_err-waiting c =
    let flags = is_flag (form_of c.args.form.now) in
    let rest = drop (c.loop-word.word-index + 1) c.args.words.now in
    let at : drop c.loop-word.word-index c.args.words.now ≡ c.as_str.result.now ∷ rest =
    rw add-one (drop-cons c.args.words.now c.loop-word.word-index c.word-item.result c.loop-word-test.true) ∙ ap (λ (w : List ℕ). w ∷ rest) (sym c.word-item.is ∙ sym c.as_str.ensures) in
    fails _ c.from_residual.result c.in_err-waiting.field-0.0 (words_behind [] (given_in flags c.args.words.now)) c.from_residual.ensures.1
    (λ bad. c.loop-word.invariant ∙ ap (with_left flags (map string_bytes c.loop-word.options.items) (option_map (λ s. s.now) c.loop-word.waiting)) at ∙ c.in_err-waiting.ensures.bad bad rest)

pub loop-word-preserved : goal.loop-word-preserved
loop-word-preserved c =
    let flags = is_flag (form_of c.args.form.now) in
    let rest = drop (c.loop-word.word-index + 1) c.args.words.now in
    let at : drop c.loop-word.word-index c.args.words.now ≡ c.as_str.result.now ∷ rest =
    rw add-one (drop-cons c.args.words.now c.loop-word.word-index c.word-item.result c.loop-word-test.true) ∙ ap (λ (w : List ℕ). w ∷ rest) (sym c.word-item.is ∙ sym c.as_str.ensures) in
    c.loop-word.invariant ∙ ap (with_left flags (map string_bytes c.loop-word.options.items) (option_map (λ s. s.now) c.loop-word.waiting)) at ∙ c.in_ok-waiting.ensures.read rest
