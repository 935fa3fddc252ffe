use Rattle.std.{specs.String.{string_bytes}, proofs.Common.{◌∙◌, ap, map, option_map, sym}}
use Rattle.rm_lang_words.{specs.Form.{form_of, is_flag}, proofs.Joined.{read_flag, read_whole}}
use Rattle.rm_lang_words.proofs.options.read_text.Goals as goal

pub returns-in_ok-push_option-in-true-None-clause-read : goal.returns-in_ok-push_option-in-true-None-clause-read
returns-in_ok-push_option-in-true-None-clause-read c =
    read_flag (is_flag (form_of c.args.form.now)) (map string_bytes c.args.options.now.items) (map string_bytes c.push_option.new.options.items) c.args.text.now c.split.result.0.now
    (sym c.split.ensures ∙ ap (λ o. (c.split.result.0.now, option_map (λ s. s.now) o)) c.in-true-None.is-1) (sym c.in-true-None.ensures) c.in_ok-push_option-in-true-None.ensures.pushed

pub returns-in_ok-push_option-in-false-Some-clause-read : goal.returns-in_ok-push_option-in-false-Some-clause-read
returns-in_ok-push_option-in-false-Some-clause-read c =
    let pushed = c.in_ok-push_option-in-false-Some.ensures in
    read_whole (is_flag (form_of c.args.form.now)) (map string_bytes c.args.options.now.items) (map string_bytes c.push_option-in-false-Some.new.options.items) c.args.text.now c.split.result.0.now c.in-false-Some.value.now
    (sym c.split.ensures ∙ ap (λ o. (c.split.result.0.now, option_map (λ s. s.now) o)) c.in-false-Some.is-1) (sym c.in-false-Some.ensures) pushed.value pushed.pushed
