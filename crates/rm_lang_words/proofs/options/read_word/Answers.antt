use Rattle.std.{specs.String.{string_bytes}, proofs.Common.{◌∙◌, ◌∷◌, map, option_map, sym, ap}}
use Rattle.std.proofs.lemmas.Result.{IfErr-weaker, IfOk-weaker}
use Rattle.rm_lang_words.{specs.{Form.{form_of, is_flag}, Reading.{with_left}}, proofs.Joined.{as_text, read_value}}
use Rattle.rm_lang_words.proofs.options.read_word.Goals as goal

pub returns-in_default-clause-read : goal.returns-in_default-clause-read
returns-in_default-clause-read c =
    let flags = is_flag (form_of c.args.form.now) in
    let before = map string_bytes c.args.options.now.items in
    let behind = sym c.behind_hyphens.ensures ∙ ap (option_map (λ s. s.now)) c.in_ok-text.ensures.ok_part in
    IfOk-weaker c.read_text.result _ _ (λ w read left. ap (λ o. with_left flags before (option_map (λ s. s.now) o) (c.args.word.now ∷ left)) c.in_default.is ∙ as_text flags before c.args.word.now c.in_ok-text.text.now behind left ∙ read left) c.read_text.ensures.read

pub returns-in_default-clause-bad : goal.returns-in_default-clause-bad
returns-in_default-clause-bad c =
    let flags = is_flag (form_of c.args.form.now) in
    let before = map string_bytes c.args.options.now.items in
    let behind = sym c.behind_hyphens.ensures ∙ ap (option_map (λ s. s.now)) c.in_ok-text.ensures.ok_part in
    IfErr-weaker c.read_text.result _ _ (λ e refused bad left. ap (λ o. with_left flags before (option_map (λ s. s.now) o) (c.args.word.now ∷ left)) c.in_default.is ∙ as_text flags before c.args.word.now c.in_ok-text.text.now behind left ∙ refused bad left) c.read_text.ensures.bad

pub returns-clause-read : goal.returns-clause-read
returns-clause-read c left =
    let flags = is_flag (form_of c.args.form.now) in
    let before = map string_bytes c.args.options.now.items in
    let pushed = c.in_ok-push_option.ensures in
    ap (λ o. with_left flags before (option_map (λ s. s.now) o) (c.args.word.now ∷ left)) c.in-Some.is
    ∙ read_value flags before (map string_bytes c.push_option.new.options.items) c.in-Some.name.now c.args.word.now pushed.value pushed.pushed left
