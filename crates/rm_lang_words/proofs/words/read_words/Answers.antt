use Rattle.std.specs.String.{string_bytes}
use Rattle.std.proofs.Common.{ℕ, ◌≤◌, ◌∙◌, IfSome, Option, Some, false, map, refl, sym, subst, ap, arith, codes}
use Rattle.rm_lang_words.specs.{Words.{run_form, run_said, said}, Reading.{AreOf, AreRead, said_of}}
use Rattle.rm_lang_words.proofs.Told.{fails, number_told, number_within, text_told, told, untold}
use Rattle.rm_lang_words.proofs.words.read_words.Goals as goal

-- from 1 to 16, where there are any
abbrev AreFew : Option ℕ → Type 0
AreFew channels = IfSome channels (λ n. (1 ≤ n) × (n ≤ 16))

pub returns-in_err-options-clause-said : goal.returns-in_err-options-clause-said
returns-in_err-options-clause-said c =
    let are : AreOf run_form c.args.words.now (map string_bytes c.deref.result.now) = c.in_ok-words.ensures ∙ ap (λ ws. Some (map string_bytes ws)) (sym c.deref.ensures.value) in
    fails said_of c.from_residual-in_err-options.result c.in_err-options.field-0.0 (said c.args.words.now) c.from_residual-in_err-options.ensures.1
    (λ bad. untold run_form run_said c.args.words.now (c.in_err-options.ensures.refused bad c.args.words.now are))

pub returns-clause-said : goal.returns-clause-said
returns-clause-said c =
    let words = c.args.words.now in
    let m = c.in_ok-options.options.matches in
    let are : AreOf run_form words (map string_bytes c.deref.result.now) = c.in_ok-words.ensures ∙ ap (λ ws. Some (map string_bytes ws)) (sym c.deref.ensures.value) in
    let read : AreRead run_form words m = c.in_ok-options.ensures.obeyed words are in
    let store = c.in_ok-text.ensures ∙ text_told run_form words m read (codes "store") in
    let catalog = c.in_ok-text-2.ensures ∙ text_told run_form words m read (codes "catalog") in
    let channels = c.number.ensures ∙ number_told run_form words m read 2 (codes "channels") false 1 16 refl 4294967295 (omega arith) in
    let drill = c.long_number.ensures ∙ number_told run_form words m read 3 (codes "drill") false 0 18446744073709551615 refl 18446744073709551615 (omega arith) in
    let database = c.number-2.ensures ∙ number_told run_form words m read 4 (codes "database") false 0 4294967295 refl 4294967295 (omega arith) in
    let control = c.in_ok-text_if_given.ensures ∙ read.values (codes "control") in
    told run_form words m read run_said
    ∙ sym (λ i. Some (record { store = store i; catalog = catalog i; channels = channels i; drill = drill i; database = database i; control = control i }))

pub returns-clause-channels : goal.returns-clause-channels
returns-clause-channels c =
    let words = c.args.words.now in
    let m = c.in_ok-options.options.matches in
    let are : AreOf run_form words (map string_bytes c.deref.result.now) = c.in_ok-words.ensures ∙ ap (λ ws. Some (map string_bytes ws)) (sym c.deref.ensures.value) in
    let read : AreRead run_form words m = c.in_ok-options.ensures.obeyed words are in
    let channels = c.number.ensures ∙ number_told run_form words m read 2 (codes "channels") false 1 16 refl 4294967295 (omega arith) in
    subst AreFew (sym channels) (number_within run_form words m read 2 (codes "channels") false 1 16 refl)
