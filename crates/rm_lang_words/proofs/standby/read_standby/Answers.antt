use Rattle.std.specs.{Prelude.{is_some, option_and_then, option_map}, String.{string_bytes}}
use Rattle.std.proofs.Common.{◌≡◌, ◌∙◌, Some, [], false, map, refl, sym, subst, ap, arith, codes}
use Rattle.rm_lang_words.specs.{Options.{given_in}, Form.{is_flag}, Standby.{standby_by, standby_form, standby_said, task_in, task_of}}
use Rattle.rm_lang_words.specs.Reading.{AreOf, AreRead, Fails, standby_of, words_behind}
use Rattle.rm_lang_words.proofs.Told.{fails, number_told, text_told, told, unread, untold}
use Rattle.rm_lang_words.proofs.standby.read_standby.Goals as goal

pub returns-in_err-words : goal.returns-in_err-words
returns-in_err-words c =
    let words = c.args.words.now in
    record {
      said = fails standby_of c.from_residual.result c.in_err-words.field-0.0 (standby_said words) c.from_residual.ensures.1
          (λ bad. ap (option_and_then standby_by) (unread standby_form (λ options. options) words (subst (λ e. Fails e (words_behind [] (given_in (is_flag standby_form) words))) bad c.in_err-words.ensures)));
    }

pub returns-in_err-options : goal.returns-in_err-options
returns-in_err-options c =
    let are : AreOf standby_form c.args.words.now (map string_bytes c.deref.result.now) = c.in_ok-words.ensures ∙ ap (λ ws. Some (map string_bytes ws)) (sym c.deref.ensures.value) in
    record {
      said = fails standby_of c.from_residual-in_err-options.result c.in_err-options.field-0.0 (standby_said c.args.words.now) c.from_residual-in_err-options.ensures.1
          (λ bad. ap (option_and_then standby_by) (untold standby_form (λ options. options) c.args.words.now (c.in_err-options.ensures.refused bad c.args.words.now are)));
    }

pub returns : goal.returns
returns c =
    let words = c.args.words.now in
    let m = c.in_ok-options.options.matches in
    let are : AreOf standby_form words (map string_bytes c.deref.result.now) = c.in_ok-words.ensures ∙ ap (λ ws. Some (map string_bytes ws)) (sym c.deref.ensures.value) in
    let read : AreRead standby_form words m = c.in_ok-options.ensures.obeyed words are in
    let store = c.in_ok-text.ensures ∙ text_told standby_form words m read (codes "store") in
    let to = c.in_ok-text-2.ensures ∙ text_told standby_form words m read (codes "to") in
    let catalog = c.in_ok-text-3.ensures ∙ text_told standby_form words m read (codes "catalog") in
    let make = c.long_number-make.ensures ∙ number_told standby_form words m read 3 (codes "make") false 0 18446744073709551615 refl 18446744073709551615 (omega arith) in
    let roll = c.long_number-roll.ensures ∙ number_told standby_form words m read 4 (codes "roll") false 0 18446744073709551615 refl 18446744073709551615 (omega arith) in
    let dump = c.has.ensures ∙ ap is_some (read.values (codes "dump")) in
    let task : task_in read.options ≡ Some c.in_ok-task.task = sym (λ i. task_of (make i) (roll i) (dump i)) ∙ sym c.task_of.ensures ∙ c.in_ok-task.ensures.ok_part in
    record {
      said = ap (option_and_then standby_by) (told standby_form words m read (λ options. options))
          ∙ sym (λ i. option_map (λ t. record { store = store i; to = to i; catalog = catalog i; task = t }) (sym task i));
    }
