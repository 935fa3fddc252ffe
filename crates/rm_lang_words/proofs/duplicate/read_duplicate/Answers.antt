use Rattle.std.specs.{Prelude.{unwrap_or}, String.{string_bytes}}
use Rattle.std.proofs.Common.{ℕ, ◌≤◌, ◌∙◌, IfSome, Option, Some, false, true, map, refl, sym, subst, ap, arith, codes}
use Rattle.rm_lang_words.specs.{Duplicate.{duplicate_by, duplicate_form, duplicate_said}, Reading.{AreOf, AreRead, duplicate_of}}
use Rattle.rm_lang_words.proofs.Told.{fails, number_needed, number_told, number_within, text_told, told, untold}
use Rattle.rm_lang_words.proofs.duplicate.read_duplicate.Goals as goal

pub returns-in_err-options-clause-said : goal.returns-in_err-options-clause-said
returns-in_err-options-clause-said c =
    let are : AreOf duplicate_form c.args.words.now (map string_bytes c.deref.result.now) = c.in_ok-words.ensures ∙ ap (λ ws. Some (map string_bytes ws)) (sym c.deref.ensures.value) in
    fails duplicate_of c.from_residual-in_err-options.result c.in_err-options.field-0.0 (duplicate_said c.args.words.now) c.from_residual-in_err-options.ensures.1
    (λ bad. untold duplicate_form duplicate_by c.args.words.now (c.in_err-options.ensures.refused bad c.args.words.now are))

pub returns-clause-said : goal.returns-clause-said
returns-clause-said c =
    let words = c.args.words.now in
    let m = c.in_ok-options.options.matches in
    let are : AreOf duplicate_form words (map string_bytes c.deref.result.now) = c.in_ok-words.ensures ∙ ap (λ ws. Some (map string_bytes ws)) (sym c.deref.ensures.value) in
    let read : AreRead duplicate_form words m = c.in_ok-options.ensures.obeyed words are in
    let store = c.in_ok-text.ensures ∙ text_told duplicate_form words m read (codes "store") in
    let to = c.in_ok-text-2.ensures ∙ text_told duplicate_form words m read (codes "to") in
    let catalog = c.in_ok-text-3.ensures ∙ text_told duplicate_form words m read (codes "catalog") in
    let dbid = c.number.ensures ∙ number_told duplicate_form words m read 3 (codes "dbid") true 1 4294967295 refl 4294967295 (omega arith) in
    let number = c.number-2.ensures ∙ number_told duplicate_form words m read 4 (codes "number") true 0 4294967295 refl 4294967295 (omega arith) in
    let until = c.long_number.ensures ∙ number_told duplicate_form words m read 5 (codes "until") true 0 18446744073709551615 refl 18446744073709551615 (omega arith) in
    let from = c.number-3.ensures ∙ number_told duplicate_form words m read 6 (codes "from") false 0 4294967295 refl 4294967295 (omega arith) in
    let incarnation = c.long_number-2.ensures ∙ number_told duplicate_form words m read 7 (codes "incarnation") false 0 18446744073709551615 refl 18446744073709551615 (omega arith) in
    let channels = c.number-4.ensures ∙ number_told duplicate_form words m read 8 (codes "channels") false 1 16 refl 4294967295 (omega arith) in
    told duplicate_form words m read duplicate_by
    ∙ sym (λ i. Some (record {
      store = store i;
      to = to i;
      catalog = catalog i;
      dbid = (c.unwrap_or.ensures ∙ ap (λ n. unwrap_or n 0) dbid) i;
      number = (c.unwrap_or-2.ensures ∙ ap (λ n. unwrap_or n 0) number) i;
      until = (c.unwrap_or-3.ensures ∙ ap (λ n. unwrap_or n 0) until) i;
      from = (c.unwrap_or-4.ensures ∙ ap (λ n. unwrap_or n 0) from) i;
      incarnation = incarnation i;
      channels = channels i;
    }))

pub returns-clause-dbid : goal.returns-clause-dbid
returns-clause-dbid c =
    let words = c.args.words.now in
    let m = c.in_ok-options.options.matches in
    let are : AreOf duplicate_form words (map string_bytes c.deref.result.now) = c.in_ok-words.ensures ∙ ap (λ ws. Some (map string_bytes ws)) (sym c.deref.ensures.value) in
    let read : AreRead duplicate_form words m = c.in_ok-options.ensures.obeyed words are in
    let dbid = c.number.ensures ∙ number_told duplicate_form words m read 3 (codes "dbid") true 1 4294967295 refl 4294967295 (omega arith) in
    subst (λ n. 1 ≤ n) (sym (c.unwrap_or.ensures ∙ ap (λ n. unwrap_or n 0) dbid)) (number_needed duplicate_form words m read 3 (codes "dbid") true 1 4294967295 refl refl)

-- from 1 to 16, where there are any
abbrev AreFew : Option ℕ → Type 0
AreFew channels = IfSome channels (λ n. (1 ≤ n) × (n ≤ 16))

pub returns-clause-channels : goal.returns-clause-channels
returns-clause-channels c =
    let words = c.args.words.now in
    let m = c.in_ok-options.options.matches in
    let are : AreOf duplicate_form words (map string_bytes c.deref.result.now) = c.in_ok-words.ensures ∙ ap (λ ws. Some (map string_bytes ws)) (sym c.deref.ensures.value) in
    let read : AreRead duplicate_form words m = c.in_ok-options.ensures.obeyed words are in
    let channels = c.number-4.ensures ∙ number_told duplicate_form words m read 8 (codes "channels") false 1 16 refl 4294967295 (omega arith) in
    subst AreFew (sym channels) (number_within duplicate_form words m read 8 (codes "channels") false 1 16 refl)
