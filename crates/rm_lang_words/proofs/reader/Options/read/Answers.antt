use Rattle.std.{specs.{String.{string_bytes}, List.{list_all}}, proofs.Common.{◌≡◌, ◌∙◌, List, map, sym}}
use Rattle.std.proofs.lemmas.List.Folds.{list_all-map}
use Rattle.clap.{specs.declared.parser.matches.ArgMatches.{ArgMatches}, proofs.TakesLemmas.{passed_up}}
use Rattle.rm_lang_words.specs.{Options.{Text}, Form.{Entry, entry_of, form_of, is_met_by}, Clap.{all_met, found, value_at}}
use Rattle.rm_lang_words.{specs.declared.form.Entry.{Entry as EntryInCode}, proofs.Says.{says, says_none, says_unmet}}
use Rattle.rm_lang_words.proofs.reader.Options.read.Goals as goal

-- each entry is met by what is found exactly where the code's test of its value passes
met_as : (form : List EntryInCode) (ws : List Text) (m : ArgMatches) → ((n : Text) → value_at m n ≡ found (form_of form) n ws)
    → list_all (λ e. is_met_by (value_at m e.name.now) (entry_of e)) form ≡ all_met (form_of form) ws
met_as form ws m values =
    sym (list_all-map (λ (e : Entry). is_met_by (value_at m e.name) e) entry_of form)
    ∙ (λ i. list_all (λ (e : Entry). is_met_by (values e.name i) e) (form_of form))

pub returns-then-are_met-clause-obeyed : goal.returns-then-are_met-clause-obeyed
returns-then-are_met-clause-obeyed c asked are =
    let form = form_of c.args.form.now in
    let ws = map string_bytes c.args.words.now in
    let found = c.in_ok-matches.ensures in
    says form asked ws are found.taken (sym (met_as c.args.form.now ws c.in_ok-matches.matches found.values) ∙ sym c.if-are_met.ensures) c.in_ok-matches.matches found.values

pub returns-clause-refused : goal.returns-clause-refused
returns-clause-refused c bad asked are =
    let form = form_of c.args.form.now in
    let ws = map string_bytes c.args.words.now in
    let found = c.in_ok-matches.ensures in
    says_unmet form asked ws are found.taken (sym (met_as c.args.form.now ws c.in_ok-matches.matches found.values) ∙ sym c.if-are_met.ensures)

pub returns-in_err-matches-clause-refused : goal.returns-in_err-matches-clause-refused
returns-in_err-matches-clause-refused c =
    passed_up c.from_residual.result c.in_err-matches.field-0.0 _ c.from_residual.ensures.1
    (λ bad asked are. says_none (form_of c.args.form.now) asked (map string_bytes c.args.words.now) are (c.in_err-matches.ensures.refused bad))
