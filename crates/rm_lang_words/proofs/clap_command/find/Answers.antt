use Rattle.std.{specs.String.{string_bytes}, proofs.Common.{ap, sym, ◌≡◌, ◌∙◌, ◌∷◌, inl, inr, map, []}}
use Rattle.clap.specs.{Kinds.{HasKind, Kinds}, Values.{kind_of}}
use Rattle.clap.specs.{Words.{fault_of, found_of, first_of, is_simple, is_simple_and_free, matches_of}, declared.error.Error.{Error}}
use Rattle.clap.{specs.declared.error.kind.ErrorKind.TheVariants.{OutOfMemory}, proofs.WalkLemmas.{first_value-rows}}
use Rattle.rm_lang_words.{specs.{Clap.{faults, found}, Form.{form_of}}, proofs.Clap.{free, simple}}
use Rattle.rm_lang_words.proofs.clap_command.find.Goals as goal

pub returns-in-Ok-clause-taken : goal.returns-in-Ok-clause-taken
unfolding faults
returns-in-Ok-clause-taken c =
    let is = c.in_ok-command.ensures in
    ap (λ a. fault_of a (map string_bytes c.args.words.now)) (sym is) ∙ c.in-Ok.ensures.kinds (ap is_simple_and_free is ∙ free (form_of c.args.form.now))

pub returns-in-Ok-clause-values : goal.returns-in-Ok-clause-values
unfolding found
returns-in-Ok-clause-values c name =
    let is = c.in_ok-command.ensures in
    let rows = c.in-Ok.ensures.matches (ap is_simple is ∙ simple (form_of c.args.form.now)) in
    first_value-rows (found_of c.in-Ok.matches) name ∙ ap (first_of name) (rows.0 ∙ ap (λ a. matches_of a (map string_bytes c.args.words.now)) is)

among : (e : Error) (ks : Kinds) → ks ≡ [] → HasKind ks e → kind_of e ≡ OutOfMemory
among e [] none (inl is) = is
among e [] none (inr is) = absurd is
among e (k ∷ ks) none h = absurd (cc)

pub returns-in-Err-clause-refused : goal.returns-in-Err-clause-refused
unfolding faults
returns-in-Err-clause-refused c bad none =
    let is = c.in_ok-command.ensures in
    let has = c.in-Err.ensures.kinds (ap is_simple_and_free is ∙ free (form_of c.args.form.now)) in
    c.refusal.ensures bad (among c.in-Err.error _ (ap (λ a. fault_of a (map string_bytes c.args.words.now)) is ∙ none) has)
