use Rattle.std.specs.Option.{option_and_then, option_map}
use Rattle.std.proofs.Common.{rules, tests, ◌≡◌, ◌∙◌, List, Option, Some, find, is_none, ap, sym, ℕ}
use Rattle.std.proofs.lemmas.Iterator.{YieldsList-from_slice, Search.{find_from_yields_List}}
use Rattle.rm_machine.specs.State.{on_path}
use Rattle.rm_step_backup.proofs.refusing.absent.Goals as goal

pub returns : goal.returns
returns c =
    let files : c.args.form.now.files ≡ Some c.as_slice-files.result.now = search rules in
    let copied : c.copied.result ≡ option_map (λ x. x.now) c.find.result = search rules in
    copied
    ∙ find_from_yields_List (λ f. is_none (on_path c.args.state.now f)) _ _ c.find.result c.find.ensures.ran (YieldsList-from_slice c.as_slice-files.result.now cc) (λ x r q k. search (rules, tests))
    ∙ ap (λ (o : Option (List ℕ)). option_and_then (λ ns. find (λ f. is_none (on_path c.args.state.now f)) ns) o) (sym files)
