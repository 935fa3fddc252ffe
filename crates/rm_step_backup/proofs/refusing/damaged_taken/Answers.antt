use Rattle.std.{specs.{List.{list_any}, Option.{option_map}}, proofs.Common.{rules, tests, ◌≡◌, ◌∙◌, ◌==◌, List, ap, find}}
use Rattle.std.proofs.lemmas.Iterator.{YieldsList-from_slice, Search.{find_from_yields_List}}
use Rattle.rm_base.specs.declared.block.BlockId.{BlockId}
use Rattle.rm_machine.specs.Backup.{taken}
use Rattle.rm_step_backup.proofs.refusing.damaged_taken.Goals as goal

pub returns : goal.returns
returns c =
    let copied : c.copied.result ≡ option_map (λ x. x.now) c.find.result = search rules in
    copied
    ∙ find_from_yields_List (λ (x : BlockId). list_any (λ f. f == x.file) (taken c.args.state.now c.args.form.now)) _ _ c.find.result c.find.ensures.ran (YieldsList-from_slice c.as_slice-damaged.result.now cc) (λ x r q k. search (rules, tests))
    ∙ ap (λ (xs : List BlockId). find (λ x. list_any (λ f. f == x.file) (taken c.args.state.now c.args.form.now)) xs) c.as_slice-damaged.ensures
