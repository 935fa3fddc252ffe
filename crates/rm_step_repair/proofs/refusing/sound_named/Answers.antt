use Rattle.std.{specs.Option.{option_map}, proofs.Common.{rules, tests, ◌≡◌, ◌∙◌, ℕ, ap, find, not}}
use Rattle.std.proofs.lemmas.Iterator.{YieldsList-from_slice, Search.{find_from_yields_List}}
use Rattle.rm_machine.specs.Damage.{has_block}
use Rattle.rm_step_repair.proofs.refusing.sound_named.Goals as goal

pub returns : goal.returns
returns c =
    let n = c.args.named.now in
    let p : ℕ → _ = λ (b : ℕ). not (has_block c.args.state.now.instance.damaged n.file b) in
    let blocks : c.as_slice-blocks.result.now ≡ n.blocks = search rules in
    let copied : c.copied.result ≡ option_map (λ x. x.now) c.find.result = search rules in
    copied ∙ find_from_yields_List p _ _ c.find.result c.find.ensures.ran (YieldsList-from_slice c.as_slice-blocks.result.now cc) (λ x r q k. search (rules, tests)) ∙ ap (find p) blocks
