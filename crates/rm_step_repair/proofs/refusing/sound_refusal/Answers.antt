use Rattle.std.proofs.Common.{rules, ◌≡◌, ◌∙◌, Some, arith, not, sym}
use Rattle.rm_machine.specs.Damage.{has_block}
use Rattle.rm_base.proofs.Searched.{found-in}
use Rattle.rm_step_repair.proofs.Named.{named, named-form}
use Rattle.rm_step_repair.proofs.refusing.sound_refusal.Goals as goal

pub overflow_cast-result-2 : goal.overflow_cast-result-2
overflow_cast-result-2 c =
    let s = c.args.state.now in
    let n = c.in_ok-named.named.now in
    let is : c.args.form.now.blocks ≡ Some n = search rules in
    let there = named s n c.requires.sound (named-form s c.args.form.now.blocks n c.requires.there is) in
    let has = (found-in (λ b. not (has_block s.instance.damaged n.file b)) n.blocks c.in_ok-block.block (sym c.sound_named.ensures ∙ c.in_ok-block.was)).0 in
    omega (arith, there.inside c.in_ok-block.block has)
