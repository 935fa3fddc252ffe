use Rattle.std.{specs.Option.{option_map, option_map_or}, proofs.Common.{◌≡◌, ◌∙◌, Some, ap, find, nat_le, sym}}
use Rattle.rm_base.specs.declared.refusal.Absent.TheVariants as absent
use Rattle.rm_history.specs.declared.world.Datafile.{Datafile}
use Rattle.rm_machine.specs.State.{on_path}
use Rattle.rm_step_repair.proofs.refusing.absent_named.Goals as goal

pub returns : goal.returns
returns c =
    let n = c.args.named.now in
    let at : on_path c.args.state.now n.file ≡ Some c.in-Some.datafile = sym c.on_path.ensures.value ∙ c.in-Some.is in
    let found : find (λ b. nat_le c.in-Some.datafile.blocks b) n.blocks ≡ Some c.in_ok-block.block =
    ap (find (λ b. nat_le c.in-Some.datafile.blocks b)) (sym c.as_slice.ensures) ∙ sym c.absent_block.ensures ∙ c.in_ok-block.was in
    sym (ap (λ o. option_map_or (λ (d : Datafile). option_map (λ b. absent.Block b n.file) (find (λ b. nat_le d.blocks b) n.blocks)) o (Some (absent.File n.file))) at ∙ ap (option_map (λ b. absent.Block b n.file)) found)
