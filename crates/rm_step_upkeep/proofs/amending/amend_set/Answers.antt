use Rattle.std.proofs.Common.{◌∙◌, ap, sym}
use Rattle.rm_step_upkeep.{specs.Amended.{set_by}, proofs.Fits.{set-fits}}
use Rattle.rm_step_upkeep.proofs.amending.amend_set.Goals as goal

pub put_set-requires : goal.put_set-requires
put_set-requires c = record {
  fits = set-fits c.args.state.now.catalog c.requires.sound.catalog c.args.by c.args.id c.in-Some.set.now c.set_by-set.result (sym c.in-Some.ensures) (c.set_by-set.ensures ∙ ap (set_by c.args.by) c.in_ok-copy.ensures);
}
