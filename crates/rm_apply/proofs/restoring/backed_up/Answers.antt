use Rattle.std.proofs.Common.{refl}
use Rattle.rm_apply.proofs.Taking.{others-stay}
use Rattle.rm_apply.proofs.restoring.backed_up.Goals as goal

pub returns-clause-others : goal.returns-clause-others
returns-clause-others c = others-stay c.args.bases.now c.args.place c.index-bases-place.result _ c.requires.inside refl
