use Rattle.std.proofs.Common.{◌∷◌, ◌++◌, [], refl}
use Rattle.rm_evidence.specs.Database.{world_of}
use Rattle.rm_apply.proofs.Restorations.{next_restored}
use Rattle.rm_apply.proofs.previewing.origins.Goals as goal

pub loop-target-preserved : goal.loop-target-preserved
loop-target-preserved c =
    let was = c.loop-target.invariant in
    let one = c.origin.ensures in (
      was.0 ++ one.0,
      next_restored (world_of c.args.catalog.now) c.args.evidence.now.bases c.args.i c.args.s c.args.targets.now c.loop-target.target-index
          was.0 one.0 (was.0 ++ one.0) c.loop-target.origins (c.origin.result ∷ []) c.push.new.self
          c.loop-target-test.true refl c.in_ok-push.ensures.ok was.1 one.1,
    )
