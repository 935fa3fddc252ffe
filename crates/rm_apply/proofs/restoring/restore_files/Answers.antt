use Rattle.std.proofs.Common.{◌<◌, ◌∷◌, [], arith, get_or}
use Rattle.rm_evidence.specs.Database.{world_of}
use Rattle.rm_apply.proofs.{Numbers.{no_file}, Restorations.{next_restored}}
use Rattle.rm_apply.proofs.restoring.restore_files.Goals as goal

pub restore_file-requires-clause-target : goal.restore_file-requires-clause-target
restore_file-requires-clause-target c = c.requires.each c.loop-target.target-index no_file c.loop-target-test.true

pub restore_file-requires-clause-order : goal.restore_file-requires-clause-order
restore_file-requires-clause-order c = λ o chosen.
    let k = c.loop-target.target-index in
    c.requires.order (get_or c.args.targets.now k no_file).number o (c.loop-target.invariant.left k (omega arith) c.loop-target-test.true o chosen)

pub loop-target-preserved : goal.loop-target-preserved
loop-target-preserved c =
    let ts = c.args.targets.now in
    let k = c.loop-target.target-index in
    let was = c.loop-target.invariant in
    let one = c.in_ok-file.ensures.restored c.args.bases.now (was.left k (omega arith) c.loop-target-test.true) in
    record {
      restored =
          next_restored (world_of c.args.catalog.now) c.args.bases.now c.args.i c.args.s ts k
          c.loop-target.files (c.in_ok-file.file ∷ []) c.push.new.self c.loop-target.origins (c.in_ok-file.origin ∷ []) c.push-in-loop-target.new.self
          c.loop-target-test.true c.in_ok-push.ensures.ok c.in_ok-push-2.ensures.ok was.restored one;
      left = λ j from inside o chosen.
          let above : (get_or ts k no_file).number < (get_or ts j no_file).number = c.requires.apart k j no_file (omega (arith, from)) inside in
          was.left j (omega (arith, from)) inside o (c.restore_file.ensures.others (get_or ts j no_file).number (λ same. omega (arith, above, same)) o chosen);
    }
