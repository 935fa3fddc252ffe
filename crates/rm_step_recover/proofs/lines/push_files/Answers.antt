use Rattle.rm_machine.specs.State.{world}
use Rattle.rm_step_recover.proofs.FileLines.{next-file}
use Rattle.rm_step_recover.proofs.lines.push_files.Goals as goal

pub loop-file-preserved : goal.loop-file-preserved
loop-file-preserved c =
    next-file (world c.args.state.now) c.args.files.now c.loop-file.file-index c.file-item.result c.file.result c.creation_of.result c.loop-file.lines c.push_file.new.lines _ c.loop-file-test.true c.file-item.is c.file.ensures
    c.creation_of.ensures c.in_ok-push_file.ensures c.loop-file.invariant
