use Rattle.std.proofs.Common.{arith}
use Rattle.rm_piece.proofs.{Fitting.{few_rows}, SetFitting.{few_spelled}}
use Rattle.rm_step_backup.proofs.sets.spelled_rows.Goals as goal

pub overflow_cast-result : goal.overflow_cast-result
overflow_cast-result c =
    let m = c.args.member.now in
    let few = few_rows m.piece c.requires in
    let spelled = few_spelled m.creation m.piece.rows in
    search (arith, few, spelled)
