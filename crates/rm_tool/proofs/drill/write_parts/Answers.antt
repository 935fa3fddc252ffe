use Rattle.rm_tool.proofs.{Lines.{parts-front}, Statements.{on-err}}
use Rattle.rm_tool.proofs.drill.write_parts.Goals as goal

pub returns-in_err-write_part-clause-front : goal.returns-in_err-write_part-clause-front
returns-in_err-write_part-clause-front g c =
    on-err _ c.from_residual.result (parts-front c.args.parts.now c.loop-part.part-index _ c.loop-part-test.true _ _ _ c.loop-part.invariant.written c.in_err-write_part.ensures.front)
