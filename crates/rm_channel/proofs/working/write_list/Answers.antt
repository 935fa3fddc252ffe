use Rattle.std.proofs.Common.{rules}
use Rattle.rm_channel.{specs.Jobs.{writes}, proofs.{Steps.{worked-none}, Turns.{worked-err}}}
use Rattle.rm_channel.proofs.working.write_list.Goals as goal

pub returns-in_err-rows-clause-worked : goal.returns-in_err-rows-clause-worked
returns-in_err-rows-clause-worked g c =
    worked-err c.args.pass.now c.args.pass.now.seen (writes c.args.thread c.args.list.now) _ c.from_residual.result (search rules) (worked-none c.args.pass.now _)

pub returns-in_err-answers-clause-worked : goal.returns-in_err-answers-clause-worked
returns-in_err-answers-clause-worked g c =
    worked-err c.args.pass.now c.args.pass.now.seen (writes c.args.thread c.args.list.now) _ c.from_residual-in_err-answers.result (search rules) (worked-none c.args.pass.now _)
