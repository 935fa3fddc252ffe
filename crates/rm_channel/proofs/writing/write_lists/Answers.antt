use Rattle.std.proofs.Common.{rules}
use Rattle.rm_channel.{specs.Jobs.{lists}, proofs.Written.{can-lists, written}}
use Rattle.rm_channel.proofs.writing.write_lists.Goals as goal

pub run-pass-requires : goal.run-pass-requires
run-pass-requires g c =
    let can = can-lists c.args.pass c.args.live.now c.args.writers.now c.args.thread c.requires.home c.requires.some c.requires.lists c.requires.numbers c.requires.threads in
    (search rules, (search rules, can))

pub returns-clause-written : goal.returns-clause-written
returns-clause-written g c =
    written c.args.pass c.run-pass.result.0.seen c.args.thread (lists c.args.writers.now) c.run-pass.result.1 c.answers_of.result c.answers_of.ensures c.run-pass.ensures.run
