use Rattle.std.proofs.Common.{subst}
use Rattle.rm_channel.specs.Jobs.{lists}
use Rattle.rm_live.specs.Parts.{Parts, parts_of}
use Rattle.rm_step_repair.{specs.Gone.{HasGone}, proofs.Ran.{has-repaired, has-run}}
use Rattle.rm_step_repair.proofs.running.run_live.Goals as goal

pub put_back-requires : goal.put_back-requires
put_back-requires g c =
    let q = parts_of c.in_ok-database-2.database in
    let scns = lists c.in_ok-database-2.scns.items in
    let out = c.in_ok-database.ensures in
    let gone = subst (λ (p : Parts). HasGone p c.args.jobs.now (lists c.args.writers.now) q scns) out.parts c.in_ok-database-2.ensures in
    record { ran = (c.args.state.now, gone.events, has-run c.args.state.now c.args.jobs.now (lists c.args.writers.now) c.requires.sound c.requires.follow q scns gone c.take_out.new.state out.out) }

pub returns-clause-ran : goal.returns-clause-ran
returns-clause-ran g c =
    let s = c.args.state.now in
    let q = parts_of c.in_ok-database-2.database in
    let scns = lists c.in_ok-database-2.scns.items in
    let out = c.in_ok-database.ensures in
    let gone = subst (λ (p : Parts). HasGone p c.args.jobs.now (lists c.args.writers.now) q scns) out.parts c.in_ok-database-2.ensures in
    let run = has-run s c.args.jobs.now (lists c.args.writers.now) c.requires.sound c.requires.follow q scns gone c.take_out.new.state out.out in
    has-repaired s c.args.jobs.now (lists c.args.writers.now) c.requires.sound c.requires.follow q scns gone c.put_back.new.state (c.in_ok-put_back.ensures.after s gone.events run)
