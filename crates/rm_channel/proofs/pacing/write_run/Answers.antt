use Rattle.std.proofs.Common.{◌≡◌, ◌+◌, [], ℕ, List, get_or, length, take, sym, subst, rules, arith, length-take}
use Rattle.std.proofs.lemmas.List.{take_more, take_all}
use Rattle.rm_live.specs.declared.history.{Answer.TheVariants.{Wrote}, Call.TheVariants.{Write}}
use Rattle.rm_channel.{specs.{Jobs.{wrote}, Made.{DidMore}, declared.jobs.WriteJob.{WriteJob}}, proofs.Steps.{did-one, later-then}}
use Rattle.rm_channel.proofs.{Turns.{more-done}, Writes.{wrote-append}}
use Rattle.rm_channel.proofs.pacing.write_run.Goals as goal

abbrev no_write : WriteJob
no_write = record { file = 0; block = 0; content = record { 0 = [] } }

pub loop-write-preserved : goal.loop-write-preserved
loop-write-preserved g c =
    let i = c.loop-write.invariant in
    let n : ℕ = c.loop-write.write-index in
    let w : WriteJob = get_or c.args.list.now n no_write in
    let wrote_one = did-one c.loop-write.pass c.write.new.pass (Write c.args.thread w.file w.block w.content) (Wrote c.write.result) (search rules) c.write.ensures.stays c.write.ensures.legal c.write.ensures.below c.write.ensures.adds in (
      later-then c.args.pass.now c.loop-write.pass c.write.new.pass i.0 c.write.ensures.stays,
      search rules,
      search rules,
      subst (λ (ws : List WriteJob). DidMore c.args.pass.now c.write.new.pass.seen (wrote c.args.thread ws) (n + 1) c.args.answers.now.items c.push_reserved.new.self.items) (sym (take_more c.args.list.now n no_write c.loop-write-test.true))
          (more-done (wrote c.args.thread) (wrote-append c.args.thread) c.args.pass.now c.loop-write.pass c.write.new.pass.seen n (take n c.args.list.now) w c.args.answers.now.items c.loop-write.answers.items c.push_reserved.new.self.items c.write.result
          (let e = length-take n c.args.list.now in search rules) i.0 i.3 wrote_one c.push_reserved.ensures.items),
    )

pub returns-clause-did : goal.returns-clause-did
returns-clause-did g c =
    let n : ℕ = c.loop-write.write-index in
    let all : take n c.args.list.now ≡ c.args.list.now = take_all n c.args.list.now (omega arith) in
    let long : n ≡ length c.args.list.now = omega arith in
    coe 0 1 (i. DidMore c.args.pass.now c.loop-write.pass.seen (wrote c.args.thread (all i)) (long i) c.args.answers.now.items c.loop-write.answers.items) c.loop-write.invariant.3
