use Rattle.std.proofs.Common.{◌≡◌, ◌+◌, ◌-◌, suc, subst, arith}
use Rattle.rm_machine.proofs.Archives.{HasRoom}
use Rattle.rm_step_open.proofs.{Archiving.{goes-first, goes-last, goes-turn}, Spaces.{space-first}}
use Rattle.rm_step_open.proofs.archives.archive_all.Goals as goal

pub loop-thread-init : goal.loop-thread-init
loop-thread-init c = goes-first _ _ c.requires.sound c.requires.accepted

pub archive_thread-requires-clause-space : goal.archive_thread-requires-clause-space
archive_thread-requires-clause-space c due =
    let t = c.loop-thread.thread in
    let e : 5 - t ≡ suc (5 - (t + 1)) = omega (arith, c.loop-thread-test.true) in
    space-first c.loop-thread.state t (5 - (t + 1)) 0 c.loop-thread.auto.thread (subst (λ k. HasRoom c.loop-thread.state t k 0) e c.loop-thread.invariant.room) due

pub loop-thread-preserved : goal.loop-thread-preserved
loop-thread-preserved c =
    let done = c.in_ok-archive_thread.ensures in
    goes-turn _ _ _ _ _ c.loop-thread.auto.thread c.loop-thread-test.true c.loop-thread.invariant (record { after = done.after; told = done.lines; put = done.objects; follow = done.edits })

pub returns : goal.returns
returns c =
    let went = goes-last _ _ _ _ c.loop-thread-test.false c.loop-thread.invariant in
    record { after = went.after; sound = went.sound; lines = went.told; objects = went.put; edits = went.follow }
