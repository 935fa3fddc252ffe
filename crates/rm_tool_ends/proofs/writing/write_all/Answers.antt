use Rattle.std.proofs.{Common.{arith, take, drop, length-drop}, Math.Seq.{take-add}, lemmas.List.{take_rest}}
use Rattle.rm_base.proofs.Streams.{appends-then}
use Rattle.rm_tool_ends.proofs.writing.write_all.Goals as goal

pub loop-at-preserved : goal.loop-at-preserved
loop-at-preserved g c =
    let told = g.K.Sink.contents in
    let bytes = c.args.bytes.now in
    let at = c.loop-at.at in
    let n = c.in_ok-n.n in
    let grows = rw (take_rest bytes at) at c.in_ok-n.ensures.grows in
    let bound = rw (take_rest bytes at) at c.in_ok-n.ensures.bound in
    record {
      inside = omega (arith, bound, length-drop at bytes);
      written = rw (take-add at n bytes) (appends-then (told c.args.sink.now) (told c.loop-at.sink) (told c.write.new.self) (take at bytes) (take n (drop at bytes)) c.loop-at.invariant.written grows);
      faults = omega (arith, c.loop-at.invariant.faults, c.write.ensures.never_falls);
    }
