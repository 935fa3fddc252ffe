use Rattle.std.proofs.Common.{◌≡◌, ◌++◌, ◌-◌, take, drop, map}
use Rattle.rm_step_host.proofs.corrupting.flipped.Given as goal

abbrev pub invariant-loop-byte : goal.invariant-loop-byte
invariant-loop-byte l = take l.byte-index l.byte-items ++ map (λ byte. 255 - byte) (drop l.byte-index l.byte-items) ≡ map (λ byte. 255 - byte) l.fn.content.0
