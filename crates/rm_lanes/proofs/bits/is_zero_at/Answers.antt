use Rattle.std.{specs.Simd.Lanes.{chunk}, proofs.{Common.{arith, replicate, ℕ}, lemmas.Simd.{length-chunk, length-replicate}}}
use Rattle.rm_lanes.proofs.Equal.{mask_of-zero}
use Rattle.rm_lanes.proofs.bits.is_zero_at.Goals as goal

pub returns : goal.returns
returns c = mask_of-zero 32 (chunk c.args.at 32 c.args.bytes.now) (replicate 32 0) (length-chunk c.args.at 32 c.args.bytes.now c.requires) (length-replicate {A = ℕ} 32 0) (omega arith)
