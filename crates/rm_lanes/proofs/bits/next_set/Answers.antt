use Rattle.std.proofs.Common.{arith, slice_index}
use Rattle.rm_lanes.proofs.Zeros.{has_bit}
use Rattle.rm_lanes.proofs.bits.next_set.Goals as goal

pub returns-in_err-bit-clause-none : goal.returns-in_err-bit-clause-none
returns-in_err-bit-clause-none c =
    let next = c.skip_zeros-next.result in
    absurd (has_bit (slice_index c.args.bits.now next) (c.type_inv.bits next) (c.skip_zeros-next.ensures.stops c.if-next-bits.false) (λ j low. c.in_err-bit.ensures.none j (omega arith) low))
