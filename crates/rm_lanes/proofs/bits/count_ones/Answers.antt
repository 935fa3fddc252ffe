use Rattle.std.{specs.Simd.Lanes.{chunk}, proofs.Common.{◌≡◌, ◌+◌, arith, w8, take, ap, ◌∙◌, sym, count_ones, slice_index}}
use Rattle.std.proofs.lemmas.{Simd.{chunk-fits}, List.Sums.{sum_by_more}}
use Rattle.rm_lanes.{specs.Bits.{set_count}, proofs.Counting.{counts_fit, sums_fit, set_count-lanes, set_count-fits, lanes_sum}}
use Rattle.rm_lanes.proofs.bits.count_ones.Goals as goal

pub overflow_cast-ones : goal.overflow_cast-ones
overflow_cast-ones c = counts_fit (chunk c.lanes.i 16 c.args.bits.now) (chunk-fits w8 c.lanes.i 16 c.args.bits.now c.type_inv.bits)

pub overflow_add-count : goal.overflow_add-count
overflow_add-count c = sums_fit 16 c.lanes.i c.args.bits.now c.type_inv.bits (omega arith) (omega (arith, c.lanes-test.true))

pub overflow_add-count-in-lanes : goal.overflow_add-count-in-lanes
overflow_add-count-in-lanes c =
    let i = c.lanes.i in
    let xs = c.args.bits.now in
    let sum : c.lanes.count + lanes_sum (chunk i 16 xs) ≡ set_count (take (i + 16) xs) = ap (λ n. n + lanes_sum (chunk i 16 xs)) c.lanes.invariant.value ∙ set_count-lanes 16 i xs in
    rw sum (set_count-fits (i + 16) xs c.type_inv.bits c.requires)

pub lanes-preserved : goal.lanes-preserved
lanes-preserved c =
    let i = c.lanes.i in
    let xs = c.args.bits.now in
    record {
      within = omega (arith, c.lanes-test.true, c.lanes.invariant.within);
      value = ap (λ n. n + lanes_sum (chunk i 16 xs)) c.lanes.invariant.value ∙ set_count-lanes 16 i xs;
    }

pub overflow_add-count-in-tail : goal.overflow_add-count-in-tail
overflow_add-count-in-tail c =
    let i = c.tail.i in
    let xs = c.args.bits.now in
    let sum : c.tail.count + count_ones (slice_index xs i) ≡ set_count (take (i + 1) xs) = ap (λ n. n + count_ones (slice_index xs i)) c.tail.invariant.value ∙ sym (sum_by_more count_ones xs i 0 c.tail-test.true) in
    rw sum (set_count-fits (i + 1) xs c.type_inv.bits c.requires)
