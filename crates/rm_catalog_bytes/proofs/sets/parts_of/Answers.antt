use Rattle.std.{specs.List.{flat_map}, proofs.Common.{◌∙◌, ◌*◌, sym, arith}}
use Rattle.rm_base.proofs.{Items.{items_next}, Fronts.{whole}}
use Rattle.rm_catalog_bytes.{specs.{Fits.{SetPartFits}, Spelling.{set_part_bytes}}, proofs.SetTold.{parts_same, set_part_same}}
use Rattle.rm_catalog_bytes.proofs.sets.parts_of.Goals as goal

pub returns-in_default-clause-only : goal.returns-in_default-clause-only
returns-in_default-clause-only c ps many fits is =
    let next = items_next set_part_bytes SetPartFits set_part_same c.loop.parts.items ps c.loop.rest.now (omega (arith, c.loop.invariant.count, many, c.loop-test.true)) c.loop.invariant.fits fits (sym c.loop.invariant.parts ∙ is) in
    absurd (c.in_default.ensures.none next.item (flat_map set_part_bytes next.others) next.fits next.spelled)

pub returns-clause-only : goal.returns-clause-only
returns-clause-only c ps many fits is =
    let all = whole (25 * c.args.count) c.args.bytes.now _ c.loop.rest.now c.loop.invariant.parts c.requires (omega (arith, c.requires, c.loop.invariant.left, c.loop-test.false, c.loop.auto.counter-end)) in
    c.from_vec.ensures ∙ parts_same c.loop.parts.items ps (omega (arith, c.loop.invariant.count, many, c.loop-test.false, c.loop.auto.counter-end)) c.loop.invariant.fits fits (sym all ∙ is)
