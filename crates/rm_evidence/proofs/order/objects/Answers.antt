use Rattle.std.{specs.List.{filter_map}, proofs.{Common.{◌≡◌, ◌∙◌, ◌≤◌, ℕ, List, ap, arith, length, take}, Math.Seq.{take-length}}}
use Rattle.rm_catalog.specs.declared.record.Record.{Record}
use Rattle.rm_evidence.{specs.Taking.{with_object}, proofs.Ordered.{are-objects, numbered, numbered-more}}
use Rattle.rm_evidence.proofs.order.objects.Goals as goal

pub loop-row-preserved : goal.loop-row-preserved
loop-row-preserved c =
    c.in_ok-add_object.ensures
    ∙ ap (λ (xs : List (ℕ × Record)). with_object xs c.row-item.result) c.loop-row.invariant
    ∙ numbered-more c.args.records.now c.loop-row.row-index c.row-item.result c.loop-row-test.true c.row-item.is

pub returns : goal.returns
returns c =
    let rs : List Record = c.args.records.now in
    let within : c.loop-row.row-index ≤ length rs = c.loop-row.auto.row-index-end in
    let past : length rs ≤ c.loop-row.row-index = c.loop-row-test.false in
    let end : c.loop-row.row-index ≡ length rs = omega (arith, within, past) in
    let all : take c.loop-row.row-index rs ≡ rs = ap (λ (n : ℕ). take n rs) end ∙ take-length rs in
    are-objects (λ x. (x.0, x.1.now)) rs c.loop-row.list c.by_id.result c.requires
    (c.loop-row.invariant ∙ ap (λ (xs : List Record). filter_map numbered xs) all) c.by_id.ensures.same c.by_id.ensures.ascends
