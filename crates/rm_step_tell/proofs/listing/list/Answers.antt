use Rattle.std.{specs.List.{flat_map}, proofs.{Common.{◌≡◌, All, List}, lemmas.Result.{IfOk-weaker}}}
use Rattle.rm_machine.specs.{Effect.{told}, Lists.{IsListOutcome}}
use Rattle.rm_report.specs.{Reply.{IsPlain}, declared.line.Line.{Line}}
use Rattle.rm_step_tell.proofs.Listed.{dated, lists}
use Rattle.rm_step_tell.proofs.listing.list.Goals as goal

pub returns-clause-lists : goal.returns-clause-lists
returns-clause-lists c =
    let all = c.in_ok-all.all in
    let records = c.in_ok-records in
    IfOk-weaker c.lines_of.result (λ (lines : List Line). lines ≡ flat_map (λ x. x.1) all) (λ lines. IsListOutcome c.args.state.now c.args.class (told lines))
    (λ lines same. lists c.args.state.now c.args.class records.records records.ensures.records all c.in_ok-all.ensures lines same) c.lines_of.ensures

pub returns-clause-dates : goal.returns-clause-dates
returns-clause-dates c =
    let all = c.in_ok-all.all in
    let records = c.in_ok-records in
    IfOk-weaker c.lines_of.result (λ (lines : List Line). lines ≡ flat_map (λ x. x.1) all) (All IsPlain)
    (λ lines same. dated c.args.state.now c.args.class records.records records.ensures.records all c.in_ok-all.ensures lines same) c.lines_of.ensures
