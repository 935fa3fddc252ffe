use Rattle.std.{specs.{Option.{option_copied}, Prelude.{IfErr, IsSomeAnd}}, proofs.Common.{◌≡◌, List, Option, Result, IfOk, subst}}
use Rattle.rm_base.specs.declared.refusal.Refusal.{Refusal}
use Rattle.rm_catalog.specs.declared.record.Record.{Record}
use Rattle.rm_tool_opening.{specs.Opening.{IsSource}, proofs.Source.{told-err}}
use Rattle.rm_tool_standby.specs.{Asked.{sides}, Ended.{Leaves}, Prepared.{IsReady, OfShown}, Refused.{RefusesBy}}
use Rattle.rm_tool_standby.{specs.declared.preparing.Ready.{Ready}, proofs.{Ending.{untold-refusal}, Working.{ready-shown, refuses}}}
use Rattle.rm_tool_standby.proofs.preparing.prepare.Goals as goal

pub returns-in_err-write_refusal-in-Ok-Err-clause-ended : goal.returns-in_err-write_refusal-in-Ok-Err-clause-ended
returns-in_err-write_refusal-in-Ok-Err-clause-ended g c =
    let from = g.D.Store.held in
    let to = g.E.Store.held in
    let before = g.K.Sink.contents c.args.sink.now in
    let now = g.K.Sink.contents c.write_refusal.new.sink in
    let task = c.args.task in
    let v = c.args.site.now in
    let o = option_copied c.state.result in
    let was = c.answer in
    let e = c.in_err-write_refusal-in-Ok-Err.field-0.0 in
    let r = c.in-Ok-Err.refusal in
    let refused = subst (λ (y : Result Ready Refusal). IfErr y (RefusesBy (from c.args.from.now) (to c.args.to.now) task o)) c.in-Ok-Err.field-0-is c.in-Ok-Err.ensures.refused in
    told-err c.from_residual.result e
    (λ ended. (records : Option (List Record)) → IsSource (from c.args.from.now) records v
    → Leaves task (sides (from c.args.from.now) records (to c.args.to.now)) (sides (from was.new.from) records (to was.new.to)) before now ended)
    c.from_residual.ensures.1
    (λ records source.
    let a = sides (from c.args.from.now) records (to c.args.to.now) in
    let b = sides (from was.new.from) records (to was.new.to) in
    let same : b ≡ a = λ i. sides (was.ensures.from i) records (was.ensures.to i) in
    untold-refusal task a b before now e r same (refuses (from c.args.from.now) (to c.args.to.now) records task v o r c.state.ensures.is source refused) c.in_err-write_refusal-in-Ok-Err.ensures.err)

pub returns-in-Ok-Ok-clause-ready : goal.returns-in-Ok-Ok-clause-ready
returns-in-Ok-Ok-clause-ready g c =
    let from = g.D.Store.held c.args.from.now in
    let to = g.E.Store.held c.args.to.now in
    let task = c.args.task in
    let o = option_copied c.state.result in
    ready-shown from to task c.in-Ok-Ok.ready o c.args.site.now c.state.ensures.is
    (subst (λ (y : Result Ready Refusal). IfOk y (λ ready. IsSomeAnd o (λ s. OfShown from to s (λ a. IsReady a task ready)))) c.in-Ok-Ok.field-0-is c.in-Ok-Ok.ensures.ready)
