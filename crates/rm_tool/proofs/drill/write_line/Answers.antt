use Rattle.std.proofs.Common.{codes, subst, List, ℕ, OnOk, OnErr}
use Rattle.rm_base.specs.Outside.{Appends}
use Rattle.rm_tool_ends.specs.Writing.{WritesFront}
use Rattle.rm_tool.proofs.{Lines.{before_last, err-after, front-more, ok-after, summary-is}, Statements.{on-err}}
use Rattle.rm_tool.proofs.drill.write_line.Goals as goal

pub returns-in_err-write_parts-clause-front : goal.returns-in_err-write_parts-clause-front
returns-in_err-write_parts-clause-front g c =
    let told = g.K.Sink.contents in
    on-err _ c.from_residual.result
    (subst (WritesFront (told c.args.sink.now) (told c.write_parts.new.sink)) (summary-is c.args.summary) (front-more _ _ (before_last c.args.summary) (codes " objects\n") c.in_err-write_parts.ensures.front))

pub returns-clause-ok : goal.returns-clause-ok
returns-clause-ok g c =
    let told = g.K.Sink.contents in
    subst (λ (t : List ℕ). OnOk c.write_all.result (Appends (told c.args.sink.now) (told c.write_all.new.sink) t)) (summary-is c.args.summary)
    (ok-after _ _ _ c.write_all.result (before_last c.args.summary) (codes " objects\n") c.in_ok-write_parts.ensures.ok c.write_all.ensures.ok)

pub returns-clause-front : goal.returns-clause-front
returns-clause-front g c =
    let told = g.K.Sink.contents in
    subst (λ (t : List ℕ). OnErr c.write_all.result (WritesFront (told c.args.sink.now) (told c.write_all.new.sink) t)) (summary-is c.args.summary)
    (err-after _ _ _ c.write_all.result (before_last c.args.summary) (codes " objects\n") c.in_ok-write_parts.ensures.ok c.write_all.ensures.prefix)
