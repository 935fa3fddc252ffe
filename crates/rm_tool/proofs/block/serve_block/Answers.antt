use Rattle.std.proofs.Common.{◌∙◌, List, ap, arith, length, subst, sym, true}
use Rattle.rm_lang_statement.specs.IsCommand.{is_inner}
use Rattle.rm_tool.specs.{Built.{is_built_inner}, Quiet.{only_tells_inner}}
use Rattle.rm_tool.proofs.Blocks.{inside-done, inside-more, inside-refused, inside-all, others-pass, all-added}
use Rattle.rm_tool.proofs.{Coming.{comes-all, comes-more, comes-refused}, Quiet.{first-passes, same-then, untouched-then}}
use Rattle.rm_tool.proofs.Statements.{on-err}
use Rattle.rm_tool.proofs.block.serve_block.Goals as goal
use Rattle.rm_report.specs.{Reply.{HasDates, IsPlain, LineHasDate}, declared.line.Line.{Line}}
use Rattle.rm_report.proofs.Plain.{plain-dated, plain-lines, refused-behind, said-flagged}

pub returns-in_err-add_lines-clause-stopped : goal.returns-in_err-add_lines-clause-stopped
returns-in_err-add_lines-clause-stopped g c =
    on-err _ c.from_residual-in_err-add_lines.result
    (λ m stands holds tells. inside-done (c.loop-inner.invariant.inside m stands holds tells) c.in-Some.ensures.steps.0 c.serve_inner.new.site c.in_ok-reply.reply c.in_ok-reply.ensures.steps)

pub returns-then-reply-clause-steps : goal.returns-then-reply-clause-steps
returns-then-reply-clause-steps g c = λ m stands holds tells.
    let done = c.in_ok-reply.ensures in
    inside-refused (c.loop-inner.invariant.inside m stands holds tells) c.in-Some.ensures.steps.0 c.serve_inner.new.site c.in_ok-reply.reply done.steps
    c.add_lines.new.lines c.in_ok-add_lines.ensures done.applied c.if-reply.true

pub returns-then-reply-clause-comes : goal.returns-then-reply-clause-comes
returns-then-reply-clause-comes g c =
    let done = c.in_ok-reply.ensures in
    comes-refused c.loop-inner.invariant.comes c.in-Some.ensures.steps.0 c.serve_inner.new.site _ c.in_ok-reply.reply done.comes c.add_lines.new.lines c.in_ok-add_lines.ensures done.applied c.if-reply.true

pub returns-then-reply-clause-quiet : goal.returns-then-reply-clause-quiet
returns-then-reply-clause-quiet g c = λ all.
    let was = c.loop-inner.invariant.quiet all in
    untouched-then was.1 (c.in_ok-reply.ensures.quiet (first-passes only_tells_inner _ _ c.in-Some.ensures.steps.0 was.0))

pub returns-then-reply-clause-dates : goal.returns-then-reply-clause-dates
returns-then-reply-clause-dates g c =
    all-added LineHasDate c.loop-inner.lines c.in_ok-reply.reply.lines c.add_lines.new.lines c.in_ok-add_lines.ensures (plain-dated c.loop-inner.lines c.loop-inner.invariant.plain)
    c.in_ok-reply.ensures.dates

pub returns-then-reply-clause-flagged : goal.returns-then-reply-clause-flagged
returns-then-reply-clause-flagged g c =
    refused-behind c.loop-inner.lines c.in_ok-reply.reply _ c.in_ok-reply.ensures.flagged c.if-reply.true (ap (λ (ls : List Line). record { lines = ls; refused = true }) c.in_ok-add_lines.ensures)

pub loop-inner-preserved : goal.loop-inner-preserved
loop-inner-preserved g c =
    let done = c.in_ok-reply.ensures in
    record {
      inside = λ m stands holds tells.
          inside-more (c.loop-inner.invariant.inside m stands holds tells) c.in-Some.ensures.steps.0 c.serve_inner.new.site c.in_ok-reply.reply done.steps
          c.add_lines.new.lines c.in_ok-add_lines.ensures done.applied c.serve_inner.new.settings (done.after c.if-reply.false) c.if-reply.false;
      comes =
          comes-more c.loop-inner.invariant.comes c.in-Some.ensures.steps.0 c.serve_inner.new.site _ c.in_ok-reply.reply done.comes c.add_lines.new.lines c.in_ok-add_lines.ensures done.applied
          c.serve_inner.new.settings (done.after c.if-reply.false) c.if-reply.false;
      quiet = λ all.
          let was = c.loop-inner.invariant.quiet all in
          (others-pass only_tells_inner _ _ c.in-Some.ensures.steps.0 was.0, untouched-then was.1 (done.quiet (first-passes only_tells_inner _ _ c.in-Some.ensures.steps.0 was.0)));
      live = done.live;
      set = done.set;
      grammar = others-pass is_inner _ _ c.in-Some.ensures.steps.0 c.loop-inner.invariant.grammar;
      built = others-pass is_built_inner _ _ c.in-Some.ensures.steps.0 c.loop-inner.invariant.built;
      count = let was = c.loop-inner.invariant.count in let gone = c.in-Some.ensures.steps.1 in let short = ap length c.in-Some.ensures.steps.0 in omega arith;
      plain =
          all-added IsPlain c.loop-inner.lines c.in_ok-reply.reply.lines c.add_lines.new.lines c.in_ok-add_lines.ensures c.loop-inner.invariant.plain
          (plain-lines c.in_ok-reply.reply done.flagged c.if-reply.false);
      store = omega (arith, c.loop-inner.invariant.store, c.serve_inner.ensures.none_falls.0);
      keeper = omega (arith, c.loop-inner.invariant.keeper, c.serve_inner.ensures.none_falls.1);
    }

pub returns-clause-steps : goal.returns-clause-steps
returns-clause-steps g c = λ m stands holds tells.
    inside-all (c.loop-inner.invariant.inside m stands holds tells) (sym c.loop-inner.invariant.count ∙ c.in-None.ensures.steps.0) c.reply_of.result c.reply_of.ensures

pub returns-clause-comes : goal.returns-clause-comes
returns-clause-comes g c = comes-all c.loop-inner.invariant.comes (sym c.loop-inner.invariant.count ∙ c.in-None.ensures.steps.0) c.reply_of.result c.reply_of.ensures

pub returns-clause-quiet : goal.returns-clause-quiet
returns-clause-quiet g c = λ all. (c.loop-inner.invariant.quiet all).1

pub returns-clause-dates : goal.returns-clause-dates
returns-clause-dates g c = subst HasDates (sym c.reply_of.ensures) (plain-dated c.loop-inner.lines c.loop-inner.invariant.plain)

pub returns-clause-flagged : goal.returns-clause-flagged
returns-clause-flagged g c = said-flagged c.reply_of.result c.loop-inner.lines c.reply_of.ensures c.loop-inner.invariant.plain

pub returns-in_err-reply-clause-untouched : goal.returns-in_err-reply-clause-untouched
returns-in_err-reply-clause-untouched g c =
    on-err _ c.from_residual.result
    (λ all.
    let was = c.loop-inner.invariant.quiet all in
    same-then was.1.0 (c.in_err-reply.ensures.untouched (first-passes only_tells_inner _ _ c.in-Some.ensures.steps.0 was.0)))

pub returns-in_err-add_lines-clause-untouched : goal.returns-in_err-add_lines-clause-untouched
returns-in_err-add_lines-clause-untouched g c =
    on-err _ c.from_residual-in_err-add_lines.result
    (λ all.
    let was = c.loop-inner.invariant.quiet all in
    (untouched-then was.1 (c.in_ok-reply.ensures.quiet (first-passes only_tells_inner _ _ c.in-Some.ensures.steps.0 was.0))).0)
