use Rattle.std.proofs.Common.{◌≡◌, ◌+◌, ◌<◌, ◌∙◌, ℕ, List, Some, ap, sym, subst, arith, get_or, slice_get, take, length, refl}
use Rattle.std.proofs.{Math.Seq.{take-length}, lemmas.Option.{slice_get_read}}
use Rattle.rm_base.specs.Outside.{Appends}
use Rattle.rm_lang_token.specs.declared.token.Token.{Token}
use Rattle.rm_tool_ends.specs.Writing.{WritesFront}
use Rattle.rm_tool.proofs.Runs.{progress-none, progress-reached, reached-more, reached-ends, progress-serves, progress-cut}
use Rattle.rm_tool.proofs.Statements.{cut-served}
use Rattle.rm_tool.proofs.session.serve_all.Goals as goal

-- the statement at hand, with its tokens as `serve` was given them
at-hand : (ss : List (ℕ × List Token)) (i : ℕ) (s : ℕ × List Token) (ts : List Token) → i < length ss → s ≡ get_or ss i s → ts ≡ s.1 → slice_get ss i ≡ Some (s.0, ts)
at-hand ss i s ts below is given = slice_get_read ss (length ss) i s refl below is ∙ ap (λ us. Some (s.0, us)) (sym given)

pub loop-line-init : goal.loop-line-init
loop-line-init g c =
    record {
      progress = progress-none c.new-tally.ensures;
      live = c.requires.live;
      sink = omega arith;
      store = omega arith;
      keeper = omega arith;
    }

pub returns-in_err-reply-clause-store : goal.returns-in_err-reply-clause-store
returns-in_err-reply-clause-store g c = λ is.
    let there = at-hand c.args.statements.now c.loop-line.line-index c.loop-line-item.result c.as_slice.result.now c.loop-line-test.true c.loop-line-item.is c.as_slice.ensures in
    progress-cut c.args.statements.now c.loop-line.line-index there c.loop-line.invariant.progress c.in_err-reply.ensures.cut

pub returns-in_err-reply-clause-keeper : goal.returns-in_err-reply-clause-keeper
returns-in_err-reply-clause-keeper g c = λ is.
    let there = at-hand c.args.statements.now c.loop-line.line-index c.loop-line-item.result c.as_slice.result.now c.loop-line-test.true c.loop-line-item.is c.as_slice.ensures in
    progress-cut c.args.statements.now c.loop-line.line-index there c.loop-line.invariant.progress c.in_err-reply.ensures.cut

pub returns-in_err-reply-clause-memory : goal.returns-in_err-reply-clause-memory
returns-in_err-reply-clause-memory g c = λ is.
    let there = at-hand c.args.statements.now c.loop-line.line-index c.loop-line-item.result c.as_slice.result.now c.loop-line-test.true c.loop-line-item.is c.as_slice.ensures in
    progress-cut c.args.statements.now c.loop-line.line-index there c.loop-line.invariant.progress c.in_err-reply.ensures.cut

pub returns-in_err-bytes-clause-memory : goal.returns-in_err-bytes-clause-memory
returns-in_err-bytes-clause-memory g c = λ is.
    let there = at-hand c.args.statements.now c.loop-line.line-index c.loop-line-item.result c.as_slice.result.now c.loop-line-test.true c.loop-line-item.is c.as_slice.ensures in
    progress-cut c.args.statements.now c.loop-line.line-index there c.loop-line.invariant.progress (cut-served {s = (c.loop-line-item.result.0, c.as_slice.result.now)} c.in_ok-reply.ensures.served)

pub returns-in_err-write_all-clause-sink : goal.returns-in_err-write_all-clause-sink
returns-in_err-write_all-clause-sink g c = λ is.
    let told = g.K.Sink.contents in
    let ss = c.args.statements.now in
    let i = c.loop-line.line-index in
    let there = at-hand ss i c.loop-line-item.result c.as_slice.result.now c.loop-line-test.true c.loop-line-item.is c.as_slice.ensures in
    let reached = progress-reached ss i there c.loop-line.invariant.progress c.in_ok-reply.ensures.served c.in_ok-reply.ensures.flagged in
    reached-ends ss (i + 1) (omega (arith, c.loop-line-test.true)) reached
    (subst (WritesFront (told c.loop-line.sink) (told c.write_all.new.sink)) (c.as_slice-in-loop-line.ensures ∙ c.in_ok-bytes.ensures) c.in_err-write_all.ensures.prefix)

pub loop-line-preserved : goal.loop-line-preserved
loop-line-preserved g c =
    let told = g.K.Sink.contents in
    let ss = c.args.statements.now in
    let i = c.loop-line.line-index in
    let there = at-hand ss i c.loop-line-item.result c.as_slice.result.now c.loop-line-test.true c.loop-line-item.is c.as_slice.ensures in
    let grows = subst (Appends (told c.loop-line.sink) (told c.write_all.new.sink)) (c.as_slice-in-loop-line.ensures ∙ c.in_ok-bytes.ensures) c.in_ok-write_all.ensures.ok in
    record {
      progress = reached-more (take (i + 1) ss) (progress-reached ss i there c.loop-line.invariant.progress c.in_ok-reply.ensures.served c.in_ok-reply.ensures.flagged) grows c.after-tally.ensures;
      live = c.in_ok-reply.ensures.live;
      sink = omega (arith, c.loop-line.invariant.sink, c.write_all.ensures.never_falls);
      store = omega (arith, c.loop-line.invariant.store, c.serve.ensures.none_falls.0);
      keeper = omega (arith, c.loop-line.invariant.keeper, c.serve.ensures.none_falls.1);
    }

pub returns-clause-ok : goal.returns-clause-ok
returns-clause-ok g c =
    let ss = c.args.statements.now in
    let end : c.loop-line.line-index ≡ length ss = omega (arith, c.loop-line-test.false, c.loop-line.auto.line-index-end) in
    let all : take c.loop-line.line-index ss ≡ ss = ap (λ (n : ℕ). take n ss) end ∙ take-length ss in
    progress-serves ss (rw all at c.loop-line.invariant.progress)
