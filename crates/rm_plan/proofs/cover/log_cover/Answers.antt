use Rattle.std.proofs.Common.{◌∙◌, ◌&&◌, List, Bool, arith, ap, sym}
use Rattle.rm_evidence.specs.Database.{world_of}
use Rattle.rm_plan.{specs.{Covers.{threads_cover}, Spans.{covers}, declared.span.Span.{Span}}, proofs.Switched.{cover-more}}
use Rattle.rm_plan.proofs.cover.log_cover.Goals as goal

pub loop-thread-preserved : goal.loop-thread-preserved
loop-thread-preserved c = record {
  same = λ g.
      c.in_ok-cover.ensures.same g
      ∙ ap (λ (xs : List Span). covers xs g) c.deref-in-loop-thread-3.ensures.value
      ∙ c.in_order-both.ensures.same g
      ∙ c.in_ok-common_spans.ensures g
      ∙ ap (λ (xs : List Span). covers xs g && covers c.deref-in-loop-thread-2.result.now g) c.deref-in-loop-thread.ensures.value
      ∙ ap (λ (xs : List Span). covers c.loop-thread.cover.items g && covers xs g) c.deref-in-loop-thread-2.ensures.value
      ∙ ap (λ (b : Bool). b && covers c.in_ok-spans.spans.items g) (c.loop-thread.invariant.same g)
      ∙ ap (λ (b : Bool). threads_cover (world_of c.args.catalog.now) c.args.i c.args.ways.now c.args.logs.now c.args.s g c.loop-thread.thread && b) (c.in_ok-spans.ensures.same g)
      ∙ sym (cover-more (world_of c.args.catalog.now) c.args.i c.args.ways.now c.args.logs.now c.args.s g c.loop-thread.thread _ (omega arith));
  apart = c.in_ok-cover.ensures.apart;
}
