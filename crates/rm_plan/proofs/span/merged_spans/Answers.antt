use Rattle.std.proofs.{Common.{◌<◌, ◌≤◌, ◌||◌, ◌∙◌, Bool, length, get_or, sym, ap, arith}, lemmas.List.Folds.{list_any_more}}
use Rattle.rm_plan.{specs.{Spans.{lies_in}, declared.span.Span.{Span}}, proofs.Spans.{start_same}}
use Rattle.rm_plan.proofs.span.merged_spans.Goals as goal

abbrev blank : Span
blank = record { start = 0; end = 0 }

pub loop-span-preserved : goal.loop-span-preserved
loop-span-preserved c =
    let spans = c.args.spans.now in
    let k = c.loop-span.span-index in
    let inside : k < length spans = omega (arith, c.loop-span-test.true) in
    record {
      same = λ g. c.in_ok-last.ensures.same g ∙ ap (λ (b : Bool). b || lies_in g (get_or spans k blank)) (c.loop-span.invariant.same g) ∙ sym (list_any_more (lies_in g) spans k blank inside);
      order = c.in_ok-last.ensures.ascending c.loop-span.invariant.order;
      apart = c.in_ok-last.ensures.apart c.loop-span.invariant.apart;
      low = λ n d later within.
          let start : c.in_ok-last.last.start ≤ (get_or spans k blank).start = c.in_ok-last.ensures.start in
          let up : (get_or spans k blank).start ≤ (get_or spans n blank).start = c.requires.ascending k n blank (omega (arith, later)) within in
          let same = start_same spans n blank d within in
          omega (arith, start, up, same);
    }
