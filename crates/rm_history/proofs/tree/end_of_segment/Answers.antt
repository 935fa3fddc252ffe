use Rattle.std.proofs.Common.{◌≡◌, ◌<◌, ◌∙◌, Some, ap, sym, subst, arith}
use Rattle.rm_history.specs.{Tree.{parent_of, segment_end}, declared.tree.Incarnation.{Incarnation}}
use Rattle.rm_history.proofs.{Owners.{parent-there, reset-there}, Paths.{segment_end-here, segment_end-above, segment_end-none}}
use Rattle.rm_history.proofs.tree.end_of_segment.Goals as goal

abbrev any : Incarnation
any = record { parent = 0; reset = 0; end = 0 }

pub returns-then-parent-j : goal.returns-then-parent-j
returns-then-parent-j c =
    let tree = c.args.incarnations.now in
    let at = c.loop-at.at in
    let inside : 0 < at = omega arith in
    let parent : parent_of tree at ≡ c.args.j = parent-there tree at any (inside, c.loop-at.invariant.there) ∙ c.if-parent-j.true in
    ap Some (sym (reset-there tree at any (inside, c.loop-at.invariant.there)))
    ∙ sym (segment_end-here tree c.requires.parents at c.args.j inside c.requires.ancestor parent)
    ∙ c.loop-at.invariant.same

pub loop-at-smaller : goal.loop-at-smaller
loop-at-smaller c =
    let tree = c.args.incarnations.now in
    let at = c.loop-at.at in
    let inside : 0 < at = omega arith in
    subst (λ p. p < at) (parent-there tree at any (inside, c.loop-at.invariant.there)) (c.requires.parents at inside)

pub loop-at-preserved : goal.loop-at-preserved
loop-at-preserved c =
    let tree = c.args.incarnations.now in
    let at = c.loop-at.at in
    let inside : 0 < at = omega arith in
    let parent = parent-there tree at any (inside, c.loop-at.invariant.there) in
    let less : parent_of tree at < at = c.requires.parents at inside in
    record {
      same =
          ap (segment_end tree c.args.j) (sym parent)
          ∙ sym (segment_end-above tree c.requires.parents at c.args.j inside (λ same. c.if-parent-j.false (sym parent ∙ same)))
          ∙ c.loop-at.invariant.same;
      there = omega (arith, parent, less);
    }

pub returns : goal.returns
returns c =
    let tree = c.args.incarnations.now in
    let ended : c.loop-at.at ≡ 0 = omega arith in
    sym (segment_end-none tree c.args.j) ∙ ap (segment_end tree c.args.j) (sym ended) ∙ c.loop-at.invariant.same
