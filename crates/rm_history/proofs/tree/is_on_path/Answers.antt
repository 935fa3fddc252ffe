use Rattle.std.proofs.Common.{◌≡◌, ◌<◌, ◌∙◌, ap, sym, subst, arith}
use Rattle.rm_history.{specs.{Tree.{parent_of, is_on_path}, declared.tree.Incarnation.{Incarnation}}, proofs.Owners.{parent-there}}
use Rattle.rm_history.proofs.Paths.{is_on_path-here, is_on_path-above, is_on_path-none}
use Rattle.rm_history.proofs.tree.is_on_path.Goals as goal

abbrev any : Incarnation
any = record { parent = 0; reset = 0; end = 0 }

pub returns-then-at-j : goal.returns-then-at-j
returns-then-at-j c =
    let inside : 0 < c.loop-at.at = omega arith in
    sym (is_on_path-here c.args.incarnations.now c.requires.parents c.loop-at.at c.args.j inside c.if-at-j.true) ∙ c.loop-at.invariant.same

pub loop-at-smaller : goal.loop-at-smaller
loop-at-smaller c =
    let at = c.loop-at.at in
    let inside : 0 < at = omega arith in
    subst (λ p. p < at) (parent-there c.args.incarnations.now at any (inside, c.loop-at.invariant.there)) (c.requires.parents at inside)

pub loop-at-preserved : goal.loop-at-preserved
loop-at-preserved c =
    let tree = c.args.incarnations.now in
    let at = c.loop-at.at in
    let inside : 0 < at = omega arith in
    let parent = parent-there tree at any (inside, c.loop-at.invariant.there) in
    let less : parent_of tree at < at = c.requires.parents at inside in
    record {
      same =
          ap (is_on_path tree c.args.j) (sym parent)
          ∙ sym (is_on_path-above tree c.requires.parents at c.args.j inside c.if-at-j.false)
          ∙ c.loop-at.invariant.same;
      there = omega (arith, parent, less);
    }

pub returns : goal.returns
returns c =
    let ended : c.loop-at.at ≡ 0 = omega arith in
    sym (is_on_path-none c.args.incarnations.now c.args.j) ∙ ap (is_on_path c.args.incarnations.now c.args.j) (sym ended) ∙ c.loop-at.invariant.same
