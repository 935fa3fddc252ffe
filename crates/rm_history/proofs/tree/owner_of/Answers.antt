use Rattle.std.proofs.Common.{◌≡◌, ◌<◌, ◌≤◌, ◌∙◌, ap, sym, subst, arith}
use Rattle.rm_history.specs.{Tree.{owner, parent_of, reset_of}, declared.tree.Incarnation.{Incarnation}}
use Rattle.rm_history.proofs.Owners.{owner-here, owner-above, owner-none, parent-there, reset-there}
use Rattle.rm_history.proofs.tree.owner_of.Goals as goal

abbrev any : Incarnation
any = record { parent = 0; reset = 0; end = 0 }

pub returns-then-reset-g : goal.returns-then-reset-g
returns-then-reset-g c =
    let tree = c.args.incarnations.now in
    let at = c.loop-at.at in
    let inside : 0 < at = omega arith in
    let begun : reset_of tree at ≤ c.args.g = subst (λ r. r ≤ c.args.g) (sym (reset-there tree at any (inside, c.loop-at.invariant.there))) c.if-reset-g.true in
    sym (owner-here tree c.requires.parents at c.args.g inside begun) ∙ c.loop-at.invariant.same

pub loop-at-smaller : goal.loop-at-smaller
loop-at-smaller c =
    let tree = c.args.incarnations.now in
    let at = c.loop-at.at in
    let inside : 0 < at = omega arith in
    subst (λ p. p < at) (parent-there tree at any (inside, c.loop-at.invariant.there)) (c.requires.parents at inside)

pub loop-at-preserved : goal.loop-at-preserved
loop-at-preserved c =
    let tree = c.args.incarnations.now in
    let at = c.loop-at.at in
    let inside : 0 < at = omega arith in
    let parent = parent-there tree at any (inside, c.loop-at.invariant.there) in
    let less : parent_of tree at < at = c.requires.parents at inside in
    let later : c.args.g < reset_of tree at = subst (λ r. c.args.g < r) (sym (reset-there tree at any (inside, c.loop-at.invariant.there))) c.if-reset-g.false in
    record {
      same = ap (λ p. owner tree p c.args.g) (sym parent) ∙ sym (owner-above tree c.requires.parents at c.args.g inside later) ∙ c.loop-at.invariant.same;
      there = omega (arith, parent, less);
    }

pub returns : goal.returns
returns c =
    let tree = c.args.incarnations.now in
    let ended : c.loop-at.at ≡ 0 = omega arith in
    sym (owner-none tree c.args.g) ∙ ap (λ i. owner tree i c.args.g) (sym ended) ∙ c.loop-at.invariant.same
