use Rattle.std.proofs.Common.{◌≡◌, ◌<◌, ◌∙◌, ap, sym, subst, arith, min}
use Rattle.rm_history.specs.{Tree.{IsThere, parent_of, reset_of}, declared.tree.Incarnation.{Incarnation}}
use Rattle.rm_history.proofs.{Owners.{parent-there, reset-there}, Shared.{IsFork, fork-first, fork-second}}
use Rattle.rm_history.proofs.tree.shared_of.Goals as goal

abbrev any : Incarnation
any = record { parent = 0; reset = 0; end = 0 }

pub loop-a-preserved-then-a-b : goal.loop-a-preserved-then-a-b
loop-a-preserved-then-a-b c =
    let tree = c.args.incarnations.now in
    let a = c.loop-a.a in
    let b = c.loop-a.b in
    let at = c.max.result in
    let later : at ≡ a = omega arith in
    let there : IsThere tree at = subst (IsThere tree) (sym later) c.loop-a.invariant.first in
    let up : 0 < b = c.loop-a.invariant.second.0 in
    let parent = parent-there tree at any there in
    let rooted : 0 < parent_of tree at = c.requires.tree.rooted at (omega arith) there.1 in
    let less : parent_of tree at < at = c.requires.tree.parents at there.0 in
    let least = c.min-fork.ensures ∙ ap (min c.loop-a.fork) (sym (reset-there tree at any there) ∙ ap (reset_of tree) later) in
    record {
      first = (omega (arith, parent, rooted), omega (arith, parent, less, there.1));
      second = c.loop-a.invariant.second;
      fork = subst (λ p. IsFork tree c.args.i c.args.j p b c.min-fork.result) (ap (parent_of tree) (sym later) ∙ parent)
          (fork-first tree c.requires.tree.parents c.args.i c.args.j a b c.loop-a.fork c.min-fork.result c.loop-a.invariant.fork up c.if-a-b.true least);
    }

pub loop-a-smaller : goal.loop-a-smaller
loop-a-smaller c =
    let tree = c.args.incarnations.now in
    let at = c.max.result in
    let later : at ≡ c.loop-a.b = omega arith in
    let there : IsThere tree at = subst (IsThere tree) (sym later) c.loop-a.invariant.second in
    let parent = parent-there tree at any there in
    let less : parent_of tree at < at = c.requires.tree.parents at there.0 in
    omega (arith, parent, less, later)

pub loop-a-preserved : goal.loop-a-preserved
loop-a-preserved c =
    let tree = c.args.incarnations.now in
    let a = c.loop-a.a in
    let b = c.loop-a.b in
    let at = c.max.result in
    let later : at ≡ b = omega arith in
    let there : IsThere tree at = subst (IsThere tree) (sym later) c.loop-a.invariant.second in
    let up : 0 < a = c.loop-a.invariant.first.0 in
    let parent = parent-there tree at any there in
    let above : a < b = omega arith in
    let rooted : 0 < parent_of tree at = c.requires.tree.rooted at (omega arith) there.1 in
    let less : parent_of tree at < at = c.requires.tree.parents at there.0 in
    let least = c.min-fork.ensures ∙ ap (min c.loop-a.fork) (sym (reset-there tree at any there) ∙ ap (reset_of tree) later) in
    record {
      first = c.loop-a.invariant.first;
      second = (omega (arith, parent, rooted), omega (arith, parent, less, there.1));
      fork = subst (λ p. IsFork tree c.args.i c.args.j a p c.min-fork.result) (ap (parent_of tree) (sym later) ∙ parent)
          (fork-second tree c.requires.tree.parents c.args.i c.args.j a b c.loop-a.fork c.min-fork.result c.loop-a.invariant.fork up above least);
    }
