use Rattle.std.proofs.Common.{◌≡◌, ◌∙◌, inl, inr, subst, sym, ap, IsSome, refl}
use Rattle.rm_history.{specs.Tree.{IsThere, HasParentsBelow, segment_end}, proofs.Owners.{parent-outside}}
use Rattle.rm_history.proofs.Paths.{no_ancestor, segment_end-absent, segment_end-some}
use Rattle.rm_history.proofs.tree.Tree.segment_end.Goals.{then-j-eq0-via-then-j-eq0, then-j-eq0-via-else-j-eq0+then-not-is_there}
use Rattle.rm_history.proofs.tree.Tree.segment_end.Goals as goal

pub returns-then-j-eq0-clause-value : goal.returns-then-j-eq0-clause-value
returns-then-j-eq0-clause-value c =
    let tree = c.args.self.now in
    sym (segment_end-absent tree c.args.i c.args.j (elim c.then-j-eq0.branch [
      | then-j-eq0-via-then-j-eq0 w ↦ inl w.if-j-eq0.true
      | then-j-eq0-via-else-j-eq0+then-not-is_there w ↦ inr (parent-outside tree c.args.i (λ there. let is = w.if-not-is_there.ensures.1 there in absurd (cc)))
    ]))

pub returns-then-j-eq0-clause-some : goal.returns-then-j-eq0-clause-some
returns-then-j-eq0-clause-some c =
    let tree = c.args.self.now in (
      (λ some. absurd (cc)),
      λ ancestor. absurd (no_ancestor tree c.args.i c.args.j (elim c.then-j-eq0.branch [
        | then-j-eq0-via-then-j-eq0 w ↦ inl w.if-j-eq0.true
        | then-j-eq0-via-else-j-eq0+then-not-is_there w ↦ inr (parent-outside tree c.args.i (λ there. let is = w.if-not-is_there.ensures.1 there in absurd (cc)))
      ]) ancestor),
    )

pub returns-clause-some : goal.returns-clause-some
returns-clause-some c =
    let tree = c.args.self.now in
    let below : HasParentsBelow tree = subst HasParentsBelow c.self.view_is c.self.invariant.parents in
    let there : IsThere tree c.args.i = c.if-not-is_there.ensures.0 refl in
    let is : c.end_of_segment.result ≡ segment_end tree c.args.j c.args.i = c.end_of_segment.ensures ∙ ap (λ t. segment_end t c.args.j c.args.i) (c.deref.ensures.value ∙ c.self.view_is) in
    let both = segment_end-some tree below c.args.i c.args.j there.0 in
    ((λ some. both.0 (subst IsSome is some)), (λ ancestor. subst IsSome (sym is) (both.1 ancestor)))
