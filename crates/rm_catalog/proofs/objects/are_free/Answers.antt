use Rattle.std.proofs.{Common.{ℕ, refl, subst, All, List}, lemmas.List.{take_all, Elements.{All-more}}}
use Rattle.rm_catalog.specs.Objects.{IsFree}
use Rattle.rm_catalog.proofs.objects.are_free.Goals as goal

pub loop-other-preserved : goal.loop-other-preserved
loop-other-preserved c =
    All-more (IsFree c.args.records.now c.args.kind c.args.id) c.args.others.now c.loop-other.other-index _ c.loop-other-test.true c.loop-other.invariant (c.is_free.ensures.0 c.if-not-is_free.false)

pub returns : goal.returns
returns c = (
  λ _. subst (λ (xs : List ℕ). All (IsFree c.args.records.now c.args.kind c.args.id) xs) (take_all c.loop-other.other-index c.args.others.now c.loop-other-test.false) c.loop-other.invariant,
  λ _. refl,
)
