use Rattle.std.{specs.Prelude.{IsTrue}, proofs.Common.{ℕ, subst, sym}}
use Rattle.rm_catalog.specs.Rules.{IsOnce}
use Rattle.rm_catalog.proofs.rules.obeys.Goals as goal

pub returns-then-not-is_once : goal.returns-then-not-is_once
returns-then-not-is_once c = (
  (λ h. absurd cc),
  (λ o. let yes : IsTrue c.is_once.result = c.is_once.ensures.1 (subst (λ (p : ℕ). IsOnce p c.args.records.now) (sym c.place.ensures.is) o.once) in let no = c.if-not-is_once.true in absurd cc),
)
