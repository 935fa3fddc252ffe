use Rattle.std.proofs.{Common.{◌+◌, inl, inr, sym, subst, arith}, lemmas.Bool.{cases_eq}}
use Rattle.rm_redo.specs.Online.{IsLost, IsThread}
use Rattle.rm_machine.proofs.LostLogs.{lost-found, lost-none}
use Rattle.rm_machine.proofs.facts.has_lost.Goals as goal

pub loop-index-init : goal.loop-index-init
loop-index-init c = λ t low is. let some = is.0 in absurd (omega (arith, low, some))

pub loop-index-preserved : goal.loop-index-preserved
loop-index-preserved c = λ t low is. elim (cases_eq t (c.loop-index.index + 1)) [
  | inl same ↦ λ lost. subst (λ u. IsThread c.args.logs.now u → IsLost c.args.logs.now u → ⊥) (sym same) (λ there gone. let is = c.lost_its_log.ensures.1 (there, gone) in absurd (cc)) is lost
  | inr other ↦ c.loop-index.invariant t (omega (arith, low, other)) is
]

pub returns-then-lost_its_log : goal.returns-then-lost_its_log
returns-then-lost_its_log c = let both = c.lost_its_log.ensures.0 c.if-lost_its_log.true in sym (lost-found c.args.logs.now (c.loop-index.index + 1) both.0 both.1)

pub returns : goal.returns
returns c = sym (lost-none c.args.logs.now (λ t is. c.loop-index.invariant t (omega (arith, c.threads-index-end.ensures.most t is)) is))
