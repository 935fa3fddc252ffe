use Rattle.std.proofs.Common.{sym, subst}
use Rattle.sqlite.specs.Held.{Held}
use Rattle.rm_keeper_sql.specs.Known.{Known}
use Rattle.rm_keeper_sql.proofs.told.ToldKeeper.choose.Goals as goal

pub invariant_of-self : goal.invariant_of-self
invariant_of-self g c = record {
  known = subst (λ (h : Held g.row.S.Denot). ∥ Known g.S.Store c.args.self.now.log.edits h ∥₁) (sym c.choose.ensures.same) c.args.self.now.known;
}
