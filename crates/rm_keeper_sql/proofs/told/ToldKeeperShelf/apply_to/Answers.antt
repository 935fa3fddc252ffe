use Rattle.std.proofs.Common.{◌∙◌, ℕ, List, Some, sym, ap, subst}
use Rattle.sqlite.specs.State.{HasCleanDisk}
use Rattle.rm_catalog.specs.declared.record.Edit.{Edit}
use Rattle.rm_keeper_sql.specs.{Shelves.{numbered, records_at}, Known.{Known}, SqlKeeper.{connection_of, state_of}}
use Rattle.rm_keeper_sql.proofs.Telltale.{added_to, known_applied, known_kept, records_many, records_others}
use Rattle.rm_keeper_sql.proofs.told.ToldKeeperShelf.apply_to.Goals as goal

pub invariant_of-self : goal.invariant_of-self
invariant_of-self g c =
    let old = c.args.self.now in
    let new = c.apply_to.new.self in
    let n = c.args.number in
    let edits = c.args.edits.now in
    let clean : HasCleanDisk (state_of g.S.Store new) = g.met.S.Honest.clean new.connection.store in
    let all = added_to old.log.edits c.replace-log.result.edits c.and-self.result.edits (numbered n edits)
    (λ d. (c.replace-log.ensures.value d).edits) c.and-self.ensures in
    record {
      known = subst (λ (l : List (ℕ × Edit)). ∥ Known g.S.Store l (connection_of new) ∥₁) (sym all)
          (known_applied g.S.Store old.log.edits (connection_of old.keeper) (connection_of new) n edits (c.in-Ok.ensures.takes clean)
          (c.apply_to.ensures.shuts clean) old.known);
    }

pub invariant_of-self-in-Err-1 : goal.invariant_of-self-in-Err-1
invariant_of-self-in-Err-1 g c =
    let old = c.args.self.now in
    let new = c.apply_to.new.self in
    let clean : HasCleanDisk (state_of g.S.Store new) = g.met.S.Honest.clean new.connection.store in
    record {
      known = known_kept g.S.Store old.log.edits (connection_of old.keeper) (connection_of new) (c.in-Err.ensures.none clean)
          (c.apply_to.ensures.shuts clean) old.known;
    }

pub returns-in-Ok-clause-ok : goal.returns-in-Ok-clause-ok
returns-in-Ok-clause-ok g c =
    let old = c.args.self.now in
    let n = c.args.number in
    let edits = c.args.edits.now in
    let all = added_to old.log.edits c.replace-log.result.edits c.and-self.result.edits (numbered n edits)
    (λ d. (c.replace-log.ensures.value d).edits) c.and-self.ensures in
    ap Some (ap (records_at n) all ∙ records_many n edits old.log.edits)

pub returns-in-Ok-clause-others : goal.returns-in-Ok-clause-others
returns-in-Ok-clause-others g c =
    let old = c.args.self.now in
    let n = c.args.number in
    let edits = c.args.edits.now in
    let all = added_to old.log.edits c.replace-log.result.edits c.and-self.result.edits (numbered n edits)
    (λ d. (c.replace-log.ensures.value d).edits) c.and-self.ensures in
    λ m apart. ap (records_at m) all ∙ records_others n m edits old.log.edits apart
