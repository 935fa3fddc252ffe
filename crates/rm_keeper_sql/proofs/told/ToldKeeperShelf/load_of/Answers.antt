use Rattle.sqlite.specs.State.{HasCleanDisk}
use Rattle.rm_keeper_sql.{specs.SqlKeeper.{connection_of, state_of}, proofs.Telltale.{known_kept, told_read, told_ascends}}
use Rattle.rm_keeper_sql.proofs.told.ToldKeeperShelf.load_of.Goals as goal

pub invariant_of-self : goal.invariant_of-self
invariant_of-self g c =
    let old = c.args.self.now in
    let new = c.load_of.new.self in
    let clean : HasCleanDisk (state_of g.S.Store new) = g.met.S.Honest.clean new.connection.store in
    record {
      known = known_kept g.S.Store old.log.edits (connection_of old.keeper) (connection_of new) (c.load_of.ensures.stays clean)
          (c.load_of.ensures.shuts clean) old.known;
    }

pub returns-clause-records : goal.returns-clause-records
returns-clause-records g c =
    let old = c.args.self.now in
    let new = c.load_of.new.self in
    let clean : HasCleanDisk (state_of g.S.Store new) = g.met.S.Honest.clean new.connection.store in
    told_read g.S.Store old.log.edits (connection_of old.keeper) (connection_of new) c.args.number c.load_of.result (c.load_of.ensures.reads clean) old.known

pub returns-clause-told : goal.returns-clause-told
returns-clause-told g c = returns-clause-records g c

pub returns-clause-ascends : goal.returns-clause-ascends
returns-clause-ascends g c = told_ascends c.args.number c.args.self.now.log.edits c.load_of.result
