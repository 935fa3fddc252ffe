use Rattle.sqlite.specs.Held.{state}
use Rattle.rm_keeper_sql.proofs.Kept.{prepare_keeps, prepare_shuts}
use Rattle.rm_keeper_sql.proofs.sql.probe.Goals as goal

pub returns-clause-kept : goal.returns-clause-kept
returns-clause-kept g c clean =
    prepare_keeps (state g.S.Store c.args.conn.now) (state g.S.Store c.prepare.new.self) _ _ c.prepare.result (c.prepare.ensures.ok clean)
    (c.prepare.ensures.err clean)

pub returns-clause-shuts : goal.returns-clause-shuts
returns-clause-shuts g c clean =
    prepare_shuts (state g.S.Store c.args.conn.now) (state g.S.Store c.prepare.new.self) _ _ c.prepare.result (c.prepare.ensures.ok clean)
    (c.prepare.ensures.err clean)
