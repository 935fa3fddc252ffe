use Rattle.rm_keeper_sql.proofs.Opened.{reads_of}
use Rattle.rm_keeper_sql.proofs.file.CatalogFileKeeper.load.Goals as goal

pub returns-in-Opened-clause-reads : goal.returns-in-Opened-clause-reads
returns-in-Opened-clause-reads g c = rw c.in-Opened.is (reads_of c.load.result _ _ _ _ _ c.load.ensures.ours c.load.ensures.reads c.load.ensures.rows)
