use Rattle.rm_keeper_sql.proofs.Opened.{reads_of}
use Rattle.rm_keeper_sql.proofs.file.CatalogFileShelf.load_of.Goals as goal

pub returns-in-Opened-clause-reads : goal.returns-in-Opened-clause-reads
returns-in-Opened-clause-reads g c = rw c.in-Opened.is (reads_of c.load_of.result _ _ _ _ _ c.load_of.ensures.ours c.load_of.ensures.reads c.load_of.ensures.rows)
