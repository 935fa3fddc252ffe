use Rattle.rm_keeper_sql.proofs.Opened.{takes_of}
use Rattle.rm_keeper_sql.proofs.file.CatalogFileShelf.apply_to.Goals as goal

pub returns-in-Opened-clause-takes : goal.returns-in-Opened-clause-takes
returns-in-Opened-clause-takes g c = rw c.in-Opened.is (takes_of c.apply_to.result _ _ _ c.apply_to.ensures.ours c.apply_to.ensures.takes)
