use Rattle.rm_keeper_sql.proofs.Opened.{takes_of}
use Rattle.rm_keeper_sql.proofs.file.CatalogFileKeeper.apply.Goals as goal

pub returns-in-Opened-clause-takes : goal.returns-in-Opened-clause-takes
returns-in-Opened-clause-takes g c = rw c.in-Opened.is (takes_of c.apply.result _ _ _ c.apply.ensures.ours c.apply.ensures.takes)
