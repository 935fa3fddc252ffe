use Rattle.rm_machine_laws.proofs.{Leading.{leads, stays, tells}, Telling.{every-tells-by, never-done, tells-on, tells-stays}}
use Rattle.rm_machine_laws.proofs.laws.what_only_tells_leads_on.Goals as goal

pub returns-clause-never : goal.returns-clause-never
returns-clause-never a c only = never-done c only

pub returns-clause-leads : goal.returns-clause-leads
returns-clause-leads a c only = leads c (tells-on c only)

pub returns-clause-stays : goal.returns-clause-stays
returns-clause-stays a c only = stays c (tells-stays c only)

pub returns-clause-tells : goal.returns-clause-tells
returns-clause-tells a c = tells c (every-tells-by c)
