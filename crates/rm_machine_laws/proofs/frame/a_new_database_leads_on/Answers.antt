use Rattle.rm_machine_laws.proofs.Founding.{creating-leads}
use Rattle.rm_machine_laws.proofs.frame.a_new_database_leads_on.Goals as goal

pub returns : goal.returns
returns a dbid threads scn = creating-leads dbid threads scn
