use Rattle.rm_machine_laws.proofs.{Carried.{carried-on}, Halting.{halts}}
use Rattle.rm_machine_laws.proofs.frame.what_leads_on_is_carried_on.Goals as goal

pub returns-clause-carries : goal.returns-clause-carries
returns-clause-carries a c law stays held held' kept kept' o moment lines x t well at handed leads =
    carried-on c law stays held kept o moment lines x t well at handed held' kept' leads

pub returns-clause-stops : goal.returns-clause-stops
returns-clause-stops a c law stays loose held held' kept kept' o moment lines x t well at handed leads =
    halts c law stays loose held kept o moment lines x t well at handed held' kept' leads
