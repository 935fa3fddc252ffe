use Rattle.rm_machine_laws.proofs.{Carried.{carried-on}, Leading.{stays}, Every.{every-leads, every-loose, every-stays}, Halting.{halts}}
use Rattle.rm_machine_laws.proofs.frame.each_statement_is_carried_on.Goals as goal

pub returns-clause-carries : goal.returns-clause-carries
returns-clause-carries a c held held' kept kept' o moment lines x t well at handed leads =
    carried-on c (every-leads c) (stays c (every-stays c)) held kept o moment lines x t well at handed held' kept' leads

pub returns-clause-stops : goal.returns-clause-stops
returns-clause-stops a c held held' kept kept' o moment lines x t well at handed leads =
    halts c (every-leads c) (stays c (every-stays c)) (every-loose c) held kept o moment lines x t well at handed held' kept' leads
