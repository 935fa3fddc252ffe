use Rattle.rm_machine_laws.proofs.{Leading.{leads, stays}, Settings.{parallelism-on, parallelism-stays, retention-on, retention-stays}}
use Rattle.rm_machine_laws.proofs.laws.settings_lead_on.Goals as goal
use Rattle.rm_lang_statement.specs.declared.command.Command.TheVariants.{Parallelism, Retention}

pub returns-clause-retention : goal.returns-clause-retention
returns-clause-retention c form = leads (Retention form) (retention-on form)

pub returns-clause-parallelism : goal.returns-clause-parallelism
returns-clause-parallelism c channels = leads (Parallelism channels) (parallelism-on channels)

pub returns-clause-retention_stays : goal.returns-clause-retention_stays
returns-clause-retention_stays c form = stays (Retention form) (retention-stays form)

pub returns-clause-parallelism_stays : goal.returns-clause-parallelism_stays
returns-clause-parallelism_stays c channels = stays (Parallelism channels) (parallelism-stays channels)
