use Rattle.rm_evidence.proofs.Files.{file_of-is}
use Rattle.rm_evidence.proofs.database_laws.the_datafiles_are_those_of_the_records.Goals as goal

pub returns : goal.returns
returns c rs f catalog = file_of-is rs f catalog
