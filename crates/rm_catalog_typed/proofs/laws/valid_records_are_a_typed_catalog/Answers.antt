use Rattle.rm_catalog_typed.proofs.{Loads.{records-are}, Saves.{typed_catalog-is}}
use Rattle.rm_catalog_typed.proofs.laws.valid_records_are_a_typed_catalog.Goals as goal

pub returns-clause-records : goal.returns-clause-records
returns-clause-records c = records-are

pub returns-clause-rules : goal.returns-clause-rules
returns-clause-rules c = typed_catalog-is
