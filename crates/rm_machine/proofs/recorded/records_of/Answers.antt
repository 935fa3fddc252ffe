use Rattle.std.proofs.Common.{sym, subst}
use Rattle.rm_catalog.specs.Rules.{IsCatalog}
use Rattle.rm_catalog_typed.proofs.Valid.{typed_catalog-valid}
use Rattle.rm_machine.proofs.recorded.records_of.Goals as goal

pub from_valid-requires : goal.from_valid-requires
from_valid-requires c = subst IsCatalog (sym c.in_ok-records.ensures) (typed_catalog-valid c.args.state.now.catalog c.requires.sound.catalog)
