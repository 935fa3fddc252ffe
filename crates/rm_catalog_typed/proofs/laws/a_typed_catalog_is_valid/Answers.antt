use Rattle.rm_catalog_typed.proofs.Valid.{typed_catalog-valid}
use Rattle.rm_catalog_typed.proofs.laws.a_typed_catalog_is_valid.Goals as goal

pub returns : goal.returns
returns c = typed_catalog-valid
