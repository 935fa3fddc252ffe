use Rattle.rm_catalog_bytes.proofs.Records.{record_same}
use Rattle.rm_catalog_bytes.proofs.laws.bytes_spell_one_record.Goals as goal

pub returns : goal.returns
returns c = record_same
