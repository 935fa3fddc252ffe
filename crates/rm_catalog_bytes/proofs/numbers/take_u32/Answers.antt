use Rattle.rm_catalog_bytes.proofs.Wide.{four_front}
use Rattle.rm_catalog_bytes.proofs.numbers.take_u32.Goals as goal

pub returns-clause-parts : goal.returns-clause-parts
returns-clause-parts c = four_front c.args.bytes.now c.read_u32.result c.read_u32.ensures c.requires c.type_inv.bytes
