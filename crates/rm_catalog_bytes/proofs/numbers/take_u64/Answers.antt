use Rattle.rm_catalog_bytes.proofs.Wide.{eight_front}
use Rattle.rm_catalog_bytes.proofs.numbers.take_u64.Goals as goal

pub returns-clause-parts : goal.returns-clause-parts
returns-clause-parts c = eight_front c.args.bytes.now c.read_u64.result c.read_u64.ensures c.requires c.type_inv.bytes
