use Rattle.rm_blocks.proofs.Created.{created-agrees}
use Rattle.rm_blocks.proofs.laws.a_created_file_agrees.Goals as goal

pub returns : goal.returns
returns c = created-agrees
