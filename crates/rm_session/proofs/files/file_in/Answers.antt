use Rattle.rm_session.proofs.Orders.{in-order}
use Rattle.rm_session.proofs.files.file_in.Goals as goal

pub from_rows-requires : goal.from_rows-requires
from_rows-requires c = in-order c.args.piece c.requires.valid c.requires.place
