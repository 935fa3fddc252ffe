-- Which records are of a class, and what a record says of its object.
use Rattle.std.specs.Prelude.{Bool, true, false, not, Option, Some, None}
use Rattle.rm_base.specs.declared.kinds.Class.{Class, TheVariants.{Backup, Copy, Archived}}
use Rattle.rm_catalog.specs.declared.record.Record.{Record, TheVariants.{Log, Piece, Set}}
use Rattle.rm_evidence.specs.Names.{log_name, piece_name, set_name}
use Rattle.rm_verify.specs.declared.object.Expected.{Expected}

-- backups are pieces that are no image copies, sets, and backups of logs; copies are image copies; then there are archived logs
abbrev pub is_of : Class → Record → Bool
is_of Backup (Piece p) = not p.copy
is_of Backup (Set e) = true
is_of Backup (Log l) = not l.archived
is_of Copy (Piece p) = p.copy
is_of Archived (Log l) = l.archived
is_of _ _ = false

-- the id and the status of a record of a log, a piece or a set, and the name of its object
abbrev pub object_in : Record → Option Expected
object_in (Log l) = Some (record { id = l.id; status = l.status; name = log_name l.id })
object_in (Piece p) = Some (record { id = p.id; status = p.status; name = piece_name p.copy p.id })
object_in (Set e) = Some (record { id = e.id; status = e.status; name = set_name e.id })
object_in _ = None
