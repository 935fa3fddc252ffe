-- The names of objects, by their ids.
use Rattle.std.specs.{Prelude.{ℕ, Bool, List, ◌++◌, Option, Some, None, codes, if◌then◌else◌}, Fmt.{decimal}}
use Rattle.rm_catalog.specs.declared.record.Record.{Record, TheVariants.{Log, Piece, Set}}

-- an archived log, or a backup of one
abbrev pub log_name : ℕ → List ℕ
log_name id = codes "log_" ++ decimal id

-- an image copy, or else a backup piece
abbrev pub piece_name : Bool → ℕ → List ℕ
piece_name copy id = (if copy then codes "copy_" else codes "piece_") ++ decimal id

-- a backup set
abbrev pub set_name : ℕ → List ℕ
set_name id = codes "set_" ++ decimal id

-- an increment for a standby, of which no record tells
abbrev pub roll_name : ℕ → List ℕ
roll_name id = codes "roll_" ++ decimal id

-- a saved part of what stands in place
abbrev pub site_name : ℕ → List ℕ
site_name id = codes "site_" ++ decimal id

-- the id of the object of a record
abbrev pub object_id : Record → Option ℕ
object_id (Log l) = Some l.id
object_id (Piece p) = Some p.id
object_id (Set e) = Some e.id
object_id _ = None

-- its name
abbrev pub object_name : Record → Option (List ℕ)
object_name (Log l) = Some (log_name l.id)
object_name (Piece p) = Some (piece_name p.copy p.id)
object_name (Set e) = Some (set_name e.id)
object_name _ = None
