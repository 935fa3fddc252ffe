-- What rows and records tell of a block: artefact by artefact, along the ways of a target.
use Rattle.std.specs.Prelude.{ℕ, ◌≡◌, ◌<◌, ◌==◌, ◌&&◌, ◌||◌, nat_lt, nat_le, Bool, true, false, List, fold, if◌then◌else◌, length, max, min, slice_index_or}
use Rattle.rm_base.specs.{Content.{zero_block}, declared.block.{Block.{Block}, Row.{Row}}}
use Rattle.rm_evidence.specs.declared.evidence.Evidence.{Evidence}
use Rattle.rm_piece.specs.declared.piece.Piece.{Piece}
use Rattle.rm_plan.specs.{Ways.{way_of}, declared.{entry.Entry.{Entry}, span.Span.{Span}}}
use Rattle.rm_redo.specs.declared.{log_file.LogFile.{LogFile}, online.LogRecord.{LogRecord}}

-- before anything is looked at, of a file that was created at this SCN
abbrev pub entry_at_creation : ℕ → Entry
entry_at_creation creation = record { told = record { version = creation; content = zero_block }; reach = 0; is_listed_astray = false }

-- what stands where no block is
abbrev pub no_entry : Entry
no_entry = entry_at_creation 0

-- after a version that counts
abbrev pub after_version : ℕ → Block → Entry → Entry
after_version v x t = if nat_lt t.told.version v then record t { told = record { version = v; content = x } } else t

-- after a row that counts, in a piece of this checkpoint whose way ends here
abbrev pub after_counted_row : ℕ → ℕ → Entry → Row → Entry
after_counted_row end c t r = record { told = (after_version r.version r.content t).told; reach = max (after_version r.version r.content t).reach (min c end); is_listed_astray = (after_version r.version r.content t).is_listed_astray }

-- after a row of the block; of a level 1 that looked for changes on its way it counts, or it is astray
abbrev pub after_own_row : Bool → ℕ → ℕ → Entry → Row → Entry
after_own_row looked end c t r = if nat_lt r.version end then after_counted_row end c t r else record t { is_listed_astray = t.is_listed_astray || looked }

-- after a row
abbrev pub after_row : Bool → ℕ → ℕ → ℕ → Entry → Row → Entry
after_row looked end c b t r = if r.block == b then after_own_row looked end c t r else t

-- the piece is a level 1 that looked for changes at some SCN on its way
abbrev pub looked_on_way : Bool → List Span → Piece → Bool
looked_on_way level1 ways a = level1 && nat_lt a.from (min a.checkpoint (way_of ways a.inc).end)

-- after a piece
abbrev pub after_piece : Bool → List Span → ℕ → ℕ → Entry → Piece → Entry
after_piece level1 ways f b t a = if a.file == f then fold (after_row (looked_on_way level1 ways a) (way_of ways a.inc).end a.checkpoint b) t a.rows else t

-- after pieces
abbrev pub after_pieces : Bool → List Span → ℕ → ℕ → Entry → List (ℕ × Piece) → Entry
after_pieces level1 ways f b t pieces = fold (λ u x. after_piece level1 ways f b u x.1) t pieces

-- the record is of the block, and on the way
abbrev pub record_counts : Span → ℕ → ℕ → LogRecord → Bool
record_counts way f b r = (r.file == f) && (r.block == b) && nat_le way.start r.scn && nat_lt r.scn way.end

-- after a record of a log of this way
abbrev pub after_record : Span → ℕ → ℕ → Entry → LogRecord → Entry
after_record way f b t r = if record_counts way f b r then after_version r.scn r.content t else t

-- after logs
abbrev pub after_logs : List Span → ℕ → ℕ → Entry → List (ℕ × LogFile) → Entry
after_logs ways f b t logs = fold (λ u x. fold (after_record (way_of ways x.1.inc) f b) u x.1.records) t logs

-- in the end
abbrev pub entry_of : List Span → Evidence → ℕ → ℕ → ℕ → Entry
entry_of ways e creation f b =
    after_logs ways f b (after_pieces true ways f b (after_pieces false ways f b (entry_at_creation creation) e.bases) e.level1s) e.logs

-- the entry of each block becomes what the step makes of it
abbrev pub EachBecomes : (ℕ → Entry → Entry) → List Entry → List Entry → Type 0
EachBecomes step old new = (b : ℕ) → b < length old → slice_index_or new b no_entry ≡ step b (slice_index_or old b no_entry)
