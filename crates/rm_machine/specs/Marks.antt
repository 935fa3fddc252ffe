-- The marks that statements write, and the room for records, bytes and ids.
use Rattle.std.specs.Prelude.{ℕ, ◌+◌, ◌*◌, ◌&&◌, ◌++◌, nat_lt, if◌then◌else◌, is_none, Bool, Option, Some, None, List, [], ◌∷◌, length, map, sum_by}
use Rattle.rm_base.specs.{Numbers.{most_bytes}, declared.{block.Mark.{Mark}, refusal.Refusal.{Refusal, TheVariants.{Rm11}}}}
use Rattle.rm_base.specs.declared.refusal.Limit.TheVariants.{ObjectIds}
use Rattle.rm_history.specs.{World.{blocks_of}, declared.world.World.{World}}
use Rattle.rm_catalog_typed.specs.{Ledger.{Ledger, ledger_records}, Changes.{with_end_at}, TypedCatalog.{TypedCatalog}, Worlds.{world_of}}
use Rattle.rm_machine.specs.{State.{ledger, current_of, now_of}, declared.state.State.{State}}

-- the moment of the last mark, 0 before the first
abbrev pub last_marked : ℕ → List Mark → ℕ
last_marked moment [] = moment
last_marked moment (m ∷ ms) = last_marked m.moment ms

-- a mark of `now`, at the moment of the statement
abbrev pub mark_now : State → Mark
mark_now s = record { moment = (ledger s).base.moment; inc = current_of s; scn = now_of s }

-- the mark before a change: `now`, where the moment of the statement is later than the last mark's
abbrev pub marks_before : State → List Mark
marks_before s = if nat_lt (last_marked 0 (ledger s).marks) (ledger s).base.moment then mark_now s ∷ [] else []

-- a mark, if there is one, as a list
abbrev pub listed : Option Mark → List Mark
listed None = []
listed (Some m) = m ∷ []

-- with these marks more
abbrev pub with_marks : TypedCatalog → List Mark → TypedCatalog
with_marks r marks = record r { ledger = record r.ledger { marks = r.ledger.marks ++ marks } }

-- the database after the mark that comes before writes, where a statement has a DURING
abbrev pub marked_for : {W : Type 0} → State → Option W → State
marked_for s during = if is_none during then s else record s { catalog = with_marks s.catalog (marks_before s) }

-- the catalog with the mark before a change, and one SCN further
abbrev pub one_further : State → TypedCatalog
one_further s = with_end_at (with_marks s.catalog (marks_before s)) (current_of s) (now_of s + 1)

-- n records more would be too many
abbrev pub lacks_room : State → ℕ → Bool
lacks_room s n = nat_lt 0 n && nat_lt 65536 (length (ledger_records (ledger s)) + n)

-- what a set of these datafiles counts as: 57 bytes, 37 for each of them, and 76 for each of their blocks, be they written or not
abbrev pub set_bytes : World → List ℕ → ℕ
set_bytes w files = 57 + 37 * length files + 76 * sum_by (blocks_of w) files

-- what the recorded objects count as: logs and pieces by the sizes that stand in their records, sets by their datafiles
abbrev pub bytes_in : Ledger → ℕ
bytes_in l = sum_by (λ e. e.size) l.logs + sum_by (λ p. p.size) l.pieces + sum_by (λ e. set_bytes (world_of l) (map (λ p. p.file) e.parts)) l.sets

-- n bytes more would be too many
abbrev pub lacks_bytes : State → ℕ → Bool
lacks_bytes s n = nat_lt 0 n && nat_lt most_bytes (bytes_in (ledger s) + n)

-- too few ids are left for n objects: a save may draw 68 ids more
abbrev pub lacks_ids : State → ℕ → Bool
lacks_ids s n = nat_lt 4294967295 ((ledger s).base.next_id + n + 68)

-- each statement that changes something needs the ids of a save left
abbrev pub ids_refusal : State → Option Refusal
ids_refusal s = if lacks_ids s 0 then Some (Rm11 ObjectIds) else None
