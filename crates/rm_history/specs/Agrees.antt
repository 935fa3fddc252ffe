-- What an artefact says of a history.
use Rattle.std.specs.Prelude.{ℕ, ◌≡◌, ◌<◌, ◌≤◌, ◌↔◌, ◌⊎◌, ◌==◌, ◌&&◌, nat_le, nat_lt, Bool, true, false, List, Contains, AllPairs, filter}
use Rattle.std.specs.List.{list_any}
use Rattle.rm_base.specs.declared.block.{Change.{Change}, Row.{Row}}
use Rattle.rm_history.specs.{Artefacts.{Base, Level1, Log}, State.{state}, World.{blocks_of}, declared.world.World.{World}}

-- one of the rows is of this block
abbrev pub lists : List Row → ℕ → Bool
lists rows b = list_any (λ r. r.block == b) rows

-- the row is the state of its block at some position at or after the checkpoint
pub record IsRow (w : World) (h : List Change) (inc file checkpoint : ℕ) (r : Row) : Type 0 where
  pub position : ℕ
  pub after : checkpoint ≤ position
  pub is : state w h inc position file r.block ≡ r

-- at some position at or after the checkpoint the block's version is below `from`
pub record IsBelow (w : World) (h : List Change) (inc file checkpoint from b : ℕ) : Type 0 where
  pub position : ℕ
  pub after : checkpoint ≤ position
  pub below : (state w h inc position file b).version < from

-- each of its rows is a state
abbrev pub BaseAgrees : World → List Change → Base → Type 0
BaseAgrees w h a = (r : Row) → Contains a.rows r → IsRow w h a.inc a.file a.checkpoint r

-- each of its rows is a state with a version at or above `from`, and each other block was below it
pub record Level1Agrees (w : World) (h : List Change) (a : Level1) : Type 0 where
  pub listed : (r : Row) → Contains a.rows r → IsRow w h a.inc a.file a.checkpoint r × (a.from ≤ r.version)
  pub unlisted : (b : ℕ) → b < blocks_of w a.file → lists a.rows b ≡ false → IsBelow w h a.inc a.file a.checkpoint a.from b

-- the change is of the log's incarnation, thread and range
abbrev pub is_of : Log → Change → Bool
is_of a c = (c.inc == a.inc) && (c.thread == a.thread) && nat_le a.first c.scn && nat_lt c.scn a.next

-- its changes are exactly the history's of its incarnation, thread and range
abbrev pub LogAgrees : List Change → Log → Type 0
LogAgrees h a = a.changes ≡ filter (is_of a) h

-- the order of the changes of a log: by SCN, then by datafile, then by block
abbrev pub ComesBefore : Change → Change → Type 0
ComesBefore c d = (c.scn < d.scn) ⊎ ((c.scn ≡ d.scn) × ((c.file < d.file) ⊎ ((c.file ≡ d.file) × (c.block < d.block))))

-- its changes are exactly these, and ascend, however the history lists them
pub record LogLists (h : List Change) (a : Log) : Type 0 where
  pub exact : (c : Change) → Contains a.changes c ↔ (Contains h c × (is_of a c ≡ true))
  pub ascends : AllPairs ComesBefore a.changes
