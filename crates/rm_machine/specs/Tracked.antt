-- The bitmaps of an open database in which changes are tracked: which they are at its opening, and what is true of them.
use Rattle.std.specs.Prelude.{ℕ, ◌≡◌, ◌≤◌, ◌<◌, ◌+◌, ◌&&◌, if◌then◌else◌, Bool, true, false, Some, IsSome, List, [], ◌∷◌, All, Contains, length}
use Rattle.rm_history.specs.{Tree.{end_of, reset_of}, World.{blocks_of, creation_of, exists}, declared.world.Datafile.{Datafile}}
use Rattle.rm_history.specs.declared.world.World.{World}
use Rattle.rm_track.specs.{Bitmaps.{Bitmap, Tracked, fresh, switch_at, tracked_at}, Told.{starts}}
use Rattle.rm_catalog_typed.specs.{Ledger.{Ledger}, Worlds.{world_of}}
use Rattle.rm_machine.specs.{State.{ledger, tree, world, current_of, now_of, on_path}, declared.state.State.{State}}

-- of these datafiles, the first of number f, those that exist at (i, start), each tracked from `start` on
abbrev pub fresh_from : World → ℕ → ℕ → ℕ → List Datafile → List Tracked
fresh_from w i start f [] = []
fresh_from w i start f (d ∷ ds) =
    if exists w i start d then fresh f d.blocks start ∷ fresh_from w i start (f + 1) ds else fresh_from w i start (f + 1) ds

-- changes are tracked: the database is open, and the setting is on
abbrev pub tracks : Bool → Ledger → Bool
tracks is_open l = is_open && l.base.tracking

-- The bitmaps of a database that is opened, loaded, or of which the setting is changed: where changes are tracked, each datafile of
-- the current path is tracked from `now` on.
abbrev pub first_tracker : Bool → Ledger → List Tracked
first_tracker is_open l =
    if tracks is_open l then fresh_from (world_of l) l.base.current (end_of l.tree l.base.current) 1 l.files else []

-- the database with these bitmaps
abbrev pub with_tracker : State → List Tracked → State
with_tracker s ts = record s { instance = record s.instance { tracker = ts } }

-- of each of these datafiles the current bitmap ends at the checkpoint, and a new one starts there
abbrev pub switch_all : ℕ → List ℕ → List Tracked → List Tracked
switch_all checkpoint [] ts = ts
switch_all checkpoint (f ∷ fs) ts = switch_all checkpoint fs (switch_at ts f checkpoint)

-- a bitmap may start here: in the current incarnation, above the creation of datafile f
pub record IsStart (s : State) (f low : ℕ) : Type 0 where
  pub reset : reset_of (tree s) (current_of s) ≤ low
  pub created : creation_of (world s) f < low

-- The bitmaps of datafile f could be so: they are of its blocks, and the current one starts at or below `now`.
pub record IsTracked (s : State) (f : ℕ) (t : Tracked) : Type 0 where
  pub blocks : length t.marks ≡ blocks_of (world s) f
  pub ended : All (λ (x : Bitmap). length x.marks ≡ blocks_of (world s) f) t.ended
  pub begun : t.start ≤ now_of s
  pub kept : (low : ℕ) → Contains (starts t) low → IsStart s f low

-- Where changes are not tracked there are no bitmaps, and else each datafile of the current path is tracked. Those that are there could
-- be so.
pub record AreTracked (s : State) : Type 0 where
  pub idle : tracks s.instance.is_open (ledger s) ≡ false → s.instance.tracker ≡ []
  pub full : tracks s.instance.is_open (ledger s) ≡ true → (f : ℕ) (d : Datafile) → on_path s f ≡ Some d → IsSome (tracked_at s.instance.tracker f)
  pub each : (f : ℕ) (t : Tracked) → tracked_at s.instance.tracker f ≡ Some t → IsTracked s f t
