-- The running database, taken out of a state and given back.
use Rattle.std.specs.Prelude.{ℕ, ◌≡◌, ◌≤◌, ◌<◌, ◌+◌, ◌-◌, nat_lt, if◌then◌else◌, true, Option, Some, List, [], ◌∷◌, length, slice_set}
use Rattle.rm_blocks.specs.File.{File}
use Rattle.rm_history.specs.Tree.{end_of}
use Rattle.rm_channel.specs.declared.jobs.WriteJob.{WriteJob}
use Rattle.rm_live.specs.{History.{IsLegal, fold_of}, Parts.{Parts}, Ruled.{total}, declared.history.Call.{Call}}
use Rattle.rm_live.specs.declared.history.{Call.TheVariants.{Mend, Read, Write}, Event.{Event}}
use Rattle.rm_catalog_typed.specs.{Changes.{with_end_at}, TypedCatalog.{TypedCatalog}}
use Rattle.rm_machine.specs.{Events.{opening}, Marks.{marks_before}, Sound.{IsSound}, declared.state.State.{State}}

-- the datafile has one of these numbers
abbrev pub HasNumber : ℕ → File → Type 0
HasNumber n x = (0 < x.file) × (x.file ≤ n)

-- each of these datafiles in its place
abbrev pub at_home : List (Option File) → List File → List (Option File)
at_home place [] = place
at_home place (x ∷ xs) = at_home (slice_set place (x.file - 1) (Some x)) xs

-- the catalog, where the current incarnation ends at this SCN, if that is later
abbrev pub risen : TypedCatalog → ℕ → TypedCatalog
risen r end = if nat_lt (end_of r.ledger.tree r.ledger.base.current) end then with_end_at r r.ledger.base.current end else r

-- the database is open, and writes need no mark
pub record CanFollow (s : State) (writers : List (List WriteJob)) : Type 0 where
  pub opened : s.instance.is_open ≡ true
  pub marked : 0 < total length writers → marks_before s ≡ []

-- 1 for a write
abbrev pub once : Call → ℕ
once (Read f b) = 0
once (Write t f b content) = 1
once (Mend f row) = 0

-- how many of the events are writes
abbrev pub count_writes : List Event → ℕ
count_writes [] = 0
count_writes (e ∷ es) = once e.call + count_writes es

-- what is left of the state when its running database is taken out
pub record IsTakenOut (s t : State) : Type 0 where
  pub catalog : t.catalog ≡ s.catalog
  pub mode : t.instance.is_open ≡ s.instance.is_open
  pub point : t.instance.point ≡ s.instance.point
  pub damaged : t.instance.damaged ≡ s.instance.damaged

-- The state t is what is left of the sound, open state s, and the database is the one that legal events made of that of s. They have
-- writes only where these need no mark.
pub record HasRun (s : State) (events : List Event) (t : State) (q : Parts) : Type 0 where
  pub sound : IsSound s
  pub opened : s.instance.is_open ≡ true
  pub marked : 0 < count_writes events → marks_before s ≡ []
  pub legal : IsLegal (opening s) events
  pub left : q ≡ fold_of (opening s) events
  pub out : IsTakenOut s t
