-- What the policy needs of each datafile on the current path, and whether it needs a record.
use Rattle.std.specs.{Prelude.{ℕ, ◌≡◌, ◌<◌, ◌==◌, ◌&&◌, ◌||◌, nat_lt, Bool, List, map, Contains}, List.{list_any}}
use Rattle.rm_catalog.specs.{Trees.{nodes}, declared.record.Record.{Record}}
use Rattle.rm_history.specs.Tree.{IsThere}
use Rattle.rm_evidence.specs.Database.{current_in}
use Rattle.rm_retain.specs.{Catalogued.{on_copies}, Chosen.{Retention, chosen, floor}, Obsolete.{IsOnPath}}
use Rattle.rm_retain.specs.declared.{file_need.FileNeed.{FileNeed}, needs.Needs.{Needs}}

-- what retention needs of a datafile
pub record IsFileNeed (r : Retention) (f : ℕ) (x : FileNeed) : Type 0 where
  pub file : x.file ≡ f
  pub floor : x.floor ≡ floor r f
  pub chosen : x.chosen.items ≡ map (λ y. y.id) (chosen r f)

-- each is of a datafile on the current path
abbrev pub AreFileNeeds : Retention → List FileNeed → Type 0
AreFileNeeds r xs = (x : FileNeed) → Contains xs x → IsOnPath r x.file × IsFileNeed r x.file x

-- there is one of each such datafile with a number below n
abbrev pub HaveFileNeeds : Retention → ℕ → List FileNeed → Type 0
HaveFileNeeds r n xs = (f : ℕ) → f < n → IsOnPath r f → (x : FileNeed) × Contains xs x × (x.file ≡ f)

-- the retention that these needs are of
abbrev pub needed_by : List Record → Needs → Retention
needed_by rs x = on_copies rs x.policy x.start x.copies.items

-- they are the needs of the current incarnation, and of each datafile on the current path
pub record AreNeeds (rs : List Record) (x : Needs) : Type 0 where
  pub current : x.current ≡ current_in rs
  pub there : IsThere (nodes rs) x.current
  pub sound : AreFileNeeds (needed_by rs x) x.files.items
  pub complete : (f : ℕ) → IsOnPath (needed_by rs x) f → (y : FileNeed) × Contains x.files.items y × (y.file ≡ f)

-- a datafile needs a log with this clip: the clip lies above its floor
abbrev pub needs_clip : ℕ → FileNeed → Bool
needs_clip clip x = nat_lt x.floor clip

-- datafile f needs its backup of this id and clip: the clip lies above its floor, or the backup is chosen
abbrev pub needs_backup : ℕ → ℕ → ℕ → FileNeed → Bool
needs_backup f id clip x = (x.file == f) && (nat_lt x.floor clip || list_any (λ y. y == id) x.chosen.items)
