-- Which copies of a datafile the policy chooses, and the floor of the datafile.
use Rattle.std.specs.Prelude.{ℕ, ◌≡◌, ◌<◌, ◌⊎◌, ◌+◌, ◌==◌, ◌&&◌, ◌||◌, nat_le, nat_lt, not, Bool, true, Option, Some, None, List, map, filter, find, count_by, AllPairs, Contains}
use Rattle.std.specs.Option.{option_map_or}
use Rattle.rm_base.specs.declared.kinds.Policy.{Policy, TheVariants.{Window, Redundancy, Nothing}}
use Rattle.rm_history.specs.{Tree.{is_within}, World.{creation_of}, declared.{tree.Incarnation.{Incarnation}, world.World.{World}}}
use Rattle.rm_retain.specs.declared.copies.Backup.{Backup}

-- What retention goes by: the database and its current incarnation, the policy and the SCN at which its
-- window starts, and the copies that are at hand and have a record.
pub record Retention : Type 0 where
  pub world : World
  pub current : ℕ
  pub policy : Policy
  pub start : ℕ
  pub copies : List Backup

-- for a window, all that the copy tells lies below the window's start
abbrev pub is_before_window : Policy → ℕ → Backup → Bool
is_before_window (Window days) start x = nat_le x.high start
is_before_window (Redundancy n) start x = true
is_before_window Nothing start x = true

-- a copy of datafile f, all of which holds on the current path, and for a window before its start
abbrev pub is_candidate : List Incarnation → ℕ → Policy → ℕ → ℕ → Backup → Bool
is_candidate tree current policy start f x = (x.file == f) && is_within tree x.inc current x.high && is_before_window policy start x

-- the copies of a datafile among which the policy chooses
abbrev pub candidates : Retention → ℕ → List Backup
candidates r f = filter (is_candidate r.world.tree r.current r.policy r.start f) r.copies

-- x has a greater checkpoint than y, or the same one and a greater id
abbrev pub is_newer : Backup → Backup → Bool
is_newer x y = nat_lt y.checkpoint x.checkpoint || ((x.checkpoint == y.checkpoint) && nat_lt y.id x.id)

-- the copies of one datafile ascend by id
abbrev pub AscendById : List Backup → Type 0
AscendById xs = AllPairs (λ x y. x.id < y.id) xs

-- copies ascend by id, and those of one set by datafile
abbrev pub Ascend : List Backup → Type 0
Ascend xs = AllPairs (λ x y. (x.id < y.id) ⊎ ((x.id ≡ y.id) × (x.file < y.file))) xs

-- how many copies are newer than x
abbrev pub rank : List Backup → Backup → ℕ
rank xs x = count_by (λ y. is_newer y x) xs

-- the n newest copies
abbrev pub newest : ℕ → List Backup → List Backup
newest n xs = filter (λ x. nat_lt (rank xs x) n) xs

-- the n-th newest copy
abbrev pub nth_newest : ℕ → List Backup → Option Backup
nth_newest n xs = find (λ x. rank xs x + 1 == n) xs

-- each copy is older than those behind it
abbrev pub IsByAge : List Backup → Type 0
IsByAge xs = AllPairs (λ x y. is_newer y x ≡ true) xs

-- x is among the n newest, of which this is the n-th where there are as many
abbrev pub is_among : Option Backup → Backup → Bool
is_among None x = true
is_among (Some last) x = not (is_newer last x)

-- how many copies of each datafile the policy wants
abbrev pub wanted : Policy → ℕ
wanted (Window days) = 1
wanted (Redundancy n) = n
wanted Nothing = 0

-- the copies of a datafile that are chosen
abbrev pub chosen : Retention → ℕ → List Backup
chosen r f = newest (wanted r.policy) (candidates r f)

-- the record of this id is chosen for the datafile
abbrev pub IsChosen : Retention → ℕ → ℕ → Type 0
IsChosen r f id = Contains (map (λ x. x.id) (chosen r f)) id

-- the floor of a datafile: the checkpoint of the last copy that is wanted, or else its creation SCN
abbrev pub floor : Retention → ℕ → ℕ
floor r f = option_map_or (λ x. x.checkpoint) (nth_newest (wanted r.policy) (candidates r f)) (creation_of r.world f)
