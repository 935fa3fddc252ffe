-- What the base facts, an incarnation, a datafile and a mark obey in a list of records.
use Rattle.std.specs.Prelude.{◌≡◌, ℕ, ◌-◌, ◌<◌, ◌≤◌, ◌==◌, Bool, false, IsTrue, List, IsSomeAnd, nat_le, sum_by, if◌then◌else◌}
use Rattle.std.specs.List.{list_any}
use Rattle.rm_base.specs.{Numbers.{last_scn, last_moment}, declared.kinds.Policy.{Policy, TheVariants.{Window, Redundancy, Nothing}}}
use Rattle.rm_catalog.specs.{Keys.{IsThere, base, incarnation, mark}, declared.record.BaseEntry.{BaseEntry}}
use Rattle.rm_catalog.specs.declared.record.{IncarnationEntry.{IncarnationEntry}, DatafileEntry.{DatafileEntry}, MarkEntry.{MarkEntry}}
use Rattle.rm_catalog.specs.declared.record.Record.{Record, TheVariants.{Datafile, Mark}}

-- the window or the redundancy is in its range
abbrev pub IsPolicy : Policy → Type 0
IsPolicy (Window n) = (1 ≤ n) × (n ≤ 36500)
IsPolicy (Redundancy n) = (1 ≤ n) × (n ≤ 1000)
IsPolicy Nothing = Unit {0}

-- the base facts
pub record BaseRule (rs : List Record) (b : BaseEntry) : Type 0 where
  pub dbid : 1 ≤ b.dbid
  pub threads : (1 ≤ b.threads) × (b.threads ≤ 4)
  pub current : IsThere 2 b.current rs
  pub next_id : 1 ≤ b.next_id
  pub moment : b.moment ≤ last_moment
  pub policy : IsPolicy b.policy
  pub parallelism : (1 ≤ b.parallelism) × (b.parallelism ≤ 16)

-- where i begins lies on p
pub record BeginsOn (i p : IncarnationEntry) : Type 0 where
  pub reset : p.reset ≤ i.reset
  pub end : i.reset ≤ p.end

-- an incarnation but the first: the one before is there, and it branched off from a lower one
pub record BranchRule (rs : List Record) (i : IncarnationEntry) : Type 0 where
  pub no_gap : IsThere 2 (i.inc - 1) rs
  pub below : i.parent < i.inc
  pub parent : IsSomeAnd (incarnation i.parent rs) (BeginsOn i)

-- the first has no parent, and each other one branched off
pub record OriginRule (rs : List Record) (i : IncarnationEntry) : Type 0 where
  pub first : i.inc ≡ 1 → i.parent ≡ 0
  pub branch : 1 < i.inc → BranchRule rs i

-- a mark of this incarnation
abbrev pub is_mark_of : ℕ → Record → Bool
is_mark_of inc (Mark m) = m.inc == inc
is_mark_of inc _ = false

-- an incarnation
pub record IncarnationRule (rs : List Record) (i : IncarnationEntry) : Type 0 where
  pub number : (1 ≤ i.inc) × (i.inc ≤ 256)
  pub origin : OriginRule rs i
  pub range : (1 ≤ i.reset) × (i.reset ≤ i.end) × (i.end ≤ last_scn)
  pub mark : IsTrue (list_any (is_mark_of i.inc) rs)

-- the datafile was created on its incarnation, below its end
pub record IsCreatedOn (f : DatafileEntry) (i : IncarnationEntry) : Type 0 where
  pub reset : i.reset ≤ f.creation
  pub end : f.creation < i.end

-- the blocks of a record, where it is a datafile with a number up to this one
abbrev pub blocks_to : ℕ → Record → ℕ
blocks_to file (Datafile f) = if nat_le f.file file then f.blocks else 0
blocks_to file _ = 0

-- the datafile before is there, unless this is the first
pub record HasDatafileBefore (file : ℕ) (rs : List Record) : Type 0 where
  pub no_gap : 1 < file → IsThere 3 (file - 1) rs

-- the datafiles with numbers up to this one have at most 131,072 blocks
pub record HasRoom (file : ℕ) (rs : List Record) : Type 0 where
  pub blocks : sum_by (blocks_to file) rs ≤ 131072

-- a datafile
pub record DatafileRule (rs : List Record) (f : DatafileEntry) : Type 0 where
  pub number : (1 ≤ f.file) × (f.file ≤ 64)
  pub no_gap : HasDatafileBefore f.file rs
  pub creation : IsSomeAnd (incarnation f.inc rs) (IsCreatedOn f)
  pub blocks : (1 ≤ f.blocks) × (f.blocks ≤ 65536)
  pub room : HasRoom f.file rs

-- the SCN is one of the incarnation
pub record IsWithin (scn : ℕ) (i : IncarnationEntry) : Type 0 where
  pub reset : i.reset ≤ scn
  pub end : scn ≤ i.end

-- a mark
pub record MarkRule (rs : List Record) (m : MarkEntry) : Type 0 where
  pub number : 1 ≤ m.id
  -- the one before is there, and of no later moment
  pub before : 1 < m.id → IsSomeAnd (mark (m.id - 1) rs) (λ p. p.moment ≤ m.moment)
  pub scn : IsSomeAnd (incarnation m.inc rs) (IsWithin m.scn)
  pub moment : IsSomeAnd (base rs) (λ b. m.moment ≤ b.moment)
