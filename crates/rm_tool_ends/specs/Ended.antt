-- What a call over a sink, two stores and what keeps the records tells of its end: whose count rose, and the status.
use Rattle.std.specs.Prelude.{ℕ, ◌≡◌, ◌≤◌, ◌⊎◌, Result, Ok, Err}
use Rattle.rm_base.specs.Outside.{Rose}
use Rattle.rm_tool_ends.specs.declared.ended.Ended.{Ended}
use Rattle.rm_tool_ends.specs.declared.ended.Ended.TheVariants as ended

-- how often each has failed
pub record Counts : Type 0 where
  pub sink : ℕ
  pub from : ℕ
  pub to : ℕ
  pub records : ℕ

-- no count falls
pub record NoneFalls (a b : Counts) : Type 0 where
  pub sink : a.sink ≤ b.sink
  pub from : a.from ≤ b.from
  pub to : a.to ≤ b.to
  pub records : a.records ≤ b.records

-- whose count rose where it ends so: of the stores that of the one or the other
abbrev pub RoseFor : Counts → Counts → Ended → Type 0
RoseFor a b ended.Sink = Rose a.sink b.sink
RoseFor a b ended.Store = Rose a.from b.from ⊎ Rose a.to b.to
RoseFor a b ended.Keeper = Rose a.records b.records
RoseFor a b ended.Refused = Unit {0}
RoseFor a b ended.BadRecord = Unit {0}
RoseFor a b ended.NoMemory = Unit {0}

-- the status of the program
abbrev pub status_of : {A : Type 0} → Result A Ended → ℕ
status_of (Ok x) = 0
status_of (Err ended.Refused) = 1
status_of (Err ended.BadRecord) = 9
status_of (Err ended.Sink) = 4
status_of (Err ended.Store) = 5
status_of (Err ended.Keeper) = 6
status_of (Err ended.NoMemory) = 7

-- 1, 2 or 9: nothing was changed
abbrev pub IsEarly : ℕ → Type 0
IsEarly status = (status ≡ 1) ⊎ (status ≡ 2) ⊎ (status ≡ 9)
