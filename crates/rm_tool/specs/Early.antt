-- How a run ends early, and what it leaves.
use Rattle.std.specs.Prelude.{ℕ, ◌≡◌, ◌<◌, ◌≤◌, Bool, false, Option, List, [], ◌∷◌, Contains, IfSome, length, if◌then◌else◌, Result, Ok, Err}
use Rattle.rm_base.specs.{Outside.{Appends, Rose}, Store.{Held}}
use Rattle.rm_catalog.specs.declared.record.Record.{Record}
use Rattle.rm_tool.specs.{Run.{Watch}, Session.{EndsEarly, HasScript, NoneRan, WritesPart, over_long}, Words.{accepts, drill_of}}
use Rattle.rm_tool.specs.declared.early.{Early.{Early}, Halt.{Halt}}
use Rattle.rm_tool.specs.declared.early.Early.TheVariants as early
use Rattle.rm_tool.specs.declared.early.Halt.TheVariants as halt
use Rattle.rm_tool_opening.specs.{Opening.{TellsValid, WritesBadRecord}, declared.opening.Unopened.{Unopened}}
use Rattle.rm_tool_opening.specs.declared.opening.Unopened.TheVariants as unopened
use Rattle.rm_tool_ends.specs.Writing.{WritesFront, bad_words}

-- how a run ends whose site could not be opened
abbrev pub of_unopened : Unopened → Early
of_unopened unopened.BadRecord = early.BadRecord
of_unopened unopened.Sink = early.Sink
of_unopened unopened.Store = early.Store
of_unopened unopened.Keeper = early.Keeper
of_unopened unopened.NoMemory = early.NoMemory

-- and whose session ended early
abbrev pub of_halt : Halt → Early
of_halt halt.Sink = early.Sink
of_halt halt.Store = early.Store
of_halt halt.Keeper = early.Keeper
of_halt halt.NoMemory = early.NoMemory

-- the status of the program
abbrev pub status_for : Early → ℕ
status_for early.Words = 2
status_for early.Source = 3
status_for early.Sink = 4
status_for early.Store = 5
status_for early.Keeper = 6
status_for early.NoMemory = 7
status_for early.TooLong = 8
status_for early.BadRecord = 9

abbrev pub status_of : Result Bool Early → ℕ
status_of (Ok refused) = if refused then 1 else 0
status_of (Err e) = status_for e

-- how often each has failed
pub record Faults : Type 0 where
  pub source : ℕ
  pub sink : ℕ
  pub store : ℕ
  pub keeper : ℕ

-- no count falls
pub record NoneFalls (a b : Faults) : Type 0 where
  pub source : a.source ≤ b.source
  pub sink : a.sink ≤ b.sink
  pub store : a.store ≤ b.store
  pub keeper : a.keeper ≤ b.keeper

-- whose count rose where a run ends so
abbrev pub RoseFor : Faults → Faults → Early → Type 0
RoseFor a b early.Source = Rose a.source b.source
RoseFor a b early.Sink = Rose a.sink b.sink
RoseFor a b early.Store = Rose a.store b.store
RoseFor a b early.Keeper = Rose a.keeper b.keeper
RoseFor a b _ = Unit {0}

-- the sink's count rose, if it is that which failed
abbrev pub RoseAtSink : ℕ → ℕ → Early → Type 0
RoseAtSink k k' early.Sink = Rose k k'
RoseAtSink k k' _ = Unit {0}

-- what was written where the words were not accepted, or memory was wanting for them
abbrev pub EndsAtWords : List (List ℕ) → Option (List ℕ) → Option (List ℕ) → Early → Type 0
EndsAtWords words before now early.Words = (accepts words ≡ false) × Appends before now bad_words
EndsAtWords words before now early.Sink = (accepts words ≡ false) × WritesFront before now bad_words
EndsAtWords words before now early.NoMemory = now ≡ before
EndsAtWords words before now _ = ⊥

-- more bytes were left than a script may have
abbrev pub IsLong : Option (List ℕ) → Type 0
IsLong left = IfSome left (λ bytes. 4194304 < length bytes)

-- what was written where no script was taken from a source that had these bytes left
abbrev pub EndsAtScript : Option (List ℕ) → Option (List ℕ) → Option (List ℕ) → Early → Type 0
EndsAtScript left before now early.Source = now ≡ before
EndsAtScript left before now early.TooLong = IsLong left × Appends before now over_long
EndsAtScript left before now early.Sink = IsLong left × WritesFront before now over_long
EndsAtScript left before now early.NoMemory = now ≡ before
EndsAtScript left before now _ = ⊥

-- where the script is too long: its line was written, or the sink failed in it, or memory was wanting before
abbrev pub IsOfLong : Early → Type 0
IsOfLong e = Contains (8 ∷ 4 ∷ 7 ∷ []) (status_for e)

-- What a run leaves that ended so: what was written, and what the store and the keeper hold. The store fails only where the keeper's records are valid.
abbrev pub Leaves : List (List ℕ) → Option (List ℕ) → Option (List ℕ) → Watch → Watch → Option (List ℕ) → Option (List ℕ) → Option Held → Option (List Record) → Option Held → Option (List Record) → Early → Type 0
Leaves words left rest clock later before now held kept held' kept' early.Words = (accepts words ≡ false) × Appends before now bad_words × NoneRan clock later held kept held' kept'
Leaves words left rest clock later before now held kept held' kept' early.Source = (now ≡ before) × NoneRan clock later held kept held' kept'
Leaves words left rest clock later before now held kept held' kept' early.TooLong = IsLong left × Appends before now over_long × NoneRan clock later held kept held' kept'
Leaves words left rest clock later before now held kept held' kept' early.BadRecord = HasScript (drill_of words) left rest × WritesBadRecord kept before now × NoneRan clock later held kept held' kept'
Leaves words left rest clock later before now held kept held' kept' early.Sink = WritesPart words left rest clock later before now held kept held' kept'
Leaves words left rest clock later before now held kept held' kept' early.Store = TellsValid kept × EndsEarly (drill_of words) left rest clock later before now held kept held' kept'
Leaves words left rest clock later before now held kept held' kept' early.Keeper = EndsEarly (drill_of words) left rest clock later before now held kept held' kept'
Leaves words left rest clock later before now held kept held' kept' early.NoMemory = EndsEarly (drill_of words) left rest clock later before now held kept held' kept'
