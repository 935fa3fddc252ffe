-- What a statement does outside: its objects are put, then its edits are made, then objects go. And what
-- a stop leaves of that. Of the store and of the keeper it is said of each by itself, where that one tells what it holds.
use Rattle.std.specs.{Prelude.{ℕ, ◌≡◌, List, Option, take, drop}, Option.{option_map}}
use Rattle.rm_base.specs.Store.{Held, Both}
use Rattle.rm_catalog.specs.{Edits.{after_edits}, declared.record.Record.{Record}}
use Rattle.rm_commit.specs.{Names.{HasPuts, SameBeyondPuts, HasRemoves, SameBeyondRemoves}, declared.commit.Commit.{Commit}}
use Rattle.rm_commit.specs.declared.commit.Object.{Object}

-- the objects were put, and those that were to go are gone
pub record AreMoved (c : Commit) (before after : Held) : Type 0 where
  pub put : Held
  pub puts : HasPuts c.objects before put
  pub removes : HasRemoves c.removes put after

-- the objects were put, and some of those that were to go may be gone
pub record ArePut (c : Commit) (before after : Held) : Type 0 where
  pub put : Held
  pub puts : HasPuts c.objects before put
  pub removes : SameBeyondRemoves c.removes put after

-- the first objects were put, whole, and beyond them only the name of the next one has something else
pub record PutsFront (objects : List Object) (before after : Held) : Type 0 where
  pub many : ℕ
  pub put : Held
  pub puts : HasPuts (take many objects) before put
  pub next : SameBeyondPuts (take 1 (drop many objects)) put after

-- The whole change was made.
pub record Carried (c : Commit) (held : Option Held) (kept : Option (List Record)) (held' : Option Held) (kept' : Option (List Record)) : Type 0 where
  pub objects : Both (AreMoved c) held held'
  pub records : kept' ≡ option_map (after_edits c.edits) kept

-- A stop before the edits leaves the records, and each object of another name than the new ones. Of these some were put, and the next one
-- may stand there in part, or not.
pub record HaltedBefore (c : Commit) (held : Option Held) (kept : Option (List Record)) (held' : Option Held) (kept' : Option (List Record)) : Type 0 where
  pub objects : Both (SameBeyondPuts c.objects) held held'
  pub front : Both (PutsFront c.objects) held held'
  pub records : kept' ≡ kept

-- A stop after the edits leaves the new records and, but for some that were to go, the new objects.
pub record HaltedAfter (c : Commit) (held : Option Held) (kept : Option (List Record)) (held' : Option Held) (kept' : Option (List Record)) : Type 0 where
  pub objects : Both (ArePut c) held held'
  pub records : kept' ≡ option_map (after_edits c.edits) kept

-- What a stop leaves: the store's state and the keeper's go together.
pub data Halted (c : Commit) (held : Option Held) (kept : Option (List Record)) (held' : Option Held) (kept' : Option (List Record)) : Type 0 where
  before_the_edits : HaltedBefore c held kept held' kept' → Halted c held kept held' kept'
  after_the_edits : HaltedAfter c held kept held' kept' → Halted c held kept held' kept'
