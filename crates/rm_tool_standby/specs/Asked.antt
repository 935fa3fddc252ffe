-- What a standby is asked for, and what it works on.
use Rattle.std.specs.Prelude.{is_some, Bool, Option, List, ℕ}
use Rattle.rm_base.specs.Store.{Held}
use Rattle.rm_catalog.specs.declared.record.Record.{Record}
use Rattle.rm_lang_words.specs.Standby.{standby_said}

-- the words are those of a standby
abbrev pub accepts : List (List ℕ) → Bool
accepts words = is_some (standby_said words)

-- what the store of the database, its catalog and the standby's store tell
pub record Sides : Type 0 where
  pub from : Option Held
  pub records : Option (List Record)
  pub to : Option Held

-- these three
abbrev pub sides : Option Held → Option (List Record) → Option Held → Sides
sides from records to = record { from = from; records = records; to = to }
