-- What a duplicate is asked for, and what it works on.
use Rattle.std.specs.Prelude.{ℕ, is_some, Bool, Option, List}
use Rattle.rm_base.specs.Store.{Held}
use Rattle.rm_catalog.specs.declared.record.Record.{Record}
use Rattle.rm_lang_words.specs.Duplicate.{DuplicateSaid, duplicate_said}
use Rattle.rm_machine.specs.{RecoverTest.{tested}, declared.state.State.{State}}
use Rattle.rm_shelf.specs.Shelved.{Shelved, under}

-- the words are those of a duplicate
abbrev pub accepts : List (List ℕ) → Bool
accepts words = is_some (duplicate_said words)

-- Of the source and of the duplicate, what its store holds and the records under its number.
pub record Sides : Type 0 where
  pub from : Option Held
  pub source : Option (List Record)
  pub to : Option Held
  pub target : Option (List Record)

-- both sides, by what the stores and the shelf tell
abbrev pub sides : DuplicateSaid → Option Held → Option Held → Option Shelved → Sides
sides x from to shelved = record { from = from; source = under x.from shelved; to = to; target = under x.number shelved }

-- the incarnation of the target: the one that is said, or the current one
abbrev pub target_inc : DuplicateSaid → State → ℕ
target_inc x s = tested s x.incarnation
