-- What a resync makes of a far catalog, and what it writes.
use Rattle.std.specs.Prelude.{ℕ, ◌≡◌, ◌⊎◌, Bool, List, [], ◌∷◌, Option, IfSome, is_some, length}
use Rattle.rm_base.specs.Outside.{Appends, Rose}
use Rattle.rm_catalog.specs.declared.record.Record.{Record}
use Rattle.rm_control.specs.{Control.{OneRose}, Follows.{AreEqual}}
use Rattle.rm_lang_words.specs.Resync.{resync_said}
use Rattle.rm_report.specs.{Reply.{said}, Text.{reply_text}, declared.line.Line.TheVariants.{Resynced}}
use Rattle.rm_tool_ends.specs.{Writing.{WritesFront}, declared.ended.Ended.{Ended}}
use Rattle.rm_tool_ends.specs.declared.ended.Ended.TheVariants as ended

-- the words are those of a resync
abbrev pub accepts : List (List ℕ) → Bool
accepts words = is_some (resync_said words)

-- the line of a resync, as text
abbrev pub line_of : ℕ → List ℕ
line_of number = reply_text (said (Resynced number ∷ []))

-- where the near keeper tells its records, there are so many
abbrev pub HasSoMany : Option (List Record) → ℕ → Type 0
HasSoMany near number = IfSome near (λ rs. number ≡ length rs)

-- the far records are as they were, or they are the near ones
abbrev pub StaysOrFollows : Option (List Record) → Option (List Record) → Option (List Record) → Type 0
StaysOrFollows near far far' = (far' ≡ far) ⊎ AreEqual near far'

-- the far records are the near ones, and exactly the line of their number was written
pub record Finishes (near far : Option (List Record)) (before now : Option (List ℕ)) : Type 0 where
  pub number : ℕ
  pub told : HasSoMany near number
  pub equal : AreEqual near far
  pub written : Appends before now (line_of number)

-- the far records are the near ones, and a front of that line was written that is not all of it
pub record EndsInLine (near far : Option (List Record)) (before now : Option (List ℕ)) : Type 0 where
  pub number : ℕ
  pub told : HasSoMany near number
  pub equal : AreEqual near far
  pub front : WritesFront before now (line_of number)

-- What is left where it ended early: the sink failed in the line; or a keeper failed, and nothing was changed or written; or memory was
-- wanting, and nothing was written.
abbrev pub Leaves : Option (List Record) → Option (List Record) → Option (List Record) → Option (List ℕ) → Option (List ℕ) → Ended → Type 0
Leaves near far far' before now ended.Sink = EndsInLine near far' before now
Leaves near far far' before now ended.Keeper = (far' ≡ far) × (now ≡ before)
Leaves near far far' before now ended.NoMemory = StaysOrFollows near far far' × (now ≡ before)
Leaves near far far' before now ended.Refused = ⊥
Leaves near far far' before now ended.BadRecord = ⊥
Leaves near far far' before now ended.Store = ⊥

-- Whose count rose where it ended so: of the sink, the near keeper and the far one, before and now. It ends in no other way.
abbrev pub RoseInResync : ℕ → ℕ → ℕ → ℕ → ℕ → ℕ → Ended → Type 0
RoseInResync k k' n n' f f' ended.Sink = Rose k k'
RoseInResync k k' n n' f f' ended.Keeper = OneRose n n' f f'
RoseInResync k k' n n' f f' ended.NoMemory = Unit {0}
RoseInResync k k' n n' f f' ended.Refused = ⊥
RoseInResync k k' n n' f f' ended.BadRecord = ⊥
RoseInResync k k' n n' f f' ended.Store = ⊥
