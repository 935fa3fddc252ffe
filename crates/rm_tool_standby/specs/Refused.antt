-- Why a standby is refused.
use Rattle.std.specs.Prelude.{ℕ, ◌≡◌, nat_lt, codes, if◌then◌else◌, Option, Some, None, IfSome, slice_get}
use Rattle.std.specs.Option.{option_map_or, option_and_then}
use Rattle.rm_base.specs.{Store.{Held}, declared.refusal.{Limit.TheVariants.{ObjectIds}, Refusal.{Refusal}}}
use Rattle.rm_base.specs.declared.refusal.{Refusal.TheVariants.{Rm02, Rm11, Rm12, Rm19}, Unknown.TheVariants.{Object}}
use Rattle.rm_evidence.specs.Names.{roll_name}
use Rattle.rm_lang_statement.specs.declared.command.Until.TheVariants.{Scn}
use Rattle.rm_lang_words.specs.declared.standby.StandbyTask.{StandbyTask, TheVariants.{Make, Roll, Dump}}
use Rattle.rm_machine.specs.{RecoverTest.{test_refusal}, State.{current_of, tree}, Until.{or_else}, declared.state.State.{State}}
use Rattle.rm_machine_laws.specs.Holds.{View}
use Rattle.rm_piece.specs.declared.set.Set.{Set}
use Rattle.rm_standby_store.specs.Names.{SpellsSet}
use Rattle.rm_standby.specs.Rolling.{Meets}
use Rattle.rm_step_recover.specs.Gap.{NamesGap}
use Rattle.rm_tool_opening.specs.Opening.{IsSource}
use Rattle.rm_tool_standby.specs.{Asked.{Sides}, Kept.{Finds}}

-- no number is left for a new standby
abbrev pub number_refusal : Option (ℕ × Set) → Option Refusal
number_refusal found = option_and_then (λ x. if nat_lt x.0 4294967295 then None else Some (Rm11 ObjectIds)) found

-- why one can't be made as the database was at this SCN: it is out of the range of the current incarnation (RM-06), or no number is left
abbrev pub make_refusal : State → ℕ → Option (ℕ × Set) → Option Refusal
make_refusal s until found = or_else (test_refusal s (Some (Scn until)) None) (number_refusal found)

-- there is no standby
abbrev pub no_standby : Refusal
no_standby = Rm12 (Object (codes "standby"))

-- the SCN at which an increment begins: that of its first member, or 0
abbrev pub first_from : Set → ℕ
first_from a = option_map_or (λ m. m.piece.from) (slice_get a.members 0) 0

-- that is the set under the name of the increment, or none is, where the store tells
abbrev pub FindsIncrement : Option Held → ℕ → Option Set → Type 0
FindsIncrement from n found = IfSome from (λ held. SpellsSet held (roll_name n) found)

-- why a standby can't be rolled by this increment: no number is left, there is no such increment, or no standby; or they do not meet
pub data RefusesRoll (s : State) (n : ℕ) : Option (ℕ × Set) → Option Set → Refusal → Type 0 where
  no_number : (found : Option (ℕ × Set)) (increment : Option Set) (refusal : Refusal) → number_refusal found ≡ Some refusal
      → RefusesRoll s n found increment refusal
  no_increment : (found : Option (ℕ × Set)) → number_refusal found ≡ None → RefusesRoll s n found None (Rm12 (Object (roll_name n)))
  none_to_roll : (increment : Set) → RefusesRoll s n None (Some increment) no_standby
  apart : (number : ℕ) (standby increment : Set) → number_refusal (Some (number, standby)) ≡ None → ¬ Meets (tree s) standby increment
      → RefusesRoll s n (Some (number, standby)) (Some increment) (Rm19 n (first_from increment) standby.checkpoint)

-- why a task over this database and this standby is refused; a gap is the first one that what is at hand leaves (RM-08)
pub data RefusesTask (from : Option Held) (s : State) (found : Option (ℕ × Set)) : StandbyTask → Refusal → Type 0 where
  make : (until : ℕ) (refusal : Refusal) → make_refusal s until found ≡ Some refusal → RefusesTask from s found (Make until) refusal
  gap : (until : ℕ) (refusal : Refusal) → make_refusal s until found ≡ None → NamesGap from s (current_of s) until refusal
      → RefusesTask from s found (Make until) refusal
  roll : (n : ℕ) (increment : Option Set) (refusal : Refusal) → FindsIncrement from n increment → RefusesRoll s n found increment refusal
      → RefusesTask from s found (Roll n) refusal
  dump : found ≡ None → RefusesTask from s found Dump no_standby

-- the same, of what is shown: without a database each is (RM-02)
pub data RefusesBy (from to : Option Held) (task : StandbyTask) : Option State → Refusal → Type 0 where
  no_database : RefusesBy from to task None Rm02
  by_task : (s : State) (found : Option (ℕ × Set)) (refusal : Refusal) → Finds to found → RefusesTask from s found task refusal
      → RefusesBy from to task (Some s) refusal

-- the database as it is opened, and that the task is refused so
pub record Refuses (a : Sides) (task : StandbyTask) (refusal : Refusal) : Type 0 where
  pub view : View
  pub source : IsSource a.from a.records view
  pub refused : RefusesBy a.from a.to task view.state refusal
