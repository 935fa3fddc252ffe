-- Why a duplicate is refused.
use Rattle.std.specs.Prelude.{ℕ, zero, suc, ◌≡◌, ◌+◌, if◌then◌else◌, count_by, length, is_some, nat_lt, true, Bool, Option, Some, None, IfSome, List}
use Rattle.std.specs.{List.{list_any}, Option.{option_map}, Str.{bytes_eq}}
use Rattle.rm_base.specs.{Store.{Held}, declared.refusal.Refusal.{Refusal, TheVariants.{Rm02, Rm03, Rm13}}}
use Rattle.rm_catalog.specs.declared.record.Record.{Record}
use Rattle.rm_evidence.specs.Names.{piece_name}
use Rattle.rm_history.specs.{World.{exists}, declared.world.World.{World}}
use Rattle.rm_lang_statement.specs.declared.command.Until.TheVariants.{Scn}
use Rattle.rm_lang_words.specs.Duplicate.{DuplicateSaid}
use Rattle.rm_machine.specs.{RecoverTest.{test_refusal}, State.{world}, Until.{or_else}, declared.state.State.{State}}
use Rattle.rm_machine_laws.specs.Holds.{View}
use Rattle.rm_step_recover.specs.Gap.{NamesGap}
use Rattle.rm_tool_opening.specs.Opening.{IsSource}
use Rattle.rm_tool_duplicate.specs.Asked.{Sides, target_inc}

-- the name of the copy of datafile k
abbrev pub copy_name : ℕ → List ℕ
copy_name k = piece_name true k

-- the name is one of these
abbrev pub is_among : List (List ℕ) → List ℕ → Bool
is_among names name = list_any (bytes_eq name) names

-- of the copies of n datafiles, numbered from k on, the first whose name is taken
abbrev pub first_taken : (List ℕ → Bool) → ℕ → ℕ → Option (List ℕ)
first_taken is_taken k zero = None
first_taken is_taken k (suc n) = if is_taken (copy_name k) then Some (copy_name k) else first_taken is_taken (k + 1) n

-- how many datafiles exist at (i, s)
abbrev pub files_at : World → ℕ → ℕ → ℕ
files_at w i s = count_by (exists w i s) w.files

-- Why it is refused by its numbers: a database stands under its own (RM-03), or the target is refused as that of RECOVER TEST is (RM-06,
-- RM-07).
abbrev pub number_refusal : DuplicateSaid → State → Bool → Option Refusal
number_refusal x s has_records = if has_records then Some Rm03 else test_refusal s (Some (Scn x.until)) x.incarnation

-- why it is refused by its copies: the name of one is taken (RM-13)
abbrev pub name_refusal : (List ℕ → Bool) → ℕ → Option Refusal
name_refusal is_taken files = option_map Rm13 (first_taken is_taken 1 files)

-- Why it is refused before the source's backups are read: there is no source (RM-02), or by its numbers, or by its copies.
abbrev pub refusal_by : DuplicateSaid → Option State → Bool → (List ℕ → Bool) → Option Refusal
refusal_by x None has_records is_taken = Some Rm02
refusal_by x (Some s) has_records is_taken = or_else (number_refusal x s has_records) (name_refusal is_taken (files_at (world s) (target_inc x s) x.until))

-- the number has records, or none, where these are told
abbrev pub HasRecords : Option (List Record) → Bool → Type 0
HasRecords target has_records = IfSome target (λ rs. has_records ≡ nat_lt 0 (length rs))

-- these names are taken, where it is told what the store holds
abbrev pub AreTaken : Option Held → (List ℕ → Bool) → Type 0
AreTaken to is_taken = IfSome to (λ held. (n : List ℕ) → is_taken n ≡ is_some (held n))

-- that is the reason by its numbers
pub record IsNumberReason (x : DuplicateSaid) (target : Option (List Record)) (s : State) (reason : Option Refusal) : Type 0 where
  pub has_records : Bool
  pub records : HasRecords target has_records
  pub is : reason ≡ number_refusal x s has_records

-- that is the reason by the names of its copies
pub record IsNameReason (w : World) (i s : ℕ) (to : Option Held) (reason : Option Refusal) : Type 0 where
  pub is_taken : List ℕ → Bool
  pub names : AreTaken to is_taken
  pub is : reason ≡ name_refusal is_taken (files_at w i s)

-- That is the reason: by the source as it is shown, by whether the duplicate's number has records, and by which names its store has.
pub record IsReason (x : DuplicateSaid) (a : Sides) (source : Option State) (reason : Option Refusal) : Type 0 where
  pub has_records : Bool
  pub records : HasRecords a.target has_records
  pub is_taken : List ℕ → Bool
  pub names : AreTaken a.to is_taken
  pub is : reason ≡ refusal_by x source has_records is_taken

-- It is refused, for such a reason; or there is none, but a gap (RM-08).
pub data IsRefused (x : DuplicateSaid) (a : Sides) : Option State → Refusal → Type 0 where
  by_reason : (source : Option State) (refusal : Refusal) → IsReason x a source (Some refusal) → IsRefused x a source refusal
  by_gap : (s : State) (refusal : Refusal) → IsReason x a (Some s) None → NamesGap a.from s (target_inc x s) x.until refusal → IsRefused x a (Some s) refusal

-- the source as it is opened, and that it is refused so
pub record Refuses (x : DuplicateSaid) (a : Sides) (refusal : Refusal) : Type 0 where
  pub view : View
  pub source : IsSource a.from a.source view
  pub refused : IsRefused x a view.state refusal
