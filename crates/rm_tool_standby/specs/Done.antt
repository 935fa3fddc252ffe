-- What a standby comes to: what is put, and what is told.
use Rattle.std.specs.Prelude.{ℕ, ◌≡◌, ◌++◌, Option, Some, None, List, [], ◌∷◌, length}
use Rattle.rm_apply.specs.{Recover.{TellsAll}, declared.recovering.Recovered.{Recovered}}
use Rattle.rm_blocks.specs.File.{File}
use Rattle.rm_catalog_typed.specs.TypedCatalog.{records_of}
use Rattle.rm_lang_words.specs.declared.standby.StandbyTask.{StandbyTask, TheVariants.{Make, Roll, Dump}}
use Rattle.rm_machine.specs.{Machine.{DigestsTell}, Recovery.{in_place, skipped_lines}, RecoverTest.{file_lines}, Sound.{IsSound}}
use Rattle.rm_machine.specs.{State.{current_of, ledger, tree, world}, declared.state.State.{State}}
use Rattle.rm_machine_laws.specs.Holds.{View}
use Rattle.rm_piece.specs.{Sets.{IsSet}, declared.set.{Set.{Set}, SetFile.{SetFile}}}
use Rattle.rm_report.specs.{Reply.{said}, Text.{reply_text}, declared.line.Line.{Line, TheVariants.{StandbyMade, StandbyRolled, UntilIs}}}
use Rattle.rm_standby.specs.{Image.{imaged}, Rolling.{Meets, changed, rolled}, Standby.{HoldsSince, HoldsStates}}
use Rattle.rm_tool_opening.specs.Opening.{IsSource, FromRest}
use Rattle.rm_tool_standby.specs.{Asked.{Sides}, Kept.{Finds, next_number}, Refused.{FindsIncrement, make_refusal, number_refusal}}

-- the line of a standby that was made, under the next number
abbrev pub made_line : Option (ℕ × Set) → Set → Line
made_line found a = StandbyMade (next_number found) a.checkpoint a.inc (length a.members)

-- of one that was rolled, in which so many blocks got another content
abbrev pub rolled_line : Option (ℕ × Set) → Set → ℕ → Line
rolled_line found a n = StandbyRolled (next_number found) a.checkpoint a.inc (length a.members) n

-- a member as a datafile
abbrev pub file_in : SetFile → File
file_in m = record { file = m.piece.file; inc = m.piece.inc; checkpoint = m.piece.checkpoint; rows = m.piece.rows }

-- the lines of these members
abbrev pub members_lines : List SetFile → List Line
members_lines [] = []
members_lines (m ∷ ms) = file_lines m.creation (file_in m) ++ members_lines ms

-- the lines of a standby: its address, and those of each datafile that a RECOVER TEST to it tells
abbrev pub dump_lines : Set → List Line
dump_lines a = UntilIs a.checkpoint a.inc (length a.members) ∷ members_lines a.members

-- The standby that is made of what is recovered: of the current incarnation until an SCN, by what is at hand. From whatever database at
-- rest the store and the records hold, where digests tell, it holds exactly the blocks that the history made there.
pub record Makes (until : ℕ) (a : Sides) (s : State) (found : Option (ℕ × Set)) (back : Recovered) (new : Set) : Type 0 where
  pub accepted : make_refusal s until found ≡ None
  pub tells : TellsAll a.from (records_of s.catalog) (in_place s) (current_of s) until back
  pub is : new ≡ imaged (world s) (ledger s).base.dbid (current_of s) until back.files
  pub valid : IsSet new
  pub exact : FromRest a.from a.records (λ m. (m.state ≡ Some s) × (DigestsTell m → HoldsStates (world s) m.history new))

-- The standby that is rolled by an increment which meets it. Where it held exactly the blocks that the history made at its address, and the
-- increment what changed since, it holds exactly those of the increment's address.
pub record Rolls (n : ℕ) (a : Sides) (s : State) (number : ℕ) (old increment new : Set) : Type 0 where
  pub left : number_refusal (Some (number, old)) ≡ None
  pub there : FindsIncrement a.from n (Some increment)
  pub met : Meets (tree s) old increment
  pub is : new ≡ rolled old increment
  pub valid : IsSet new
  pub exact : FromRest a.from a.records (λ m. (m.state ≡ Some s)
      × ((from : ℕ) → HoldsStates (world s) m.history old → HoldsSince (world s) m.history from increment → HoldsStates (world s) m.history new))

-- What a task comes to over this database and this standby: a new standby or none, and the lines that tell of it.
pub data ComesTo (a : Sides) (s : State) : StandbyTask → Option (ℕ × Set) → Option Set → List Line → Type 0 where
  made : (until : ℕ) (found : Option (ℕ × Set)) (back : Recovered) (new : Set) → Makes until a s found back new
      → ComesTo a s (Make until) found (Some new) (skipped_lines back.skipped ++ made_line found new ∷ [])
  was_rolled : (n number : ℕ) (old increment new : Set) → Rolls n a s number old increment new
      → ComesTo a s (Roll n) (Some (number, old)) (Some new) (rolled_line (Some (number, old)) new (changed old increment) ∷ [])
  dumped : (number : ℕ) (old : Set) → ComesTo a s Dump (Some (number, old)) None (dump_lines old)

-- The database as it is opened, the standby that is found, and what the task comes to.
pub record Comes (a : Sides) (task : StandbyTask) (found : Option (ℕ × Set)) (new : Option Set) (lines : List Line) : Type 0 where
  pub view : View
  pub source : IsSource a.from a.records view
  pub state : State
  pub shown : view.state ≡ Some state
  pub sound : IsSound state
  pub finds : Finds a.to found
  pub is : ComesTo a state task found new lines

-- the lines as text
abbrev pub text_of : List Line → List ℕ
text_of lines = reply_text (said lines)
