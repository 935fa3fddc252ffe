-- What a duplicate puts, records and tells.
use Rattle.std.specs.Prelude.{ℕ, ◌≡◌, ◌⊎◌, ◌≤◌, ◌<◌, ◌^◌, ◌++◌, List, [], ◌∷◌, Option, Some, None, All, length, map}
use Rattle.std.specs.List.{enumerate_from}
use Rattle.rm_apply.specs.Files.{AreExactly}
use Rattle.rm_base.specs.declared.block.Change.{Change}
use Rattle.rm_catalog.specs.{Rules.{IsCatalog}, declared.record.{Record.{Record}, Edit.TheVariants.{Put}}}
use Rattle.rm_catalog_typed.specs.TypedCatalog.{records_of}
use Rattle.rm_commit.specs.declared.commit.{Commit.{Commit}, Object.{Object}}
use Rattle.rm_dup.specs.{Duplicate.{IsDuplicate}, Entries.{nothing, restored}, declared.database.Duplicate.{Duplicate}}
use Rattle.rm_evidence.specs.declared.evidence.InPlace.{InPlace}
use Rattle.rm_history.specs.{State.{states}, World.{blocks_of}, declared.world.World.{World}}
use Rattle.rm_lang_words.specs.Duplicate.{DuplicateSaid}
use Rattle.rm_machine.specs.{Machine.{DigestsTell}, Recovery.{in_place, skipped_lines}, Sound.{IsSound}, State.{world}}
use Rattle.rm_machine.specs.declared.state.State.{State}
use Rattle.rm_machine_laws.specs.Holds.{View}
use Rattle.rm_piece.specs.{Spelling.{spelling}, Valid.{IsPiece}, declared.piece.Piece.{Piece}}
use Rattle.rm_plan.specs.Plan.{IsFileTarget}
use Rattle.rm_report.specs.{Reply.{said}, Text.{reply_text}, declared.line.Line.{Line}}
use Rattle.rm_report.specs.declared.line.Line.TheVariants.{DuplicatedDatabase, DuplicatedDatafile}
use Rattle.rm_tool_opening.specs.Opening.{IsSource, FromRest}
use Rattle.rm_tool_duplicate.specs.{Asked.{Sides, target_inc}, Refused.{IsReason, copy_name}}

-- the object of a copy: its bytes, under its name
abbrev pub object_of : Piece → Object
object_of a = record { name = copy_name a.file; bytes = spelling a }

-- what is changed outside by these copies and records: the copies are put, then the records, and nothing goes
abbrev pub commit_for : List Piece → List Record → Commit
commit_for pieces records = record { objects = map object_of pieces; edits = map Put records; removes = [] }

abbrev pub commit_of : Duplicate → Commit
commit_of d = commit_for d.pieces d.records

-- the line of a datafile, by its number in the duplicate and the one that it had
abbrev pub file_line : ℕ × ℕ → Line
file_line (number, file) = DuplicatedDatafile file number

-- the lines of datafiles that had these numbers
abbrev pub file_lines : List ℕ → List Line
file_lines from = map file_line (enumerate_from 1 from)

-- its lines: of each record that was skipped, of each datafile, and of the database
abbrev pub lines_of : DuplicateSaid → Duplicate → List Line
lines_of x d = skipped_lines d.skipped ++ file_lines d.from ++ DuplicatedDatabase x.dbid x.until (length d.from) ∷ []

-- as text
abbrev pub lines_text : DuplicateSaid → Duplicate → List ℕ
lines_text x d = reply_text (said (lines_of x d))

-- Copy k has the rows that the history made of the k-th datafile at (i, s), and these are exactly the datafiles that exist there.
pub record AreTrueCopies (w : World) (h : List Change) (i s : ℕ) (d : Duplicate) : Type 0 where
  pub datafiles : AreExactly (IsFileTarget w i s) d.from
  pub rows : map (λ a. a.rows) d.pieces ≡ map (λ f. states w h i s f (blocks_of w f)) d.from

-- what is in place of it: nothing, or the copies, as they stand there when they are restored
abbrev pub IsPlaceOf : Duplicate → InPlace → Type 0
IsPlaceOf d place = (place ≡ nothing) ⊎ (place ≡ restored d.pieces)

-- There is no reason to refuse it, and it is of what is at hand of the source at the target: valid copies, and valid records.
pub record IsMade (x : DuplicateSaid) (a : Sides) (s : State) (d : Duplicate) : Type 0 where
  pub sound : IsSound s
  pub dbid : (1 ≤ x.dbid) × (x.dbid < 2 ^ 32)
  pub accepted : IsReason x a (Some s) None
  pub is : IsDuplicate a.from (records_of s.catalog) (in_place s) (target_inc x s) x.until x.dbid d
  pub pieces : All IsPiece d.pieces
  pub records : IsCatalog d.records

-- the same of a source that is shown
abbrev pub IsMadeOf : DuplicateSaid → Sides → Option State → Duplicate → Type 0
IsMadeOf x a None d = ⊥
IsMadeOf x a (Some s) d = IsMade x a s d

-- The duplicate that is made of the source as it is opened. From whatever database at rest the source's store and records hold, where
-- digests tell, its copies have what the history made.
pub record Makes (x : DuplicateSaid) (a : Sides) (d : Duplicate) : Type 0 where
  pub view : View
  pub source : IsSource a.from a.source view
  pub state : State
  pub shown : view.state ≡ Some state
  pub is : IsMade x a state d
  pub made : FromRest a.from a.source (λ m. (m.state ≡ Some state) × (DigestsTell m → AreTrueCopies (world state) m.history (target_inc x state) x.until d))
