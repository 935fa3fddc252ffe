-- RECOVER DATABASE [UNTIL ..] [INCARNATION i] TEST
use Rattle.std.specs.Prelude.{ℕ, ◌≡◌, ◌==◌, ◌||◌, nat_lt, if◌then◌else◌, Bool, Option, Some, None, List, [], ◌∷◌, ◌++◌, count_by, length, unwrap_or}
use Rattle.rm_base.specs.{Store.{Held}, declared.{block.{Change.{Change}, Row.{Row}}, kinds.Bad.{Bad}, refusal.Refusal.{Refusal}}}
use Rattle.rm_base.specs.declared.refusal.Refusal.TheVariants.{Rm07}
use Rattle.rm_blocks.specs.File.{File}
use Rattle.rm_lang_statement.specs.declared.command.Until.{Until}
use Rattle.rm_apply.specs.declared.recovering.Recovered.{Recovered}
use Rattle.rm_history.specs.{World.{creation_of}, declared.world.World.{World}}
use Rattle.rm_report.specs.declared.line.Line.{Line, TheVariants.{UntilIs, FileIs, BlockIs}}
use Rattle.rm_machine.specs.{Effect.{Outcome, told}, Recovery.{AreMadeAt, IsRecoveryOutcome, range_refusal, skipped_lines}}
use Rattle.rm_machine.specs.{State.{tree, world, current_of}, Until.{or_else, refusal_at, target_of, thread_refusal}}
use Rattle.rm_machine.specs.declared.state.State.{State}

-- the incarnation that it looks at: the one that it names, or the current one
abbrev pub tested : State → Option ℕ → ℕ
tested s inc = unwrap_or inc (current_of s)

-- the SCN at which it stops
abbrev pub test_target : State → Option Until → Option ℕ → Option ℕ
test_target s until inc = target_of s (tested s inc) until

-- no incarnation has this number
abbrev pub is_no_incarnation : State → ℕ → Bool
is_no_incarnation s i = (i == 0) || nat_lt (length (tree s)) i

-- why the incarnation is refused, or its target: it is not there, or the target is out of its range, or the UNTIL leads to none
abbrev pub tested_refusal : State → Option Until → ℕ → Option Refusal
tested_refusal s until i =
    if is_no_incarnation s i then Some (Rm07 i) else refusal_at s i until (range_refusal (tree s) i) None

-- why it is refused: the redo thread of its UNTIL, and then the incarnation
abbrev pub test_refusal : State → Option Until → Option ℕ → Option Refusal
test_refusal s until inc = or_else (thread_refusal s until) (tested_refusal s until (tested s inc))

-- the block was written: its version lies above its datafile's creation
abbrev pub is_written : ℕ → Row → Bool
is_written creation r = nat_lt creation r.version

-- a line for each block that was written
abbrev pub block_lines : ℕ → List Row → List Line
block_lines creation [] = []
block_lines creation (r ∷ rs) = if is_written creation r then BlockIs r.block r.version r.content ∷ block_lines creation rs else block_lines creation rs

-- the lines of a datafile that was created there
abbrev pub file_lines : ℕ → File → List Line
file_lines creation x = FileIs x.file (length x.rows) (count_by (is_written creation) x.rows) ∷ block_lines creation x.rows

-- the lines of these datafiles
abbrev pub files_lines : World → List File → List Line
files_lines w [] = []
files_lines w (x ∷ xs) = file_lines (creation_of w x.file) x ++ files_lines w xs

-- the lines of these datafiles at (i, at)
abbrev pub test_lines : World → ℕ → ℕ → List File → List Line
test_lines w i at files = UntilIs at i (length files) ∷ files_lines w files

-- what it comes to where each block is told
abbrev pub tells_test : State → ℕ → ℕ → Recovered → Outcome
tells_test s i at back = told (skipped_lines back.skipped ++ test_lines (world s) i at back.files)

abbrev pub TestsTo : State → Held → ℕ → Option ℕ → Outcome → Type 0
TestsTo s held i None o = ⊥
TestsTo s held i (Some at) o = IsRecoveryOutcome s held i at (tells_test s i at) o

-- it tells of each datafile of the target each block that was written, or the first gap
abbrev pub IsTestOutcome : State → Held → Option Until → Option ℕ → Outcome → Type 0
IsTestOutcome s held until inc o = TestsTo s held (tested s inc) (test_target s until inc) o

-- the lines of skipped records, and behind them those of what the history made
pub record AreTrueLines (w : World) (h : List Change) (i at : ℕ) (lines : List Line) : Type 0 where
  pub skipped : List (ℕ × Bad)
  pub files : List File
  pub made : AreMadeAt w h i at files
  pub are : lines ≡ skipped_lines skipped ++ test_lines w i at files

abbrev pub TellsTo : List Change → State → ℕ → Option ℕ → List Line → Type 0
TellsTo h s i None lines = ⊥
TellsTo h s i (Some at) lines = AreTrueLines (world s) h i at lines

-- what the history says of it: behind the lines of skipped records come those of what the history made
abbrev pub TellsTruly : List Change → State → Option Until → Option ℕ → List Line → Type 0
TellsTruly h s until inc lines = TellsTo h s (tested s inc) (test_target s until inc) lines
