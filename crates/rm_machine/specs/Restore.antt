-- RESTORE (DATABASE | DATAFILE f) [UNTIL ..], and RESTORE DATABASE [UNTIL ..] PREVIEW
use Rattle.std.specs.Prelude.{ℕ, ◌≡◌, is_none, if◌then◌else◌, false, Option, Some, None, List, [], ◌∷◌, ◌++◌, map}
use Rattle.rm_base.specs.{Store.{Held}, declared.{kinds.Bad.{Bad}, refusal.Refusal.{Refusal, TheVariants.{Rm04, Rm05}}}}
use Rattle.rm_base.specs.declared.refusal.Absent.TheVariants as absent
use Rattle.rm_blocks.specs.File.{File}
use Rattle.rm_lang_statement.specs.declared.command.Until.{Until}
use Rattle.rm_plan.specs.{Plan.{IsFileTarget}, declared.plan.Gap.{Gap}}
use Rattle.rm_apply.specs.{Files.{AreExactly}, Preview.{Previews}, Restore.{Restores}, declared.origin.Origin.{Origin}}
use Rattle.rm_apply.specs.declared.{origin.Origin.TheVariants.{Backup, Created}, recovering.Recovered.{Recovered}}
use Rattle.rm_report.specs.declared.line.Line.{Line, TheVariants.{Complete, CreatedEmpty, GapIn, RestoredFrom}}
use Rattle.rm_catalog_typed.specs.TypedCatalog.{records_of}
use Rattle.rm_machine.specs.{Effect.{Outcome, done, no_effect, told}, Marks.{ids_refusal}, Recover.{recover_target}}
use Rattle.rm_machine.specs.{Recovery.{in_place, range_refusal, skipped_lines, with_place}, State.{datafile_at, tree, world, current_of}}
use Rattle.rm_machine.specs.{Until.{or_else, until_refusal}, declared.state.State.{State}}

-- why a datafile is refused that is named: it does not exist at the target
abbrev pub absent_refusal : State → ℕ → Option ℕ → Option Refusal
absent_refusal s at None = None
absent_refusal s at (Some f) = if is_none (datafile_at s (current_of s) at f) then Some (Rm05 (absent.File f)) else None

-- why the target is refused: the datafile does not exist there, or it is out of range, or no ids are left
abbrev pub place_refusal : State → Option ℕ → ℕ → Option Refusal
place_refusal s file at = or_else (absent_refusal s at file) (or_else (range_refusal (tree s) (current_of s) at) (ids_refusal s))

-- why RESTORE is refused
abbrev pub restore_refusal : State → Option ℕ → Option Until → Option Refusal
restore_refusal s file until =
    if s.instance.is_open then Some (Rm04 false)
    else until_refusal s (current_of s) until (place_refusal s file) (ids_refusal s)

-- why PREVIEW is refused: the target is out of range, or its UNTIL leads to none
abbrev pub preview_refusal : State → Option Until → Option Refusal
preview_refusal s until = until_refusal s (current_of s) until (range_refusal (tree s) (current_of s)) None

-- from where a datafile is restored
abbrev pub origin_line : ℕ → Origin → Line
origin_line f (Backup id at) = RestoredFrom f id at
origin_line f Created = CreatedEmpty f

-- from where these datafiles are restored
abbrev pub origin_lines : List ℕ → List Origin → List Line
origin_lines [] origins = []
origin_lines (f ∷ fs) [] = []
origin_lines (f ∷ fs) (o ∷ os) = origin_line f o ∷ origin_lines fs os

-- the database with these datafiles in place; it stands at no point then
abbrev pub restored : State → List File → State
restored s files = with_place s None files

-- By what is at hand, the datafiles of the target, or the one that is named, come to stand in place, each from
-- its backup or else as it was created.
pub record RestoresAt (s : State) (held : Held) (file : Option ℕ) (at : ℕ) (o : Outcome) : Type 0 where
  pub back : Recovered
  pub origins : List Origin
  pub restores : Restores (Some held) (records_of s.catalog) (in_place s) (current_of s) at file back origins
  pub is : o ≡ done (skipped_lines back.skipped ++ origin_lines (map (λ x. x.file) back.files) origins) no_effect (restored s back.files)

abbrev pub RestoresTo : State → Held → Option ℕ → Option ℕ → Outcome → Type 0
RestoresTo s held file None o = ⊥
RestoresTo s held file (Some at) o = RestoresAt s held file at o

-- what RESTORE comes to
abbrev pub IsRestoreOutcome : State → Held → Option ℕ → Option Until → Outcome → Type 0
IsRestoreOutcome s held file until o = RestoresTo s held file (recover_target s until) o

-- whether a recovery would come to the target, or else its first gap
abbrev pub gap_line : Option Gap → Line
gap_line None = Complete
gap_line (Some x) = GapIn x.file x.block x.scn x.inc

-- by what is at hand, from where the datafiles of the target would be restored, and whether a recovery would come there
pub record PreviewsAt (s : State) (held : Held) (at : ℕ) (o : Outcome) : Type 0 where
  pub numbers : List ℕ
  pub origins : List Origin
  pub gap : Option Gap
  pub skipped : List (ℕ × Bad)
  pub exact : AreExactly (IsFileTarget (world s) (current_of s) at) numbers
  pub previews : Previews (Some held) (records_of s.catalog) (in_place s) (current_of s) at origins gap skipped
  pub is : o ≡ told (skipped_lines skipped ++ origin_lines numbers origins ++ gap_line gap ∷ [])

abbrev pub PreviewsTo : State → Held → Option ℕ → Outcome → Type 0
PreviewsTo s held None o = ⊥
PreviewsTo s held (Some at) o = PreviewsAt s held at o

-- what PREVIEW comes to
abbrev pub IsPreviewOutcome : State → Held → Option Until → Outcome → Type 0
IsPreviewOutcome s held until o = PreviewsTo s held (recover_target s until) o
