-- No line of these statements tells a moment.
use Rattle.std.specs.Prelude.{All, if◌then◌else◌}
use Rattle.std.proofs.Common.{◌≡◌, ◌∙◌, ◌++◌, ◌∷◌, ℕ, Bool, true, false, List, [], Option, Some, None, refl, ap, sym, subst, length}
use Rattle.std.proofs.lemmas.List.Elements.{All-append, All-cons, All-nil}
use Rattle.rm_apply.specs.declared.origin.Origin.{Origin, TheVariants.{Backup, Created}}
use Rattle.rm_base.specs.declared.{block.Row.{Row}, kinds.Bad.{Bad}}
use Rattle.rm_blocks.specs.File.{File}
use Rattle.rm_history.specs.{World.{creation_of}, declared.world.World.{World}}
use Rattle.rm_plan.specs.declared.plan.Gap.{Gap}
use Rattle.rm_report.specs.{Reply.{IsPlain}, declared.line.Line.{Line, TheVariants.{BlockIs, Recovered, UntilIs}}}
use Rattle.rm_machine.specs.{Recovery.{skipped_lines}, RecoverTest.{block_lines, file_lines, files_lines, is_written, test_lines}}
use Rattle.rm_machine.{specs.Restore.{gap_line, origin_line, origin_lines}, proofs.Skipped.{skipped-dated}}
use Rattle.rm_step_recover.specs.Lines.{rows_lines}

abbrev AreDated : List Line → Type 0
AreDated lines = All IsPlain lines

one-dated : (line : Line) → IsPlain line → AreDated (line ∷ [])
one-dated line dated = All-cons IsPlain line [] dated (All-nil IsPlain)

-- others behind the lines of skipped records
behind-skipped : (lines rest : List Line) (skipped : List (ℕ × Bad)) → lines ≡ skipped_lines skipped ++ rest → AreDated rest → AreDated lines
behind-skipped lines rest skipped is dated = subst AreDated (sym is) (All-append IsPlain (skipped_lines skipped) rest (skipped-dated skipped) dated)

block-dated : (b : Bool) (line : Line) (lines : List Line) → IsPlain line → AreDated lines → AreDated (if b then line ∷ lines else lines)
block-dated true line lines one rest = All-cons IsPlain line lines one rest
block-dated false line lines one rest = rest

blocks-dated : (creation : ℕ) (rs : List Row) → AreDated (block_lines creation rs)
blocks-dated creation [] = All-nil IsPlain
blocks-dated creation (r ∷ rs) = block-dated (is_written creation r) (BlockIs r.block r.version r.content) (block_lines creation rs) tt (blocks-dated creation rs)

-- the lines of the rows of a datafile
pub rows-dated : (creation file : ℕ) (rows : List Row) → AreDated (rows_lines creation file rows)
rows-dated creation file rows = All-cons IsPlain _ (block_lines creation rows) tt (blocks-dated creation rows)

files-dated : (w : World) (files : List File) → AreDated (files_lines w files)
files-dated w [] = All-nil IsPlain
files-dated w (x ∷ xs) =
    let creation = creation_of w x.file in
    All-append IsPlain (file_lines creation x) (files_lines w xs) (rows-dated creation x.file x.rows) (files-dated w xs)

origin-dated : (f : ℕ) (o : Origin) → IsPlain (origin_line f o)
origin-dated f (Backup id at) = tt
origin-dated f Created = tt

origins-dated : (fs : List ℕ) (origins : List Origin) → AreDated (origin_lines fs origins)
origins-dated [] origins = All-nil IsPlain
origins-dated (f ∷ fs) [] = All-nil IsPlain
origins-dated (f ∷ fs) (o ∷ os) = All-cons IsPlain (origin_line f o) (origin_lines fs os) (origin-dated f o) (origins-dated fs os)

gap-dated : (gap : Option Gap) → IsPlain (gap_line gap)
gap-dated None = tt
gap-dated (Some x) = tt

-- the lines of a recovery
pub recovered-dated : (lines : List Line) (skipped : List (ℕ × Bad)) (at inc count : ℕ) → lines ≡ skipped_lines skipped ++ Recovered at inc count ∷ [] → AreDated lines
recovered-dated lines skipped at inc count is = behind-skipped lines (Recovered at inc count ∷ []) skipped is (one-dated (Recovered at inc count) tt)

-- of its test
pub tested-dated : (before lines : List Line) (skipped : List (ℕ × Bad)) (w : World) (i at : ℕ) (files : List File) → before ≡ skipped_lines skipped → lines ≡ before ++ test_lines w i at files → AreDated lines
tested-dated before lines skipped w i at files first is =
    behind-skipped lines (test_lines w i at files) skipped (is ∙ ap (λ (ls : List Line). ls ++ test_lines w i at files) first)
    (All-cons IsPlain (UntilIs at i (length files)) (files_lines w files) tt (files-dated w files))

-- of a restore
pub restored-dated : (lines : List Line) (skipped : List (ℕ × Bad)) (fs : List ℕ) (origins : List Origin) → lines ≡ skipped_lines skipped ++ origin_lines fs origins → AreDated lines
restored-dated lines skipped fs origins is = behind-skipped lines (origin_lines fs origins) skipped is (origins-dated fs origins)

-- and of a preview
pub previewed-dated : (lines : List Line) (skipped : List (ℕ × Bad)) (fs : List ℕ) (origins : List Origin) (gap : Option Gap) → lines ≡ skipped_lines skipped ++ origin_lines fs origins ++ gap_line gap ∷ [] → AreDated lines
previewed-dated lines skipped fs origins gap is = subst AreDated (sym is)
    (All-append IsPlain (skipped_lines skipped ++ origin_lines fs origins) (gap_line gap ∷ [])
    (behind-skipped (skipped_lines skipped ++ origin_lines fs origins) (origin_lines fs origins) skipped refl (origins-dated fs origins)) (one-dated (gap_line gap) (gap-dated gap)))
