-- The lines of one datafile after the other.
use Rattle.std.proofs.{Common.{◌≡◌, ◌<◌, ◌+◌, ◌∙◌, ◌++◌, ℕ, List, ap, sym, append_assoc, length, get_or, drop}, lemmas.List.{drop_more}}
use Rattle.rm_blocks.specs.File.{File}
use Rattle.rm_history.specs.{World.{creation_of}, declared.world.World.{World}}
use Rattle.rm_report.specs.declared.line.Line.{Line}
use Rattle.rm_machine.specs.RecoverTest.{file_lines, files_lines}

-- those of the next one: what was told, and what is left to tell
pub next-file : (w : World) (xs : List File) (k : ℕ) (x : File) (f creation : ℕ) (told new all : List Line) → k < length xs → x ≡ get_or xs k x → f ≡ x.file → creation ≡ creation_of w f
    → new ≡ told ++ file_lines creation x → told ++ files_lines w (drop k xs) ≡ all → new ++ files_lines w (drop (k + 1) xs) ≡ all
next-file w xs k x f creation told new all inside is number created lines left =
    let rest = files_lines w (drop (k + 1) xs) in
    ap (λ ls. ls ++ rest) (lines ∙ ap (λ n. told ++ file_lines n x) (created ∙ ap (creation_of w) number))
    ∙ append_assoc told (file_lines (creation_of w x.file) x) rest
    ∙ ap (λ (y : File). told ++ (file_lines (creation_of w y.file) y ++ rest)) is
    ∙ ap (λ (ys : List File). told ++ files_lines w ys) (sym (drop_more xs k x inside))
    ∙ left
