-- The lines of one datafile of a standby after the other.
use Rattle.std.proofs.{Common.{◌≡◌, ◌<◌, ◌+◌, ◌∙◌, ◌++◌, ℕ, List, ap, sym, append_assoc, length, get_or, drop}, lemmas.List.{drop_more}}
use Rattle.rm_machine.specs.RecoverTest.{file_lines}
use Rattle.rm_piece.specs.declared.set.SetFile.{SetFile}
use Rattle.rm_report.specs.declared.line.Line.{Line}
use Rattle.rm_tool_standby.specs.Done.{file_in, members_lines}

-- those of the next one: what was told, and what is left to tell
pub next-member : (ms : List SetFile) (k : ℕ) (m : SetFile) (told new all : List Line) → k < length ms → m ≡ get_or ms k m → new ≡ told ++ file_lines m.creation (file_in m)
    → told ++ members_lines (drop k ms) ≡ all → new ++ members_lines (drop (k + 1) ms) ≡ all
next-member ms k m told new all inside is lines left =
    let rest = members_lines (drop (k + 1) ms) in
    ap (λ (ls : List Line). ls ++ rest) lines
    ∙ append_assoc told (file_lines m.creation (file_in m)) rest
    ∙ ap (λ (y : SetFile). told ++ (file_lines y.creation (file_in y) ++ rest)) is
    ∙ ap (λ (ys : List SetFile). told ++ members_lines ys) (sym (drop_more ms k m inside))
    ∙ left
