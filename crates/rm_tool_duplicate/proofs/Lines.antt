-- The lines of a duplicate have no date.
use Rattle.std.{specs.List.{enumerate_from}, proofs.Common.{◌+◌, ◌++◌, ℕ, List, [], ◌∷◌, All, length, map}}
use Rattle.std.proofs.lemmas.List.Elements.{All-append, All-cons, All-nil}
use Rattle.rm_base.specs.declared.kinds.Bad.{Bad}
use Rattle.rm_dup.specs.declared.database.Duplicate.{Duplicate}
use Rattle.rm_lang_words.specs.Duplicate.{DuplicateSaid}
use Rattle.rm_machine.specs.Recovery.{skipped_lines}
use Rattle.rm_report.specs.{Reply.{LineHasDate}, declared.line.Line.TheVariants.{DuplicatedDatabase, Skipped}}
use Rattle.rm_tool_duplicate.specs.Duplicated.{file_line, file_lines, lines_of}

skipped-dated : (xs : List (ℕ × Bad)) → All LineHasDate (skipped_lines xs)
skipped-dated [] = All-nil LineHasDate
skipped-dated (x ∷ xs) = All-cons LineHasDate (Skipped x.0 x.1) (skipped_lines xs) tt (skipped-dated xs)

files-dated : (k : ℕ) (fs : List ℕ) → All LineHasDate (map file_line (enumerate_from k fs))
files-dated k [] = All-nil LineHasDate
files-dated k (f ∷ fs) = All-cons LineHasDate (file_line (k, f)) (map file_line (enumerate_from (k + 1) fs)) tt (files-dated (k + 1) fs)

pub lines-dated : (x : DuplicateSaid) (d : Duplicate) → All LineHasDate (lines_of x d)
lines-dated x d =
    let last = All-cons LineHasDate (DuplicatedDatabase x.dbid x.until (length d.from)) [] tt (All-nil LineHasDate) in
    All-append LineHasDate (skipped_lines d.skipped ++ file_lines d.from) (DuplicatedDatabase x.dbid x.until (length d.from) ∷ [])
    (All-append LineHasDate (skipped_lines d.skipped) (file_lines d.from) (skipped-dated d.skipped) (files-dated 1 d.from)) last
