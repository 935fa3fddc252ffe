-- Which parts of a backup can stand together.
use Rattle.std.specs.Prelude.{ℕ, ◌==◌, ◌&&◌, ◌||◌, not, is_some, Bool, false, Option, Some, None}
use Rattle.rm_lang_statement.specs.declared.command.BackupForm.{BackupForm}

abbrev pub is_one : Option ℕ → Bool
is_one (Some n) = n == 1
is_one None = false

-- CUMULATIVE stands with LEVEL 1 only, and AS COPY without it
abbrev pub agrees_in_level : BackupForm → Bool
agrees_in_level b = (not b.cumulative || is_one b.level) && not (b.copy && is_one b.level)

-- FOR RECOVER OF COPY stands with LEVEL 1 only, and without an AS, CUMULATIVE and TAG
abbrev pub agrees_in_merge : Bool → BackupForm → Bool
agrees_in_merge with_as b = not (is_some b.merge_tag) || (is_one b.level && not with_as && not b.cumulative && not (is_some b.tag))

-- FILESPERSET stands without AS COPY and FOR RECOVER OF COPY
abbrev pub agrees_in_sets : BackupForm → Bool
agrees_in_sets b = not (is_some b.files_per_set) || (not b.copy && not (is_some b.merge_tag))

-- the parts, of which one may be an AS, can stand together
abbrev pub agrees : Bool → BackupForm → Bool
agrees with_as b = agrees_in_level b && agrees_in_merge with_as b && agrees_in_sets b
