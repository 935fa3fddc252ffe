-- What is known of the form of a statement.
use Rattle.std.proofs.{Common.{◌≡◌, ◌&&◌, ◌||◌, Bool, true, false, refl, is_some, not}, lemmas.Bool.{and_parts}}
use Rattle.rm_lang_statement.specs.{Agreed.{agrees_in_level, agrees_in_merge, agrees_in_sets, is_one}, IsCommand.{is_backup}}
use Rattle.rm_lang_statement.specs.declared.command.BackupForm.{BackupForm}

-- a backup for the recovery of copies is not cumulative
pub not-cumulative : (b : BackupForm) → is_backup b ≡ true → is_some b.merge_tag ≡ true → b.cumulative ≡ false
not-cumulative b valid some = by (is_some b.merge_tag) (is_one b.level) b.copy b.cumulative some (and_parts (agrees_in_level b) (agrees_in_merge b.copy b) (and_parts (agrees_in_level b && agrees_in_merge b.copy b) (agrees_in_sets b) (and_parts _ _ valid).1).0).1
  where
    by : (merge one copy cumulative : Bool) → merge ≡ true → (not merge || (one && not copy && not cumulative && not (is_some b.tag))) ≡ true → cumulative ≡ false
    by merge one copy false is agrees = refl
    by true true true true is agrees = absurd (cc)
    by true true false true is agrees = absurd (cc)
    by true false copy true is agrees = absurd (cc)
    by false one copy true is agrees = absurd (cc)
