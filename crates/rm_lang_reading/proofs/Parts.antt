-- What is kept of a part of a statement tells the part.
use Rattle.std.{specs.Option.{option_map}, proofs.Common.{◌≡◌, refl, ap, ℕ, List, [], ◌∷◌, Option, Some, None, Bool, true, false, map}}
use Rattle.rm_base.specs.declared.kinds.Class.{Class, TheVariants.{Backup as BackupClass, Copy as CopyClass, Archived}}
use Rattle.rm_lang_reading.specs.{Creating.{written}, Recovering.{until_by, until_of, incarnation_of}}
use Rattle.rm_lang_reading.specs.Backups.{kind_of, is_copy, increment_of, merge_tag_of, files_of, per_set_of, tag_of, stands, during_of}
use Rattle.rm_lang_reading.specs.{Repairs.{ordered, blocks_of}, Upkeep.{class_by, change_by, deletion_by}, Settings.{retention_by}}
use Rattle.rm_lang_reading.specs.Values.{write_values, until_choice, until_values, incarnation_values, kind_values, kind_asked, increment_values, merge_values, files_values, sets_values, tag_values, keep_values, during_values, blocks_values, class_choice, change_choice, deletion_choice, retention_choice}
use Rattle.rm_lang_reading.specs.declared.backup.{BackupAs.{BackupAs, TheVariants.{Copy, Sets}}, Increment.{Increment}}
use Rattle.rm_lang_reading.specs.declared.{backup.Increment.TheVariants.{Level as OfLevel, From as FromScn}, upkeep.Deletion.{Deletion}}
use Rattle.rm_lang_reading.specs.declared.upkeep.Deletion.TheVariants.{Obsolete, One, Expired}
use Rattle.rm_lang_statement.specs.{Named.{in_order}, declared.command.Until.{Until, TheVariants.{Scn, Sequence, Time}}}
use Rattle.rm_lang_statement.specs.declared.command.{WriteForm.{WriteForm}, NamedBlocks.{NamedBlocks}, ChangeTo.{ChangeTo}}
use Rattle.rm_lang_statement.specs.declared.command.ChangeTo.TheVariants.{Available, Unavailable, Uncatalog, Keep, NoKeep}
use Rattle.rm_lang_statement.specs.declared.command.RetentionForm.{RetentionForm, TheVariants.{Window, Redundancy, Nothing, Clear}}

pub choice_again : (u : Until) → until_by (until_choice u) ≡ u
choice_again (Scn n) = refl
choice_again (Sequence sequence thread) = refl
choice_again (Time w) = refl

pub until_again : (o : Option Until) → option_map until_of (option_map until_values o) ≡ o
until_again None = refl
until_again (Some u) = ap (λ (v : Until). Some v) (choice_again u)

pub incarnation_again : (o : Option ℕ) → option_map incarnation_of (option_map incarnation_values o) ≡ o
incarnation_again None = refl
incarnation_again (Some n) = refl

pub kind_again : (o : Option BackupAs) → option_map kind_of (option_map kind_values o) ≡ o
kind_again None = refl
kind_again (Some Copy) = refl
kind_again (Some Sets) = refl

pub copy_again : (copy : Bool) → is_copy (option_map kind_of (option_map kind_values (kind_asked copy))) ≡ copy
copy_again true = refl
copy_again false = refl

pub increment_again : (o : Option Increment) → option_map increment_of (option_map increment_values o) ≡ o
increment_again None = refl
increment_again (Some (OfLevel l)) = refl
increment_again (Some (FromScn scn)) = refl

pub merge_again : (o : Option (List ℕ)) → option_map merge_tag_of (option_map merge_values o) ≡ o
merge_again None = refl
merge_again (Some w) = refl

pub files_again : (o : Option (List ℕ)) → files_of (files_values o) ≡ option_map in_order o
files_again None = refl
files_again (Some ns) = refl

pub sets_again : (o : Option ℕ) → option_map per_set_of (option_map sets_values o) ≡ o
sets_again None = refl
sets_again (Some n) = refl

pub tag_again : (o : Option (List ℕ)) → option_map tag_of (option_map tag_values o) ≡ o
tag_again None = refl
tag_again (Some w) = refl

pub keep_again : (keep : Bool) → stands (keep_values keep) ≡ keep
keep_again true = refl
keep_again false = refl

writes_again : (ws : List WriteForm) → map written (map write_values ws) ≡ ws
writes_again [] = refl
writes_again (w ∷ ws) = ap (λ (vs : List WriteForm). w ∷ vs) (writes_again ws)

pub during_again : (o : Option (List WriteForm)) → option_map during_of (option_map during_values o) ≡ o
during_again None = refl
during_again (Some ws) = ap (λ (vs : List WriteForm). Some vs) (writes_again ws)

pub blocks_again : (o : Option NamedBlocks) → blocks_of (blocks_values o) ≡ option_map ordered o
blocks_again None = refl
blocks_again (Some n) = refl

pub class_again : (c : Class) → class_by (class_choice c) ≡ c
class_again BackupClass = refl
class_again CopyClass = refl
class_again Archived = refl

pub change_again : (c : ChangeTo) → change_by (change_choice c) ≡ c
change_again Available = refl
change_again Unavailable = refl
change_again Uncatalog = refl
change_again Keep = refl
change_again NoKeep = refl

pub deletion_again : (d : Deletion) → deletion_by (deletion_choice d) ≡ d
deletion_again Obsolete = refl
deletion_again (One id) = refl
deletion_again (Expired c) = ap (λ (k : Class). Expired k) (class_again c)

pub retention_again : (r : RetentionForm) → retention_by (retention_choice r) ≡ r
retention_again (Window days) = refl
retention_again (Redundancy count) = refl
retention_again Nothing = refl
retention_again Clear = refl

pub ruleset parts = (choice_again, until_again, incarnation_again, kind_again, increment_again, merge_again, files_again, sets_again, tag_again, keep_again, during_again, blocks_again, class_again, change_again, deletion_again, retention_again)
