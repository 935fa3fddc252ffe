-- A backup and what it says.
use Rattle.std.specs.{Prelude.{is_some}, List.{list_all}, Option.{option_map}}
use Rattle.std.proofs.Common.{◌≡◌, refl, ap, sym, subst, ◌∙◌, cond, ℕ, List, [], ◌∷◌, Option, Some, None, Bool, true, false, ◌&&◌, ◌||◌, not, map}
use Rattle.std.proofs.lemmas.Bool.{and_parts, and_from}
use Rattle.rm_lang_grammar.specs.Grammar.{Choice, first, second, Values, in_range}
use Rattle.rm_lang_grammar.specs.Spelling.{is_capital_tag, is_shown, is_some_list, maybe_valid, one_valid, valid}
use Rattle.rm_lang_grammar.proofs.Found.{some_same}
use Rattle.rm_lang_reading.specs.Creating.{write_part, written}
use Rattle.rm_lang_reading.specs.Backups.{as_line, kind_of, is_copy, increment_line, increment_of, number_of, is_cumulative, merge_line, merge_tag_of, database_line, files_line, files_of, sets_line, per_set_of, tag_line, tag_of, keep_line, during_line, during_of, backup_line, backup_of, agreed, is_plain, saved}
use Rattle.rm_lang_reading.specs.Values.{write_values, kind_values, kind_asked, increment_values, level_asked, merge_values, files_values, sets_values, tag_values, keep_values, during_values, backup_values}
use Rattle.rm_lang_reading.specs.declared.backup.{BackupAs.{BackupAs, TheVariants.{Copy, Sets}}, Increment.{Increment}}
use Rattle.rm_lang_reading.specs.declared.backup.Increment.TheVariants.{Level as OfLevel, From as FromScn}
use Rattle.rm_lang_reading.proofs.InOrder.{in_order-named, named-in_order}
use Rattle.rm_lang_reading.proofs.Parts.{copy_again, merge_again, files_again, sets_again, tag_again, keep_again, during_again}
use Rattle.rm_lang_statement.specs.{Named.{in_order, are_named}, Texts.{content}}
use Rattle.rm_lang_statement.specs.Agreed.{is_one, agrees_in_level, agrees_in_merge, agrees_in_sets, agrees}
use Rattle.rm_lang_statement.specs.{IsCommand.{is_write, is_backup, is_command}, declared.command.WriteForm.{WriteForm}}
use Rattle.rm_lang_statement.specs.declared.command.{BackupForm.{BackupForm}, Command.{Command, TheVariants.{Backup, BackupFrom}}}

-- files that are in order stay so
files_kept : (o : Option (List ℕ)) → maybe_valid are_named o ≡ true → option_map in_order o ≡ o
files_kept None h = refl
files_kept (Some ns) h = ap (λ (ms : List ℕ). Some ms) (named-in_order ns h)

-- what the test of a backup says of its parts
pub record IsTested (b : BackupForm) : Type 0 where
  pub level : maybe_valid (in_range 0 1) b.level ≡ true
  pub files : maybe_valid are_named b.files ≡ true
  pub sets : maybe_valid (in_range 1 64) b.files_per_set ≡ true
  pub tag : maybe_valid is_capital_tag b.tag ≡ true
  pub merge : maybe_valid is_capital_tag b.merge_tag ≡ true
  pub during : maybe_valid (list_all is_write) b.during ≡ true
  pub apart : agrees b.copy b ≡ true

pub tested : (b : BackupForm) → is_backup b ≡ true → IsTested b
tested b h =
    let level = maybe_valid (in_range 0 1) b.level in
    let files = maybe_valid are_named b.files in
    let sets = maybe_valid (in_range 1 64) b.files_per_set in
    let tag = maybe_valid is_capital_tag b.tag in
    let merge = maybe_valid is_capital_tag b.merge_tag in
    let during = maybe_valid (list_all is_write) b.during in
    let all = and_parts (level && (files && (sets && (tag && (merge && during))))) (agrees b.copy b) h in
    let one = and_parts level (files && (sets && (tag && (merge && during)))) all.0 in
    let two = and_parts files (sets && (tag && (merge && during))) one.1 in
    let three = and_parts sets (tag && (merge && during)) two.1 in
    let four = and_parts tag (merge && during) three.1 in
    let five = and_parts merge during four.1 in
    record { level = one.0; files = two.0; sets = three.0; tag = four.0; merge = five.0; during = five.1; apart = all.1 }

level_kept : (cumulative : Bool) (o : Option ℕ) → number_of (option_map increment_of (option_map increment_values (option_map (level_asked cumulative) o))) ≡ o
level_kept cumulative None = refl
level_kept cumulative (Some n) = refl

cumulative_kept : (cumulative : Bool) (o : Option ℕ) → (not cumulative || is_one o) ≡ true → is_cumulative (option_map increment_of (option_map increment_values (option_map (level_asked cumulative) o))) ≡ cumulative
cumulative_kept true None h = absurd (cc)
cumulative_kept false None h = refl
cumulative_kept cumulative (Some n) h = refl

-- a backup that passes the test is what its values mean
backup_again : (b : BackupForm) → is_backup b ≡ true → backup_of (backup_values b) ≡ b
backup_again b h =
    let t = tested b h in
    let files = files_again b.files ∙ files_kept b.files t.files in
    let both = (and_parts (agrees_in_level b && agrees_in_merge b.copy b) (agrees_in_sets b) t.apart).0 in
    let first = (and_parts (agrees_in_level b) (agrees_in_merge b.copy b) both).0 in
    let cumulative = (and_parts (not b.cumulative || is_one b.level) (not (b.copy && is_one b.level)) first).0 in
    rw (copy_again b.copy, level_kept b.cumulative b.level, cumulative_kept b.cumulative b.level cumulative, merge_again b.merge_tag, files, sets_again b.files_per_set, tag_again b.tag, keep_again b.keep, during_again b.during) refl

with_as : (copy : Bool) → is_some (option_map kind_of (option_map kind_values (kind_asked copy))) ≡ copy
with_as true = refl
with_as false = refl

-- with a level or none it is a backup
saved_agreed : (cumulative : Bool) (o : Option ℕ) (asked : Bool) (b : BackupForm) → saved (option_map increment_of (option_map increment_values (option_map (level_asked cumulative) o))) asked b ≡ agreed asked b
saved_agreed cumulative None asked b = refl
saved_agreed cumulative (Some n) asked b = refl

pub backup_means : (b : BackupForm) → is_backup b ≡ true
    → saved (option_map increment_of (option_map increment_values (option_map (level_asked b.cumulative) b.level))) (is_some (option_map kind_of (option_map kind_values (kind_asked b.copy)))) (backup_of (backup_values b)) ≡ Some (Backup b)
backup_means b h =
    let asked = is_some (option_map kind_of (option_map kind_values (kind_asked b.copy))) in
    let stays : agreed asked b ≡ Some (Backup b) = subst (λ a. agreed a b ≡ Some (Backup b)) (sym (with_as b.copy)) (rw (tested b h).apart refl) in
    saved_agreed b.cumulative b.level asked (backup_of (backup_values b)) ∙ subst (λ (f : BackupForm). agreed asked f ≡ Some (Backup b)) (sym (backup_again b h)) stays

-- and its values are valid
kind_valid : (copy : Bool) → maybe_valid (valid as_line) (option_map kind_values (kind_asked copy)) ≡ true
kind_valid true = refl
kind_valid false = refl

level_valid : (cumulative : Bool) (o : Option ℕ) → maybe_valid (in_range 0 1) o ≡ true → maybe_valid (valid increment_line) (option_map increment_values (option_map (level_asked cumulative) o)) ≡ true
level_valid cumulative None h = refl
level_valid cumulative (Some n) h = and_from (in_range 0 1 n && true) true (and_from (in_range 0 1 n) true h refl) refl

merge_valid : (o : Option (List ℕ)) → maybe_valid is_capital_tag o ≡ true → maybe_valid (valid merge_line) (option_map merge_values o) ≡ true
merge_valid None h = refl
merge_valid (Some w) h = and_from (is_capital_tag w) true h refl

files_valid : (o : Option (List ℕ)) → maybe_valid are_named o ≡ true → one_valid (valid database_line) (valid files_line) (files_values o) ≡ true
files_valid None h = refl
files_valid (Some []) h = absurd (cc)
files_valid (Some (n ∷ ns)) h = refl

sets_valid : (o : Option ℕ) → maybe_valid (in_range 1 64) o ≡ true → maybe_valid (valid sets_line) (option_map sets_values o) ≡ true
sets_valid None h = refl
sets_valid (Some n) h = and_from (in_range 1 64 n) true h refl

tag_valid : (o : Option (List ℕ)) → maybe_valid is_capital_tag o ≡ true → maybe_valid (valid tag_line) (option_map tag_values o) ≡ true
tag_valid None h = refl
tag_valid (Some w) h = and_from (is_capital_tag w) true h refl

keep_valid : (keep : Bool) → maybe_valid (valid keep_line) (keep_values keep) ≡ true
keep_valid true = refl
keep_valid false = refl

writes_valid : (ws : List WriteForm) → list_all is_write ws ≡ true → list_all (valid write_part) (map write_values ws) ≡ true
writes_valid [] h = refl
writes_valid (w ∷ ws) h =
    let b = and_parts (is_write w) (list_all is_write ws) h in
    and_from (is_shown content w.content.0 && true) (list_all (valid write_part) (map write_values ws)) (and_from (is_shown content w.content.0) true b.0 refl) (writes_valid ws b.1)

pub during_valid : (o : Option (List WriteForm)) → maybe_valid (list_all is_write) o ≡ true → maybe_valid (valid during_line) (option_map during_values o) ≡ true
during_valid None h = refl
during_valid (Some ws) h = and_from (list_all (valid write_part) (map write_values ws)) true (writes_valid ws h) refl

pub backup_valid : (b : BackupForm) → is_backup b ≡ true → valid backup_line (backup_values b) ≡ true
backup_valid b h =
    let t = tested b h in
    rw (kind_valid b.copy, level_valid b.cumulative b.level t.level, merge_valid b.merge_tag t.merge, files_valid b.files t.files, sets_valid b.files_per_set t.sets, tag_valid b.tag t.tag, keep_valid b.keep, during_valid b.during t.during) refl

-- the backup of valid values passes the test
level_passes : (o : Option (Values increment_line)) → maybe_valid (valid increment_line) o ≡ true → maybe_valid (in_range 0 1) (number_of (option_map increment_of o)) ≡ true
level_passes None h = refl
level_passes (Some (first v, t)) h = (and_parts (in_range 0 1 v.0) true (and_parts (in_range 0 1 v.0 && true) true h).0).0
level_passes (Some (second v, t)) h = refl

merge_passes : (o : Option (Values merge_line)) → maybe_valid (valid merge_line) o ≡ true → maybe_valid is_capital_tag (option_map merge_tag_of o) ≡ true
merge_passes None h = refl
merge_passes (Some v) h = (and_parts (is_capital_tag v.0) true h).0

files_pass : (v : Choice (Values database_line) (Values files_line)) → one_valid (valid database_line) (valid files_line) v ≡ true → maybe_valid are_named (files_of v) ≡ true
files_pass (first v) h = refl
files_pass (second v) h = in_order-named v.0 (and_parts (is_some_list v.0) true h).0

sets_pass : (o : Option (Values sets_line)) → maybe_valid (valid sets_line) o ≡ true → maybe_valid (in_range 1 64) (option_map per_set_of o) ≡ true
sets_pass None h = refl
sets_pass (Some v) h = (and_parts (in_range 1 64 v.0) true h).0

tag_passes : (o : Option (Values tag_line)) → maybe_valid (valid tag_line) o ≡ true → maybe_valid is_capital_tag (option_map tag_of o) ≡ true
tag_passes None h = refl
tag_passes (Some v) h = (and_parts (is_capital_tag v.0) true h).0

writes_pass : (vs : List (Values write_part)) → list_all (valid write_part) vs ≡ true → list_all is_write (map written vs) ≡ true
writes_pass [] h = refl
writes_pass (v ∷ vs) h =
    let b = and_parts (is_shown content v.1.1.1.0 && true) (list_all (valid write_part) vs) h in
    and_from (is_shown content v.1.1.1.0) (list_all is_write (map written vs)) (and_parts (is_shown content v.1.1.1.0) true b.0).0 (writes_pass vs b.1)

pub during_passes : (o : Option (Values during_line)) → maybe_valid (valid during_line) o ≡ true → maybe_valid (list_all is_write) (option_map during_of o) ≡ true
during_passes None h = refl
during_passes (Some v) h = writes_pass v.0 (and_parts (list_all (valid write_part) v.0) true h).0

loosened : (m o c t : Bool) → (m || (o && false && c && t)) ≡ true → (m || (o && true && c && t)) ≡ true
loosened true o c t h = refl
loosened false true c t h = absurd (cc)
loosened false false c t h = absurd (cc)

-- without an AS, or with AS COPY in its place
agrees_too : (kind : Option BackupAs) (b : BackupForm) → agrees_in_merge (is_some kind) b ≡ true → agrees_in_merge (is_copy kind) b ≡ true
agrees_too None b h = h
agrees_too (Some Copy) b h = h
agrees_too (Some Sets) b h = loosened (not (is_some b.merge_tag)) (is_one b.level) (not b.cumulative) (not (is_some b.tag)) h

agreed_parts : (a : Bool) (b : BackupForm) (c : Command) → cond a (Some (Backup b)) None ≡ Some c → (a ≡ true) × (Backup b ≡ c)
agreed_parts true b c e = (refl, some_same e)
agreed_parts false b c e = absurd (cc)

agreed_passes : (v : Values backup_line) (c : Command) → valid backup_line v ≡ true → agreed (is_some (option_map kind_of v.0)) (backup_of v) ≡ Some c → (is_backup (backup_of v) ≡ true) × (Backup (backup_of v) ≡ c)
agreed_passes v c h m =
    let during = maybe_valid (valid during_line) v.1.1.1.1.1.1.1.0 && true in
    let keep = maybe_valid (valid keep_line) v.1.1.1.1.1.1.0 in
    let tag = maybe_valid (valid tag_line) v.1.1.1.1.1.0 in
    let sets = maybe_valid (valid sets_line) v.1.1.1.1.0 in
    let files = one_valid (valid database_line) (valid files_line) v.1.1.1.0 in
    let merge = maybe_valid (valid merge_line) v.1.1.0 in
    let level = maybe_valid (valid increment_line) v.1.0 in
    let p = and_parts (maybe_valid (valid as_line) v.0) (level && (merge && (files && (sets && (tag && (keep && during)))))) h in
    let q = and_parts level (merge && (files && (sets && (tag && (keep && during))))) p.1 in
    let r = and_parts merge (files && (sets && (tag && (keep && during)))) q.1 in
    let s = and_parts files (sets && (tag && (keep && during))) r.1 in
    let n = and_parts sets (tag && (keep && during)) s.1 in
    let t = and_parts tag (keep && during) n.1 in
    let u = and_parts keep during t.1 in
    let w = and_parts (maybe_valid (valid during_line) v.1.1.1.1.1.1.1.0) true u.1 in
    let kind = is_some (option_map kind_of v.0) in
    let k = agreed_parts (agrees kind (backup_of v)) (backup_of v) c m in
    let both = and_parts (agrees_in_level (backup_of v) && agrees_in_merge kind (backup_of v)) (agrees_in_sets (backup_of v)) k.0 in
    let a = and_parts (agrees_in_level (backup_of v)) (agrees_in_merge kind (backup_of v)) both.0 in
    let merged = agrees_too (option_map kind_of v.0) (backup_of v) a.1 in
    (rw (level_passes v.1.0 q.0, merge_passes v.1.1.0 r.0, files_pass v.1.1.1.0 s.0, sets_pass v.1.1.1.1.0 n.0, tag_passes v.1.1.1.1.1.0 t.0, during_passes v.1.1.1.1.1.1.1.0 w.0, a.0, merged, both.1) refl, k.1)

saved_passes : (i : Option Increment) (asked : Bool) (b : BackupForm) (c : Command) → (agreed asked b ≡ Some c → is_command c ≡ true) → saved i asked b ≡ Some c → is_command c ≡ true
saved_passes None asked b c agreeing m = agreeing m
saved_passes (Some (OfLevel l)) asked b c agreeing m = agreeing m
saved_passes (Some (FromScn scn)) asked b c agreeing m = go (is_plain asked b) m
  where
    go : (plain : Bool) → cond plain (Some (BackupFrom scn)) None ≡ Some c → is_command c ≡ true
    go true e = subst (λ d. is_command d ≡ true) (some_same e) refl
    go false e = absurd (cc)

-- the command that valid values mean passes the test
pub backup_passes : (v : Values backup_line) (c : Command) → valid backup_line v ≡ true → saved (option_map increment_of v.1.0) (is_some (option_map kind_of v.0)) (backup_of v) ≡ Some c → is_command c ≡ true
backup_passes v c h m =
    saved_passes (option_map increment_of v.1.0) (is_some (option_map kind_of v.0)) (backup_of v) c
    (λ a. let p = agreed_passes v c h a in subst (λ d. is_command d ≡ true) p.1 p.0) m
