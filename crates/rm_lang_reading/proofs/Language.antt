-- What is read is exactly the grammar.
use Rattle.std.proofs.Common.{◌≡◌, refl, sym, subst, ◌∙◌, cond, List, [], ◌∷◌, Some, None, Bool, true, false, codes, arith}
use Rattle.rm_lang_token.specs.declared.token.Token.{Token}
use Rattle.rm_lang_grammar.specs.{Reading.{◌>>=◌, begins_with, finish_at}, Forms.{are_apart, IsByOne, command_in}}
use Rattle.rm_lang_grammar.{specs.Blocks.{IsBlock, block_at, are_led}, proofs.{Found.{bind_some, some_same}, Forms.{in_found, in_again}}}
use Rattle.rm_lang_grammar.proofs.{Blocks.{block_found, block_again}, Within.{are_unlike, none_begins}}
use Rattle.rm_lang_statement.specs.declared.command.{Command.{Command}, Inner.{Inner}, Statement.{Statement, TheVariants.{Plain, Run}}}
use Rattle.rm_lang_reading.specs.Language.{mishap_forms, setting_forms, asking_forms, upkeep_forms, backup_forms, repair_forms, recovery_forms, mode_forms, switch_forms, forms, set_until, allocate, inner_forms, IsStatement, statement_at}
use Rattle.rm_lang_reading.specs.Creating.{create_database, write, create_datafile, switch_logfile, archive_log, track, untrack, enable_thread, disable_thread}
use Rattle.rm_lang_reading.specs.Modes.{shutdown, startup, reset_database, open_database}
use Rattle.rm_lang_reading.specs.{Recovering.{restore, restore_datafile, recover, recover_copy}, Repairs.{block_recover}}
use Rattle.rm_lang_reading.specs.{Backups.{backup, backup_logs}, Upkeep.{crosscheck, validate, change, delete}}
use Rattle.rm_lang_reading.specs.Asking.{report_obsolete, report_need_backup, report_schema, list_incarnation, list_backup, list_copy, list_archived, list_corruption, show, dump}
use Rattle.rm_lang_reading.specs.Settings.{retention, parallelism, catalog}
use Rattle.rm_lang_reading.specs.Mishaps.{lose_datafile, lose_log, corrupt, remove, damage, cut, rename}

-- no line of the grammar takes from another
pub forms_apart : are_apart forms ≡ true
unfolding mishap_forms setting_forms asking_forms upkeep_forms backup_forms repair_forms recovery_forms mode_forms switch_forms forms create_database write create_datafile switch_logfile archive_log track untrack enable_thread disable_thread shutdown startup reset_database open_database restore restore_datafile recover recover_copy block_recover backup backup_logs crosscheck validate change delete report_obsolete report_need_backup report_schema list_incarnation list_backup list_copy list_archived list_corruption show dump retention parallelism catalog lose_datafile lose_log corrupt remove damage cut rename
forms_apart = refl

-- none begins with RUN
forms_unlike : are_unlike (codes "RUN") forms ≡ true
unfolding mishap_forms setting_forms asking_forms upkeep_forms backup_forms repair_forms recovery_forms mode_forms switch_forms forms create_database write create_datafile switch_logfile archive_log track untrack enable_thread disable_thread shutdown startup reset_database open_database restore restore_datafile recover recover_copy block_recover backup backup_logs crosscheck validate change delete report_obsolete report_need_backup report_schema list_incarnation list_backup list_copy list_archived list_corruption show dump retention parallelism catalog lose_datafile lose_log corrupt remove damage cut rename
forms_unlike = refl

pub inner_apart : are_apart inner_forms ≡ true
unfolding inner_forms set_until allocate mishap_forms setting_forms asking_forms upkeep_forms backup_forms repair_forms recovery_forms mode_forms switch_forms forms create_database write create_datafile switch_logfile archive_log track untrack enable_thread disable_thread shutdown startup reset_database open_database restore restore_datafile recover recover_copy block_recover backup backup_logs crosscheck validate change delete report_obsolete report_need_backup report_schema list_incarnation list_backup list_copy list_archived list_corruption show dump retention parallelism catalog lose_datafile lose_log corrupt remove damage cut rename
inner_apart = refl

inner_led : are_led inner_forms ≡ true
unfolding inner_forms set_until allocate mishap_forms setting_forms asking_forms upkeep_forms backup_forms repair_forms recovery_forms mode_forms switch_forms forms create_database write create_datafile switch_logfile archive_log track untrack enable_thread disable_thread shutdown startup reset_database open_database restore restore_datafile recover recover_copy block_recover backup backup_logs crosscheck validate change delete report_obsolete report_need_backup report_schema list_incarnation list_backup list_copy list_archived list_corruption show dump retention parallelism catalog lose_datafile lose_log corrupt remove damage cut rename
inner_led = refl

-- all tokens are read
finished : {A : Type 0} (x y : A) (ts : List Token) → finish_at x ts ≡ Some y → (ts ≡ []) × (x ≡ y)
finished x y [] h = (refl, some_same h)
finished x y (t ∷ ts) h = absurd (grind arith)

plain_found : (ts : List Token) (s : Statement) → (command_in forms ts >>= λ x. finish_at (Plain x.0) x.1) ≡ Some s → IsStatement ts s
unfolding IsStatement
plain_found ts s e =
    let b = bind_some (command_in forms ts) (λ (x : Command × List Token). finish_at (Plain x.0) x.1) s e in
    let f = finished (Plain b.0.0) s b.0.1 b.2 in
    subst (λ z. IsStatement ts z) f.1 (subst (λ us. IsByOne forms b.0.0 ts us) f.0 (in_found forms ts b.0.1 b.0.0 b.1))

run_found : (ts : List Token) (s : Statement) → (block_at (codes "RUN") inner_forms ts >>= λ x. finish_at (Run x.0) x.1) ≡ Some s → IsStatement ts s
unfolding IsStatement
run_found ts s e =
    let b = bind_some (block_at (codes "RUN") inner_forms ts) (λ (x : List Inner × List Token). finish_at (Run x.0) x.1) s e in
    let f = finished (Run b.0.0) s b.0.1 b.2 in
    subst (λ z. IsStatement ts z) f.1 (subst (λ us. IsBlock (codes "RUN") inner_forms b.0.0 ts us) f.0 (block_found (codes "RUN") inner_forms ts b.0.1 b.0.0 b.1))

by_first : (ts : List Token) (s : Statement) (b : Bool)
    → cond b (block_at (codes "RUN") inner_forms ts >>= λ x. finish_at (Run x.0) x.1) (command_in forms ts >>= λ x. finish_at (Plain x.0) x.1) ≡ Some s → IsStatement ts s
by_first ts s true e = run_found ts s e
by_first ts s false e = plain_found ts s e

-- what is read is the statement
pub statement_at-is : (ts : List Token) (s : Statement) → statement_at ts ≡ Some s → IsStatement ts s
unfolding statement_at
statement_at-is ts s e = by_first ts s (begins_with (codes "RUN") ts) e

-- and the statement is read
pub is-statement_at : (ts : List Token) (s : Statement) → IsStatement ts s → statement_at ts ≡ Some s
unfolding statement_at IsStatement
is-statement_at ts (Plain c) h = rw (none_begins (codes "RUN") forms c ts [] forms_apart forms_unlike h) (rw (in_again forms ts [] c forms_apart h) refl)
is-statement_at ts (Run inner) h =
    let first : begins_with (codes "RUN") ts ≡ true = subst (λ z. begins_with (codes "RUN") z ≡ true) (sym h.2) h.3 in
    rw first (rw (block_again (codes "RUN") inner_forms ts [] inner inner_apart inner_led h) refl)

pub statement_at-none : (ts : List Token) → statement_at ts ≡ None → (s : Statement) → IsStatement ts s → ⊥
statement_at-none ts e s h = let found = is-statement_at ts s h in cc

pub one : (ts : List Token) (s z : Statement) → IsStatement ts s → IsStatement ts z → s ≡ z
one ts s z h k = some_same (sym (is-statement_at ts s h) ∙ is-statement_at ts z k)

pub ruleset read = (statement_at-is, statement_at-none)
