-- No line of what a statement comes to tells a moment.
use Rattle.std.specs.Prelude.{All, IsSomeAnd, if◌then◌else◌}
use Rattle.std.proofs.Common.{◌≡◌, ◌++◌, ◌∷◌, ◌+◌, ℕ, zero, suc, Bool, true, false, List, [], Option, Some, None, map, sym, subst}
use Rattle.std.proofs.lemmas.List.Elements.{All-append, All-cons, All-nil}
use Rattle.rm_base.specs.Store.{Held}
use Rattle.rm_lang_statement.specs.declared.command.{BackupForm.{BackupForm}, Command.{Command}}
use Rattle.rm_lang_statement.specs.declared.command.Command.TheVariants.{ArchiveLogCurrent, Backup, BackupFrom, BackupLogs, BlockRecover, CatalogName, ChangeBackup, Corrupt, CreateDatabase, CreateDatafile, Crosscheck, Cut, Damage, DeleteBackup, DeleteExpired, DeleteObsolete, Dump, ListArchived, ListBackup, ListCopy, ListCorruption, ListIncarnation, LoseDatafile, LoseLog, Mount, OpenPlain, OpenResetlogs, Parallelism, Preview, Recover, RecoverCopy, RecoverTest, Remove, Rename, ReportNeedBackup, ReportObsolete, ReportSchema, ResetDatabase, Restore, Retention, ShowAll, SwitchLogfile, SwitchThread, Tracking, ValidateAll, Write}
use Rattle.rm_lang_statement.specs.declared.command.ChangeTo.{ChangeTo, TheVariants.{Available, Keep, NoKeep, Unavailable, Uncatalog}}
use Rattle.rm_report.specs.{Reply.{HasDate, IsPlain}, declared.line.Line.{Line, TheVariants.{Deleted, ThreadScn}}}
use Rattle.rm_machine.specs.{Archive.{after_thread, lines_from, thread_lines}, Backup.{or_nothing}, BackupOutcome.{at_end, write_lines}}
use Rattle.rm_machine.specs.Effect.{Effect, Outcome, done, no_effect, refused, told}
use Rattle.rm_machine.specs.MadeObjects.{Packed, after_object, alone, in_set, lines_of, object_lines, packed}
use Rattle.rm_machine.specs.{MadeSets.{InSet, member_line}, State.{ledger, now_of, online}, Step.{IsDone}}
use Rattle.rm_machine.specs.{SwitchLogfile.{archived, is_due, made_lines, none_lines, with_archived}, Upkeep.{change_line}}
use Rattle.rm_machine.specs.{Nature.{nature_of}, declared.{state.State.{State}, nature.Nature.TheVariants.{Changes}}}

-- the moment of each RM-14 among the lines is at most the last
record AreDated (lines : List Line) : Type 0 where
  dates : All IsPlain lines

none-dated : AreDated []
none-dated = record { dates = All-nil IsPlain }

more-dated : (line : Line) (lines : List Line) → IsPlain line → AreDated lines → AreDated (line ∷ lines)
more-dated line lines one two = record { dates = All-cons IsPlain line lines one two.dates }

one-dated : (line : Line) → IsPlain line → AreDated (line ∷ [])
one-dated line one = more-dated line [] one none-dated

join-dated : (xs ys : List Line) → AreDated xs → AreDated ys → AreDated (xs ++ ys)
join-dated xs ys one two = record { dates = All-append IsPlain xs ys one.dates two.dates }

if-dated : (b : Bool) (xs ys : List Line) → AreDated xs → AreDated ys → AreDated (if b then xs else ys)
if-dated true xs ys one two = one
if-dated false xs ys one two = two

-- The lines of archiving and of a backup

thread-dated : (all : Bool) (s : State) (t : ℕ) → AreDated (thread_lines all s t)
thread-dated all s t = search (if-dated, one-dated, none-dated)

archived-dated : (all : Bool) (s : State) (t n : ℕ) → AreDated (lines_from all s t n)
archived-dated all s t zero = none-dated
archived-dated all s t (suc n) = join-dated (thread_lines all s t) (lines_from all (after_thread s t) (t + 1) n) (thread-dated all s t) (archived-dated all (after_thread s t) (t + 1) n)

members-dated : (s : State) (xs : List InSet) → AreDated (map (member_line s) xs)
members-dated s [] = none-dated
members-dated s (x ∷ xs) = more-dated _ _ tt (members-dated s xs)

object-dated : (s : State) (x : Packed) → AreDated (lines_of s x)
object-dated s (alone x) = one-dated _ tt
object-dated s (in_set checkpoint xs) = members-dated s xs

objects-dated : (s : State) (b : BackupForm) (tag : List ℕ) (xs : List Packed) → AreDated (object_lines s b tag xs)
objects-dated s b tag [] = none-dated
objects-dated s b tag (x ∷ xs) = join-dated (lines_of s x) _ (object-dated s x) (objects-dated (after_object s b tag x) b tag xs)

thread-writes-dated : (t : ℕ) (scns : List ℕ) → AreDated (map (λ scn. ThreadScn t scn) scns)
thread-writes-dated t [] = none-dated
thread-writes-dated t (scn ∷ scns) = more-dated _ _ tt (thread-writes-dated t scns)

writes-dated : (t : ℕ) (scns : List (List ℕ)) → AreDated (write_lines t scns)
writes-dated t [] = none-dated
writes-dated t (one ∷ scns) = join-dated (map (λ scn. ThreadScn t scn) one) (write_lines (suc t) scns) (thread-writes-dated t one) (writes-dated (suc t) scns)

nothing-dated : (lines : List Line) → AreDated lines → AreDated (or_nothing lines)
nothing-dated [] dated = one-dated _ tt
nothing-dated (line ∷ lines) dated = dated

-- The lines of upkeep

change-dated_line : (to : ChangeTo) (n : ℕ) → IsPlain (change_line to n)
change-dated_line Available n = tt
change-dated_line Unavailable n = tt
change-dated_line Uncatalog n = tt
change-dated_line Keep n = tt
change-dated_line NoKeep n = tt

deleted-dated : (ids : List ℕ) → AreDated (map Deleted ids)
deleted-dated [] = none-dated
deleted-dated (id ∷ ids) = more-dated (Deleted id) (map Deleted ids) tt (deleted-dated ids)

-- The lines of an outcome

abbrev IsDated : Outcome → Type 0
IsDated (refused r) = HasDate r
IsDated (told lines) = AreDated lines
IsDated (done lines e t) = AreDated lines

by : (o p : Outcome) → o ≡ p → IsDated p → IsDated o
by o p is dated = subst IsDated (sym is) dated

if-by : (b : Bool) (o p : Outcome) → IsDated o → IsDated p → IsDated (if b then o else p)
if-by true o p one two = one
if-by false o p one two = two

some-by : (at : Option ℕ) (f : ℕ → Outcome) (o : Outcome) → IsSomeAnd at (λ n. o ≡ f n) → ((n : ℕ) → IsDated (f n)) → IsDated o
some-by None f o is dated = absurd is
some-by (Some n) f o is dated = by o (f n) is (dated n)

every-dated : (c : Command) (s : State) (objects : Held) (o : Outcome) → nature_of c ≡ Changes → IsDone s objects c o → IsDated o
every-dated (CreateDatabase dbid threads scn) s objects o change is = absurd is
every-dated (CreateDatafile blocks) s objects o change is = by o _ is (one-dated _ tt)
every-dated (Write w) s objects o change is = by o _ is (one-dated _ tt)
every-dated (SwitchLogfile t) s objects o change is = by o _ is (if-by (is_due s t) (done (made_lines s t) (archived (ledger s).base.next_id (online s t)) (with_archived s t)) (done (none_lines t) no_effect s) (one-dated _ tt) (one-dated _ tt))
every-dated ArchiveLogCurrent s objects o change is = by o _ is (archived-dated true s 1 4)
every-dated (Backup b) s objects o change is = by o _ is.is
    (join-dated _ (write_lines 1 is.scns) (nothing-dated _ (objects-dated (at_end s b is.events) b is.tag (packed (ledger s) b (now_of s) is.jobs is.rows))) (writes-dated 1 is.scns))
every-dated (BackupFrom scn) s objects o change is = by o _ is (one-dated _ tt)
every-dated BackupLogs s objects o change is = absurd (cc)
every-dated (BlockRecover form) s objects o change is = absurd (cc)
every-dated Mount s objects o change is = by o _ is (one-dated _ tt)
every-dated OpenPlain s objects o change is = by o _ is (one-dated _ tt)
every-dated OpenResetlogs s objects o change is = some-by s.instance.point _ o is (λ at. join-dated _ _ (archived-dated false s 1 4) (one-dated _ tt))
every-dated (ResetDatabase i) s objects o change is = by o _ is (one-dated _ tt)
every-dated (Restore file until) s objects o change is = absurd (cc)
every-dated (Preview until) s objects o change is = absurd (cc)
every-dated (Recover until) s objects o change is = absurd (cc)
every-dated (RecoverTest until inc) s objects o change is = absurd (cc)
every-dated (RecoverCopy tag until) s objects o change is = absurd (cc)
every-dated ListIncarnation s objects o change is = absurd (cc)
every-dated ListBackup s objects o change is = absurd (cc)
every-dated ListCopy s objects o change is = absurd (cc)
every-dated ListArchived s objects o change is = absurd (cc)
every-dated ListCorruption s objects o change is = absurd (cc)
every-dated ReportObsolete s objects o change is = absurd (cc)
every-dated ReportNeedBackup s objects o change is = absurd (cc)
every-dated ReportSchema s objects o change is = absurd (cc)
every-dated ShowAll s objects o change is = absurd (cc)
every-dated ValidateAll s objects o change is = absurd (cc)
every-dated (Dump file block) s objects o change is = absurd (cc)
every-dated (Crosscheck class) s objects o change is = absurd (cc)
every-dated (ChangeBackup n to) s objects o change is = by o _ is (one-dated (change_line to n) (change-dated_line to n))
every-dated (DeleteBackup n) s objects o change is = by o _ is (more-dated _ _ tt (one-dated _ tt))
every-dated DeleteObsolete s objects o change is = absurd (cc)
every-dated (DeleteExpired class) s objects o change is = by o _ is.is (join-dated _ _ (deleted-dated is.ids) (one-dated _ tt))
every-dated (Retention form) s objects o change is = by o _ is (one-dated _ tt)
every-dated (Parallelism channels) s objects o change is = by o _ is (one-dated _ tt)
every-dated (Tracking on) s objects o change is = by o _ is (one-dated _ tt)
every-dated (SwitchThread t true) s objects o change is = by o _ is (one-dated _ tt)
every-dated (SwitchThread t false) s objects o change is = by o _ is (join-dated (thread_lines false s t) _ (thread-dated false s t) (one-dated _ tt))
every-dated (CatalogName name) s objects o change is = absurd (cc)
every-dated (LoseDatafile file) s objects o change is = by o _ is (one-dated _ tt)
every-dated (LoseLog thread) s objects o change is = by o _ is (one-dated _ tt)
every-dated (Corrupt file block) s objects o change is = by o _ is.2 (one-dated _ tt)
every-dated (Remove name) s objects o change is = absurd (cc)
every-dated (Damage name at) s objects o change is = absurd (cc)
every-dated (Cut name to) s objects o change is = absurd (cc)
every-dated (Rename old new) s objects o change is = absurd (cc)

-- what a change says
pub change-dated : (c : Command) (s : State) (objects : Held) (lines : List Line) (e : Effect) (t : State) → nature_of c ≡ Changes → IsDone s objects c (done lines e t) → All IsPlain lines
change-dated c s objects lines e t change is = (every-dated c s objects (done lines e t) change is).dates
