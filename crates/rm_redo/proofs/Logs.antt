-- What a change more, a switch and a loss make of the logs, and what they leave as it was.
use Rattle.std.specs.Option.{option_map_or}
use Rattle.std.proofs.Common.{◌≡◌, ◌<◌, ◌≤◌, ◌+◌, ◌-◌, ◌∙◌, ◌≢◌, ◌==◌, inl, inr, ℕ, zero, suc, List, [], ◌∷◌, ◌++◌, Option, Some, None, Bool, true, false, cond, refl, ap, sym, subst, arith, length, map, get_or, All, slice_get, slice_set}
use Rattle.std.proofs.lemmas.{Bool.{cases_eq, eq-eqb, ne_eqb}, List.{length-map, length-set, length-append}}
use Rattle.std.proofs.lemmas.List.{Elements.{All-get_or, All-map, All-push, All-set}, Quantifiers.{all_pairs_push}}
use Rattle.std.proofs.lemmas.Option.{get_or_from_slice_get, slice_get_cases, slice_get_read, slice_get_within}
use Rattle.rm_base.specs.declared.block.Change.{Change}
use Rattle.rm_redo.specs.Logs.{Logs, IsBefore, IsLog, IsLogs}
use Rattle.rm_redo.specs.Online.{IsThread, IsLost, has_log, record_of, thread_records, first_of, sequence_of, with_log, with_record, with_change, begun_anew, switched, with_loss, begun_logs, empty_log, fresh_log, lost_log, lost_logs, no_log, log_where}
use Rattle.rm_redo.specs.declared.online.{LogRecord.{LogRecord}, ThreadLog.{ThreadLog}}

pub empty-is_log : (first sequence : ℕ) → 0 < first → 0 < sequence → IsLog (empty_log first sequence)
empty-is_log first sequence begun numbered = record {
  numbered = numbered;
  begun = begun;
  from = λ k d inside. absurd (omega (arith, inside));
  ascends = λ i j d less inside. absurd (omega (arith, inside));
  few = omega arith;
}

pub lost-log-is_log : IsLog lost_log
lost-log-is_log = let fresh = empty-is_log 1 1 (omega arith) (omega arith) in record { numbered = fresh.numbered; begun = fresh.begun; from = fresh.from; ascends = fresh.ascends; few = fresh.few }

pub no-log-is_log : IsLog no_log
no-log-is_log = let fresh = empty-is_log 1 1 (omega arith) (omega arith) in record { numbered = fresh.numbered; begun = fresh.begun; from = fresh.from; ascends = fresh.ascends; few = fresh.few }

pub where-is_log : (l : ThreadLog) (on : Bool) → IsLog l → IsLog (log_where l on)
where-is_log l true is = is
where-is_log l false is = no-log-is_log

set-alike : {X : Type 0} (field : ThreadLog → X) (none : X) (logs : List ThreadLog) (k i : ℕ) (new : ThreadLog) → option_map_or field (slice_get logs k) none ≡ field new → option_map_or field (slice_get (slice_set logs k new) i) none ≡ option_map_or field (slice_get logs i) none
set-alike field none [] k i new same = refl
set-alike field none (l ∷ ls) zero zero new same = sym same
set-alike field none (l ∷ ls) zero (suc i) new same = refl
set-alike field none (l ∷ ls) (suc k) zero new same = refl
set-alike field none (l ∷ ls) (suc k) (suc i) new same = set-alike field none ls k i new same

set-other : (logs : List ThreadLog) (k i : ℕ) (new : ThreadLog) → i ≢ k → slice_get (slice_set logs k new) i ≡ slice_get logs i
set-other [] k i new other = refl
set-other (l ∷ ls) zero zero new other = absurd (other refl)
set-other (l ∷ ls) zero (suc i) new other = refl
set-other (l ∷ ls) (suc k) zero new other = refl
set-other (l ∷ ls) (suc k) (suc i) new other = set-other ls k i new (λ e. other (ap (λ n. suc n) e))

set-there : (logs : List ThreadLog) (k : ℕ) (new : ThreadLog) → k < length logs → slice_get (slice_set logs k new) k ≡ Some new
set-there [] k new inside = absurd (omega arith)
set-there (l ∷ ls) zero new inside = refl
set-there (l ∷ ls) (suc k) new inside = set-there ls k new (omega arith)

-- A field of the log of thread t, and `none` where there is no such thread.
abbrev pub field_of : {X : Type 0} → (ThreadLog → X) → X → Logs → ℕ → X
field_of field none logs t = option_map_or field (slice_get logs.threads (t - 1)) none

-- the logs, where the log of thread t is what `f` makes of it, if it is `o`
abbrev changed : (ThreadLog → ThreadLog) → Logs → ℕ → Option ThreadLog → Logs
changed f logs t o = option_map_or (λ l. record logs { threads = slice_set logs.threads (t - 1) (f l) }) o logs

kept-by : {X : Type 0} (field : ThreadLog → X) (none : X) (f : ThreadLog → ThreadLog) → ((l : ThreadLog) → field (f l) ≡ field l) → (logs : Logs) (t u : ℕ) (o : Option ThreadLog) → slice_get logs.threads (t - 1) ≡ o → field_of field none (changed f logs t o) u ≡ field_of field none logs u
kept-by field none f kept logs t u None is = refl
kept-by field none f kept logs t u (Some l) is =
    set-alike field none logs.threads (t - 1) (u - 1) (f l) (ap (λ o. option_map_or field o none) is ∙ sym (kept l))

-- what `f` leaves of each log stays
pub kept-with_log : {X : Type 0} (field : ThreadLog → X) (none : X) (f : ThreadLog → ThreadLog) → ((l : ThreadLog) → field (f l) ≡ field l) → (logs : Logs) (t u : ℕ) → field_of field none (with_log f logs t) u ≡ field_of field none logs u
kept-with_log field none f kept logs t u = kept-by field none f kept logs t u (slice_get logs.threads (t - 1)) refl

there-by : {X : Type 0} (field : ThreadLog → X) (none : X) (f : ThreadLog → ThreadLog) (logs : Logs) (t : ℕ) (o : Option ThreadLog) → t - 1 < length logs.threads → o ≢ None → field_of field none (changed f logs t o) t ≡ option_map_or (λ l. field (f l)) o none
there-by field none f logs t None inside some = absurd (some refl)
there-by field none f logs t (Some l) inside some = ap (λ o. option_map_or field o none) (set-there logs.threads (t - 1) (f l) inside)

pub is-there : (logs : Logs) (t : ℕ) → IsThread logs t → slice_get logs.threads (t - 1) ≢ None
is-there logs t there none = elim (slice_get_cases logs.threads (t - 1)).1 [
  | inl some ↦ let both : Some some.0 ≡ None = sym some.2 ∙ none in absurd (cc)
  | inr past ↦ absurd (omega (arith, past.0, there.0, there.1))
]

-- the log of the thread is what `f` makes of it
pub field-with_log : {X : Type 0} (field : ThreadLog → X) (none : X) (f : ThreadLog → ThreadLog) (logs : Logs) (t : ℕ) → IsThread logs t → field_of field none (with_log f logs t) t ≡ field_of (λ l. field (f l)) none logs t
field-with_log field none f logs t there =
    there-by field none f logs t (slice_get logs.threads (t - 1)) (omega (arith, there.0, there.1)) (is-there logs t there)

other-by : (f : ThreadLog → ThreadLog) (logs : Logs) (t u : ℕ) (o : Option ThreadLog) → u - 1 ≢ t - 1 → slice_get (changed f logs t o).threads (u - 1) ≡ slice_get logs.threads (u - 1)
other-by f logs t u None other = refl
other-by f logs t u (Some l) other = set-other logs.threads (t - 1) (u - 1) (f l) other

-- the other logs are as they were
pub other-with_log : (f : ThreadLog → ThreadLog) (logs : Logs) (t u : ℕ) → 0 < t → 0 < u → u ≢ t → slice_get (with_log f logs t).threads (u - 1) ≡ slice_get logs.threads (u - 1)
other-with_log f logs t u here there other =
    other-by f logs t u (slice_get logs.threads (t - 1)) (λ same. other (omega (arith, same)))

-- what surrounds the threads' logs, their number, and which of them are there
pub record IsAround (old new : Logs) : Type 0 where
  pub dbid : new.dbid ≡ old.dbid
  pub inc : new.inc ≡ old.inc
  pub threads : length new.threads ≡ length old.threads
  pub there : (t : ℕ) → has_log new t ≡ has_log old t

dbid-by : (f : ThreadLog → ThreadLog) (logs : Logs) (t : ℕ) (o : Option ThreadLog) → (changed f logs t o).dbid ≡ logs.dbid
dbid-by f logs t None = refl
dbid-by f logs t (Some l) = refl

inc-by : (f : ThreadLog → ThreadLog) (logs : Logs) (t : ℕ) (o : Option ThreadLog) → (changed f logs t o).inc ≡ logs.inc
inc-by f logs t None = refl
inc-by f logs t (Some l) = refl

threads-by : (f : ThreadLog → ThreadLog) (logs : Logs) (t : ℕ) (o : Option ThreadLog) → length (changed f logs t o).threads ≡ length logs.threads
threads-by f logs t None = refl
threads-by f logs t (Some l) = length-set logs.threads (t - 1) (f l)

pub around-with_log : (f : ThreadLog → ThreadLog) → ((l : ThreadLog) → (f l).is_there ≡ l.is_there) → (logs : Logs) (t : ℕ) → IsAround logs (with_log f logs t)
around-with_log f stays logs t = record {
  dbid = dbid-by f logs t (slice_get logs.threads (t - 1));
  inc = inc-by f logs t (slice_get logs.threads (t - 1));
  threads = threads-by f logs t (slice_get logs.threads (t - 1));
  there = λ u. kept-with_log (λ l. l.is_there) false f stays logs t u;
}

-- the same threads are there
pub IsThread-around : (old new : Logs) (t : ℕ) → IsAround old new → IsThread old t → IsThread new t
IsThread-around old new t around there = let same = around.threads in (there.0, omega (arith, same, there.1), around.there t ∙ there.2)

all-get : (P : ThreadLog → Type 0) (logs : List ThreadLog) (k : ℕ) (l : ThreadLog) → slice_get logs k ≡ Some l → All P logs → P l
all-get P logs k l is all = subst P (get_or_from_slice_get logs k l l is) (All-get_or P logs k l (slice_get_within logs k l is) all)

-- logs stay logs where one that is there stays one
pub IsLogs-with_one : (f : ThreadLog → ThreadLog) (logs : Logs) (t : ℕ) (l : ThreadLog) → slice_get logs.threads (t - 1) ≡ Some l → IsLog (f l) → IsLogs logs → IsLogs (record logs { threads = slice_set logs.threads (t - 1) (f l) })
IsLogs-with_one f logs t l is new sound =
    let same = length-set logs.threads (t - 1) (f l) in
    record {
      dbid = sound.dbid;
      inc = sound.inc;
      four = same ∙ sound.four;
      each = All-set IsLog logs.threads (t - 1) (f l) new sound.each;
    }

logs-by : (f : ThreadLog → ThreadLog) → ((l : ThreadLog) → IsLog l → IsLog (f l)) → (logs : Logs) (t : ℕ) (o : Option ThreadLog) → slice_get logs.threads (t - 1) ≡ o → IsLogs logs → IsLogs (changed f logs t o)
logs-by f keeps logs t None is sound = sound
logs-by f keeps logs t (Some l) is sound = IsLogs-with_one f logs t l is (keeps l (all-get IsLog logs.threads (t - 1) l is sound.each)) sound

-- the log that stands at the thread's place is its log
pub log-there : (logs : Logs) (t : ℕ) (l : ThreadLog) → IsThread logs t → l ≡ get_or logs.threads (t - 1) l → slice_get logs.threads (t - 1) ≡ Some l
log-there logs t l there is = slice_get_read logs.threads (length logs.threads) (t - 1) l refl (omega (arith, there.0, there.1)) is

-- and one of the logs
pub is_log-there : (logs : Logs) (t : ℕ) (l : ThreadLog) → IsLogs logs → slice_get logs.threads (t - 1) ≡ Some l → IsLog l
is_log-there logs t l sound is = all-get IsLog logs.threads (t - 1) l is sound.each

-- A change more

-- a log stays one with a record above all of its records
pub with_record-is_log : (r : LogRecord) (l : ThreadLog) → IsLog l → l.first ≤ r.scn → All (λ s. s.scn < r.scn) l.records → length l.records ≢ 65536 → IsLog (with_record r l)
with_record-is_log r l is from above few = record {
  numbered = is.numbered;
  begun = is.begun;
  from = All-push (λ (s : LogRecord). l.first ≤ s.scn) l.records r is.from from;
  ascends = all_pairs_push IsBefore l.records r is.ascends (λ k d within. inl (above k d within));
  few = let more = length-append l.records (r ∷ []) in let most = is.few in omega (arith, more, most, few);
}

-- no log begins elsewhere
pub first_of-with_change : (logs : Logs) (c : Change) (t : ℕ) → first_of (with_change logs c) t ≡ first_of logs t
first_of-with_change logs c t = kept-with_log (λ l. l.first) 0 (with_record (record_of c)) (λ l. refl) logs c.thread t

-- no log has another sequence number
pub sequence_of-with_change : (logs : Logs) (c : Change) (t : ℕ) → sequence_of (with_change logs c) t ≡ sequence_of logs t
sequence_of-with_change logs c t = kept-with_log (λ l. l.sequence) 0 (with_record (record_of c)) (λ l. refl) logs c.thread t

-- no log is lost or found
pub is_lost-with_change : (logs : Logs) (c : Change) (t : ℕ) → field_of (λ l. l.is_lost) false (with_change logs c) t ≡ field_of (λ l. l.is_lost) false logs t
is_lost-with_change logs c t = kept-with_log (λ l. l.is_lost) false (with_record (record_of c)) (λ l. refl) logs c.thread t

pub IsLost-with_change : (logs : Logs) (c : Change) (t : ℕ) → ¬ IsLost logs t → ¬ IsLost (with_change logs c) t
IsLost-with_change logs c t here lost = here (sym (is_lost-with_change logs c t) ∙ lost)

pub around-with_change : (logs : Logs) (c : Change) → IsAround logs (with_change logs c)
around-with_change logs c = around-with_log (with_record (record_of c)) (λ l. refl) logs c.thread

pub IsThread-with_change : (logs : Logs) (c : Change) (t : ℕ) → IsThread logs t → IsThread (with_change logs c) t
IsThread-with_change logs c t there = IsThread-around logs (with_change logs c) t (around-with_change logs c) there

-- they are of the same incarnation
pub inc-with_change : (logs : Logs) (c : Change) → (with_change logs c).inc ≡ logs.inc
inc-with_change logs c = (around-with_change logs c).inc

pushed-by : (r : LogRecord) (o : Option ThreadLog) → o ≢ None → option_map_or (λ l. l.records ++ r ∷ []) o [] ≡ option_map_or (λ l. l.records) o [] ++ r ∷ []
pushed-by r None some = absurd (some refl)
pushed-by r (Some l) some = refl

-- the thread's log has the change at its end
pub thread_records-with_change : (logs : Logs) (c : Change) → IsThread logs c.thread → thread_records (with_change logs c) c.thread ≡ thread_records logs c.thread ++ record_of c ∷ []
thread_records-with_change logs c there =
    field-with_log (λ l. l.records) [] (with_record (record_of c)) logs c.thread there
    ∙ pushed-by (record_of c) (slice_get logs.threads (c.thread - 1)) (is-there logs c.thread there)

-- and the other logs are as they were
pub thread_records-with_change_other : (logs : Logs) (c : Change) (t : ℕ) → 0 < c.thread → 0 < t → t ≢ c.thread → thread_records (with_change logs c) t ≡ thread_records logs t
thread_records-with_change_other logs c t here there other =
    ap (λ o. option_map_or (λ l. l.records) o []) (other-with_log (with_record (record_of c)) logs c.thread t here there other)

-- A switch

-- a thread that begins at `now` stays as it is
pub switched-stays : (logs : Logs) (t now : ℕ) → first_of logs t ≡ now → switched logs t now ≡ logs
switched-stays logs t now same = ap (λ b. cond b logs (with_log (begun_anew now) logs t)) (eq-eqb (first_of logs t) now same)

-- one that begins elsewhere begins anew
pub switched-anew : (logs : Logs) (t now : ℕ) → first_of logs t ≢ now → switched logs t now ≡ with_log (begun_anew now) logs t
switched-anew logs t now other = ap (λ b. cond b logs (with_log (begun_anew now) logs t)) (ne_eqb (first_of logs t) now other)

-- what is true of the logs and of those that begin anew is true of the switched ones
pub switched-either : (P : Logs → Type 0) (logs : Logs) (t now : ℕ) → P logs → P (with_log (begun_anew now) logs t) → P (switched logs t now)
switched-either P logs t now old new =
    elim (first_of logs t == now) as (λ b. P (cond b logs (with_log (begun_anew now) logs t))) [ true ↦ old | false ↦ new ]

constant-by : {X : Type 0} (x none : X) (o : Option ThreadLog) → o ≢ None → option_map_or (λ l. x) o none ≡ x
constant-by x none None some = absurd (some refl)
constant-by x none (Some l) some = refl

alike-by : {X : Type 0} (none : X) (o : Option ThreadLog) → option_map_or (λ l. none) o none ≡ none
alike-by none None = refl
alike-by none (Some l) = refl

next-by : (o : Option ThreadLog) → o ≢ None → option_map_or (λ l. l.sequence + 1) o 0 ≡ option_map_or (λ l. l.sequence) o 0 + 1
next-by None some = absurd (some refl)
next-by (Some l) some = refl

-- the thread's log begins at `now`
pub first_of-switched : (logs : Logs) (t now : ℕ) → IsThread logs t → first_of (switched logs t now) t ≡ now
first_of-switched logs t now there = elim (cases_eq (first_of logs t) now) [
  | inl same ↦ ap (λ x. first_of x t) (switched-stays logs t now same) ∙ same
  | inr other ↦
      ap (λ x. first_of x t) (switched-anew logs t now other)
      ∙ field-with_log (λ l. l.first) 0 (begun_anew now) logs t there
      ∙ constant-by now 0 (slice_get logs.threads (t - 1)) (is-there logs t there)
]

-- one that begins anew has the next sequence number
pub sequence_of-switched : (logs : Logs) (t now : ℕ) → IsThread logs t → first_of logs t ≢ now → sequence_of (switched logs t now) t ≡ sequence_of logs t + 1
sequence_of-switched logs t now there other =
    ap (λ x. sequence_of x t) (switched-anew logs t now other)
    ∙ field-with_log (λ l. l.sequence) 0 (begun_anew now) logs t there
    ∙ next-by (slice_get logs.threads (t - 1)) (is-there logs t there)

-- and no record
pub thread_records-switched : (logs : Logs) (t now : ℕ) → IsThread logs t → first_of logs t ≢ now → thread_records (switched logs t now) t ≡ []
thread_records-switched logs t now there other =
    ap (λ x. thread_records x t) (switched-anew logs t now other)
    ∙ field-with_log (λ l. l.records) [] (begun_anew now) logs t there
    ∙ alike-by [] (slice_get logs.threads (t - 1))

-- the other logs are as they were
pub other-switched : (logs : Logs) (t u now : ℕ) → 0 < t → 0 < u → u ≢ t → slice_get (switched logs t now).threads (u - 1) ≡ slice_get logs.threads (u - 1)
other-switched logs t u now here there other =
    switched-either (λ x. slice_get x.threads (u - 1) ≡ slice_get logs.threads (u - 1)) logs t now refl (other-with_log (begun_anew now) logs t u here there other)

-- no log is lost or found
pub is_lost-switched : (logs : Logs) (t u now : ℕ) → field_of (λ l. l.is_lost) false (switched logs t now) u ≡ field_of (λ l. l.is_lost) false logs u
is_lost-switched logs t u now =
    switched-either (λ x. field_of (λ l. l.is_lost) false x u ≡ field_of (λ l. l.is_lost) false logs u) logs t now refl (kept-with_log (λ l. l.is_lost) false (begun_anew now) (λ l. refl) logs t u)

-- there are as many threads, of the same incarnation and database
pub around-switched : (logs : Logs) (t now : ℕ) → IsAround logs (switched logs t now)
around-switched logs t now =
    switched-either (IsAround logs) logs t now (record { dbid = refl; inc = refl; threads = refl; there = λ u. refl }) (around-with_log (begun_anew now) (λ l. refl) logs t)

pub IsThread-switched : (logs : Logs) (t u now : ℕ) → IsThread logs u → IsThread (switched logs t now) u
IsThread-switched logs t u now there = IsThread-around logs (switched logs t now) u (around-switched logs t now) there

-- A loss

abbrev as_lost : ThreadLog → ThreadLog
as_lost l = record l { is_lost = true }

pub first_of-with_loss : (logs : Logs) (t u : ℕ) → first_of (with_loss logs t) u ≡ first_of logs u
first_of-with_loss logs t u = kept-with_log (λ l. l.first) 0 as_lost (λ l. refl) logs t u

pub sequence_of-with_loss : (logs : Logs) (t u : ℕ) → sequence_of (with_loss logs t) u ≡ sequence_of logs u
sequence_of-with_loss logs t u = kept-with_log (λ l. l.sequence) 0 as_lost (λ l. refl) logs t u

pub thread_records-with_loss : (logs : Logs) (t u : ℕ) → thread_records (with_loss logs t) u ≡ thread_records logs u
thread_records-with_loss logs t u = kept-with_log (λ l. l.records) [] as_lost (λ l. refl) logs t u

-- the thread's log is lost
pub IsLost-with_loss : (logs : Logs) (t : ℕ) → IsThread logs t → IsLost (with_loss logs t) t
IsLost-with_loss logs t there =
    field-with_log (λ l. l.is_lost) false as_lost logs t there
    ∙ constant-by true false (slice_get logs.threads (t - 1)) (is-there logs t there)

-- and no other
pub is_lost-with_loss_other : (logs : Logs) (t u : ℕ) → 0 < t → 0 < u → u ≢ t → field_of (λ l. l.is_lost) false (with_loss logs t) u ≡ field_of (λ l. l.is_lost) false logs u
is_lost-with_loss_other logs t u here there other = ap (λ o. option_map_or (λ l. l.is_lost) o false) (other-with_log as_lost logs t u here there other)

-- there are as many threads, of the same incarnation and database
pub around-with_loss : (logs : Logs) (t : ℕ) → IsAround logs (with_loss logs t)
around-with_loss logs t = around-with_log as_lost (λ l. refl) logs t

-- A thread comes to be there

-- A thread is no longer there

-- the log of a thread that is there stands at its place
pub put-with_log : (new : ThreadLog) (logs : Logs) (t : ℕ) → 0 < t → t ≤ length logs.threads → record logs { threads = slice_set logs.threads (t - 1) new } ≡ with_log (λ l. new) logs t
put-with_log new logs t some low = elim (slice_get_cases logs.threads (t - 1)).1 [
  | inr past ↦ absurd (omega (arith, past.0, some, low))
  | inl read ↦ sym (ap (changed (λ l. new) logs t) read.2)
]

-- Logs of threads that are enabled

where-logs : (l : ThreadLog) (enabled : List Bool) → IsLog l → All IsLog (map (log_where l) enabled)
where-logs l enabled is = All-map IsLog (log_where l) enabled (λ k d inside. where-is_log l (get_or enabled k d) is)

pub begun-logs : (dbid inc : ℕ) (enabled : List Bool) (first : ℕ) → 1 ≤ dbid → 1 ≤ inc → 1 ≤ first → length enabled ≡ 4 → IsLogs (begun_logs dbid inc enabled first)
begun-logs dbid inc enabled first some there begun four = record {
  dbid = some;
  inc = there;
  four = length-map enabled (log_where (fresh_log first)) ∙ four;
  each = where-logs (fresh_log first) enabled (empty-is_log first 1 begun (omega arith));
}

pub lost-logs : (dbid inc : ℕ) (enabled : List Bool) → 1 ≤ dbid → 1 ≤ inc → length enabled ≡ 4 → IsLogs (lost_logs dbid inc enabled)
lost-logs dbid inc enabled some there four = record {
  dbid = some;
  inc = there;
  four = length-map enabled (log_where lost_log) ∙ four;
  each = where-logs lost_log enabled lost-log-is_log;
}

-- The greatest thread that is there
