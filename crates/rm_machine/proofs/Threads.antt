-- Which threads have an online log, and which of these are lost.
use Rattle.std.specs.Option.{option_map_or}
use Rattle.std.proofs.Common.{◌≡◌, ◌<◌, ◌≤◌, ◌-◌, ◌∙◌, ◌==◌, ◌||◌, not, nat_lt, inl, inr, ℕ, zero, suc, List, [], ◌∷◌, Option, Some, Bool, true, false, cond, refl, ap, sym, subst, arith, get_or, length, map, All, slice_get, slice_set}
use Rattle.std.proofs.lemmas.{Bool.{and_parts, not-true, or_parts, Decides.{nat_tests}}, List.{get_or-set_same, length-set}}
use Rattle.std.proofs.lemmas.{List.Elements.{All-map, All-set}, Option.{slice_get-get_or, slice_get_cases}}
use Rattle.rm_redo.specs.Logs.{Logs}
use Rattle.rm_redo.specs.Online.{IsThread, begun_anew, first_of, has_log, log_where, no_log, record_of, switched, with_change, with_disabled, with_log, with_loss, with_record}
use Rattle.rm_redo.{specs.declared.{log_file.LogFile.{LogFile}, online.ThreadLog.{ThreadLog}}, proofs.Logs.{IsAround, put-with_log}}
use Rattle.rm_base.specs.declared.block.Change.{Change}
use Rattle.rm_machine.specs.{Sound.{IsGone}, State.{is_lost, is_no_thread, is_online}, declared.state.State.{State}}

not-false : (b : Bool) → not b ≡ false → b ≡ true
not-false true is = refl
not-false false is = absurd (cc)

-- a number that is not refused
pub number-within : (n t : ℕ) → ((t == 0) || nat_lt n t) ≡ false → (0 < t) × (t ≤ n)
number-within n t is = (grind (arith, nat_tests), grind (arith, nat_tests))

-- a thread that has a log is one of those for which there is a place
pub thread-in : (logs : Logs) (t : ℕ) → 0 < t → has_log logs t ≡ true → IsThread logs t
thread-in logs t some has = elim (slice_get_cases logs.threads (t - 1)).1 [
  | inl read ↦ (some, omega (arith, some, read.1), has)
  | inr past ↦ absurd (let none : has_log logs t ≡ false = ap (λ o. option_map_or (λ (l : ThreadLog). l.is_there) o false) past.1 in let clash : true ≡ false = sym has ∙ none in cc)
]

-- that of a thread without a log is refused
pub thread-of : (s : State) (t : ℕ) → is_no_thread s t ≡ false → IsThread s.instance.logs t
thread-of s t is =
    let both = or_parts (t == 0) (not (has_log s.instance.logs t)) is in
    thread-in s.instance.logs t (grind (arith, nat_tests, both.0)) (not-false (has_log s.instance.logs t) both.1)

-- the same threads are there as before
pub thread-before : (old new : Logs) (t : ℕ) → IsAround old new → IsThread new t → IsThread old t
thread-before old new t around is = thread-in old t is.0 (sym (around.there t) ∙ is.2)

-- a log that can be archived
pub online-parts : (logs : Logs) (t : ℕ) → is_online logs t ≡ true → (has_log logs t ≡ true) × (is_lost logs t ≡ false)
online-parts logs t is =
    let both = and_parts (has_log logs t) (not (is_lost logs t)) is in
    (both.0, not-true (is_lost logs t) both.1)

-- A thread's log changes

-- a log as a file, by what stands at its thread's place
abbrev pub file_by : ℕ → ℕ → ℕ → ℕ → Option ThreadLog → LogFile
file_by u next dbid inc o =
    record { dbid = dbid; inc = inc; thread = u; sequence = option_map_or (λ l. l.sequence) o 0; first = option_map_or (λ l. l.first) o 0; next = next; records = option_map_or (λ l. l.records) o [] }

-- what was put at a place stands there
pub set-at : {X : Type 0} (xs : List X) (k : ℕ) (x : X) → k < length xs → slice_get (slice_set xs k x) k ≡ Some x
set-at xs k x inside = let long = length-set xs k x in slice_get-get_or (slice_set xs k x) k x (omega (arith, long, inside)) ∙ ap Some (get_or-set_same xs k x x inside)

-- nothing stands where no thread is, and so it stays
pub gone-with_log : (f : ThreadLog → ThreadLog) (logs : Logs) (t : ℕ) → ((l : ThreadLog) → slice_get logs.threads (t - 1) ≡ Some l → IsGone (f l)) → All IsGone logs.threads → All IsGone (with_log f logs t).threads
gone-with_log f logs t new all = elim (slice_get_cases logs.threads (t - 1)).1 [
  | inr past ↦ subst (λ o. All IsGone (option_map_or (λ (l : ThreadLog). record logs { threads = slice_set logs.threads (t - 1) (f l) }) o logs).threads) (sym past.1) all
  | inl read ↦
      subst (λ o. All IsGone (option_map_or (λ (l : ThreadLog). record logs { threads = slice_set logs.threads (t - 1) (f l) }) o logs).threads) (sym read.2)
      (All-set IsGone logs.threads (t - 1) (f read.0) (new read.0 read.2) all)
]

-- the log of a thread that is there
gone-there : (f : ThreadLog → ThreadLog) → ((l : ThreadLog) → (f l).is_there ≡ l.is_there) → (logs : Logs) (t : ℕ) → IsThread logs t → (l : ThreadLog) → slice_get logs.threads (t - 1) ≡ Some l → IsGone (f l)
gone-there f stays logs t there l is none =
    absurd (let clash : true ≡ false = sym there.2 ∙ ap (λ o. option_map_or (λ (m : ThreadLog). m.is_there) o false) is ∙ sym (stays l) ∙ none in cc)

pub gone-with_change : (logs : Logs) (c : Change) → IsThread logs c.thread → All IsGone logs.threads → All IsGone (with_change logs c).threads
gone-with_change logs c there all = gone-with_log (with_record (record_of c)) logs c.thread (gone-there (with_record (record_of c)) (λ l. refl) logs c.thread there) all

pub gone-switched : (logs : Logs) (t now : ℕ) → IsThread logs t → All IsGone logs.threads → All IsGone (switched logs t now).threads
gone-switched logs t now there all = by (first_of logs t == now)
  where
    by : (b : Bool) → All IsGone (cond b logs (with_log (begun_anew now) logs t)).threads
    by true = all
    by false = gone-with_log (begun_anew now) logs t (gone-there (begun_anew now) (λ l. refl) logs t there) all

set-set : {X : Type 0} (xs : List X) (k : ℕ) (a b : X) → slice_set (slice_set xs k a) k b ≡ slice_set xs k b
set-set [] k a b = refl
set-set (x ∷ xs) zero a b = refl
set-set (x ∷ xs) (suc k) a b = ap (λ ys. x ∷ ys) (set-set xs k a b)

-- a thread that began anew and then is no longer there
pub disabled-switched : (logs : Logs) (t now : ℕ) → 0 < t → t ≤ length logs.threads → with_disabled (switched logs t now) t ≡ with_disabled logs t
disabled-switched logs t now some low = by (first_of logs t == now)
  where
    twice : with_disabled (with_log (begun_anew now) logs t) t ≡ with_disabled logs t
    twice = elim (slice_get_cases logs.threads (t - 1)).1 [
      | inr past ↦ absurd (omega (arith, past.0, some, low))
      | inl read ↦
          let l : ThreadLog = begun_anew now read.0 in
          let mid : Logs = record logs { threads = slice_set logs.threads (t - 1) l } in
          let once : with_log (begun_anew now) logs t ≡ mid = ap (λ o. option_map_or (λ (m : ThreadLog). record logs { threads = slice_set logs.threads (t - 1) (begun_anew now m) }) o logs) read.2 in
          ap (λ ls. with_disabled ls t) once
          ∙ ap (λ o. option_map_or (λ (m : ThreadLog). record mid { threads = slice_set mid.threads (t - 1) no_log }) o mid) (set-at logs.threads (t - 1) l read.1)
          ∙ ap (λ ls. record logs { threads = ls }) (set-set logs.threads (t - 1) l no_log)
          ∙ put-with_log no_log logs t some low
    ]

    by : (b : Bool) → with_disabled (cond b logs (with_log (begun_anew now) logs t)) t ≡ with_disabled logs t
    by true = refl
    by false = twice

pub gone-with_loss : (logs : Logs) (t : ℕ) → IsThread logs t → All IsGone logs.threads → All IsGone (with_loss logs t).threads
gone-with_loss logs t there all = gone-with_log (λ l. record l { is_lost = true }) logs t (gone-there (λ l. record l { is_lost = true }) (λ l. refl) logs t there) all

-- Logs of the threads that are enabled

pub where-is_there : (l : ThreadLog) → l.is_there ≡ true → (on : Bool) → (log_where l on).is_there ≡ on
where-is_there l there true = there
where-is_there l there false = refl

pub where-gone : (l : ThreadLog) → l.is_there ≡ true → (on : Bool) → IsGone (log_where l on)
where-gone l there true none = absurd (let clash : true ≡ false = sym there ∙ none in cc)
where-gone l there false none = refl

-- logs of the threads of which this holds
abbrev pub logs_where : ℕ → ℕ → ThreadLog → (ℕ → Bool) → Logs
logs_where dbid inc l on = record { dbid = dbid; inc = inc; threads = map (log_where l) (on 1 ∷ on 2 ∷ on 3 ∷ on 4 ∷ []) }

pub where-there : (dbid inc : ℕ) (l : ThreadLog) → l.is_there ≡ true → (on : ℕ → Bool) (t : ℕ) → 0 < t → t ≤ 4 → has_log (logs_where dbid inc l on) t ≡ on t
where-there dbid inc l there on zero low high = absurd (omega (arith, low))
where-there dbid inc l there on (suc zero) low high = where-is_there l there (on 1)
where-there dbid inc l there on (suc (suc zero)) low high = where-is_there l there (on 2)
where-there dbid inc l there on (suc (suc (suc zero))) low high = where-is_there l there (on 3)
where-there dbid inc l there on (suc (suc (suc (suc zero)))) low high = where-is_there l there (on 4)
where-there dbid inc l there on (suc (suc (suc (suc (suc t))))) low high = absurd (omega (arith, high))

pub all-where_gone : (dbid inc : ℕ) (l : ThreadLog) → l.is_there ≡ true → (on : ℕ → Bool) → All IsGone (logs_where dbid inc l on).threads
all-where_gone dbid inc l there on =
    let enabled : List Bool = on 1 ∷ on 2 ∷ on 3 ∷ on 4 ∷ [] in
    All-map IsGone (log_where l) enabled (λ k d inside. where-gone l there (get_or enabled k d))
