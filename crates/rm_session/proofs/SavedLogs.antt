-- What is loaded of the threads is what their logs told, and nothing of lost ones.
use Rattle.std.specs.{List.{list_any}, Option.{option_map_or}}
use Rattle.std.proofs.Common.{◌≡◌, ◌<◌, ◌≤◌, ◌+◌, ◌-◌, ◌∙◌, ◌&&◌, ◌||◌, not, ℕ, zero, suc, List, [], ◌∷◌, Option, Some, None, Bool, true, false, cond, IsSomeAnd, refl, ap, sym, subst, arith, filter, length, map, replicate, All, Contains, slice_get}
use Rattle.std.proofs.lemmas.{Bool.{eq-eqb, false≢true}, Option.{same_Some}}
use Rattle.rm_base.{specs.{Store.{Held}, declared.block.Change.{Change}}, proofs.{Lists.{filter_from, map_to}, Standing.{each-in}}}
use Rattle.rm_catalog_typed.specs.Switches.{enabled_at, is_enabled_in}
use Rattle.rm_history.specs.{Agrees.{LogAgrees, is_of}, History.{IsHistory}, Tree.{end_of}}
use Rattle.rm_redo.specs.{LogFile.{log_of}, Logs.{Logs}}
use Rattle.rm_redo.specs.Online.{IsThread, are_lost, lost_log, lost_logs, no_log, thread_log, thread_logs, told_log}
use Rattle.rm_redo.specs.declared.{log_file.LogFile.{LogFile}, online.{LogRecord.{LogRecord}, ThreadLog.{ThreadLog}}}
use Rattle.rm_machine.specs.{Loading.{AreLoadedLogs, IsTheOne, inc_of_first, online_of, where_of}, Machine.{HistoryFits}}
use Rattle.rm_machine.specs.{Saved.{FitsOnline, IsGoodLog, IsOfBlock}, Saving.{a_log_kept, rested, saved_logs, saved_of}, Sound.{IsSound}}
use Rattle.rm_machine.specs.{State.{has_lost, ledger, current_of, is_lost, now_of, online, redo_end, world}, declared.state.State.{State}}
use Rattle.rm_machine.proofs.{LostLogs.{lost-none}, Numbers.{file-place}, Threads.{online-parts, thread-in}}
use Rattle.rm_session.{specs.Adding.{part_of_thread}, proofs.{PartsOf.{is-online}, SavedFiles.{HaveObjects}}}
use Rattle.rm_session.proofs.SavedParts.{thread-found, thread-online}

-- the parts that are good: those of the logs that are there and not lost
abbrev loaded_part : State → ℕ → ThreadLog → Option LogFile
loaded_part s t l = cond (l.is_there && not l.is_lost) (Some (online s t)) None

abbrev loaded_parts : State → ℕ → List ThreadLog → List (Option LogFile)
loaded_parts s t [] = []
loaded_parts s t (l ∷ ls) = loaded_part s t l ∷ loaded_parts s (t + 1) ls

parts-many : (s : State) (t : ℕ) (ls : List ThreadLog) → length (loaded_parts s t ls) ≡ length ls
parts-many s t [] = refl
parts-many s t (l ∷ ls) = ap suc (parts-many s (t + 1) ls)

part-at : (s : State) (t : ℕ) (ls : List ThreadLog) (k : ℕ) (a : Option LogFile) → slice_get (loaded_parts s t ls) k ≡ Some a → (l : ThreadLog) × (slice_get ls k ≡ Some l) × (loaded_part s (k + t) l ≡ a)
part-at s t [] k a at = absurd (let clash : None ≡ Some a = at in cc)
part-at s t (l ∷ ls) zero a at = let here : 0 + t ≡ t = omega arith in (l, refl, ap (λ n. loaded_part s n l) here ∙ same_Some (loaded_part s t l) a at)
part-at s t (l ∷ ls) (suc k) a at =
    let later = part-at s (t + 1) ls k a at in
    let next : suc k + t ≡ k + (t + 1) = omega arith in
    (later.0, later.1, ap (λ n. loaded_part s n later.0) next ∙ later.2)

-- A log that is kept is there where it was, and lost where it was

kept-same : (f : Bool → Bool → Bool) → ((b : Bool) → f false false ≡ f false b) → (l : ThreadLog) → f (a_log_kept l).is_there (a_log_kept l).is_lost ≡ f l.is_there l.is_lost
kept-same f gone l = decide l.is_there l.is_lost refl refl
  where
    decide : (there lost : Bool) → l.is_there ≡ there → l.is_lost ≡ lost → f (cond there (cond lost lost_log l) no_log).is_there (cond there (cond lost lost_log l) no_log).is_lost ≡ f l.is_there l.is_lost
    decide true true has gone-too = λ i. f (sym has i) (sym gone-too i)
    decide true false has found = refl
    decide false lost has is = gone l.is_lost ∙ ap (λ b. f b l.is_lost) (sym has)

all-kept : (ls : List ThreadLog) → are_lost (map a_log_kept ls) ≡ are_lost ls
all-kept [] = refl
all-kept (l ∷ ls) = λ i. kept-same (λ there lost. not there || lost) (λ b. refl) l i && all-kept ls i

any-kept : (ls : List ThreadLog) → list_any (λ l. l.is_there && l.is_lost) (map a_log_kept ls) ≡ list_any (λ l. l.is_there && l.is_lost) ls
any-kept [] = refl
any-kept (l ∷ ls) = λ i. kept-same (λ there lost. there && lost) (λ b. refl) l i || any-kept ls i

-- Which incarnation they are of, and where there is none

inc-is : (s : State) (j t : ℕ) (ls : List ThreadLog) → inc_of_first j (loaded_parts s t ls) ≡ cond (are_lost ls) j s.instance.logs.inc
inc-is s j t [] = refl
inc-is s j t (l ∷ ls) = decide l.is_there l.is_lost (inc-is s j (t + 1) ls)
  where
    decide : (there lost : Bool) → inc_of_first j (loaded_parts s (t + 1) ls) ≡ cond (are_lost ls) j s.instance.logs.inc
        → inc_of_first j (cond (there && not lost) (Some (online s t)) None ∷ loaded_parts s (t + 1) ls) ≡ cond ((not there || lost) && are_lost ls) j s.instance.logs.inc
    decide true true rest = rest
    decide true false rest = refl
    decide false lost rest = rest

parts-none : (s : State) (t : ℕ) (ls : List ThreadLog) → are_lost ls ≡ true → loaded_parts s t ls ≡ replicate (length ls) None
parts-none s t [] all = refl
parts-none s t (l ∷ ls) all = decide l.is_there l.is_lost all (parts-none s (t + 1) ls)
  where
    decide : (there lost : Bool) → ((not there || lost) && are_lost ls) ≡ true → (are_lost ls ≡ true → loaded_parts s (t + 1) ls ≡ replicate (length ls) None)
        → cond (there && not lost) (Some (online s t)) None ∷ loaded_parts s (t + 1) ls ≡ None ∷ replicate (length ls) None
    decide true true all rest = ap (λ (os : List (Option LogFile)). None ∷ os) (rest all)
    decide true false all rest = absurd (let clash : false ≡ true = all in cc)
    decide false lost all rest = ap (λ (os : List (Option LogFile)). None ∷ os) (rest all)

-- Their logs

-- the flags of four threads
flags-are : (on : ℕ → Bool) (ls : List ThreadLog) → length ls ≡ 4 → ((t : ℕ) → 0 < t → t ≤ 4 → option_map_or (λ (l : ThreadLog). l.is_there) (slice_get ls (t - 1)) false ≡ on t) → on 1 ∷ on 2 ∷ on 3 ∷ on 4 ∷ [] ≡ map (λ (l : ThreadLog). l.is_there) ls
flags-are on [] four each = absurd (omega (arith, four))
flags-are on (a ∷ []) four each = absurd (omega (arith, four))
flags-are on (a ∷ b ∷ []) four each = absurd (omega (arith, four))
flags-are on (a ∷ b ∷ c ∷ []) four each = absurd (omega (arith, four))
flags-are on (a ∷ b ∷ c ∷ d ∷ []) four each =
    λ i. sym (each 1 (omega arith) (omega arith)) i ∷ sym (each 2 (omega arith) (omega arith)) i ∷ sym (each 3 (omega arith) (omega arith)) i ∷ sym (each 4 (omega arith) (omega arith)) i ∷ []
flags-are on (a ∷ b ∷ c ∷ d ∷ e ∷ ls) four each = absurd (omega (arith, four))

-- logs that are told log by log
kept-threads : (s : State) (i t : ℕ) (ls : List ThreadLog) → ((k : ℕ) (l : ThreadLog) → slice_get ls k ≡ Some l → thread_log l.is_there (where_of i (loaded_part s (k + t) l)) ≡ a_log_kept l)
    → thread_logs (map (λ (l : ThreadLog). l.is_there) ls) (map (where_of i) (loaded_parts s t ls)) ≡ map a_log_kept ls
kept-threads s i t [] each = refl
kept-threads s i t (l ∷ ls) each =
    let here : t ≡ 0 + t = omega arith in
    let next : (k : ℕ) → k + (t + 1) ≡ suc k + t = λ k. omega arith in
    let first = ap (λ n. thread_log l.is_there (where_of i (loaded_part s n l))) here ∙ each 0 l refl in
    let rest = kept-threads s i (t + 1) ls (λ k m at. ap (λ n. thread_log m.is_there (where_of i (loaded_part s n m))) (next k) ∙ each (suc k) m at) in
    λ i. first i ∷ rest i

module _ (s : State) (sound : IsSound s) where
  abbrev logs : Logs
  logs = s.instance.logs

  abbrev parts : List (Option LogFile)
  parts = loaded_parts s 1 logs.threads

  -- a log that is not lost comes back
  log-back : (k : ℕ) (l : ThreadLog) → slice_get logs.threads k ≡ Some l → l.is_there ≡ true → l.is_lost ≡ false → told_log (Some (online s (k + 1))) ≡ l
  log-back k l at there found =
      let back : k + 1 - 1 ≡ k = omega arith in
      let here : slice_get logs.threads (k + 1 - 1) ≡ Some l = ap (slice_get logs.threads) back ∙ at in
      λ i. record {
        is_there = sym there i;
        sequence = option_map_or (λ (x : ThreadLog). x.sequence) (here i) 0;
        first = option_map_or (λ (x : ThreadLog). x.first) (here i) 0;
        is_lost = sym found i;
        records = option_map_or (λ (x : ThreadLog). x.records) (here i) [];
      }

  kept-told : (i k : ℕ) (l : ThreadLog) → logs.inc ≡ i → slice_get logs.threads k ≡ Some l → thread_log l.is_there (where_of i (loaded_part s (k + 1) l)) ≡ a_log_kept l
  kept-told i k l same at = decide l.is_there l.is_lost refl refl
    where
      decide : (there lost : Bool) → l.is_there ≡ there → l.is_lost ≡ lost → thread_log there (where_of i (cond (there && not lost) (Some (online s (k + 1))) None)) ≡ cond there (cond lost lost_log l) no_log
      decide true true has gone = refl
      decide true false has found = ap (λ b. told_log (cond b (Some (online s (k + 1))) None)) (eq-eqb logs.inc i same) ∙ log-back k l at has found
      decide false lost has is = refl

  -- where the first part is of the incarnation of the logs, all logs come back as they are kept
  threads-are : inc_of_first (current_of s) parts ≡ logs.inc → (online_of (ledger s) parts).threads ≡ map a_log_kept logs.threads
  threads-are same =
      let flags = flags-are (λ t. is_enabled_in (ledger s) logs.inc (redo_end s) t) logs.threads sound.logs.four sound.logs.threads in
      (λ i. thread_logs (enabled_at (ledger s) (same i) (end_of (ledger s).tree (same i))) (map (where_of (inc_of_first (current_of s) parts)) parts))
      ∙ ap (λ en. thread_logs en (map (where_of (inc_of_first (current_of s) parts)) parts)) flags
      ∙ kept-threads s (inc_of_first (current_of s) parts) 1 logs.threads (λ k l. kept-told (inc_of_first (current_of s) parts) k l (sym same))

  logs-are : saved_logs s ≡ online_of (ledger s) parts
  logs-are = decide (are_lost (map a_log_kept logs.threads)) (sym (all-kept logs.threads))
    where
      decide : (b : Bool) → are_lost logs.threads ≡ b → cond b (lost_logs logs.dbid (current_of s) (enabled_at (ledger s) (current_of s) (now_of s))) (record logs { threads = map a_log_kept logs.threads }) ≡ online_of (ledger s) parts
      decide true all =
          ap (λ d. lost_logs d (current_of s) (enabled_at (ledger s) (current_of s) (now_of s))) sound.logs.dbid
          ∙ ap (online_of (ledger s)) (sym (parts-none s 1 logs.threads all ∙ ap (λ n. replicate n None) sound.logs.four))
      decide false some =
          let same : inc_of_first (current_of s) parts ≡ logs.inc = inc-is s (current_of s) 1 logs.threads ∙ ap (λ b. cond b (current_of s) logs.inc) some in
          λ i. record { dbid = sound.logs.dbid i; inc = sym same i; threads = sym (threads-are same) i }

  -- an open database lost none
  pub none-lost : s.instance.is_open ≡ true → has_lost (saved_logs s) ≡ false
  none-lost mode =
      let is = sound.in_open mode in
      let same : inc_of_first (current_of s) parts ≡ logs.inc = inc-is s (current_of s) 1 logs.threads ∙ (λ i. cond (are_lost logs.threads) (sym is.inc i) logs.inc) ∙ either (are_lost logs.threads) in
      ap has_lost logs-are ∙ ap (list_any (λ (l : ThreadLog). l.is_there && l.is_lost)) (threads-are same) ∙ any-kept logs.threads
      ∙ lost-none logs (λ t there lost. false≢true (sym (is.found t there) ∙ lost))
    where
      either : (b : Bool) → cond b logs.inc logs.inc ≡ logs.inc
      either true = refl
      either false = refl

-- Each record of a log that agrees with a history is of a block that is there.
records-there : (s : State) (h : List Change) (a : LogFile) → IsHistory (world s) h → LogAgrees h (log_of a) → All (IsOfBlock (ledger s).files) a.records
records-there s h a history agrees =
    let make : LogRecord → Change = λ r. record { inc = a.inc; thread = a.thread; scn = r.scn; file = r.file; block = r.block; content = r.content } in
    each-in (IsOfBlock (ledger s).files) a.records (λ r has.
    let told : Contains (filter (is_of (log_of a)) h) (make r) = subst (λ (cs : List Change). Contains cs (make r)) agrees (map_to make a.records r has) in
    let is = history.changes (make r) (filter_from (is_of (log_of a)) h (make r) told).0 in
    let at = file-place (world s) r.file is.datafile is.is in
    let back : r.file - 1 ≡ at.place = omega (arith, at.number) in
    subst (λ o. IsSomeAnd o (λ d. r.block < d.blocks)) (sym (ap (slice_get (ledger s).files) back ∙ at.is)) is.block)

module _ (s : State) (h : List Change) (sound : IsSound s) (keeps : HistoryFits s h) (held : Held) (have : HaveObjects s held) where
  fits-online : (t : ℕ) → IsThread s.instance.logs t → is_lost s.instance.logs t ≡ false → FitsOnline (ledger (rested s)) s.instance.is_open t (online s t)
  fits-online t there found = record {
    dbid = sound.logs.dbid;
    thread = refl;
    there = sound.logs.there;
    first = (sound.logs.each t there found).begun;
    next = refl;
    enabled = sym (sound.logs.threads t there.0 (omega (arith, there.1, sound.logs.four))) ∙ there.2;
    records = records-there s h (online s t) keeps.history (keeps.online t there found);
    in_open = λ opened. (sound.in_open opened).inc;
  }

  good-log : (k : ℕ) (l : ThreadLog) (b : Bool) → slice_get s.instance.logs.threads k ≡ Some l → (l.is_there && not l.is_lost) ≡ b → IsTheOne (IsGoodLog held (ledger (rested s)) (saved_of s) (k + 1)) (cond b (Some (online s (k + 1))) None)
  good-log k l false at none = λ a good. false≢true (sym none ∙ sym (is-online s.instance.logs k l at) ∙ thread-online s sound k good.part good.is)
  good-log k l true at is =
      let found = thread-found s sound k l at is in
      let both = online-parts s.instance.logs (k + 1) (is-online s.instance.logs k l at ∙ is) in
      let there = thread-in s.instance.logs (k + 1) (omega arith) both.0 in
      record {
        part = _;
        is = found.is;
        has = record { there = have found.id (part_of_thread s (k + 1)) found.object; digest = record { size = refl; sha = refl } };
        valid = (sound.logs.each (k + 1) there both.1).valid;
        fits = fits-online (k + 1) there both.1;
      }

  pub loaded-logs : AreLoadedLogs held (ledger (rested s)) (saved_of s) (saved_logs s)
  loaded-logs = record {
    parts = loaded_parts s 1 s.instance.logs.threads;
    many = parts-many s 1 s.instance.logs.threads ∙ sound.logs.four;
    good = λ k a at.
        let from = part-at s 1 s.instance.logs.threads k a at in
        subst (IsTheOne (IsGoodLog held (ledger (rested s)) (saved_of s) (k + 1))) from.2 (good-log k from.0 (from.0.is_there && not from.0.is_lost) from.1 refl);
    are = logs-are s sound;
  }
