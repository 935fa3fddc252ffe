-- What the logs have after a list of changes.
use Rattle.std.proofs.Common.{◌≡◌, ◌≢◌, ◌∙◌, ◌==◌, ℕ, List, [], ◌∷◌, ◌++◌, inl, inr, Bool, true, false, cond, refl, ap, sym, subst, append_assoc, arith, length, get_or, map, filter, All, AllPairs}
use Rattle.std.proofs.lemmas.{Bool.{cases_eq, eq-eqb, ne_eqb, eqb-true}, List.{get_or-map, length-map, map-append}}
use Rattle.std.proofs.lemmas.List.Elements.{All-head, All-tail, All-weaker}
use Rattle.rm_base.specs.declared.block.Change.{Change}
use Rattle.rm_redo.specs.Logs.{IsBefore, Logs}
use Rattle.rm_redo.specs.Online.{IsThread, record_of, thread_records, first_of, switched, with_change, with_changes}
use Rattle.rm_redo.specs.{LogFile.{changes_of, is_of_thread, log_file_of}, declared.online.LogRecord.{LogRecord}}
use Rattle.rm_redo.specs.declared.log_file.LogFile.{LogFile}
use Rattle.rm_redo.proofs.Logs.{IsAround, around-with_change, around-switched, IsThread-switched, IsThread-with_change, thread_records-switched, thread_records-with_change, thread_records-with_change_other}
use Rattle.rm_history.specs.Agrees.{ComesBefore}

-- as many threads, of the same incarnation and database
pub around-with_changes : (logs : Logs) (h : List Change) → IsAround logs (with_changes logs h)
around-with_changes logs [] = record { dbid = refl; inc = refl; threads = refl; there = λ t. refl }
around-with_changes logs (c ∷ cs) =
    let one = around-with_change logs c in
    let rest = around-with_changes (with_change logs c) cs in
    record { dbid = rest.dbid ∙ one.dbid; inc = rest.inc ∙ one.inc; threads = rest.threads ∙ one.threads; there = λ t. rest.there t ∙ one.there t }

append-nothing : (xs : List LogRecord) → xs ++ [] ≡ xs
append-nothing [] = refl
append-nothing (x ∷ xs) = ap (λ ys. x ∷ ys) (append-nothing xs)

abbrev records_in : ℕ → List Change → List LogRecord
records_in t h = map record_of (filter (is_of_thread t) h)

-- one change more of the thread, or of another
step : (logs : Logs) (c : Change) (cs : List Change) (t : ℕ) → IsThread logs c.thread → IsThread logs t → thread_records (with_change logs c) t ++ records_in t cs ≡ thread_records logs t ++ records_in t (c ∷ cs)
step logs c cs t there here = elim (cases_eq c.thread t) [
  | inl same ↦
      ap (λ xs. xs ++ records_in t cs) (subst (λ n. thread_records (with_change logs c) n ≡ thread_records logs n ++ record_of c ∷ []) same (thread_records-with_change logs c there))
      ∙ append_assoc (thread_records logs t) (record_of c ∷ []) (records_in t cs)
      ∙ ap (λ b. thread_records logs t ++ map record_of (cond b (c ∷ filter (is_of_thread t) cs) (filter (is_of_thread t) cs))) (sym (eq-eqb c.thread t same))
  | inr other ↦
      ap (λ xs. xs ++ records_in t cs) (thread_records-with_change_other logs c t there.0 here.0 (λ e. other (sym e)))
      ∙ ap (λ b. thread_records logs t ++ map record_of (cond b (c ∷ filter (is_of_thread t) cs) (filter (is_of_thread t) cs))) (sym (ne_eqb c.thread t other))
]

-- each thread's log has its changes at its end
pub thread_records-with_changes : (logs : Logs) (h : List Change) (t : ℕ) → All (λ c. IsThread logs c.thread) h → IsThread logs t → thread_records (with_changes logs h) t ≡ thread_records logs t ++ records_in t h
thread_records-with_changes logs [] t all here = sym (append-nothing (thread_records logs t))
thread_records-with_changes logs (c ∷ cs) t all here =
    let there : IsThread logs c.thread = All-head (λ c. IsThread logs c.thread) c cs all in
    let rest : All (λ d. IsThread (with_change logs c) d.thread) cs = All-weaker (λ d. IsThread logs d.thread) (λ d. IsThread (with_change logs c) d.thread) (λ d is. IsThread-with_change logs c d.thread is) cs (All-tail (λ c. IsThread logs c.thread) c cs all) in
    thread_records-with_changes (with_change logs c) cs t rest (IsThread-with_change logs c t here) ∙ step logs c cs t there here

-- a record as the change of which it tells
abbrev told : ℕ → ℕ → LogRecord → Change
told inc t r = record { inc = inc; thread = t; scn = r.scn; file = r.file; block = r.block; content = r.content }

told-is : (inc t : ℕ) (c : Change) → c.inc ≡ inc → c.thread ≡ t → told inc t (record_of c) ≡ c
told-is inc t c same is =
    let of_inc : ℕ → Change = λ i. record { inc = i; thread = t; scn = c.scn; file = c.file; block = c.block; content = c.content } in
    let of_thread : ℕ → Change = λ u. record { inc = c.inc; thread = u; scn = c.scn; file = c.file; block = c.block; content = c.content } in
    ap of_inc (sym same) ∙ ap of_thread (sym is)

told-by : (inc t : ℕ) (c : Change) (rest : List Change) (b : Bool) → (c.thread == t) ≡ b → c.inc ≡ inc → map (told inc t) (map record_of rest) ≡ rest → map (told inc t) (map record_of (cond b (c ∷ rest) rest)) ≡ cond b (c ∷ rest) rest
told-by inc t c rest true is same ih = ap (λ d. d ∷ map (told inc t) (map record_of rest)) (told-is inc t c same (eqb-true c.thread t is)) ∙ ap (λ ds. c ∷ ds) ih
told-by inc t c rest false is same ih = ih

told-all : (inc t : ℕ) (h : List Change) → All (λ c. c.inc ≡ inc) h → map (told inc t) (records_in t h) ≡ filter (is_of_thread t) h
told-all inc t [] all = refl
told-all inc t (c ∷ cs) all =
    told-by inc t c (filter (is_of_thread t) cs) (c.thread == t) refl (All-head (λ c. c.inc ≡ inc) c cs all) (told-all inc t cs (All-tail (λ c. c.inc ≡ inc) c cs all))

-- a log tells of what it told, and of the changes that were appended
pub log-grows : (logs : Logs) (t next : ℕ) (h : List Change) → IsThread logs t → All (λ c. IsThread logs c.thread × (c.inc ≡ logs.inc)) h
    → changes_of (log_file_of (with_changes logs h) t next) ≡ changes_of (log_file_of logs t next) ++ filter (is_of_thread t) h
log-grows logs t next h there all =
    let threads : All (λ c. IsThread logs c.thread) h = All-weaker (λ c. IsThread logs c.thread × (c.inc ≡ logs.inc)) (λ c. IsThread logs c.thread) (λ c is. is.0) h all in
    let incs : All (λ c. c.inc ≡ logs.inc) h = All-weaker (λ c. IsThread logs c.thread × (c.inc ≡ logs.inc)) (λ c. c.inc ≡ logs.inc) (λ c is. is.1) h all in
    ap (λ i. map (told i t) (thread_records (with_changes logs h) t)) (around-with_changes logs h).inc
    ∙ ap (map (told logs.inc t)) (thread_records-with_changes logs h t threads there)
    ∙ map-append (told logs.inc t) (thread_records logs t) (records_in t h)
    ∙ ap (λ cs. map (told logs.inc t) (thread_records logs t) ++ cs) (told-all logs.inc t h incs)

-- so of these alone where it had no record
pub log-fills : (logs : Logs) (t next : ℕ) (h : List Change) → IsThread logs t → thread_records logs t ≡ [] → All (λ c. IsThread logs c.thread × (c.inc ≡ logs.inc)) h
    → changes_of (log_file_of (with_changes logs h) t next) ≡ filter (is_of_thread t) h
log-fills logs t next h there none all = log-grows logs t next h there all ∙ ap (λ rs. map (told logs.inc t) rs ++ filter (is_of_thread t) h) none

-- and of those since its thread began anew
pub log-holds : (logs : Logs) (t now next : ℕ) (h : List Change) → IsThread logs t → first_of logs t ≢ now → All (λ c. IsThread logs c.thread × (c.inc ≡ logs.inc)) h → changes_of (log_file_of (with_changes (switched logs t now) h) t next) ≡ filter (is_of_thread t) h
log-holds logs t now next h there other all =
    let Before : Change → Type 0 = λ c. IsThread logs c.thread × (c.inc ≡ logs.inc) in
    let After : Change → Type 0 = λ c. IsThread (switched logs t now) c.thread × (c.inc ≡ (switched logs t now).inc) in
    log-fills (switched logs t now) t next h (IsThread-switched logs t t now there) (thread_records-switched logs t now there other)
    (All-weaker Before After (λ c is. (IsThread-switched logs t c.thread now is.0, is.1 ∙ sym (around-switched logs t now).inc)) h all)

pairs-map : {X Y : Type 0} (f : X → Y) (R : X → X → Type 0) (S : Y → Y → Type 0) → ((x y : X) → R x y → S (f x) (f y)) → (xs : List X) → AllPairs R xs → AllPairs S (map f xs)
pairs-map f R S g [] all = λ i j d less inside. absurd (omega arith)
pairs-map f R S g (x ∷ xs) all = λ i j d less inside.
    let long : length (map f (x ∷ xs)) ≡ length (x ∷ xs) = length-map (x ∷ xs) f in
    subst (λ u. S u (get_or (map f (x ∷ xs)) j d)) (sym (get_or-map f (x ∷ xs) i x d (omega arith)))
    (subst (λ v. S (f (get_or (x ∷ xs) i x)) v) (sym (get_or-map f (x ∷ xs) j x d (omega arith))) (g _ _ (all i j x less (omega arith))))

-- changes ascend as their records do
pub changes-ascend : (l : LogFile) → AllPairs IsBefore l.records → AllPairs ComesBefore (changes_of l)
changes-ascend l = pairs-map (told l.inc l.thread) IsBefore ComesBefore (λ r s before. before) l.records
