-- The lists of the threads' writes, and the lines of their SCNs, one after another.
use Rattle.std.specs.Global.{Global}
use Rattle.std.proofs.Common.{◌≡◌, ◌<◌, ◌≤◌, ◌+◌, ◌∙◌, ◌++◌, ℕ, zero, suc, List, [], ◌∷◌, Vec, refl, ap, sym, arith, append_assoc, drop-cons, drop, get_or, length, map}
use Rattle.std.proofs.lemmas.List.{get_or-map, length-map, map_push}
use Rattle.rm_channel.specs.{Jobs.{lists}, declared.jobs.WriteJob.{WriteJob}}
use Rattle.rm_lang_statement.specs.declared.command.WriteForm.{WriteForm}
use Rattle.rm_report.specs.declared.line.Line.{Line, TheVariants.{ThreadScn}}
use Rattle.rm_machine.specs.{Asked.{by_thread, lists_from}, BackupOutcome.{write_lines}}

lists-last : (t n : ℕ) (ws : List WriteForm) → lists_from t (suc n) ws ≡ lists_from t n ws ++ by_thread (t + n) ws ∷ []
lists-last t zero ws = let same : t ≡ t + 0 = omega arith in ap (λ k. by_thread k ws ∷ []) same
lists-last t (suc n) ws =
    let same : suc t + n ≡ t + suc n = omega arith in
    ap (λ xs. by_thread t ws ∷ xs) (lists-last (suc t) n ws)
    ∙ ap (λ k. by_thread t ws ∷ (lists_from (suc t) n ws ++ by_thread k ws ∷ [])) same

-- the lists of n threads, and that of the next one
pub lists-next : (n : ℕ) (ws : List WriteForm) (vs : List (Vec WriteJob Global)) (v : Vec WriteJob Global) → lists vs ≡ lists_from 1 n ws → v.items ≡ by_thread (n + 1) ws → lists (vs ++ v ∷ []) ≡ lists_from 1 (n + 1) ws
lists-next n ws vs v before one =
    let next : 1 + n ≡ n + 1 = omega arith in
    let more : suc n ≡ n + 1 = omega arith in
    map_push (λ (u : Vec WriteJob Global). u.items) vs v
    ∙ (λ i. before i ++ (one ∙ ap (λ k. by_thread k ws) (sym next)) i ∷ [])
    ∙ sym (lists-last 1 n ws) ∙ ap (λ k. lists_from 1 k ws) more

-- as many as there are threads
pub lists-many : (t n : ℕ) (ws : List WriteForm) → length (lists_from t n ws) ≡ n
lists-many t zero ws = refl
lists-many t (suc n) ws = ap (λ k. suc k) (lists-many (suc t) n ws)

-- no more than four
pub lists-few : (n : ℕ) (ws : List WriteForm) (vs : List (Vec WriteJob Global)) → n ≤ 4 → lists vs ≡ lists_from 1 n ws → length vs ≤ 4
lists-few n ws vs few is = omega (arith, few, length-map vs (λ v. v.items), ap (λ (js : List (List WriteJob)). length js) is, lists-many 1 n ws)

-- The SCNs of the writes

-- the lists from place k on
pub lists-at : {X : Type 0} (vs : List (Vec X Global)) (k : ℕ) (d : Vec X Global) → k < length vs → drop k (lists vs) ≡ (get_or vs k d).items ∷ drop (k + 1) (lists vs)
lists-at vs k d inside =
    let next : suc k ≡ k + 1 = omega arith in
    let long = length-map vs (λ v. v.items) in
    drop-cons (lists vs) k d.items (omega (arith, long, inside))
    ∙ ap (λ xs. xs ∷ drop (suc k) (lists vs)) (get_or-map (λ v. v.items) vs k d d.items inside)
    ∙ ap (λ n. (get_or vs k d).items ∷ drop n (lists vs)) next

-- those of one thread more are told
pub told-next : (scns : List (Vec ℕ Global)) (k : ℕ) (d : Vec ℕ Global) (before lines : List Line) → k < length scns
    → before ++ write_lines (1 + k) (drop k (lists scns)) ≡ lines
    → (before ++ map (ThreadScn (k + 1)) (get_or scns k d).items) ++ write_lines (1 + (k + 1)) (drop (k + 1) (lists scns)) ≡ lines
told-next scns k d before lines inside was =
    let rest = drop (k + 1) (lists scns) in
    let thread : k + 1 ≡ 1 + k = omega arith in
    let next : 1 + (k + 1) ≡ suc (1 + k) = omega arith in
    append_assoc before (map (ThreadScn (k + 1)) (get_or scns k d).items) (write_lines (1 + (k + 1)) rest)
    ∙ (λ i. before ++ (map (ThreadScn (thread i)) (get_or scns k d).items ++ write_lines (next i) rest))
    ∙ ap (λ ls. before ++ write_lines (1 + k) ls) (sym (lists-at scns k d inside)) ∙ was
