-- The datafile of the small database is there behind two calls, and its logs have room.
use Rattle.std.specs.{Global.{Global}, Option.{option_map_or}}
use Rattle.std.proofs.Common.{◌≡◌, ℕ, zero, suc, ◌+◌, ◌-◌, ◌<◌, ◌≤◌, true, false, Option, Some, IsSome, Vec, List, [], ◌∷◌, length, replicate, slice_get, get_or, All, refl, sym, ap, ◌∙◌, subst, arith}
use Rattle.std.proofs.lemmas.List.{length-map, Elements.{All-head, All-tail}}
use Rattle.rm_base.specs.declared.block.Row.{Row}
use Rattle.rm_blocks.{specs.File.{created_rows}, proofs.Rows.{length-created}}
use Rattle.rm_redo.specs.Online.{IsLost, IsThread, fresh_log, fresh_logs, thread_records}
use Rattle.rm_redo.specs.declared.online.ThreadLog.{ThreadLog}
use Rattle.rm_live.specs.{Parts.{Parts}, Passes.{IsLater, Standing}, Ruled.{total}}
use Rattle.rm_channel.specs.{Jobs.{lists}, Room.{AreThreads, CanWrite, HasBlock, HaveRoom, IsThere}, declared.jobs.CopyJob.{CopyJob}}
use Rattle.rm_channel.{specs.declared.jobs.WriteJob.{WriteJob}, proofs.There.{created-there}}
use Rattle.rm_test_channel.specs.Small.{AreWrites, IsOfFile, opening}

pub there-later : (p q r : Standing) (j : CopyJob) (blocks : ℕ) → p.opening ≡ opening blocks → IsLater p q → IsLater q r → IsOfFile blocks j → IsThere r.opening.files j
there-later p q r j blocks is one two of =
    created-there r.opening.files j blocks (ap (λ (s : Standing). s.opening.files) (two ∙ (λ i. record (one i) { seen = r.seen })) ∙ ap (λ (o : Parts). o.files) is) of.file of.size of.wanted

-- each thread is there, and its log is as it began
log-at : (P : Option ThreadLog → Type 0) (l : ThreadLog) (n k : ℕ) → k < n → P (Some l) → P (slice_get (replicate n l) k)
log-at P l zero k low some = absurd (omega arith)
log-at P l (suc n) zero low some = some
log-at P l (suc n) (suc k) low some = log-at P l n k (omega arith) some

is-thread : (t : ℕ) → 1 ≤ t → t ≤ 4 → IsThread (fresh_logs 7 1 4 1) t
is-thread t first few =
    (first, few, log-at (λ o. option_map_or (λ (l : ThreadLog). l.is_there) o false ≡ true) (fresh_log 1) 4 (t - 1) (omega arith) refl)

kept : (t : ℕ) → 1 ≤ t → t ≤ 4 → ¬ IsLost (fresh_logs 7 1 4 1) t
kept t first few = log-at (λ o. ¬ (option_map_or (λ (l : ThreadLog). l.is_lost) o false ≡ true)) (fresh_log 1) 4 (t - 1) (omega arith) (λ e. absurd (cc e))

no_record : (t : ℕ) → 1 ≤ t → t ≤ 4 → length (thread_records (fresh_logs 7 1 4 1) t) ≡ 0
no_record t first few = log-at (λ o. length (option_map_or (λ (l : ThreadLog). l.records) o []) ≡ 0) (fresh_log 1) 4 (t - 1) (omega arith) refl

threads-from : (t : ℕ) (ws : List (List WriteJob)) → 1 ≤ t → t + length ws ≤ 5 → AreThreads (fresh_logs 7 1 4 1) t ws
threads-from t [] first few = tt
threads-from t (w ∷ ws) first few =
    let low : t ≤ 4 = omega arith in
    (λ some. (is-thread t first low, kept t first low), threads-from (suc t) ws (omega arith) (omega arith))

few-lists : (vs : List (Vec WriteJob Global)) → length vs ≤ 4 → 1 + length (lists vs) ≤ 5
few-lists vs few = let e = length-map vs (λ (v : Vec WriteJob Global). v.items) in omega arith

pub threads-as : (o : Parts) (blocks : ℕ) (vs : List (Vec WriteJob Global)) → o ≡ opening blocks → length vs ≤ 4 → AreThreads o.logs 1 (lists vs)
threads-as o blocks vs is few = subst (λ (p : Parts). AreThreads p.logs 1 (lists vs)) (sym is) (threads-from 1 (lists vs) (omega arith) (few-lists vs few))

room-from : (t : ℕ) (ws : List (List WriteJob)) → 1 ≤ t → t + length ws ≤ 5 → All AreWrites ws → HaveRoom (fresh_logs 7 1 4 1) t ws
room-from t [] first few are = tt
room-from t (w ∷ ws) first few are =
    (let e = no_record t first (omega arith) in let le = (All-head AreWrites w ws are).1 in omega arith, room-from (suc t) ws (omega arith) (omega arith) (All-tail AreWrites w ws are))

total-from : (ws : List (List WriteJob)) → All AreWrites ws → total length ws ≤ length ws + length ws + length ws
total-from [] are = omega arith
total-from (w ∷ ws) are = let h = total-from ws (All-tail AreWrites w ws are) in let le = (All-head AreWrites w ws are).1 in omega arith

has-block : (blocks : ℕ) (w : WriteJob) → 1 ≤ blocks → (w.file ≡ 1) × (w.block ≡ 0) → HasBlock (opening blocks).files w
has-block blocks w some is = rw (is.0, is.1) (first-there (created_rows 1 blocks) (let e = length-created 1 blocks in omega arith))
  where
    first-there : (rows : List Row) → 0 < length rows → IsSome (slice_get rows 0)
    first-there [] lt = absurd (omega arith)
    first-there (r ∷ rows) lt = refl

can-write : (blocks : ℕ) (ws : List (List WriteJob)) → 1 ≤ blocks → 1 + length ws ≤ 5 → All AreWrites ws → CanWrite (opening blocks) ws
can-write blocks ws some few are = record {
  blocks = λ k d lt m e le. has-block blocks (get_or (get_or ws k d) m e) some ((are k d lt).0 m e le);
  logs = room-from 1 ws (omega arith) few are;
  scns = let h = total-from ws are in omega arith;
}

pub can-write-as : (o : Parts) (blocks : ℕ) (vs : List (Vec WriteJob Global)) → o ≡ opening blocks → 1 ≤ blocks → length vs ≤ 4 → All AreWrites (lists vs) → CanWrite o (lists vs)
can-write-as o blocks vs is some few are = subst (λ (p : Parts). CanWrite p (lists vs)) (sym is) (can-write blocks (lists vs) some (few-lists vs few) are)
