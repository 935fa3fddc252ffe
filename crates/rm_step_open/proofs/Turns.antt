-- What threads have to archive: the archiving of those before changes nothing of it.
use Rattle.std.specs.Option.{option_map_or}
use Rattle.std.proofs.Common.{◌≡◌, ◌∙◌, ◌+◌, ◌-◌, ◌*◌, ◌<◌, ◌≤◌, ◌&&◌, not, nat_le, nat_lt, ℕ, zero, suc, Bool, true, false, cond, refl, ap, sym, arith, length, slice_get, []}
use Rattle.rm_history.specs.Tree.{end_of}
use Rattle.rm_redo.{specs.Online.{first_of, sequence_of}, proofs.Logs.{around-switched, other-switched}}
use Rattle.rm_machine.specs.{Archive.{after_thread, bytes_from, due_from, is_last_sequence}, DisableThread.{lacks_sequence}}
use Rattle.rm_machine.specs.{State.{is_online, redo_end}, SwitchLogfile.{is_due, log_bytes, with_archived}, declared.state.State.{State}}
use Rattle.rm_machine.proofs.Archives.{thread-either}

-- from thread t on the online logs of q are those of s
record AlikeFrom (s q : State) (t : ℕ) : Type 0 where
  pub end : redo_end q ≡ redo_end s
  pub each : (u : ℕ) → t ≤ u → slice_get q.instance.logs.threads (u - 1) ≡ slice_get s.instance.logs.threads (u - 1)

alike-itself : (s : State) (t : ℕ) → AlikeFrom s s t
alike-itself s t = record { end = refl; each = λ u later. refl }

alike-back : (s q : State) (t : ℕ) → AlikeFrom s q t → AlikeFrom q s t
alike-back s q t a = record { end = sym a.end; each = λ u later. sym (a.each u later) }

alike-on : (s q r : State) (t : ℕ) → AlikeFrom s q t → AlikeFrom q r t → AlikeFrom s r t
alike-on s q r t a b = record { end = b.end ∙ a.end; each = λ u later. b.each u later ∙ a.each u later }

alike-later : (s q : State) (t : ℕ) → AlikeFrom s q t → AlikeFrom s q (t + 1)
alike-later s q t a = record { end = a.end; each = λ u later. a.each u (omega (arith, later)) }

alike-archived : (s : State) (t : ℕ) → 0 < t → AlikeFrom s (with_archived s t) (t + 1)
alike-archived s t low = record {
  end = ap (end_of s.catalog.ledger.tree) (around-switched s.instance.logs t (redo_end s)).inc;
  each = λ u later. other-switched s.instance.logs t u (redo_end s) low (omega (arith, later)) (omega (arith, later));
}

alike-thread : (s : State) (t : ℕ) → 0 < t → AlikeFrom s (after_thread s t) (t + 1)
alike-thread s t low = thread-either (λ q. AlikeFrom s q (t + 1)) s t (is_due s t) (λ _. alike-archived s t low) (λ _. alike-itself s (t + 1))

alike-next : (s q : State) (t : ℕ) → 0 < t → AlikeFrom s q t → AlikeFrom (after_thread s t) (after_thread q t) (t + 1)
alike-next s q t low a =
    alike-on (after_thread s t) s (after_thread q t) (t + 1) (alike-back s (after_thread s t) (t + 1) (alike-thread s t low))
    (alike-on s q (after_thread q t) (t + 1) (alike-later s q t a) (alike-thread q t low))

-- the thread itself

due-alike : (s q : State) (t : ℕ) → AlikeFrom s q t → is_due q t ≡ is_due s t
due-alike s q t a =
    ap (λ o. option_map_or (λ l. l.is_there) o false && not (option_map_or (λ l. l.is_lost) o false) && nat_lt (option_map_or (λ l. l.first) o 0) (redo_end q)) (a.each t (omega arith))
    ∙ ap (λ e. is_online s.instance.logs t && nat_lt (first_of s.instance.logs t) e) a.end

bytes-alike : (s q : State) (t : ℕ) → AlikeFrom s q t → log_bytes q t ≡ log_bytes s t
bytes-alike s q t a = ap (λ o. 70 + 80 * length (option_map_or (λ l. l.records) o [])) (a.each t (omega arith))

sequence-alike : (s q : State) (t : ℕ) → AlikeFrom s q t → sequence_of q.instance.logs t ≡ sequence_of s.instance.logs t
sequence-alike s q t a = ap (λ o. option_map_or (λ l. l.sequence) o 0) (a.each t (omega arith))

-- and those after it

due_from-alike : (n t : ℕ) (s q : State) → 0 < t → AlikeFrom s q t → due_from q t n ≡ due_from s t n
due_from-alike zero t s q low a = refl
due_from-alike (suc n) t s q low a =
    λ i. cond (due-alike s q t a i) 1 0 + due_from-alike n (t + 1) (after_thread s t) (after_thread q t) (omega arith) (alike-next s q t low a) i

bytes_from-alike : (n t : ℕ) (s q : State) → 0 < t → AlikeFrom s q t → bytes_from q t n ≡ bytes_from s t n
bytes_from-alike zero t s q low a = refl
bytes_from-alike (suc n) t s q low a =
    λ i. cond (due-alike s q t a i) (bytes-alike s q t a i) 0 + bytes_from-alike n (t + 1) (after_thread s t) (after_thread q t) (omega arith) (alike-next s q t low a) i

last-alike : (n t : ℕ) (s q : State) → 0 < t → AlikeFrom s q t → is_last_sequence q t n ≡ is_last_sequence s t n
last-alike zero t s q low a = refl
last-alike (suc n) t s q low a =
    λ i. cond (due-alike s q t a i && nat_le 4294967295 (sequence-alike s q t a i)) true (last-alike n (t + 1) (after_thread s t) (after_thread q t) (omega arith) (alike-next s q t low a) i)

-- One turn of a loop over the threads: those that are left are counted in the same state

one-fewer : (t : ℕ) → 0 < t → t ≤ 4 → 5 - t ≡ suc (5 - (t + 1))
one-fewer t low high = omega (arith, low, high)

pub due-turn : (s : State) (t old total : ℕ) → 0 < t → t ≤ 4 → old + due_from s t (5 - t) ≡ total → old + cond (is_due s t) 1 0 + due_from s (t + 1) (5 - (t + 1)) ≡ total
due-turn s t old total low high was =
    let later = due_from-alike (5 - (t + 1)) (t + 1) s (after_thread s t) (omega arith) (alike-thread s t low) in
    omega (arith, was, ap (due_from s t) (one-fewer t low high), later)

pub bytes-turn : (s : State) (t old total : ℕ) → 0 < t → t ≤ 4 → old + bytes_from s t (5 - t) ≡ total → old + cond (is_due s t) (log_bytes s t) 0 + bytes_from s (t + 1) (5 - (t + 1)) ≡ total
bytes-turn s t old total low high was =
    let later = bytes_from-alike (5 - (t + 1)) (t + 1) s (after_thread s t) (omega arith) (alike-thread s t low) in
    omega (arith, was, ap (bytes_from s t) (one-fewer t low high), later)

pub last-turn : (s : State) (t : ℕ) (total b : Bool) → 0 < t → t ≤ 4 → lacks_sequence s t ≡ b → is_last_sequence s t (5 - t) ≡ total → cond b true (is_last_sequence s (t + 1) (5 - (t + 1))) ≡ total
last-turn s t total b low high is was =
    (λ i. cond (sym is i) true (sym (last-alike (5 - (t + 1)) (t + 1) s (after_thread s t) (omega arith) (alike-thread s t low)) i)) ∙ sym (ap (is_last_sequence s t) (one-fewer t low high)) ∙ was
