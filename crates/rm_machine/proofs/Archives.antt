-- Archiving threads one after another.
use Rattle.std.proofs.Common.{◌≡◌, ◌<◌, ◌≤◌, ◌+◌, ◌∙◌, ◌&&◌, nat_le, nat_lt, ℕ, zero, suc, None, Bool, true, false, cond, refl, ap, subst, arith, length}
use Rattle.std.proofs.lemmas.Bool.{and_right, le-ltb, leb-false, ltb-false}
use Rattle.rm_base.proofs.Conditions.{unless}
use Rattle.rm_catalog_typed.specs.Ledger.{ledger_records}
use Rattle.rm_redo.specs.Online.{sequence_of}
use Rattle.rm_machine.specs.Archive.{after_thread, after_threads, archiving_refusal, bytes_from, due_from, is_last_sequence}
use Rattle.rm_machine.specs.{Marks.{lacks_bytes, lacks_ids, lacks_room}, Sound.{IsSound}, State.{ledger, online}}
use Rattle.rm_machine.specs.{SwitchLogfile.{is_due, log_entry, with_archived}, declared.state.State.{State}}
use Rattle.rm_machine.proofs.{Switching.{CanArchive, due-parts, sound-after}, Further.{roomy}, NewObjects.{count-logged}}
use Rattle.rm_machine.proofs.Threads.{thread-in}

-- Room

-- n threads from t on can be archived, and so many records more fit
pub record HasRoom (s : State) (t n more : ℕ) : Type 0 where
  pub records : length (ledger_records (ledger s)) + due_from s t n + more ≤ 65536
  pub ids : s.catalog.ledger.base.next_id + due_from s t n + 68 ≤ 4294967295
  pub sequences : is_last_sequence s t n ≡ false

pub room-accepted : (s : State) (more : ℕ) → length (ledger_records (ledger s)) ≤ 65536 → archiving_refusal s more ≡ None → HasRoom s 1 4 more
room-accepted s more few is =
    let records = unless (lacks_room s (due_from s 1 4 + more)) _ _ is in
    let bytes = unless (lacks_bytes s (bytes_from s 1 4)) _ _ records.1 in
    let ids = unless (lacks_ids s (due_from s 1 4)) _ _ bytes.1 in
    record {
      records = omega (arith, roomy (due_from s 1 4 + more) (length (ledger_records (ledger s))) records.0 few);
      ids = ltb-false 4294967295 (s.catalog.ledger.base.next_id + due_from s 1 4 + 68) ids.0;
      sequences = (unless (is_last_sequence s 1 4) _ _ ids.1).0;
    }

pub room-one : (s : State) → length (ledger_records (ledger s)) + 1 ≤ 65536 → lacks_room s 1 ≡ false
room-one s room = and_right (nat_lt 0 1) (nat_lt 65536 (length (ledger_records (ledger s)) + 1)) (le-ltb 65536 (length (ledger_records (ledger s)) + 1) room)

neither : (b rest : Bool) → cond b true rest ≡ false → (b ≡ false) × (rest ≡ false)
neither true rest is = absurd (cc)
neither false rest is = (refl, is)

-- One thread

pub thread-either : (P : State → Type 0) (s : State) (t : ℕ) (b : Bool) → (b ≡ true → P (with_archived s t)) → (b ≡ false → P s) → P (cond b (with_archived s t) s)
thread-either P s t true there other = there refl
thread-either P s t false there other = other refl

-- what archiving leaves as it was
pub record Beside (s q : State) : Type 0 where
  pub tree : q.catalog.ledger.tree ≡ s.catalog.ledger.tree
  pub mode : q.instance.is_open ≡ s.instance.is_open
  pub point : q.instance.point ≡ s.instance.point
  pub saved : q.catalog.saved ≡ s.catalog.saved

beside-itself : (s : State) → Beside s s
beside-itself s = record { tree = refl; mode = refl; point = refl; saved = refl }

beside-on : (s q r : State) → Beside s q → Beside q r → Beside s r
beside-on s q r a b = record { tree = b.tree ∙ a.tree; mode = b.mode ∙ a.mode; point = b.point ∙ a.point; saved = b.saved ∙ a.saved }

pub beside-thread : (s : State) (t : ℕ) → Beside s (after_thread s t)
beside-thread s t = thread-either (Beside s) s t (is_due s t) (λ _. record { tree = refl; mode = refl; point = refl; saved = refl }) (λ _. beside-itself s)

pub can-thread : (s : State) (t n more : ℕ) → 0 < t → is_due s t ≡ true → HasRoom s t (suc n) more → CanArchive s t
can-thread s t n more low due room =
    let parts = due-parts s t due in
    let taken : Bool → ℕ = λ b. cond b 1 0 in
    let one : taken (is_due s t) ≡ taken true = ap taken due in
    let rest : ℕ = due_from (after_thread s t) (t + 1) n in
    let records : length (ledger_records (ledger s)) + (cond (is_due s t) 1 0 + rest) + more ≤ 65536 = room.records in
    let ids : s.catalog.ledger.base.next_id + (cond (is_due s t) 1 0 + rest) + 68 ≤ 4294967295 = room.ids in
    let last = subst (λ b. (b && nat_le 4294967295 (sequence_of s.instance.logs t)) ≡ false) due (neither (is_due s t && nat_le 4294967295 (sequence_of s.instance.logs t)) _ room.sequences).0 in
    record {
      roomy = room-one s (omega (arith, one, records));
      ids = omega (arith, one, ids);
      sequence = leb-false 4294967295 (sequence_of s.instance.logs t) last;
      there = thread-in s.instance.logs t low parts.there;
      found = parts.found;
      some = parts.some;
    }

-- how much was taken by a thread
pub record Took (s q : State) (n : ℕ) : Type 0 where
  pub records : length (ledger_records (ledger q)) ≡ length (ledger_records (ledger s)) + n
  pub ids : q.catalog.ledger.base.next_id ≡ s.catalog.ledger.base.next_id + n

pub took-thread : (s : State) (t : ℕ) (b : Bool) → Took s (cond b (with_archived s t) s) (cond b 1 0)
took-thread s t true = record { records = count-logged s (with_archived s t).instance (log_entry s.catalog.ledger.base.next_id (online s t)); ids = refl }
took-thread s t false = record { records = omega arith; ids = omega arith }

pub next-room : (s : State) (t n more : ℕ) → HasRoom s t (suc n) more → HasRoom (after_thread s t) (t + 1) n more
next-room s t n more room =
    let took : Took s (after_thread s t) (cond (is_due s t) 1 0) = took-thread s t (is_due s t) in
    let rest : ℕ = due_from (after_thread s t) (t + 1) n in
    let records : length (ledger_records (ledger s)) + (cond (is_due s t) 1 0 + rest) + more ≤ 65536 = room.records in
    let ids : s.catalog.ledger.base.next_id + (cond (is_due s t) 1 0 + rest) + 68 ≤ 4294967295 = room.ids in
    record {
      records = omega (arith, records, took.records);
      ids = omega (arith, ids, took.ids);
      sequences = (neither (is_due s t && nat_le 4294967295 (sequence_of s.instance.logs t)) _ room.sequences).1;
    }

pub sound-thread : (s : State) (t n more : ℕ) → IsSound s → 0 < t → HasRoom s t (suc n) more → IsSound (after_thread s t)
sound-thread s t n more sound low room =
    thread-either IsSound s t (is_due s t) (λ due. sound-after s t sound (can-thread s t n more low due room)) (λ _. sound)

-- the database after all of them
pub record AfterAll (s q : State) (more : ℕ) : Type 0 where
  pub sound : IsSound q
  pub beside : Beside s q
  pub room : length (ledger_records (ledger q)) + more ≤ 65536

pub threads-sound : (n t : ℕ) (s : State) (more : ℕ) → IsSound s → 0 < t → HasRoom s t n more → AfterAll s (after_threads s t n) more
threads-sound zero t s more sound low room = record { sound = sound; beside = beside-itself s; room = (let fits : length (ledger_records (ledger s)) + 0 + more ≤ 65536 = room.records in omega (arith, fits)) }
threads-sound (suc n) t s more sound low room =
    let q : State = after_thread s t in
    let beside = beside-thread s t in
    let rest = threads-sound n (t + 1) q more (sound-thread s t n more sound low room) (omega arith) (next-room s t n more room) in
    record { sound = rest.sound; beside = beside-on s q (after_threads q (t + 1) n) beside rest.beside; room = rest.room }
