-- A BACKUP that was not refused.
use Rattle.std.specs.Option.{option_map_or}
use Rattle.std.proofs.Common.{◌≡◌, ◌<◌, ◌≤◌, ◌+◌, inl, inr, ℕ, zero, suc, List, [], ◌∷◌, Option, Some, None, true, false, cond, is_none, nat_le, nat_lt, refl, subst, arith, length, sum_by, All, rules}
use Rattle.std.proofs.lemmas.{Bool.{cases_eq, leb-false, ltb-false, or_parts}, List.Elements.{All-cons, All-nil}}
use Rattle.rm_base.specs.{Numbers.{last_scn}, declared.refusal.Absent.{Absent, TheVariants.{Thread, File as AbsentFile, Block}}}
use Rattle.rm_base.specs.declared.refusal.{Refusal.{Refusal}, Limit.TheVariants.{Bytes, LogRecords, ObjectIds, Records}}
use Rattle.rm_base.{specs.declared.refusal.Refusal.TheVariants.{Rm05, Rm09, Rm11, Rm15}, proofs.Conditions.{not-none, only-where, unless}}
use Rattle.rm_blocks.specs.File.{File}
use Rattle.rm_history.specs.{World.{exists, file_of}, declared.world.Datafile.{Datafile}}
use Rattle.rm_catalog_typed.specs.Ledger.{ledger_records}
use Rattle.rm_redo.specs.Online.{IsThread, thread_records as log_records}
use Rattle.rm_lang_statement.specs.declared.command.{BackupForm.{BackupForm}, WriteForm.{WriteForm}}
use Rattle.rm_machine.specs.Backup.{absent, lost_taken, object_bytes, objects_of, taken as taken_by}
use Rattle.rm_machine.specs.{Marks.{lacks_bytes, lacks_ids, lacks_room}, Sound.{IsSound}}
use Rattle.rm_machine.specs.{State.{ledger, world, current_of, is_no_thread, now_of, on_path, placed}, Asked.{by_thread, writes_in}}
use Rattle.rm_machine.specs.BackupRefusal.{absent_in, absent_of, backup_refusal, damage_refusal, lacks_log, lacks_logs, lost_of, mark_count, room_refusal}
use Rattle.rm_machine.{specs.declared.state.State.{State}, proofs.{Backups.{IsTaken, taken-all}, Further.{roomy}, Tracked.{on-path}}}
use Rattle.rm_machine.proofs.Threads.{thread-of}

-- a write finds its thread, its block, and its datafile in place
pub record CanBeWritten (s : State) (w : WriteForm) : Type 0 where
  pub thread : IsThread s.instance.logs w.thread
  pub datafile : Datafile
  pub is : file_of (world s) w.file ≡ Some datafile
  pub here : exists (world s) (current_of s) (now_of s) datafile ≡ true
  pub block : w.block < datafile.blocks
  pub file : File
  pub stands : placed s w.file ≡ Some file

pub record CanBackUp (s : State) (b : BackupForm) : Type 0 where
  pub opened : s.instance.is_open ≡ true
  pub taken : All (IsTaken s) (taken_by s b)
  pub records : length (ledger_records (ledger s)) + (length (objects_of s b) + mark_count s b) ≤ 65536
  pub ids : (ledger s).base.next_id + length (objects_of s b) + 68 ≤ 4294967295
  pub writes : All (CanBeWritten s) (writes_in b)
  pub logs : (t : ℕ) → 0 < t → t ≤ 4 → length (log_records s.instance.logs t) + length (by_thread t (writes_in b)) ≤ 65536
  pub scns : now_of s + length (writes_in b) ≤ last_scn
  pub clean : damage_refusal s b ≡ None

-- What a write names

-- its thread, its datafile and its block are there; the datafile may be lost
pub record IsNamed (s : State) (w : WriteForm) : Type 0 where
  pub thread : IsThread s.instance.logs w.thread
  pub datafile : Datafile
  pub is : file_of (world s) w.file ≡ Some datafile
  pub here : exists (world s) (current_of s) (now_of s) datafile ≡ true
  pub block : w.block < datafile.blocks

-- what a write names besides its thread
abbrev beside_thread : WriteForm → Option Datafile → Option Absent
beside_thread w o = option_map_or (λ (d : Datafile). cond (nat_le d.blocks w.block) (Some (Block w.block w.file)) None) o (Some (AbsentFile w.file))

block-there : (w : WriteForm) (o : Option Datafile) → beside_thread w o ≡ None → (d : Datafile) × (o ≡ Some d) × (w.block < d.blocks)
block-there w None is = absurd (let e : Some (AbsentFile w.file) ≡ None = is in cc)
block-there w (Some d) is = (d, refl, leb-false d.blocks w.block (unless (nat_le d.blocks w.block) (Block w.block w.file) None is).0)

named : (s : State) (w : WriteForm) → absent_in s w ≡ None → IsNamed s w
named s w is =
    let threads = unless (is_no_thread s w.thread) (Thread w.thread) (beside_thread w (on_path s w.file)) is in
    let found = block-there w (on_path s w.file) threads.1 in
    let known = on-path s w.file found.0 found.1 in
    record { thread = thread-of s w.thread threads.0; datafile = found.0; is = known.0; here = known.1; block = found.2 }

first-none : (o rest : Option Absent) → option_map_or Some o rest ≡ None → (o ≡ None) × (rest ≡ None)
first-none None rest is = (refl, is)
first-none (Some a) rest is = absurd (let e : Some a ≡ None = is in cc)

pub named-all : (s : State) (ws : List WriteForm) → absent_of s ws ≡ None → All (IsNamed s) ws
named-all s [] is = All-nil (IsNamed s)
named-all s (w ∷ ws) is =
    let both = first-none (absent_in s w) (absent_of s ws) is in
    All-cons (IsNamed s) w ws (named s w both.0) (named-all s ws both.1)

with-file : (s : State) (w : WriteForm) → IsNamed s w → is_none (placed s w.file) ≡ false → CanBeWritten s w
with-file s w is found =
    let file = not-none (placed s w.file) found in
    record { thread = is.thread; datafile = is.datafile; is = is.is; here = is.here; block = is.block; file = file.0; stands = file.1 }

pub writes-can : (s : State) (ws : List WriteForm) → absent_of s ws ≡ None → lost_of s ws ≡ None → All (CanBeWritten s) ws
writes-can s [] there found = All-nil (CanBeWritten s)
writes-can s (w ∷ ws) there found =
    let first = first-none (absent_in s w) (absent_of s ws) there in
    let stands = unless (is_none (placed s w.file)) w.file (lost_of s ws) found in
    All-cons (CanBeWritten s) w ws (with-file s w (named s w first.0) stands.0) (writes-can s ws first.1 stands.1)

-- The room

-- if none of some logs lacks room, each of them has it
pub logs-have : (s : State) (ws : List WriteForm) (t n : ℕ) → lacks_logs s ws t n ≡ false → (u : ℕ) → t ≤ u → u < t + n → lacks_log s ws u ≡ false
logs-have s ws t zero none u low high = absurd (omega (arith, low, high))
logs-have s ws t (suc n) none u low high =
    let both = or_parts (lacks_log s ws t) (lacks_logs s ws (suc t) n) none in
    elim (cases_eq t u) [
      | inl same ↦ subst (λ k. lacks_log s ws k ≡ false) same both.0
      | inr other ↦ logs-have s ws (suc t) n both.1 u (omega (arith, low, other)) (omega (arith, high))
    ]

-- Why it was not refused

pub unless-some : {X : Type 0} (r : X → Refusal) (o : Option X) (other : Option Refusal) → option_map_or (λ x. Some (r x)) o other ≡ None → (o ≡ None) × (other ≡ None)
unless-some r None other is = (refl, is)
unless-some r (Some x) other is = absurd (let e : Some (r x) ≡ None = is in cc)

pub can-back_up : (s : State) (b : BackupForm) → IsSound s → backup_refusal s b ≡ None → CanBackUp s b
can-back_up s b sound is =
    let ws = writes_in b in
    let mode = only-where s.instance.is_open _ _ is in
    let known = unless-some (λ f. Rm05 (AbsentFile f)) (absent s b) _ mode.1 in
    let names = unless-some (λ a. Rm05 a) (absent_of s ws) _ known.1 in
    let found = unless-some (λ f. Rm09 f) (lost_taken s b) _ names.1 in
    let held = unless-some (λ f. Rm09 f) (lost_of s ws) _ found.1 in
    let rest : room_refusal s b ≡ None = held.1 in
    let more = unless (lacks_room s (length (objects_of s b) + mark_count s b)) (Rm11 Records) _ rest in
    let bytes = unless (lacks_bytes s (sum_by (object_bytes s b) (objects_of s b))) (Rm11 Bytes) _ more.1 in
    let numbers = unless (lacks_ids s (length (objects_of s b))) (Rm11 ObjectIds) _ bytes.1 in
    let kept = unless (lacks_logs s ws 1 4) (Rm11 LogRecords) _ numbers.1 in
    let clean : damage_refusal s b ≡ None = (unless (nat_lt last_scn (now_of s + length ws)) Rm15 _ kept.1).1 in
    record {
      opened = mode.0;
      taken = taken-all s b found.0;
      records = roomy (length (objects_of s b) + mark_count s b) (length (ledger_records (ledger s))) (search rules) sound.catalog.ledger.few;
      ids = search rules;
      writes = writes-can s ws names.0 held.0;
      logs = λ t low high. ltb-false 65536 (length (log_records s.instance.logs t) + length (by_thread t ws)) (logs-have s ws 1 4 (search rules) t (omega (arith, low)) (omega (arith, high)));
      scns = search rules;
      clean = clean;
    }
