-- Where there is space for a log more.
use Rattle.std.proofs.Common.{◌≡◌, ◌∙◌, ◌<◌, ◌+◌, ◌&&◌, nat_lt, inl, inr, ℕ, suc, Option, None, Some, true, false, cond, arith, length}
use Rattle.std.proofs.lemmas.Bool.{and_left, and_right, cond-false, le-ltb}
use Rattle.rm_base.specs.declared.refusal.{Refusal.{Refusal, TheVariants.{Rm11}}, Limit.TheVariants.{Records, Bytes, ObjectIds, Sequences}}
use Rattle.rm_base.proofs.Conditions.{unless}
use Rattle.rm_catalog_typed.specs.Ledger.{ledger_records}
use Rattle.rm_redo.specs.Online.{IsThread}
use Rattle.rm_machine.specs.Archive.{archiving_refusal, bytes_from, due_from, is_last_sequence}
use Rattle.rm_machine.specs.{Marks.{lacks_bytes, lacks_ids, lacks_room}, State.{ledger}, SwitchLogfile.{is_due}}
use Rattle.rm_machine.{specs.declared.state.State.{State}, proofs.Archives.{HasRoom, can-thread, room-one}}
use Rattle.rm_machine.proofs.{Switching.{CanArchive, due-parts}, Further.{roomy-either}}
use Rattle.rm_step_open.specs.Space.{HasSpace}

pub space-can : (s : State) (t : ℕ) → CanArchive s t → HasSpace s t
space-can s t can = record {
  records = elim (roomy-either 1 (length (ledger_records (ledger s)) + 1) can.roomy) [ inl none ↦ absurd (omega (arith, none)) | inr room ↦ room ];
  ids = can.ids;
  sequence = can.sequence;
}

pub can-space : (s : State) (t : ℕ) → IsThread s.instance.logs t → is_due s t ≡ true → HasSpace s t → CanArchive s t
can-space s t there due space =
    let parts = due-parts s t due in
    record {
      roomy = room-one s space.records;
      ids = space.ids;
      sequence = space.sequence;
      there = there;
      found = parts.found;
      some = parts.some;
    }

-- for the first of several threads
pub space-first : (s : State) (t n more : ℕ) → 0 < t → HasRoom s t (suc n) more → is_due s t ≡ true → HasSpace s t
space-first s t n more low room due = space-can s t (can-thread s t n more low due room)

fewer : (count due more : ℕ) → (nat_lt 0 (due + more) && nat_lt 65536 (count + (due + more))) ≡ false → (nat_lt 0 (due + 0) && nat_lt 65536 (count + (due + 0))) ≡ false
fewer count due more is = elim (roomy-either (due + more) (count + (due + more)) is) [
  | inl none ↦ and_left (nat_lt 0 (due + 0)) (nat_lt 65536 (count + (due + 0))) (le-ltb 0 (due + 0) (omega (arith, none)))
  | inr room ↦ and_right (nat_lt 0 (due + 0)) (nat_lt 65536 (count + (due + 0))) (le-ltb 65536 (count + (due + 0)) (omega (arith, room)))
]

-- what is accepted beside some records is accepted alone
pub accepted-alone : (s : State) (more : ℕ) → archiving_refusal s more ≡ None → archiving_refusal s 0 ≡ None
accepted-alone s more is =
    let due = due_from s 1 4 in
    let last : Option Refusal = cond (is_last_sequence s 1 4) (Some (Rm11 Sequences)) None in
    let ids : Option Refusal = cond (lacks_ids s due) (Some (Rm11 ObjectIds)) last in
    let bytes : Option Refusal = cond (lacks_bytes s (bytes_from s 1 4)) (Some (Rm11 Bytes)) ids in
    let room = unless (lacks_room s (due + more)) (Rm11 Records) bytes is in
    cond-false (lacks_room s (due + 0)) (Some (Rm11 Records)) bytes (fewer (length (ledger_records (ledger s))) due more room.0) ∙ room.1
