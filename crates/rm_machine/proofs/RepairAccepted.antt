-- A BLOCKRECOVER that was not refused.
use Rattle.std.{specs.Option.{option_and_then}, proofs.Common.{◌≡◌, ◌≤◌, ◌+◌, None, true, nat_lt, arith, length, rules, All}}
use Rattle.std.proofs.lemmas.Bool.{ltb-false}
use Rattle.rm_base.specs.{Numbers.{last_scn}, declared.refusal.Refusal.TheVariants.{Rm05, Rm09, Rm17}}
use Rattle.rm_base.proofs.Conditions.{only-where, unless}
use Rattle.rm_catalog_typed.specs.Ledger.{ledger_records}
use Rattle.rm_redo.specs.Online.{thread_records as log_records}
use Rattle.rm_lang_statement.specs.declared.command.{RepairForm.{RepairForm}, WriteForm.{WriteForm}}
use Rattle.rm_machine.specs.{Asked.{asked, by_thread}, BackupRefusal.{absent_of, damaged_write, lacks_logs, lost_of, marks_for}}
use Rattle.rm_machine.specs.BlockRecoverRefusal.{absent_named, lost_named, repair_refusal, repair_room_refusal}
use Rattle.rm_machine.specs.{Marks.{lacks_ids, lacks_room}, Sound.{IsSound}, State.{ledger, now_of}, declared.state.State.{State}}
use Rattle.rm_machine.proofs.{BackupAccepted.{CanBeWritten, logs-have, unless-some, writes-can}, Further.{roomy}, WritersRoom.{LogsHave}}

pub record CanRepair (s : State) (form : RepairForm) : Type 0 where
  pub opened : s.instance.is_open ≡ true
  pub records : length (ledger_records (ledger s)) + marks_for s form.during ≤ 65536
  pub ids : (ledger s).base.next_id + 68 ≤ 4294967295
  pub writes : All (CanBeWritten s) (asked form.during)
  pub logs : LogsHave s (asked form.during)
  pub scns : now_of s + length (asked form.during) ≤ last_scn
  pub clean : damaged_write s (asked form.during) ≡ None

pub can-repair : (s : State) (form : RepairForm) → IsSound s → repair_refusal s form ≡ None → CanRepair s form
can-repair s form sound is =
    let ws = asked form.during in
    let mode = only-where s.instance.is_open _ _ is in
    let known = unless-some (λ a. Rm05 a) (option_and_then (absent_named s) form.blocks) _ mode.1 in
    let names = unless-some (λ a. Rm05 a) (absent_of s ws) _ known.1 in
    let found = unless-some (λ f. Rm09 f) (option_and_then (lost_named s) form.blocks) _ names.1 in
    let held = unless-some (λ f. Rm09 f) (lost_of s ws) _ found.1 in
    let rest : repair_room_refusal s form ≡ None = held.1 in
    let records = unless (lacks_room s (marks_for s form.during)) _ _ rest in
    let ids = unless (lacks_ids s 0) _ _ records.1 in
    let logs = unless (lacks_logs s ws 1 4) _ _ ids.1 in
    record {
      opened = mode.0;
      records = roomy (marks_for s form.during) (length (ledger_records (ledger s))) records.0 sound.catalog.ledger.few;
      ids = search rules;
      writes = writes-can s ws names.0 held.0;
      logs = λ t low high. ltb-false 65536 (length (log_records s.instance.logs t) + length (by_thread t ws)) (logs-have s ws 1 4 logs.0 t (omega (arith, low)) (omega (arith, high)));
      scns = search rules;
      clean = (unless-some (λ (w : WriteForm). Rm17 w.file w.block) (damaged_write s ws) _ (unless (nat_lt last_scn (now_of s + length ws)) _ _ logs.1).1).0;
    }
