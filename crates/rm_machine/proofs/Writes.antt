-- A WRITE that was not refused.
use Rattle.std.{specs.Option.{option_map_or}, proofs.Common.{◌≡◌, ◌<◌, Option, Some, None, true, refl, length, rules}}
use Rattle.rm_base.specs.declared.refusal.{Refusal.TheVariants.{Rm05}, Absent.TheVariants.{File as AbsentFile}}
use Rattle.rm_base.proofs.Conditions.{not-none, only-where, unless}
use Rattle.rm_blocks.specs.File.{File}
use Rattle.rm_history.specs.{World.{exists, file_of}, declared.world.Datafile.{Datafile}}
use Rattle.rm_lang_statement.specs.declared.command.WriteForm.{WriteForm}
use Rattle.rm_redo.specs.Online.{IsThread, thread_records}
use Rattle.rm_catalog_typed.specs.Ledger.{ledger_records}
use Rattle.rm_machine.specs.{Marks.{marks_before}, State.{ledger, world, current_of, is_no_thread, now_of, on_path, placed}}
use Rattle.rm_machine.specs.{Sound.{IsSound}, Write.{block_refusal, write_refusal}, declared.state.State.{State}}
use Rattle.rm_machine.proofs.{Further.{GoesOn, roomy}, Threads.{thread-of}, Tracked.{on-path}}

pub record Accepted (s : State) (w : WriteForm) : Type 0 where
  pub on : GoesOn s
  pub thread : IsThread s.instance.logs w.thread
  pub datafile : Datafile
  pub is : file_of (world s) w.file ≡ Some datafile
  pub here : exists (world s) (current_of s) (now_of s) datafile ≡ true
  pub block : w.block < datafile.blocks
  pub file : File
  pub stands : placed s w.file ≡ Some file
  pub room : length (thread_records s.instance.logs w.thread) < 65536

found-by : (s : State) (w : WriteForm) (o : Option Datafile) → option_map_or (block_refusal s w) o (Some (Rm05 (AbsentFile w.file))) ≡ None → (d : Datafile) × (o ≡ Some d) × (block_refusal s w d ≡ None)
found-by s w None is = absurd (cc)
found-by s w (Some d) is = (d, refl, is)

pub write-accepted : (s : State) (w : WriteForm) → IsSound s → write_refusal s w ≡ None → Accepted s w
write-accepted s w sound is =
    let mode = only-where s.instance.is_open _ _ is in
    let threads = unless (is_no_thread s w.thread) _ _ mode.1 in
    let found = found-by s w (on_path s w.file) threads.1 in
    let d = found.0 in
    let rest : block_refusal s w d ≡ None = found.2 in
    let known = on-path s w.file d found.1 in
    let file = not-none (placed s w.file) (search rules) in
    record {
      on = record { opened = mode.0; room = roomy (length (marks_before s)) (length (ledger_records (ledger s))) (search rules) sound.catalog.ledger.few; below = search rules };
      thread = thread-of s w.thread threads.0;
      datafile = d;
      is = known.0;
      here = known.1;
      block = search rules;
      file = file.0;
      stands = file.1;
      room = search rules;
    }
