-- ENABLE THREAD: the switch fits, and the database stays sound.
use Rattle.std.proofs.Common.{◌≡◌, ◌+◌, ℕ, None, true, refl, arith, length, rules}
use Rattle.rm_catalog_typed.{specs.{Fitting.{FitsSwitch}, Ledger.{ledger_records}, Switches.{next_sequence}}, proofs.InTurn.{next-small}}
use Rattle.rm_machine.specs.{EnableThread.{enable_refusal, switch_on, with_thread_on}, Marks.{marks_before, one_further}, Sound.{IsSound}}
use Rattle.rm_machine.{specs.{State.{ledger}, declared.state.State.{State}}, proofs.{Further.{roomy}, Threads.{number-within}}}
use Rattle.rm_machine.proofs.ThreadSwitches.{CanSwitch, sound-switched, switch-fits}

-- what was not refused
pub can-enable : (s : State) (t : ℕ) → IsSound s → enable_refusal s t ≡ None → CanSwitch s t true (next_sequence (ledger s) t)
can-enable s t sound is =
    let room = roomy (length (marks_before s) + 1) (length (ledger_records (ledger s))) (search rules) sound.catalog.ledger.few in
    record {
      goes = record { opened = search rules; room = omega (arith, room); below = search rules };
      room = room;
      thread = number-within 4 t (search rules);
      changes = search rules;
      leaves = refl;
      sequence = next-small (ledger s) t sound.catalog.ledger;
    }

module _ (s : State) (t : ℕ) (sound : IsSound s) (is : enable_refusal s t ≡ None) where
  pub enabling-fits : FitsSwitch (one_further s) (switch_on s t)
  enabling-fits = switch-fits s t true (next_sequence (ledger s) t) sound (can-enable s t sound is)

  pub sound-enabled : IsSound (with_thread_on s t)
  sound-enabled = sound-switched s t true (next_sequence (ledger s) t) sound (can-enable s t sound is)
