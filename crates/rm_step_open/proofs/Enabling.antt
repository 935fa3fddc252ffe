-- ENABLE THREAD: what its steps want, and the state that they leave.
use Rattle.std.proofs.Common.{◌≡◌, ◌∙◌, ◌≤◌, ℕ, None, true, false, sym, arith}
use Rattle.rm_base.specs.Numbers.{last_scn}
use Rattle.rm_catalog_typed.specs.{Changes.{with_switch}, TypedCatalog.{TypedCatalog}, declared.thread_switch.ThreadSwitch.{ThreadSwitch}}
use Rattle.rm_redo.specs.{Logs.{Logs}, Online.{IsThread, with_enabled}}
use Rattle.rm_machine.specs.{EnableThread.{enable_refusal, switch_on, with_thread_on}, Marks.{one_further}, Sound.{IsSound}}
use Rattle.rm_machine.{specs.{State.{current_of}, declared.state.{Instance.{Instance}, State.{State}}}, proofs.Enabling.{can-enable}}

-- an empty log of the thread can begin where the switch says
pub record CanBegin (logs : Logs) (t : ℕ) (x : ThreadSwitch) : Type 0 where
  pub number : (1 ≤ t) × (t ≤ 4)
  pub thread : ¬ IsThread logs t
  pub now : (1 ≤ x.scn) × (x.scn ≤ last_scn)
  pub sequence : 1 ≤ x.sequence

begins : (s : State) (t : ℕ) → IsSound s → enable_refusal s t ≡ None → CanBegin s.instance.logs t (switch_on s t)
begins s t sound is =
    let can = can-enable s t sound is in
    let range = sound.catalog.ledger.incarnations.ranges (current_of s) sound.catalog.ledger.current in
    record {
      number = can.thread;
      thread = λ there. (let clash : true ≡ false = sym there.2 ∙ can.changes in cc);
      now = (omega (arith, range.0, range.1), omega (arith, can.goes.below));
      sequence = can.sequence.0;
    }

-- also one SCN further
pub can-begin : (s p : State) (t : ℕ) (x : ThreadSwitch) → IsSound s → enable_refusal s t ≡ None → x ≡ switch_on s t → p.instance ≡ s.instance → CanBegin p.instance.logs t x
can-begin s p t x sound is made same = coe 1 0 (i. CanBegin (same i).logs t (made i)) (begins s t sound is)

abbrev enabled : TypedCatalog → Instance → ℕ → ThreadSwitch → State
enabled r i t x = record { catalog = with_switch r x; instance = record i { logs = with_enabled i.logs t x.scn x.sequence } }

-- p is one SCN further than s, and then the switch goes to the catalog, and an empty log to the logs
pub after-enable : (s p : State) (t : ℕ) (x : ThreadSwitch) (catalog : TypedCatalog) (logs : Logs)
    → x ≡ switch_on s t → p.catalog ≡ one_further s → p.instance ≡ s.instance → catalog ≡ with_switch p.catalog x → logs ≡ with_enabled p.instance.logs t x.scn x.sequence
    → record { catalog = catalog; instance = record p.instance { logs = logs } } ≡ with_thread_on s t
after-enable s p t x catalog logs made went same grew begun =
    let parts : record { catalog = catalog; instance = record p.instance { logs = logs } } ≡ enabled p.catalog p.instance t x = λ i. record { catalog = grew i; instance = record p.instance { logs = begun i } } in
    let whole : enabled p.catalog p.instance t x ≡ enabled (one_further s) s.instance t (switch_on s t) = λ i. enabled (went i) (same i) t (made i) in
    parts ∙ whole
