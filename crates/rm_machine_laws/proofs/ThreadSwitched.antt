-- Where a thread is enabled after an ENABLE or a DISABLE THREAD.
use Rattle.std.proofs.Common.{◌≡◌, ◌≤◌, ◌∙◌, ℕ, List, None, Bool, true, false, refl, sym, subst}
use Rattle.rm_base.specs.Store.{Held}
use Rattle.rm_history.specs.Tree.{IsThere}
use Rattle.rm_lang_statement.specs.declared.command.Command.TheVariants.{SwitchThread}
use Rattle.rm_report.specs.declared.line.Line.{Line}
use Rattle.rm_catalog_typed.specs.Switches.{is_enabled_in, next_sequence}
use Rattle.rm_machine.specs.{Archive.{after_thread}, DisableThread.{disable_refusal, with_thread_off}, Effect.{Effect, done}}
use Rattle.rm_machine.specs.{EnableThread.{enable_refusal, with_thread_on}, Sound.{IsSound}, State.{current_of, ledger, now_of, tree}}
use Rattle.rm_machine.specs.{Step.{IsOutcome, refusal_of}, SwitchLogfile.{is_due}, declared.state.State.{State}}
use Rattle.rm_machine.proofs.Archives.{beside-thread, thread-either}
use Rattle.rm_machine.proofs.{Disabling.{after-due, brought, can-disable, current-after, now-after, number}, Enabling.{can-enable}}
use Rattle.rm_machine.proofs.ThreadSwitches.{own-enabled}
use Rattle.rm_machine.proofs.ThreadSwitches as shared
use Rattle.rm_machine_laws.proofs.Leading.{done-by}
use Rattle.rm_machine_laws.proofs.ThreadSwitches as switching

-- from the SCN of the switch on the thread is as it says, and elsewhere all is as before
pub record IsSwitched (s t : State) (thread : ℕ) (on : Bool) : Type 0 where
  pub from_now : (g : ℕ) → now_of s ≤ g → is_enabled_in (ledger t) (current_of s) g thread ≡ on
  pub elsewhere : (m g u : ℕ) → IsThere (tree s) m → ¬ ((u ≡ thread) × (m ≡ current_of s) × (now_of s ≤ g))
      → is_enabled_in (ledger t) m g u ≡ is_enabled_in (ledger s) m g u

enabled : (s : State) (thread : ℕ) → IsSound s → enable_refusal s thread ≡ None → IsSwitched s (with_thread_on s thread) thread true
enabled s thread sound none =
    let number = next_sequence (ledger s) thread in
    let can = can-enable s thread sound none in
    record { from_now = own-enabled s thread true number sound can; elsewhere = switching.elsewhere s thread true number sound can }

-- archiving the log before changes nothing of it
disabled : (s : State) (thread : ℕ) → IsSound s → disable_refusal s thread ≡ None → IsSwitched s (with_thread_off s thread) thread false
disabled s thread sound none =
    let a : State = after_thread s thread in
    let last = number s thread sound none in
    let ready = after-due s thread sound none in
    let can = can-disable s thread sound none in
    let current : current_of a ≡ current_of s = current-after s thread sound none in
    let now : now_of a ≡ now_of s = now-after s thread sound none in
    brought s thread sound none (λ q. IsSwitched s q thread false) (record {
      from_now = λ g late.
          coe 0 1 (j. is_enabled_in (ledger (shared.q a thread false last ready can)) (current j) g thread ≡ false)
          (own-enabled a thread false last ready can g (subst (λ n. n ≤ g) (sym now) late));
      elsewhere = λ m g u known other.
          switching.elsewhere a thread false last ready can m g u (subst (λ ns. IsThere ns m) (sym (beside-thread s thread).tree) known)
          (λ from. other (from.0, from.1 ∙ current, subst (λ n. n ≤ g) now from.2))
          ∙ thread-either (λ q. is_enabled_in (ledger q) m g u ≡ is_enabled_in (ledger s) m g u) s thread (is_due s thread) (λ _. refl) (λ _. refl);
    })

pub switched : (s : State) (held : Held) (thread : ℕ) (on : Bool) (lines : List Line) (effect : Effect) (t : State)
    → IsSound s → IsOutcome s held (SwitchThread thread on) (done lines effect t) → IsSwitched s t thread on
switched s held thread true lines effect t sound comes =
    let both = done-by (refusal_of s (SwitchThread thread true)) s held (SwitchThread thread true) lines effect t comes in
    let is = both.1 in
    let to : with_thread_on s thread ≡ t = cc in
    subst (λ q. IsSwitched s q thread true) to (enabled s thread sound both.0)
switched s held thread false lines effect t sound comes =
    let both = done-by (refusal_of s (SwitchThread thread false)) s held (SwitchThread thread false) lines effect t comes in
    let is = both.1 in
    let to : with_thread_off s thread ≡ t = cc in
    subst (λ q. IsSwitched s q thread false) to (disabled s thread sound both.0)
