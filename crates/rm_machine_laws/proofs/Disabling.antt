-- DISABLE THREAD leads on: the thread's log is archived, where it is due, and its switch is recorded.
use Rattle.std.proofs.Common.{◌≡◌, ◌∙◌, ◌++◌, ℕ, List, None, false, refl}
use Rattle.rm_base.specs.{Store.{Held}, declared.block.Change.{Change}}
use Rattle.rm_lang_statement.specs.declared.command.Command.TheVariants.{SwitchThread}
use Rattle.rm_machine.specs.{Archive.{after_thread, made_by, puts_by}, DisableThread.{disable_refusal, disabling, with_thread_off}}
use Rattle.rm_machine.specs.{Effect.{Made}, Machine.{IsBorneOut}, State.{ledger}, declared.state.State.{State}}
use Rattle.rm_machine.proofs.{Archives.{beside-thread}, Disabling.{after-due, brought, can-archive, can-disable, number, sound-disabled}}
use Rattle.rm_machine.proofs.{Kept.{stand-same}, Later.{borne-beside}}
use Rattle.rm_machine_laws.proofs.{Archives.{due-stand}, Leading.{LeadsOnBy, StaysBy}, NewObjects.{with_puts}}
use Rattle.rm_machine_laws.proofs.{Quiet.{same-stays, unchanged}, ThreadSwitches.{borne-switched}}

borne-disabled : (s : State) (t : ℕ) (h : List Change) (objects : Held) (made : List Made) (touched : List (List ℕ))
    → disable_refusal s t ≡ None → IsBorneOut s h objects made touched
    → IsBorneOut (with_thread_off s t) h (with_puts (puts_by s t) objects) (made ++ made_by s t) touched
borne-disabled s t h objects made touched none stands =
    let sound = stands.state in
    let mid : Held = with_puts (puts_by s t) objects in
    let archived = due-stand s t h objects made touched (can-archive s t sound none) stands in
    brought s t sound none (λ q. IsBorneOut q h mid (made ++ made_by s t) touched)
    (borne-switched (after_thread s t) t false (number s t sound none) (after-due s t sound none) (can-disable s t sound none)
    h mid (made ++ made_by s t) touched archived)

pub disable-on : (t : ℕ) → LeadsOnBy (SwitchThread t false)
disable-on t s h objects made touched said e q after well stands tell none does effect =
    let off : State = with_thread_off s t in
    unchanged off (disabling s t) h objects made touched e q after refl (cc) (cc) effect (λ left.
    borne-beside off h (with_puts (puts_by s t) objects) after (made ++ made_by s t) touched touched
    (borne-disabled s t h objects made touched none stands)
    (stand-same (with_puts (puts_by s t) objects) after touched (ledger off) (ledger off) (λ n. left.removes n ∙ left.puts n)))

pub disable-stays : (t : ℕ) → StaysBy (SwitchThread t false)
disable-stays t s objects said e q well sound none accepted does =
    same-stays (with_thread_off s t) q (cc) (sound-disabled s t sound accepted) ((beside-thread s t).saved ∙ none)
