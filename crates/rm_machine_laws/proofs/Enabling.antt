-- ENABLE THREAD leads on: the thread's switch is recorded, and its log begins.
use Rattle.std.proofs.Common.{ℕ, true}
use Rattle.rm_lang_statement.specs.declared.command.Command.TheVariants.{SwitchThread}
use Rattle.rm_catalog_typed.specs.Switches.{next_sequence}
use Rattle.rm_machine.{specs.{EnableThread.{with_thread_on}, State.{ledger}}, proofs.Enabling.{can-enable, sound-enabled}}
use Rattle.rm_machine_laws.proofs.{Leading.{LeadsOnBy, StaysBy}, Quiet.{quiet-on, quiet-stays}, ThreadSwitches.{borne-switched}}

pub enable-on : (t : ℕ) → LeadsOnBy (SwitchThread t true)
enable-on t s h objects made touched said e q after well stands tell none does effect =
    quiet-on (with_thread_on s t) h objects made touched _ said e q after does effect
    (borne-switched s t true (next_sequence (ledger s) t) stands.state (can-enable s t stands.state none) h objects made touched stands)

pub enable-stays : (t : ℕ) → StaysBy (SwitchThread t true)
enable-stays t s objects said e q well sound none accepted does =
    quiet-stays (with_thread_on s t) _ said e q does (sound-enabled s t sound accepted) none
