-- A step of the whole machine, over a store and a keeper.
use Rattle.std.specs.Prelude.{ℕ, ◌≡◌, false, Option, Some, List}
use Rattle.rm_base.specs.Store.{Held}
use Rattle.rm_catalog.specs.declared.record.Record.{Record}
use Rattle.rm_lang_statement.specs.declared.command.Command.{Command, TheVariants.{DeleteObsolete}}
use Rattle.rm_report.specs.declared.line.Reply.{Reply}
use Rattle.rm_machine.specs.{Honest.{IsHonest}, Machine.{DigestsTell, Machine}, Obsolete.{IsSafe}, State.{at_moment}, Step.{Step}}
use Rattle.rm_machine.specs.declared.state.State.{State}
use Rattle.rm_machine_laws.specs.{Holds.{Holds, Stands, View}, Moments.{moment_of}}

-- Whatever machine this database is of: where the world is honest, the step is that machine's, and what there is then
-- is of the machine after it.
abbrev pub StepsAt : Option Held → Option (List Record) → Option State → Command → ℕ → Reply → Option Held → Option (List Record) → Option State → Type 0
StepsAt held kept o c moment reply held' kept' o' =
    (m : Machine) → m.state ≡ o → Holds held kept m → IsHonest m c
    → (n : Machine) × Step m c moment reply n × (n.state ≡ o') × Holds held' kept' n

-- Whatever machine the site stands for: where the world is honest, the step is that machine's, and the site stands for
-- the one after it.
abbrev pub Steps : Option Held → Option (List Record) → View → Command → ℕ → Reply → Option Held → Option (List Record) → View → Type 0
Steps held kept v c clock reply held' kept' v' =
    (m : Machine) → Stands v m → Holds held kept m → IsHonest m c
    → (n : Machine) × Step m c (moment_of m.state clock) reply n × Stands v' n × Holds held' kept' n

-- StepsAt as a word of its own, which a proof opens where it needs it
unfoldable pub IsStepAt : Option Held → Option (List Record) → Option State → Command → ℕ → Reply → Option Held → Option (List Record) → Option State → Type 0
IsStepAt held kept o c moment reply held' kept' o' = StepsAt held kept o c moment reply held' kept' o'

-- What DELETE OBSOLETE keeps, where it is done: whatever machine the site stands for, where digests tell, under a window what is at hand
-- tells at each target of the window what it told before.
abbrev pub DeletesSafely : Option Held → Option (List Record) → View → Command → ℕ → Reply → Option Held → View → Type 0
DeletesSafely held kept v DeleteObsolete clock reply held' v' =
    (m : Machine) → Stands v m → Holds held kept m → DigestsTell m → reply.refused ≡ false
    → (s t : State) (objects objects' : Held) → v.state ≡ Some s → v'.state ≡ Some t → held ≡ Some objects → held' ≡ Some objects'
    → IsSafe (at_moment s (moment_of v.state clock)) objects t objects'
DeletesSafely held kept v _ clock reply held' v' = Unit {0}
