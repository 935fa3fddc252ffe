-- How a statement comes out, whether or not a machine stands behind what the store and the keeper hold.
use Rattle.std.specs.Prelude.{ℕ, ◌≡◌, true, Option, Some, List}
use Rattle.rm_base.specs.Store.{Held}
use Rattle.rm_catalog.specs.declared.record.Record.{Record}
use Rattle.rm_lang_statement.specs.declared.command.Command.{Command}
use Rattle.rm_machine.specs.{Effect.{LeavesObjects, Outcome, done, refused, told}, Nature.{by_state, nature_of}, Step.{and_drops}}
use Rattle.rm_machine.specs.declared.state.State.{State}
use Rattle.rm_machine_laws.specs.{Carries.{IsOutcomeIn}, Holds.{records_in}}
use Rattle.rm_report.specs.{Reply.{refused_by, said}, declared.line.Reply.{Reply}}

-- The outcome gives this reply, and leaves this database, or none.
abbrev pub Gives : Option State → Outcome → Reply → Option State → Type 0
Gives o (refused r) reply p = (reply ≡ refused_by r) × (p ≡ o)
Gives o (told lines) reply p = (reply ≡ said lines) × (p ≡ o)
Gives o (done lines effect t) reply p = (reply ≡ said lines) × (p ≡ Some t)

-- and it leaves these objects
abbrev pub Leaves : Option State → Outcome → Held → Held → Type 0
Leaves o (refused r) objects objects' = objects' ≡ objects
Leaves o (told lines) objects objects' = objects' ≡ objects
Leaves o (done lines effect t) objects objects' = LeavesObjects (and_drops o effect) objects objects'

-- what it comes to by these objects
pub record ComesBy (o : Option State) (c : Command) (moment : ℕ) (reply : Reply) (objects : Held) (p : Option State) : Type 0 where
  pub outcome : Outcome
  pub is : IsOutcomeIn o objects c moment outcome
  pub gives : Gives o outcome reply p

-- what it comes to, where the store holds these objects, and what it then holds
pub record ComesOver (o : Option State) (c : Command) (moment : ℕ) (reply : Reply) (objects : Held) (held' : Option Held) (p : Option State) : Type 0 where
  pub by : ComesBy o c moment reply objects p
  pub objects_are : Held
  pub holds : held' ≡ Some objects_are
  pub leaves : Leaves o by.outcome objects objects_are

-- Where the store tells what it holds, the statement comes to what the objects at hand and the state say, and the store holds what that
-- leaves. What goes by the state alone comes to what the state says, whatever the store tells. And where the keeper tells the records of
-- the database, it then has those of the one after it.
pub record ComesOut (held : Option Held) (kept : Option (List Record)) (o : Option State) (c : Command) (moment : ℕ) (reply : Reply) (held' : Option Held) (kept' : Option (List Record)) (p : Option State) : Type 0 where
  pub store : (objects : Held) → held ≡ Some objects → ComesOver o c moment reply objects held' p
  pub state : by_state (nature_of c) ≡ true → (objects : Held) → ComesBy o c moment reply objects p
  pub keeper : kept ≡ Some (records_in o) → kept' ≡ Some (records_in p)
