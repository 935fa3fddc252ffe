-- What a set holds, of a machine that goes on.
use Rattle.std.specs.Prelude.{ℕ, ◌≤◌, Option, Some, None, List}
use Rattle.rm_base.specs.declared.block.{Change.{Change}, Row.{Row}}
use Rattle.rm_history.specs.{Tree.{IsThere, end_of}, declared.{tree.Incarnation.{Incarnation}, world.World.{World}}}
use Rattle.rm_piece.specs.{Sets.{IsSet}, declared.set.Set.{Set}}
use Rattle.rm_standby.specs.Standby.{Holds}
use Rattle.rm_catalog_typed.specs.{TypedCatalog.{TypedCatalog}, Worlds.{world_of}}
use Rattle.rm_lang_statement.specs.declared.command.Command.{Command}
use Rattle.rm_report.specs.declared.line.Reply.{Reply}
use Rattle.rm_machine.specs.{Honest.{IsHonest}, Machine.{IsSoundMachine, Machine}, Rest.{Rest, catalog_in}, Step.{IsStatement, Step}}
use Rattle.rm_machine_laws.specs.{Moments.{IsMomentIn}, Stopped.{Stopped}}

-- the set's incarnation is there, and its checkpoint is not above the end of that
pub record LiesWithin (tree : List Incarnation) (a : Set) : Type 0 where
  pub there : IsThere tree a.inc
  pub end : a.checkpoint ≤ end_of tree a.inc

-- the set holds what is picked of the states at its address, which lies within the database
pub record HoldsIn (w : World) (h : List Change) (pick : List Row → List Row) (a : Set) : Type 0 where
  pub within : LiesWithin w.tree a
  pub valid : IsSet a
  pub holds : Holds w h pick a

-- the same of a database with these records, where there is one
abbrev pub HoldsOf : Option TypedCatalog → List Change → (List Row → List Row) → Set → Type 0
HoldsOf None h pick a = ⊥
HoldsOf (Some r) h pick a = HoldsIn (world_of r.ledger) h pick a

-- the set holds this of the machine's database, and of a database at rest
abbrev pub IsHeld : Machine → (List Row → List Row) → Set → Type 0
IsHeld m pick a = HoldsOf (catalog_in m.state) m.history pick a

abbrev pub RestsHeld : Rest → (List Row → List Row) → Set → Type 0
RestsHeld r pick a = HoldsOf r.catalog r.history pick a

-- what a set holds it holds after each statement too
abbrev pub StaysHeld : (List Row → List Row) → Type 0
StaysHeld pick =
    (m n : Machine) (c : Command) (moment : ℕ) (reply : Reply) (a : Set)
    → IsStatement c → IsSoundMachine m → IsHonest m c → IsMomentIn m.state moment → Step m c moment reply n → IsHeld m pick a → IsHeld n pick a

-- also where a statement is stopped
abbrev pub StopsHeld : (List Row → List Row) → Type 0
StopsHeld pick =
    (m : Machine) (c : Command) (moment : ℕ) (r : Rest) (a : Set)
    → IsStatement c → IsSoundMachine m → IsHonest m c → IsMomentIn m.state moment → Stopped m c moment r → IsHeld m pick a → RestsHeld r pick a
