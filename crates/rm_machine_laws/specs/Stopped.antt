-- What a stop leaves of a statement: a database at rest, which the next session wakes.
use Rattle.std.specs.Prelude.{ℕ, ◌≡◌, ◌⊎◌, ◌++◌, Option, None, List, Contains}
use Rattle.rm_base.specs.Store.{Held}
use Rattle.rm_catalog.specs.declared.record.Record.{Record}
use Rattle.rm_lang_statement.specs.declared.command.Command.{Command}
use Rattle.rm_evidence.specs.Names.{roll_name}
use Rattle.rm_report.specs.declared.line.Reply.{Reply}
use Rattle.rm_machine.specs.{Honest.{IsHonest}, Machine.{Machine}, Rest.{Rest, catalog_in}, Step.{Step, names_in}}
use Rattle.rm_machine.specs.declared.state.State.{State}
use Rattle.rm_machine_laws.specs.{Holds.{Holds, HoldsRest, Stands, View}, Loose.{IsGivenIn, IsLowIn, IsNamedIn}, Moments.{moment_of}}

-- What is left of the machine n is at rest. Each object that a record names stands as it stood, and so does each increment under an
-- id that was given. Other objects, and those under the names that HOST gives, may hold anything.
pub record IsLeft (given : List (List ℕ)) (n : Machine) (r : Rest) : Type 0 where
  pub catalog : r.catalog ≡ catalog_in n.state
  pub history : r.history ≡ n.history
  pub made : r.made ≡ n.made
  pub touched : r.touched ≡ given ++ n.touched
  pub objects : (name : List ℕ) → IsNamedIn n.state name → Contains given name ⊎ (r.objects name ≡ n.objects name)
  pub rolls : (id : ℕ) → IsGivenIn (catalog_in n.state) id → Contains given (roll_name id) ⊎ (r.objects (roll_name id) ≡ n.objects (roll_name id))

-- What a stop leaves is the machine before the statement, or the one after the whole of it.
pub record Stopped (m : Machine) (c : Command) (moment : ℕ) (r : Rest) : Type 0 where
  pub machine : Machine
  pub one : (machine ≡ m) ⊎ ((reply : Reply) × Step m c moment reply machine)
  pub left : IsLeft (names_in c) machine r
  -- Under an id that was given stands what stood there, unless the statement takes it away: what else a stop left has a higher one.
  pub low : (name : List ℕ) → IsLowIn m.state name → Contains (names_in c) name ⊎ (r.objects name ≡ m.objects name) ⊎ (machine.objects name ≡ None)

-- so for whatever machine this database is of, where the world is honest
abbrev pub StopsAt : Option Held → Option (List Record) → Option State → Command → ℕ → Option Held → Option (List Record) → Type 0
StopsAt held kept o c moment held' kept' =
    (m : Machine) → m.state ≡ o → Holds held kept m → IsHonest m c → (r : Rest) × Stopped m c moment r × HoldsRest held' kept' r

-- and for whatever machine the site stands for, where the clock answered so
abbrev pub Stops : Option Held → Option (List Record) → View → Command → ℕ → Option Held → Option (List Record) → Type 0
Stops held kept v c clock held' kept' =
    (m : Machine) → Stands v m → Holds held kept m → IsHonest m c → (r : Rest) × Stopped m c (moment_of m.state clock) r × HoldsRest held' kept' r

-- StopsAt as a word of its own
unfoldable pub IsStopAt : Option Held → Option (List Record) → Option State → Command → ℕ → Option Held → Option (List Record) → Type 0
IsStopAt held kept o c moment held' kept' = StopsAt held kept o c moment held' kept'
