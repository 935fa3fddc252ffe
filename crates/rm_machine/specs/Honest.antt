-- What is asked of the world at a statement, from a machine.
use Rattle.std.specs.Prelude.{ℕ, ◌≡◌, Some, List, Contains}
use Rattle.rm_lang_statement.specs.declared.command.Command.{Command, TheVariants.{CatalogName}}
use Rattle.rm_report.specs.declared.line.Line.{Line}
use Rattle.rm_machine.specs.{Effect.{Effect, Made, done}, Machine.{DigestsTell, Machine}, Saved.{spelling_of}, Step.{IsOutcome}}
use Rattle.rm_machine.specs.{State.{at_moment}, declared.state.State.{State}}

-- the bytes are the spelling of an artefact that a finished statement recorded
pub record IsRecorded (made : List Made) (bytes : List ℕ) : Type 0 where
  pub one : Made
  pub is : Contains made one
  pub spelled : bytes ≡ spelling_of one.artefact

-- Catalogued honestly: where CATALOG records an object, its bytes are that. Nothing is asked of any other statement, nor of
-- one that is refused.
abbrev pub CataloguesHonestly : Machine → Command → Type 0
CataloguesHonestly m c =
    (name bytes : List ℕ) (s t : State) (moment : ℕ) (lines : List Line) (effect : Effect) → c ≡ CatalogName name → m.state ≡ Some s
    → IsOutcome (at_moment s moment) m.objects c (done lines effect t) → m.objects name ≡ Some bytes → IsRecorded m.made bytes

-- digests tell, and what is catalogued was recorded
pub record IsHonest (m : Machine) (c : Command) : Type 0 where
  pub digests : DigestsTell m
  pub catalogues : CataloguesHonestly m c
