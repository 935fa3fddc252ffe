-- What a statement comes to, and what it leaves outside.
use Rattle.std.specs.Prelude.{ℕ, List, []}
use Rattle.rm_base.specs.{Store.{Held}, declared.{block.Change.{Change}, refusal.Refusal.{Refusal}}}
use Rattle.rm_commit.specs.{Names.{HasPuts, HasRemoves}, declared.commit.Object.{Object}}
use Rattle.rm_piece.specs.declared.{piece.Piece.{Piece}, set.Set.{Set}}
use Rattle.rm_redo.specs.declared.log_file.LogFile.{LogFile}
use Rattle.rm_report.specs.declared.line.Line.{Line}
use Rattle.rm_machine.specs.declared.state.State.{State}

-- what a backup or an archiving makes
pub data Artefact : Type 0 where
  a_log : LogFile → Artefact
  a_piece : Piece → Artefact
  a_set : Set → Artefact

-- an artefact, under the name of its object
pub record Made : Type 0 where
  pub name : List ℕ
  pub artefact : Artefact

pub record Effect : Type 0 where
  -- the changes that it made of blocks
  pub changes : List Change
  -- the artefacts that it recorded
  pub made : List Made
  -- the objects that come to stand under names, and then the names from which objects go
  pub puts : List Object
  pub removes : List (List ℕ)

abbrev pub no_effect : Effect
no_effect = record { changes = []; made = []; puts = []; removes = [] }

-- the objects after the effect: first what it puts, then what it removes
pub record LeavesObjects (e : Effect) (before after : Held) : Type 0 where
  pub put : Held
  pub puts : HasPuts e.puts before put
  pub removes : HasRemoves e.removes put after

-- A refusal changes nothing, and so does what only tells; what is done has its lines, its effect and the state
-- after it.
pub data Outcome : Type 0 where
  refused : Refusal → Outcome
  told : List Line → Outcome
  done : List Line → Effect → State → Outcome
