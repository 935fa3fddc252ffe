-- BLOCKRECOVER (CORRUPTION LIST | DATAFILE f BLOCK b {, b}*) [DURING { {write ;}* }]
use Rattle.std.specs.{Prelude.{ℕ, ◌≡◌, ◌⊎◌, ◌==◌, ◌&&◌, not, Bool, true, Ok, List, [], ◌∷◌, ◌++◌, filter, map}, List.{list_any}}
use Rattle.std.specs.Option.{option_map_or}
use Rattle.rm_base.specs.{Store.{Held}, declared.{block.{BlockId.{BlockId}, Row.{Row}}, refusal.Refusal.TheVariants.{Rm08}}}
use Rattle.rm_channel.specs.{Jobs.{AreAsLong, Deed, wrote_of}, Made.{AreThese, deed}}
use Rattle.rm_evidence.specs.{Known.{known_of}, declared.evidence.Evidence.{Evidence}}
use Rattle.rm_lang_statement.specs.declared.command.RepairForm.{RepairForm}
use Rattle.rm_live.specs.{History.{IsLegal}, declared.history.{Answer.TheVariants.{Mended}, Call.TheVariants.{Mend}, Event.{Event}}}
use Rattle.rm_plan.specs.{Blocks.{AreToldRows, NamesFirstOf}, declared.plan.Gap.{Gap}}
use Rattle.rm_report.specs.declared.line.Line.{Line}
use Rattle.rm_report.specs.declared.line.Line.TheVariants as line
use Rattle.rm_machine.specs.{Asked.{writers_in}, BackupOutcome.{write_lines}, Effect.{Outcome, done, no_effect, refused}}
use Rattle.rm_machine.specs.{Events.{after_events, changes_of, opening}, Marks.{marked_for}, Recovery.{IsAtHand, skipped_lines}}
use Rattle.rm_machine.specs.{State.{current_of, now_of, world}, declared.state.State.{State}}

-- it mends the block, where that is damaged: it names the block, or asks for all
abbrev pub asks_for : RepairForm → BlockId → Bool
asks_for form x = option_map_or (λ n. (n.file == x.file) && list_any (λ b. b == x.block) n.blocks) form.blocks true

-- the blocks that it mends, ascending
abbrev pub blocks_mended : State → RepairForm → List BlockId
blocks_mended s form = filter (asks_for form) s.instance.damaged

-- mends of these blocks by these rows, each of which was made
abbrev pub mends_of : List BlockId → List Row → List Deed
mends_of [] rows = []
mends_of (x ∷ xs) [] = []
mends_of (x ∷ xs) (r ∷ rows) = (Mend x.file r, Mended true) ∷ mends_of xs rows

-- their lines
abbrev pub mend_lines : List BlockId → List Row → List Line
mend_lines [] rows = []
mend_lines (x ∷ xs) [] = []
mend_lines (x ∷ xs) (r ∷ rows) = line.Mended x.file r.block r.version ∷ mend_lines xs rows

-- the database without the mended blocks on its list
abbrev pub without_mended : State → RepairForm → State
without_mended s form = record s { instance = record s.instance { damaged = filter (λ x. not (asks_for form x)) s.instance.damaged } }

-- the database as those who mend and write find it: behind the mark that comes before the writes, where it has a DURING
abbrev pub repair_begun : State → RepairForm → State
repair_begun s form = marked_for s form.during

-- The evidence leaves a gap: that of the least block that it does not tell.
pub record MissesBlock (s : State) (e : Evidence) (form : RepairForm) (o : Outcome) : Type 0 where
  pub gap : Gap
  pub first : NamesFirstOf (world s) (known_of e) (current_of s) (now_of s) (blocks_mended s form) gap
  pub is : o ≡ refused (Rm08 gap.file gap.block gap.scn gap.inc)

-- The evidence tells a row of each block. There is a legal list of events over the database at its start: one mend of each block by its
-- row and one write of each that is asked for, those of a thread in their order, and nothing else. Each write took an SCN. The database
-- has the writes and the rows, and the blocks are no longer on its list.
pub record MendsBlocks (s : State) (e : Evidence) (form : RepairForm) (o : Outcome) : Type 0 where
  pub rows : List Row
  pub told : AreToldRows (world s) (known_of e) (current_of s) (now_of s) (blocks_mended s form) rows
  pub scns : List (List ℕ)
  pub each : AreAsLong scns (writers_in s form.during)
  pub events : List Event
  pub legal : IsLegal (opening (repair_begun s form)) events
  pub these : AreThese (mends_of (blocks_mended s form) rows ++ wrote_of 1 (writers_in s form.during) (map (map Ok) scns)) (map deed events)
  pub is : o ≡ done (skipped_lines e.skipped ++ mend_lines (blocks_mended s form) rows ++ write_lines 1 scns)
      (record no_effect { changes = changes_of (repair_begun s form) events })
      (without_mended (after_events (repair_begun s form) events) form)

-- By what is at hand, where a datafile with a damaged block counts as lost, the blocks are mended to what they are at `now`, or the
-- first gap is told.
pub record IsBlockRecoverOutcome (s : State) (held : Held) (form : RepairForm) (o : Outcome) : Type 0 where
  pub evidence : Evidence
  pub at_hand : IsAtHand s held evidence
  pub comes : MissesBlock s evidence form o ⊎ MendsBlocks s evidence form o
