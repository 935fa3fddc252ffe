-- What the history says of a BLOCKRECOVER: repair while writers run.
use Rattle.std.specs.Prelude.{ℕ, ◌≡◌, ◌<◌, ◌&&◌, true, false, Some, List, ◌++◌}
use Rattle.rm_base.specs.declared.block.Change.{Change}
use Rattle.rm_history.specs.State.{state}
use Rattle.rm_lang_statement.specs.declared.command.RepairForm.{RepairForm}
use Rattle.rm_live.specs.{History.{IsLegal}, Touched.{is_mended, is_touched}, declared.history.Event.{Event}}
use Rattle.rm_machine.specs.{BlockRecover.{asks_for, repair_begun, without_mended}, Damage.{has_block}, Dump.{placed_row}, Effect.{Effect}}
use Rattle.rm_machine.specs.{Events.{after_events, changes_of, opening}, State.{current_of, now_of, world}, declared.state.State.{State}}

-- From the state s, behind these events: a block that was mended is what the history of that turn has at `now`, and a block that was
-- neither mended nor written is what it was.
pub record RepairsSoFar (s : State) (h : List Change) (es : List Event) : Type 0 where
  pub mended : (f b : ℕ) → is_mended es f b ≡ true
      → placed_row (after_events s es) f b ≡ Some (state (world (after_events s es)) (h ++ changes_of s es) (current_of s) (now_of (after_events s es)) f b)
  pub alone : (f b : ℕ) → 0 < f → is_touched es f b ≡ false → placed_row (after_events s es) f b ≡ placed_row s f b

-- Repair while writers run: there is a legal list of events that made these changes and left this state, which mends exactly the damaged
-- blocks that are asked for; and so it is behind each front of it, at each later turn too.
pub record RepairsTruly (h : List Change) (s : State) (form : RepairForm) (effect : Effect) (t : State) : Type 0 where
  pub events : List Event
  pub legal : IsLegal (opening (repair_begun s form)) events
  pub changes : effect.changes ≡ changes_of (repair_begun s form) events
  pub left : t ≡ without_mended (after_events (repair_begun s form) events) form
  pub mends : (f b : ℕ) → is_mended events f b ≡ (has_block s.instance.damaged f b && asks_for form (record { file = f; block = b }))
  pub front : (es rest : List Event) → events ≡ es ++ rest → RepairsSoFar (repair_begun s form) h es
