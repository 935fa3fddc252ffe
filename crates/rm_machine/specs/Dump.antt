-- DUMP DATAFILE f BLOCK b
use Rattle.std.specs.Prelude.{ℕ, ◌≡◌, nat_le, if◌then◌else◌, is_none, Option, Some, None, [], ◌∷◌, slice_get}
use Rattle.std.specs.Option.{option_and_then, option_map_or}
use Rattle.rm_base.specs.declared.{block.Row.{Row}, refusal.Refusal.{Refusal, TheVariants.{Rm05, Rm09, Rm17}}}
use Rattle.rm_base.specs.declared.refusal.Absent.TheVariants.{File, Block}
use Rattle.rm_history.specs.declared.world.Datafile.{Datafile}
use Rattle.rm_report.specs.declared.line.Line.TheVariants.{Dumped}
use Rattle.rm_machine.specs.{Damage.{has_block}, Effect.{Outcome, told}, State.{on_path, placed}, declared.state.State.{State}}

-- why it is refused, where its datafile is there
abbrev pub row_refusal : State → ℕ → ℕ → Datafile → Option Refusal
row_refusal s f b d =
    if nat_le d.blocks b then Some (Rm05 (Block b f))
    else if is_none (placed s f) then Some (Rm09 f)
    else if has_block s.instance.damaged f b then Some (Rm17 f b)
    else None

-- why it is refused
abbrev pub dump_refusal : State → ℕ → ℕ → Option Refusal
dump_refusal s f b = option_map_or (row_refusal s f b) (on_path s f) (Some (Rm05 (File f)))

-- the row of the block that stands in place
abbrev pub placed_row : State → ℕ → ℕ → Option Row
placed_row s f b = option_and_then (λ x. slice_get x.rows b) (placed s f)

-- it tells the row
abbrev pub IsDumpOutcome : State → ℕ → ℕ → Outcome → Type 0
IsDumpOutcome s f b o = (r : Row) × (placed_row s f b ≡ Some r) × (o ≡ told (Dumped f r.block r.version r.content ∷ []))
