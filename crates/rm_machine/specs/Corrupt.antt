-- HOST CORRUPT DATAFILE f BLOCK b, and LIST CORRUPTION
use Rattle.std.specs.{Prelude.{ℕ, ◌≡◌, ◌-◌, nat_le, if◌then◌else◌, is_none, true, Option, Some, List, [], ◌∷◌, map}, Option.{option_map_or}}
use Rattle.rm_base.specs.declared.{block.{Block.{Block}, Row.{Row}}, refusal.Refusal.{Refusal, TheVariants.{Rm04, Rm05, Rm09}}}
use Rattle.rm_base.specs.declared.refusal.Absent.TheVariants as absent
use Rattle.rm_history.specs.declared.world.Datafile.{Datafile}
use Rattle.rm_report.specs.declared.line.Line.{Line, TheVariants.{BlockDamaged}}
use Rattle.rm_machine.specs.{Damage.{has_block, with_block}, Dump.{placed_row}, Effect.{Outcome, done, no_effect, told}}
use Rattle.rm_machine.specs.{Events.{with_placed_row}, Marks.{ids_refusal}, State.{on_path, placed}, declared.state.State.{State}}

-- why it is refused, where its datafile is there: its block is not, the datafile is lost, or no ids are left
abbrev pub corrupt_block_refusal : State → ℕ → ℕ → Datafile → Option Refusal
corrupt_block_refusal s f b d =
    if nat_le d.blocks b then Some (Rm05 (absent.Block b f))
    else if is_none (placed s f) then Some (Rm09 f)
    else ids_refusal s

-- why it is refused
abbrev pub corrupt_refusal : State → ℕ → ℕ → Option Refusal
corrupt_refusal s f b =
    if s.instance.is_open then option_map_or (corrupt_block_refusal s f b) (on_path s f) (Some (Rm05 (absent.File f)))
    else Some (Rm04 true)

-- a content, of which each byte is its exclusive or with 255
abbrev pub flipped : Block → Block
flipped content = record { 0 = map (λ byte. 255 - byte) content.0 }

-- the database with the block on the list of damaged ones, and its content flipped
abbrev pub with_damage : State → ℕ → Row → State
with_damage s f r =
    let t = with_placed_row s f (record r { content = flipped r.content }) in
    record t { instance = record t.instance { damaged = with_block (record { file = f; block = r.block }) s.instance.damaged } }

-- a block that was damaged before stays as it is
abbrev pub corrupted : State → ℕ → Row → State
corrupted s f r = if has_block s.instance.damaged f r.block then s else with_damage s f r

-- the block in place is damaged
abbrev pub IsCorruptOutcome : State → ℕ → ℕ → Outcome → Type 0
IsCorruptOutcome s f b o = (r : Row) × (placed_row s f b ≡ Some r) × (o ≡ done (BlockDamaged f b ∷ []) no_effect (corrupted s f r))

-- a line for each damaged block
abbrev pub damage_lines : State → List Line
damage_lines s = map (λ x. BlockDamaged x.file x.block) s.instance.damaged

-- LIST CORRUPTION tells them
abbrev pub IsCorruptionOutcome : State → Outcome → Type 0
IsCorruptionOutcome s o = o ≡ told (damage_lines s)
