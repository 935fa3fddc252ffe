-- The row that DUMP tells, where it was not refused.
use Rattle.std.proofs.Common.{◌≡◌, nat_le, ℕ, Some, None, cond, is_none}
use Rattle.rm_base.specs.declared.refusal.{Refusal.TheVariants.{Rm05, Rm09, Rm17}, Absent.TheVariants.{File, Block}}
use Rattle.rm_base.proofs.Conditions.{unless}
use Rattle.rm_machine.specs.{Damage.{has_block}, Dump.{dump_refusal, row_refusal}, Sound.{IsSound}, State.{on_path, placed}}
use Rattle.rm_machine.{specs.declared.state.State.{State}, proofs.PlacedRows.{HasRow, has-row, there-by}}

pub row-told : (s : State) (f b : ℕ) → IsSound s → dump_refusal s f b ≡ None → HasRow s f b
row-told s f b sound is =
    let found = there-by (row_refusal s f b) (on_path s f) (Rm05 (File f)) is in
    let d = found.0 in
    let damaged = cond (has_block s.instance.damaged f b) (Some (Rm17 f b)) None in
    let blocks = unless (nat_le d.blocks b) (Rm05 (Block b f)) (cond (is_none (placed s f)) (Some (Rm09 f)) damaged) found.2 in
    has-row s f b d sound found.1 blocks.0 (unless (is_none (placed s f)) (Rm09 f) damaged blocks.1).0
