-- The row of the block that HOST CORRUPT names, where it was not refused.
use Rattle.std.{specs.Option.{option_map_or}, proofs.Common.{◌≡◌, nat_le, ℕ, Some, None, true, cond, is_none}}
use Rattle.rm_base.specs.declared.refusal.{Refusal.TheVariants.{Rm04, Rm05, Rm09}, Absent.TheVariants.{File, Block}}
use Rattle.rm_base.proofs.Conditions.{only-where, unless}
use Rattle.rm_machine.specs.{Corrupt.{corrupt_block_refusal, corrupt_refusal}, Marks.{ids_refusal}, Sound.{IsSound}}
use Rattle.rm_machine.{specs.{State.{on_path, placed}, declared.state.State.{State}}, proofs.PlacedRows.{HasRow, has-row, there-by}}

pub row-there : (s : State) (f b : ℕ) → IsSound s → corrupt_refusal s f b ≡ None → HasRow s f b
row-there s f b sound is =
    let open-there = only-where s.instance.is_open (option_map_or (corrupt_block_refusal s f b) (on_path s f) (Some (Rm05 (File f)))) (Rm04 true) is in
    let found = there-by (corrupt_block_refusal s f b) (on_path s f) (Rm05 (File f)) open-there.1 in
    let d = found.0 in
    let blocks = unless (nat_le d.blocks b) (Rm05 (Block b f)) (cond (is_none (placed s f)) (Some (Rm09 f)) (ids_refusal s)) found.2 in
    has-row s f b d sound found.1 blocks.0 (unless (is_none (placed s f)) (Rm09 f) (ids_refusal s) blocks.1).0
