-- A block as its datafile was created.
use Rattle.std.specs.Prelude.{ℕ}
use Rattle.rm_base.specs.{Content.{zero_block}, declared.block.Row.{Row}}

-- the row of block b: zero bytes, at the creation
abbrev pub created_row : ℕ → ℕ → Row
created_row creation b = record { block = b; version = creation; content = zero_block }
