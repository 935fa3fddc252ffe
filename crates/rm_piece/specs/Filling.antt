-- Rows of all blocks, and rows that stand in the place of some of them.
use Rattle.std.specs.Prelude.{ℕ, ◌≡◌, ◌<◌, ◌≤◌, ◌==◌, nat_lt, if◌then◌else◌, List, [], ◌∷◌, All, length}
use Rattle.rm_base.specs.{Created.{created_row}, declared.block.Row.{Row}}
use Rattle.rm_piece.specs.{Rows.{IsWhole}, Sets.{IsSince}}

-- a row as it counts in a set: one of a version up to the creation is the zero row at the creation
abbrev pub risen : ℕ → Row → Row
risen creation r = if nat_lt creation r.version then r else created_row creation r.block

-- the first of the listed rows, where it is of the row's block, or else the row
abbrev pub next_or : Row → List Row → Row
next_or r [] = r
next_or r (n ∷ ns) = if n.block == r.block then n else r

-- the listed rows that are left behind block b
abbrev pub next_left : ℕ → List Row → List Row
next_left b [] = []
next_left b (n ∷ ns) = if n.block == b then ns else n ∷ ns

-- the rows, and in the place of each the listed row of its block; both ascend by block
abbrev pub over : List Row → List Row → List Row
over [] listed = []
over (r ∷ rs) listed = next_or r listed ∷ over rs (next_left r.block listed)

-- the block was written since its datafile was created
abbrev pub IsAbove : ℕ → Row → Type 0
IsAbove creation r = creation < r.version

-- each block of a datafile has its row, at its place
pub record IsFilled (creation blocks : ℕ) (rows : List Row) : Type 0 where
  pub count : length rows ≡ blocks
  pub whole : IsWhole rows
  pub since : All (IsSince creation) rows

-- the rows of a member that begins at `from`: every block has its row, but where that lies above the creation
pub record IsSpread (creation from blocks : ℕ) (rows : List Row) : Type 0 where
  pub begins : All (λ r. from ≤ r.version) rows
  pub filled : from ≤ creation → IsFilled creation blocks rows
