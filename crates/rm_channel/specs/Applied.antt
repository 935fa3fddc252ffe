-- Rows that take on parts.
use Rattle.std.specs.{Prelude.{ℕ, suc, ◌==◌, List, [], ◌∷◌, if◌then◌else◌}, List.Sorted.{IsNonDecreasingBy}}
use Rattle.rm_base.specs.declared.block.{Part.{Part}, Row.{Row}}

-- the part as a row
abbrev pub row_of : Part → Row
row_of p = record { block = p.block; version = p.version; content = p.content }

-- the row of block b, which becomes the part of that block where there is one, of several the last
abbrev pub row_by : List Part → ℕ → Row → Row
row_by [] b row = row
row_by (p ∷ ps) b row = row_by ps b (if p.block == b then row_of p else row)

-- the rows, of which the first is that of block b, the next one that of block b + 1, and so on
abbrev pub with_parts : List Part → ℕ → List Row → List Row
with_parts parts b [] = []
with_parts parts b (r ∷ rs) = row_by parts b r ∷ with_parts parts (suc b) rs

-- the parts ascend by block; several may be of one block
abbrev pub Ascend : List Part → Type 0
Ascend parts = IsNonDecreasingBy (λ (p : Part). p.block) parts
