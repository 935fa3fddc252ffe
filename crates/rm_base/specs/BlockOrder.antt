-- The order of blocks: by datafile, and then by number.
use Rattle.std.specs.Prelude.{ℕ, ◌≡◌, ◌<◌, ◌⊎◌, List, AllPairs}
use Rattle.rm_base.specs.declared.block.BlockId.{BlockId}

-- block b of datafile f comes before block d of datafile c
abbrev pub IsBefore : ℕ → ℕ → ℕ → ℕ → Type 0
IsBefore f b c d = (f < c) ⊎ ((f ≡ c) × (b < d))

-- the one comes before the other
abbrev pub AreInOrder : BlockId → BlockId → Type 0
AreInOrder x y = IsBefore x.file x.block y.file y.block

-- they ascend, and so each is there once
abbrev pub AscendByBlock : List BlockId → Type 0
AscendByBlock xs = AllPairs AreInOrder xs
