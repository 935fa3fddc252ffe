-- Datafiles that come to stand in place.
use Rattle.std.specs.Prelude.{ℕ, ◌<◌, ◌≤◌}
use Rattle.rm_blocks.specs.File.{File}

-- the datafile is one of n that have a place
abbrev pub HasPlace : ℕ → File → Type 0
HasPlace n x = (0 < x.file) × (x.file ≤ n)
