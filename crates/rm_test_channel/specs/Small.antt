-- The small database of the tests.
use Rattle.std.specs.Prelude.{◌≡◌, ℕ, ◌≤◌, List, [], ◌∷◌, All, length}
use Rattle.atomic_table.specs.Seated.{TableId}
use Rattle.rm_blocks.specs.File.{created}
use Rattle.rm_redo.specs.Online.{fresh_logs}
use Rattle.rm_live.specs.{Parts.{Parts}, Passes.{Standing}, Ruled.{upto}}
use Rattle.rm_channel.specs.{Jobs.{IsWanted, size_of}, declared.jobs.{CopyJob.{CopyJob}, WriteJob.{WriteJob}}}
use Rattle.rm_repair.specs.declared.jobs.MendJob.{MendJob}

-- file 1 of so many blocks, and four threads
abbrev pub opening : ℕ → Parts
opening blocks = record { inc = 1; now = 2; files = created 1 1 1 blocks ∷ []; logs = fresh_logs 7 1 4 1; tracker = [] }

-- its only pass, before its first call
abbrev pub opened : TableId → ℕ → Standing
opened home blocks = record { home = home; opening = opening blocks; passes = 20; numbers = upto 0 20; seen = [] }

-- all of its blocks, or some
pub record IsOfFile (blocks : ℕ) (j : CopyJob) : Type 0 where
  pub file : j.file ≡ 1
  pub size : size_of j.wanted ≡ blocks
  pub wanted : IsWanted j.wanted

-- at most three writes of its first block
abbrev pub AreWrites : List WriteJob → Type 0
AreWrites ws = All (λ w. (w.file ≡ 1) × (w.block ≡ 0)) ws × (length ws ≤ 3)

-- a row of one of its first four blocks, as old as the datafile
pub record IsMend (j : MendJob) : Type 0 where
  pub file : j.file ≡ 1
  pub block : j.row.block ≤ 3
  pub version : j.row.version ≡ 1
