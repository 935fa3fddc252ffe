-- What has to be there for a copy and for lists of writes.
use Rattle.std.specs.{Prelude.{◌≡◌, ◌≤◌, ◌<◌, ◌==◌, ℕ, suc, ◌+◌, Some, IsSome, List, [], ◌∷◌, All, length}, List.{find}}
use Rattle.std.specs.Option.{option_map}
use Rattle.rm_base.specs.Numbers.{last_scn}
use Rattle.rm_blocks.specs.File.{File}
use Rattle.rm_redo.specs.{Logs.{Logs}, Online.{IsThread, IsLost, thread_records}}
use Rattle.rm_live.specs.{Parts.{Parts, row_at}, Ruled.{total}}
use Rattle.rm_channel.specs.{Jobs.{IsWanted, size_of}, declared.jobs.{CopyJob.{CopyJob}, WriteJob.{WriteJob}}}

-- The datafile of the job is there, and has as many blocks as the job says.
pub record IsThere (files : List File) (j : CopyJob) : Type 0 where
  pub size : option_map (λ (x : File). length x.rows) (find (λ (x : File). x.file == j.file) files) ≡ Some (size_of j.wanted)
  pub wanted : IsWanted j.wanted

-- the block of the write is there
abbrev pub HasBlock : List File → WriteJob → Type 0
HasBlock files w = IsSome (row_at files w.file w.block)

-- the first list is that of thread t: each thread whose list is not empty is there, and its log is not lost
abbrev pub AreThreads : Logs → ℕ → List (List WriteJob) → Type 0
AreThreads logs t [] = Unit {0}
AreThreads logs t (ws ∷ wss) = (0 < length ws → IsThread logs t × (¬ IsLost logs t)) × AreThreads logs (suc t) wss

-- each thread's log has room for its list
abbrev pub HaveRoom : Logs → ℕ → List (List WriteJob) → Type 0
HaveRoom logs t [] = Unit {0}
HaveRoom logs t (ws ∷ wss) = (length (thread_records logs t) + length ws ≤ 65536) × HaveRoom logs (suc t) wss

-- the blocks are there, and the logs and SCNs have room
pub record CanWrite (p : Parts) (writers : List (List WriteJob)) : Type 0 where
  pub blocks : All (λ ws. All (HasBlock p.files) ws) writers
  pub logs : HaveRoom p.logs 1 writers
  pub scns : p.now + total length writers ≤ last_scn
