-- Which blocks a level 1 wants, and by what it is read.
use Rattle.std.specs.Prelude.{ℕ, ◌≡◌, ◌≤◌, ◌<◌, Some, IsSome, List, length}
use Rattle.rm_base.specs.declared.block.Change.{Change}
use Rattle.rm_live.specs.Ruled.{upto}
use Rattle.rm_track.specs.{Bitmaps.{Tracked, oldest, tracked_at}, Told.{HasChange, IsChanged}}
use Rattle.rm_machine.specs.{Asked.{blocks_read, candidates_in}, Backup.{rows_in}, State.{current_of, now_of}, declared.job.Job.{Job}}
use Rattle.rm_machine.specs.declared.state.State.{State}

-- by the history: a block that a level 1 wants has a change of the current incarnation from `low` on and below `now`
abbrev pub HasChangedSince : State → List Change → ℕ → ℕ → ℕ → Type 0
HasChangedSince s h f low b = IsChanged (HasChange (current_of s) h f) low (now_of s) b

-- Its datafile has bitmaps: where they go back to the parent's checkpoint it is read by them, and else all its blocks are.
pub record IsReadByBitmaps (u : State) (j : Job) (from : ℕ) : Type 0 where
  pub bitmaps : Tracked
  pub are : tracked_at u.instance.tracker j.file ≡ Some bitmaps
  pub known : oldest bitmaps.ended bitmaps.start ≤ from → IsSome (candidates_in u j)
  pub unknown : from < oldest bitmaps.ended bitmaps.start → blocks_read u j ≡ upto 0 (length (rows_in u j.file))
