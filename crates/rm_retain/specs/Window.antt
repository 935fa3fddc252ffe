-- Where a recovery window starts, and its targets.
use Rattle.std.specs.{Prelude.{ℕ, ◌≡◌, ◌<◌, ◌≤◌, ◌+◌, ◌*◌, ◌&&◌, nat_le, Bool, Option, List, find, reverse}, Option.{option_map, option_or}}
use Rattle.rm_base.specs.declared.block.Mark.{Mark}
use Rattle.rm_history.specs.{Tree.{IsThere, IsProperAncestor, owner, end_of, reset_of, is_within}, declared.tree.Incarnation.{Incarnation}}
use Rattle.rm_retain.specs.Chosen.{Retention}

-- the mark is on the current path
abbrev pub is_on_path : List Incarnation → ℕ → Mark → Bool
is_on_path tree current m = is_within tree m.inc current m.scn

-- and at this moment it is at least so many days old
abbrev pub is_old : List Incarnation → ℕ → ℕ → ℕ → Mark → Bool
is_old tree current days moment m = is_on_path tree current m && nat_le (m.moment + days * 86400) moment

-- the SCN of the last mark on the current path that is so old
abbrev pub last_old : List Incarnation → ℕ → ℕ → ℕ → List Mark → Option ℕ
last_old tree current days moment marks = option_map (λ m. m.scn) (find (is_old tree current days moment) (reverse marks))

-- the SCN of the first mark on the current path
abbrev pub first_on_path : List Incarnation → ℕ → List Mark → Option ℕ
first_on_path tree current marks = option_map (λ m. m.scn) (find (is_on_path tree current) marks)

-- the SCN at which a window of so many days starts: the former, or else the latter
abbrev pub window_start : List Incarnation → ℕ → ℕ → ℕ → List Mark → Option ℕ
window_start tree current days moment marks = option_or (last_old tree current days moment marks) (first_on_path tree current marks)

-- (i, s) is a target of the window: s lies from its start up to the current end, and i owns s on the
-- current path
pub record IsInWindow (r : Retention) (i s : ℕ) : Type 0 where
  pub first : r.start ≤ s
  pub last : s ≤ end_of r.world.tree r.current
  pub owned : owner r.world.tree r.current s ≡ i

-- The target (i, s) is one of i: s lies from where i began up to its end, and up to there the path of i has
-- the owners of the current one. Below where the current incarnation began, i is an ancestor, to which the
-- database can be reset.
pub record IsTargetOf (tree : List Incarnation) (current i s : ℕ) : Type 0 where
  pub there : IsThere tree i
  pub begun : reset_of tree i ≤ s
  pub ended : s ≤ end_of tree i
  pub alike : (g : ℕ) → g ≤ s → owner tree i g ≡ owner tree current g
  pub ancestor : s < reset_of tree current → IsProperAncestor tree i current
