-- How far the path of an incarnation agrees with that of a target.
use Rattle.std.specs.Prelude.{ℕ, ◌≡◌, ◌-◌, ◌<◌, ◌≤◌, ◌==◌, if◌then◌else◌, List, slice_index_or}
use Rattle.rm_base.specs.Numbers.{last_scn}
use Rattle.rm_history.specs.{Tree.{IsThere, owner, reset_of}, declared.tree.Incarnation.{Incarnation}}
use Rattle.rm_plan.specs.declared.span.Span.{Span}

-- The span is the way of j towards (i, s): it begins where j began, and ends where its path and that of
-- i come to have other owners, at s at most.
pub record IsWay (tree : List Incarnation) (i s j : ℕ) (x : Span) : Type 0 where
  pub start : x.start ≡ reset_of tree j
  pub until : x.end ≤ s
  pub alike : (g : ℕ) → 0 < g → g < x.end → owner tree i g ≡ owner tree j g
  pub apart : (g : ℕ) → 0 < g → g < s → g < last_scn → owner tree i g ≡ owner tree j g → g < x.end

-- no SCN
abbrev pub nowhere : Span
nowhere = record { start = 0; end = 0 }

-- the way of j
abbrev pub way_of : List Span → ℕ → Span
way_of ways j = if j == 0 then nowhere else slice_index_or ways (j - 1) nowhere

-- the ways of all incarnations, in order
pub record AreWays (tree : List Incarnation) (i s : ℕ) (ways : List Span) : Type 0 where
  pub each : (j : ℕ) → IsThere tree j → IsWay tree i s j (way_of ways j)
