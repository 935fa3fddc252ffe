-- The moment of a statement.
use Rattle.std.specs.{Prelude.{ℕ, ◌≤◌, max, min, Option}, Option.{option_map_or}}
use Rattle.rm_base.specs.Numbers.{last_moment}
use Rattle.rm_machine.specs.{State.{ledger}, declared.state.State.{State}}

-- the latest moment that was kept, 0 where there is no database
abbrev pub kept_moment : Option State → ℕ
kept_moment o = option_map_or (λ s. (ledger s).base.moment) o 0

-- The moment of a statement: the clock's answer, or the latest moment that was kept, if that is later. No
-- moment is later than the last one.
abbrev pub moment_of : Option State → ℕ → ℕ
moment_of o clock = max (min clock last_moment) (kept_moment o)

-- the moment is one of a statement: none that was kept is later, and it is not past the last
pub record IsMomentIn (o : Option State) (moment : ℕ) : Type 0 where
  pub kept : kept_moment o ≤ moment
  pub last : moment ≤ last_moment
