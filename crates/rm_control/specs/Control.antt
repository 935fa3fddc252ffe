-- A near keeper, and a far one that follows it.
use Rattle.std.specs.Prelude.{◌≤◌, ◌⊎◌, ℕ, List, Option}
use Rattle.rm_base.specs.Outside.{Rose}
use Rattle.rm_catalog.specs.declared.record.{Edit.{Edit}, Record.{Record}}
use Rattle.rm_control.specs.Follows.{Behind, Follows}

-- both keepers; the edits that wait, in order; in how many lists they came; and how many lists may wait
pub record Parts (N F : Type 0) : Type 0 where
  pub near : N
  pub far : F
  pub waiting : List Edit
  pub lists : ℕ
  pub keep : ℕ

-- what the far keeper has, and what waits for it
abbrev pub behind : {N F : Type 0} → (F → Option (List Record)) → Parts N F → Behind
behind kept c = record { far = kept c.far; waiting = c.waiting; lists = c.lists }

-- the near records are the far ones after the lists that wait, of which there are no more than may
pub record IsFollowed (near far : Option (List Record)) (waiting : List Edit) (lists keep : ℕ) : Type 0 where
  pub follows : Follows near far waiting
  pub few : lists ≤ keep
  pub some : 1 ≤ keep

-- one of two counts rose
abbrev pub OneRose : ℕ → ℕ → ℕ → ℕ → Type 0
OneRose near near' far far' = Rose near near' ⊎ Rose far far'
