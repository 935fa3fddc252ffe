-- Which skipped records matter: those of a copy or a level 1 with the tag.
use Rattle.std.specs.{Prelude.{ℕ, Bool, false, List}, Option.{option_map_or}}
use Rattle.rm_machine.specs.{RecoverCopy.{is_for_copies}, Upkeep.{piece_at}, declared.state.State.{State}}

-- the record of this id is such a one
abbrev pub is_of_copies : State → List ℕ → ℕ → Bool
is_of_copies s tag id = option_map_or (is_for_copies tag) (piece_at s.catalog id) false
