-- How edits are made in one pass over the records.
use Rattle.std.specs.{Prelude.{◌≡◌, ℕ, ◌≤◌, List, ◌++◌, All, Contains}, List.Sorted.{IsNonDecreasingBy}}
use Rattle.rm_catalog.specs.{Keys.{place_of, InOrder}, Edits.{place_of_edit, after_edits}, declared.record.{Record.{Record}, Edit.{Edit}}}

-- the edits ascend by place
abbrev pub EditsInOrder : List Edit → Type 0
EditsInOrder es = IsNonDecreasingBy place_of_edit es

-- the edits that are left touch no record below the last one that the pass has left behind
pub record IsReady (made : List Record) (left : List Edit) : Type 0 where
  pub order : InOrder made
  pub ascending : EditsInOrder left
  pub behind : (r : Record) (e : Edit) → Contains made r → Contains left e → place_of r ≤ place_of_edit e

-- all records of the list stand at or above the place
abbrev pub AllFromPlace : ℕ → List Record → Type 0
AllFromPlace p rest = All (λ r. p ≤ place_of r) rest

-- Some edits were made: with any records at or above the place behind them, what comes out at the end
-- is the same, and order is kept.
pub record HasMade (p : ℕ) (made : List Record) (left : List Edit) (made' : List Record) (left' : List Edit) : Type 0 where
  pub same : (rest : List Record) → AllFromPlace p rest → after_edits left (made ++ rest) ≡ after_edits left' (made' ++ rest)
  pub order : (rest : List Record) → AllFromPlace p rest → InOrder (made ++ rest) → InOrder (made' ++ rest)
