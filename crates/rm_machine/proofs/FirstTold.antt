-- The bitmaps of a database that is opened or loaded tell its changes.
use Rattle.std.proofs.Common.{◌==◌, ◌+◌, ◌<◌, ℕ, Bool, true, false, cond, List, [], ◌∷◌, Some, IfSome, All, subst}
use Rattle.std.proofs.lemmas.List.Elements.{All-contains}
use Rattle.rm_base.specs.declared.block.Change.{Change}
use Rattle.rm_history.specs.{Tree.{end_of}, World.{exists}, declared.{tree.Incarnation.{Incarnation}, world.Datafile.{Datafile}}}
use Rattle.rm_history.specs.declared.world.World.{World}
use Rattle.rm_track.specs.{Bitmaps.{Tracked, fresh, tracked_at}, Told.{HasChange, LieBelow, Tell, TellChanges}}
use Rattle.rm_track.proofs.Telling.{fresh-tells}
use Rattle.rm_catalog_typed.specs.{Ledger.{Ledger}, Worlds.{world_of}}
use Rattle.rm_machine.specs.Tracked.{first_tracker, fresh_from, tracks}

-- the changes of an incarnation lie below its end
pub lie-below : (tree : List Incarnation) (i : ℕ) (h : List Change) → All (λ c. c.scn < end_of tree c.inc) h → LieBelow i h (end_of tree i)
lie-below tree i h below c has same = subst (λ j. c.scn < end_of tree j) same (All-contains (λ (c : Change). c.scn < end_of tree c.inc) h c below has)

-- no bitmap tells anything
pub tell-none : (i : ℕ) (h : List Change) (now : ℕ) → Tell i h now []
tell-none i h now f = tt

-- one datafile more may be tracked
more-tell : (i now f blocks : ℕ) (h : List Change) (ts : List Tracked) (there : Bool) → LieBelow i h now → Tell i h now ts → Tell i h now (cond there (fresh f blocks now ∷ ts) ts)
more-tell i now f blocks h ts false below tell g = tell g
more-tell i now f blocks h ts true below tell g = by (f == g)
  where
    by : (same : Bool) → IfSome (cond same (Some (fresh f blocks now)) (tracked_at ts g)) (TellChanges (HasChange i h g) now)
    by true = fresh-tells (HasChange i h g) now f blocks (λ b scn has. subst (λ s. s < now) has.scn (below has.change has.made has.inc))
    by false = tell g

-- datafiles that are tracked from above all changes on
pub tell-fresh_from : (w : World) (i now : ℕ) (h : List Change) (f : ℕ) (ds : List Datafile) → LieBelow i h now → Tell i h now (fresh_from w i now f ds)
tell-fresh_from w i now h f [] below = tell-none i h now
tell-fresh_from w i now h f (d ∷ ds) below = more-tell i now f d.blocks h (fresh_from w i now (f + 1) ds) (exists w i now d) below (tell-fresh_from w i now h (f + 1) ds below)

-- those of a database in any mode, by its records
pub tell-first : (l : Ledger) (is_open : Bool) (h : List Change) → All (λ c. c.scn < end_of l.tree c.inc) h → Tell l.base.current h (end_of l.tree l.base.current) (first_tracker is_open l)
tell-first l is_open h below = by (tracks is_open l)
  where
    i : ℕ
    i = l.base.current

    now : ℕ
    now = end_of l.tree i

    by : (tracking : Bool) → Tell i h now (cond tracking (fresh_from (world_of l) i now 1 l.files) [])
    by true = tell-fresh_from (world_of l) i now h 1 l.files (lie-below l.tree i h below)
    by false = tell-none i h now
