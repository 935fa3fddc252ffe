-- The two histories behind a gap.
use Rattle.std.specs.Prelude.{ℕ, ◌≡◌, ◌≤◌, ◌&&◌, nat_lt, not, Bool, Some, List, [], ◌∷◌, ◌++◌, filter}
use Rattle.rm_base.specs.declared.block.{Block.{Block}, Change.{Change}}
use Rattle.rm_history.specs.{History.{IsHistory, SameChanges}, State.{concerns, state}, Threads.{IsEnabled}, Tree.{IsTree, reset_of}}
use Rattle.rm_history.specs.{World.{file_of}, Evidence.{Evidence, Agrees, AgreesInAnyOrder}, Known.{HasLog}, FirstGap.{HasGap}}
use Rattle.rm_history.specs.declared.world.{Datafile.{Datafile}, World.{World}}

-- the incarnations are a tree, and each file was created at or above the resetlogs SCN of its incarnation
pub record IsWorld (w : World) : Type 0 where
  pub tree : IsTree w.tree
  pub files : (f : ℕ) (d : Datafile) → file_of w f ≡ Some d → reset_of w.tree d.inc ≤ d.creation

-- the change is one of the block, above v and below s on the path of i
abbrev pub is_untold : World → ℕ → ℕ → ℕ → ℕ → ℕ → Change → Bool
is_untold w i s f b v c = concerns w i s f b c && nat_lt v c.scn

-- the history without these
abbrev pub without : World → List Change → ℕ → ℕ → ℕ → ℕ → ℕ → List Change
without w h i s f b v = filter (λ c. not (is_untold w i s f b v c)) h

-- that history, and one change more of the block: at (m, g), by thread t, to the content x
abbrev pub changed : World → List Change → ℕ → ℕ → ℕ → ℕ → ℕ → ℕ → ℕ → ℕ → Block → List Change
changed w h i s f b v m g t x =
    without w h i s f b v ++ record { inc = m; thread = t; scn = g; file = f; block = b; content = x } ∷ []

-- the history k agrees with the evidence, and at (i, s) it has the block at version v with content x
pub record IsPossible (w : World) (e : Evidence) (i s f b : ℕ) (k : List Change) (v : ℕ) (x : Block) : Type 0 where
  pub history : IsHistory w k
  pub agrees : Agrees w k e
  pub state_is : state w k i s f b ≡ record { block = b; version = v; content = x }

-- the thread is enabled at (m, g), and no log of it holds that address
pub record LacksLog (w : World) (e : Evidence) (m g t : ℕ) : Type 0 where
  pub thread : IsEnabled w m g t
  pub no_log : ¬ HasLog e m g t

-- Nothing more could be known of the block: it may be at version v, and it may be at version g with
-- any content, changed there by any thread that is enabled and whose log is not at hand. There is such a thread.
pub record CouldBe (w : World) (h : List Change) (e : Evidence) (i s f b v m g : ℕ) (old : Block) : Type 0 where
  pub first : IsPossible w e i s f b (without w h i s f b v) v old
  pub second : (t : ℕ) → LacksLog w e m g t → (x : Block) → IsPossible w e i s f b (changed w h i s f b v m g t x) g x
  pub someone : (t : ℕ) × LacksLog w e m g t

-- behind the gap (m, g) of the block stand two histories, whichever history the evidence agrees with
pub record IsUnknown (w : World) (e : Evidence) (i s f b m g : ℕ) : Type 0 where
  pub gap : HasGap w e i s f b m g
  pub two : (h : List Change) → IsHistory w h → Agrees w h e → CouldBe w h e i s f b gap.version m g gap.is.greatest.content

-- the block has version v and content x in every history that agrees with the evidence
abbrev pub IsKnown : World → Evidence → ℕ → ℕ → ℕ → ℕ → ℕ → Block → Type 0
IsKnown w e i s f b v x =
    (h : List Change) → IsHistory w h → Agrees w h e → state w h i s f b ≡ record { block = b; version = v; content = x }

-- the history h has the changes of k, and agrees with the evidence
pub record IsOrdered (w : World) (k : List Change) (e : Evidence) (h : List Change) : Type 0 where
  pub history : IsHistory w h
  pub same : SameChanges h k
  pub agrees : Agrees w h e

-- so in every history that agrees in whatever order it lists its changes
abbrev pub IsKnownInAnyOrder : World → Evidence → ℕ → ℕ → ℕ → ℕ → ℕ → Block → Type 0
IsKnownInAnyOrder w e i s f b v x =
    (k : List Change) → IsHistory w k → AgreesInAnyOrder w k e → state w k i s f b ≡ record { block = b; version = v; content = x }

-- and the two histories stand behind the gap, in whatever order the one that agrees lists its changes
pub record IsUnknownInAnyOrder (w : World) (e : Evidence) (i s f b m g : ℕ) : Type 0 where
  pub gap : HasGap w e i s f b m g
  pub two : (k : List Change) → IsHistory w k → AgreesInAnyOrder w k e → (h : List Change) × SameChanges h k × CouldBe w h e i s f b gap.version m g gap.is.greatest.content
