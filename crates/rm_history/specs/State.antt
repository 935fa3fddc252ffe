-- What a history makes of a block at each address.
use Rattle.std.specs.Prelude.{ℕ, zero, suc, ◌≡◌, ◌+◌, ◌≤◌, ◌⊎◌, ◌==◌, ◌&&◌, nat_lt, if◌then◌else◌, Bool, true, Option, Some, None, List, [], ◌∷◌, Contains}
use Rattle.std.specs.Option.{option_map_or}
use Rattle.rm_base.specs.{Content.{zero_block}, declared.block.{Change.{Change}, Row.{Row}}}
use Rattle.rm_history.specs.{Tree.{owner}, World.{creation_of}, declared.world.World.{World}}

-- the change is one of block b of file f, below s, at an address that the path of i owns
abbrev pub concerns : World → ℕ → ℕ → ℕ → ℕ → Change → Bool
concerns w i s f b c = (c.file == f) && (c.block == b) && nat_lt c.scn s && (owner w.tree i c.scn == c.inc)

-- of two changes the one of the greater SCN
abbrev pub later : Change → Option Change → Change
later c None = c
later c (Some d) = if nat_lt d.scn c.scn then c else d

-- of the changes that pass, the one of the greatest SCN
abbrev pub latest : (Change → Bool) → List Change → Option Change
latest p [] = None
latest p (c ∷ cs) = if p c then Some (later c (latest p cs)) else latest p cs

-- the last change of block b of file f below s on the path of i
abbrev pub last_change : World → List Change → ℕ → ℕ → ℕ → ℕ → Option Change
last_change w h i s f b = latest (concerns w i s f b) h

-- the row of a block by its last change, else its file's creation SCN and zero bytes
abbrev pub row_of : World → ℕ → ℕ → Option Change → Row
row_of w f b c = record { block = b; version = option_map_or (λ c. c.scn) c (creation_of w f); content = option_map_or (λ c. c.content) c zero_block }

-- The state of the block at (i, s): the version and content of its last change, else its file's
-- creation SCN and zero bytes.
abbrev pub state : World → List Change → ℕ → ℕ → ℕ → ℕ → Row
state w h i s f b = row_of w f b (last_change w h i s f b)

-- The change made the row: it concerns the block, and has the row's version and content.
pub record Made (w : World) (h : List Change) (i s f : ℕ) (r : Row) : Type 0 where
  pub change : Change
  pub is : Contains h change
  pub concerns : concerns w i s f r.block change ≡ true
  pub version : r.version ≡ change.scn
  pub content : r.content ≡ change.content

-- No change concerns the block: the row is as its file was created.
pub record Untouched (w : World) (h : List Change) (i s f : ℕ) (r : Row) : Type 0 where
  pub none : (c : Change) → Contains h c → ¬ (concerns w i s f r.block c ≡ true)
  pub version : r.version ≡ creation_of w f
  pub content : r.content ≡ zero_block

-- What is true of the state of a block: no change that concerns it lies above its version, and one of
-- them made it, or there is none.
pub record IsState (w : World) (h : List Change) (i s f : ℕ) (r : Row) : Type 0 where
  pub top : (c : Change) → Contains h c → concerns w i s f r.block c ≡ true → c.scn ≤ r.version
  pub held : Made w h i s f r ⊎ Untouched w h i s f r

-- the rows of n blocks from b on
abbrev pub rows_from : (ℕ → Row) → ℕ → ℕ → List Row
rows_from row b zero = []
rows_from row b (suc n) = row b ∷ rows_from row (b + 1) n

-- the states of the first n blocks of datafile f at (i, s)
abbrev pub states : World → List Change → ℕ → ℕ → ℕ → ℕ → List Row
states w h i s f n = rows_from (state w h i s f) 0 n
