-- The least block, of all files at an address, that is not determined.
use Rattle.std.specs.Prelude.{ℕ, ◌≡◌, ◌<◌, Some, true}
use Rattle.rm_base.specs.{BlockOrder.{IsBefore}, declared.block.Block.{Block}}
use Rattle.rm_history.specs.{Tree.{IsThere}, World.{file_of, exists}, Evidence.{Evidence}, Known.{Determined, IsGap}}
use Rattle.rm_history.specs.declared.world.{Datafile.{Datafile}, World.{World}}

-- the file exists at (i, s) and has the block
pub record IsTarget (w : World) (i s f b : ℕ) : Type 0 where
  pub there : IsThere w.tree i
  pub datafile : Datafile
  pub is : file_of w f ≡ Some datafile
  pub exists : exists w i s datafile ≡ true
  pub block : b < datafile.blocks

-- some version and content are told
pub record IsDetermined (w : World) (e : Evidence) (i s f b : ℕ) : Type 0 where
  pub version : ℕ
  pub content : Block
  pub is : Determined w e i s f b version content

-- (m, g) is the gap of the block
pub record HasGap (w : World) (e : Evidence) (i s f b m g : ℕ) : Type 0 where
  pub version : ℕ
  pub is : IsGap w e i s f b version m g

-- each block of each file that exists at (i, s) is determined
abbrev pub IsRecoverable : World → Evidence → ℕ → ℕ → Type 0
IsRecoverable w e i s = (f b : ℕ) → IsTarget w i s f b → IsDetermined w e i s f b

-- block b of file f is the least at (i, s) that is not determined, and (m, g) is its gap
pub record IsFirstGap (w : World) (e : Evidence) (i s f b m g : ℕ) : Type 0 where
  pub target : IsTarget w i s f b
  pub gap : HasGap w e i s f b m g
  pub least : (c d : ℕ) → IsTarget w i s c d → IsBefore c d f b → IsDetermined w e i s c d
