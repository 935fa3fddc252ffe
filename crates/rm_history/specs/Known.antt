-- What the evidence tells of one block: where its content is seen, where it was quiet, and what follows.
use Rattle.std.specs.Prelude.{ℕ, ◌≡◌, ◌<◌, ◌≤◌, false, Some, Contains}
use Rattle.rm_base.specs.{Content.{zero_block}, declared.block.{Block.{Block}, Change.{Change}, Row.{Row}}}
use Rattle.rm_history.specs.{Agrees.{lists}, Artefacts.{Base, Level1, Log}, Threads.{IsEnabled}, Tree.{owner}, World.{file_of}}
use Rattle.rm_history.specs.{Evidence.{Evidence}, declared.world.{Datafile.{Datafile}, World.{World}}}

-- a row of block b of file f, in an artefact of this incarnation and checkpoint
pub data HasRow (e : Evidence) (f b : ℕ) : ℕ → ℕ → Row → Type 0 where
  in_base : (a : Base) (r : Row) → Contains e.bases a → Contains a.rows r → a.file ≡ f → r.block ≡ b → HasRow e f b a.inc a.checkpoint r
  in_level1 : (a : Level1) (r : Row) → Contains e.level1s a → Contains a.rows r → a.file ≡ f → r.block ≡ b → HasRow e f b a.inc a.checkpoint r

-- a change of block b of file f, in this log
pub record HasChange (e : Evidence) (f b : ℕ) (a : Log) (c : Change) : Type 0 where
  pub log : Contains e.logs a
  pub change : Contains a.changes c
  pub file : c.file ≡ f
  pub block : c.block ≡ b

-- The content x of block b of file f is seen at the address (m, v): a row shows it at its version, a
-- log at the SCN of a change, and the creation of the file shows zero bytes.
pub data Seen (w : World) (e : Evidence) (f b : ℕ) : ℕ → ℕ → Block → Type 0 where
  by_row : (j c : ℕ) (r : Row) → HasRow e f b j c r → Seen w e f b (owner w.tree j r.version) r.version r.content
  by_log : (a : Log) (c : Change) → HasChange e f b a c → Seen w e f b a.inc c.scn c.content
  by_creation : (d : Datafile) → file_of w f ≡ Some d → Seen w e f b d.inc d.creation zero_block

-- the log holds the address (m, g)
pub record Holds (e : Evidence) (m g : ℕ) (a : Log) : Type 0 where
  pub log : Contains e.logs a
  pub inc : a.inc ≡ m
  pub first : a.first ≤ g
  pub next : g < a.next

-- thread t has a log that holds the address
pub record HasLog (e : Evidence) (m g t : ℕ) : Type 0 where
  pub log : Log
  pub holds : Holds e m g log
  pub thread : log.thread ≡ t

-- The block did not change at (m, g): a row has it at a lower version with a later checkpoint, or a
-- level 1 that looked for it does not list it, or each thread that is enabled there has a log that holds
-- the address and none of these tells of it.
pub data Quiet (w : World) (e : Evidence) (f b m g : ℕ) : Type 0 where
  by_row : (j c : ℕ) (r : Row) → HasRow e f b j c r → r.version < g → g < c → owner w.tree j g ≡ m → Quiet w e f b m g
  by_absence : (a : Level1) → Contains e.level1s a → a.file ≡ f → lists a.rows b ≡ false → a.from ≤ g → g < a.checkpoint → owner w.tree a.inc g ≡ m → Quiet w e f b m g
  by_logs : ((t : ℕ) → IsEnabled w m g t → HasLog e m g t) → ((a : Log) (c : Change) → Holds e m g a → HasChange e f b a c → ¬ (c.scn ≡ g)) → Quiet w e f b m g

-- v is the greatest version below s at which the block is seen on the path of i
pub record IsGreatest (w : World) (e : Evidence) (i s f b v : ℕ) : Type 0 where
  pub below : v < s
  pub content : Block
  pub seen : Seen w e f b (owner w.tree i v) v content
  pub most : (u : ℕ) (x : Block) → u < s → Seen w e f b (owner w.tree i u) u x → u ≤ v

-- each address that the path of i owns above v and below s is quiet
abbrev pub QuietBetween : World → Evidence → ℕ → ℕ → ℕ → ℕ → ℕ → Type 0
QuietBetween w e i v s f b = (g : ℕ) → v < g → g < s → Quiet w e f b (owner w.tree i g) g

-- the block is told at (i, s): version v, and a content x that is seen there
pub record Determined (w : World) (e : Evidence) (i s f b v : ℕ) (x : Block) : Type 0 where
  pub greatest : IsGreatest w e i s f b v
  pub seen : Seen w e f b (owner w.tree i v) v x
  pub quiet : QuietBetween w e i v s f b

-- (m, g) is the least address on the path of i, above the greatest version v and below s, that is not quiet
pub record IsGap (w : World) (e : Evidence) (i s f b v m g : ℕ) : Type 0 where
  pub greatest : IsGreatest w e i s f b v
  pub above : v < g
  pub below : g < s
  pub owned : owner w.tree i g ≡ m
  pub unknown : ¬ Quiet w e f b m g
  pub least : QuietBetween w e i v g f b
