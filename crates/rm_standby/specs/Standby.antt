-- A set that holds what a history made of each datafile at one address.
use Rattle.std.specs.{Prelude.{ℕ, ◌≡◌, Bool, List, Some, true, false, All, Contains}, List.{list_all}}
use Rattle.rm_base.specs.declared.{block.{Change.{Change}, Row.{Row}}, kinds.Kind.{Kind, TheVariants.{Full, Level0, Level1, Place}}}
use Rattle.rm_history.specs.{State.{states}, World.{exists, file_of}, declared.world.{Datafile.{Datafile}, World.{World}}}
use Rattle.rm_piece.specs.{Rows.{from_on}, declared.set.{Set.{Set}, SetFile.{SetFile}}}

-- The member is of a datafile that exists at (i, s), and has those of its states there that are picked.
pub record IsTaken (w : World) (h : List Change) (i s : ℕ) (pick : List Row → List Row) (m : SetFile) : Type 0 where
  pub datafile : Datafile
  pub is : file_of w m.piece.file ≡ Some datafile
  pub exists : exists w i s datafile ≡ true
  pub creation : m.creation ≡ datafile.creation
  pub blocks : m.piece.blocks ≡ datafile.blocks
  pub rows : m.piece.rows ≡ pick (states w h i s m.piece.file datafile.blocks)

-- the set has a member of the datafile
pub record HasFile (s : Set) (f : ℕ) : Type 0 where
  pub member : SetFile
  pub held : Contains s.members member
  pub is : member.piece.file ≡ f

-- the set has a member of each datafile that exists at its address, and of no other, with the states that are picked
pub record Holds (w : World) (h : List Change) (pick : List Row → List Row) (s : Set) : Type 0 where
  pub each : (f : ℕ) (d : Datafile) → file_of w f ≡ Some d → exists w s.inc s.checkpoint d ≡ true → HasFile s f
  pub taken : (m : SetFile) → Contains s.members m → IsTaken w h s.inc s.checkpoint pick m

-- all states at the set's address
abbrev pub HoldsStates : World → List Change → Set → Type 0
HoldsStates w h s = Holds w h (λ rows. rows) s

-- an increment: those of a version at or above `from`, where each member begins
pub record HoldsSince (w : World) (h : List Change) (from : ℕ) (s : Set) : Type 0 where
  pub holds : Holds w h (from_on from) s
  pub begins : All (λ m. m.piece.from ≡ from) s.members

-- a backup of this kind has every block
abbrev pub has_all : Kind → Bool
has_all Full = true
has_all Level0 = true
has_all Level1 = false
has_all Place = true

-- a standby is a set whose members have every block
abbrev pub is_standby : Set → Bool
is_standby s = list_all (λ m. has_all m.piece.kind) s.members
