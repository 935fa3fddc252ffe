-- What a restore puts in place: of each datafile the chosen backup, or else the datafile as it was created.
use Rattle.std.specs.Prelude.{ℕ, ◌≡◌, ◌<◌, ◌≤◌, IsTrue, Option, Some, None, List, All, map}
use Rattle.rm_base.specs.{Choice.{IsLatest}, Store.{Held}}
use Rattle.rm_blocks.specs.File.{File, created}
use Rattle.rm_catalog.specs.declared.record.Record.{Record}
use Rattle.rm_evidence.specs.{Database.{world_of}, declared.evidence.{Evidence.{Evidence}, InPlace.{InPlace}}}
use Rattle.rm_history.specs.{Tree.{is_within}, World.{file_of}, declared.{tree.Incarnation.{Incarnation}, world.Datafile.{Datafile}}}
use Rattle.rm_history.specs.declared.world.World.{World}
use Rattle.rm_piece.specs.declared.piece.Piece.{Piece}
use Rattle.rm_apply.specs.{Files.{AreExactly, IsAsked}, Recover.{IsEvidence}, declared.origin.Origin.{Origin}}
use Rattle.rm_apply.specs.declared.{origin.Origin.TheVariants.{Backup, Created}, recovering.Recovered.{Recovered}}

-- A backup of datafile f whose incarnation is on the path of i, whose high is at most its segment end there, if
-- that ends, and whose checkpoint is at most s. What is in place has the id 0 and is none.
pub record MayRestore (tree : List Incarnation) (i s f : ℕ) (x : ℕ × Piece) : Type 0 where
  pub backup : 0 < x.0
  pub file : x.1.file ≡ f
  pub within : IsTrue (is_within tree x.1.inc i x.1.high)
  pub checkpoint : x.1.checkpoint ≤ s

-- the id and the checkpoint of a backup
abbrev pub shown : ℕ × Piece → ℕ × ℕ
shown x = (x.0, x.1.checkpoint)

-- of these the one of the greatest checkpoint, ties by the greatest id, or none
abbrev pub IsBackupFor : List Incarnation → List (ℕ × Piece) → ℕ → ℕ → ℕ → Option (ℕ × Piece) → Type 0
IsBackupFor tree bases i s f o = IsLatest shown (MayRestore tree i s f) bases o

-- a datafile as it was created, and the backup from which it is restored, if there is one
pub record Restoration : Type 0 where
  pub number : ℕ
  pub datafile : Datafile
  pub backup : Option (ℕ × Piece)

-- the datafile was created so, and the backup is the one that is chosen
pub record IsRestoration (w : World) (bases : List (ℕ × Piece)) (i s : ℕ) (r : Restoration) : Type 0 where
  pub is : file_of w r.number ≡ Some r.datafile
  pub chosen : IsBackupFor w.tree bases i s r.number r.backup

-- the datafile as it stood in the backup
abbrev pub backed_up : Piece → File
backed_up a = record { file = a.file; inc = a.inc; checkpoint = a.checkpoint; rows = a.rows }

-- as it stood in its backup, or else as it was created
abbrev pub file_by : ℕ → Datafile → Option (ℕ × Piece) → File
file_by f d None = created f d.inc d.creation d.blocks
file_by f d (Some x) = backed_up x.1

-- from where that is
abbrev pub origin_by : Option (ℕ × Piece) → Origin
origin_by None = Created
origin_by (Some x) = Backup x.0 x.1.checkpoint

-- the datafile that a restoration puts in place
abbrev pub restored : Restoration → File
restored r = file_by r.number r.datafile r.backup

-- and its origin
abbrev pub origin_of : Restoration → Origin
origin_of r = origin_by r.backup

-- the datafiles of these numbers as they are restored, and their origins, in order
pub record AreRestored (w : World) (bases : List (ℕ × Piece)) (i s : ℕ) (ns : List ℕ) (files : List File) (origins : List Origin) : Type 0 where
  pub restorations : List Restoration
  pub numbers : map (λ r. r.number) restorations ≡ ns
  pub each : All (IsRestoration w bases i s) restorations
  pub are : files ≡ map restored restorations
  pub from : origins ≡ map origin_of restorations

-- by what is at hand: the datafiles that exist at (i, s), or the one that is named, ascending by number
pub record Restores (held : Option Held) (rs : List Record) (place : InPlace) (i s : ℕ) (only : Option ℕ) (r : Recovered) (origins : List Origin) : Type 0 where
  pub evidence : Evidence
  pub is : IsEvidence held rs place evidence
  pub numbers : List ℕ
  pub asked : AreExactly (IsAsked (world_of rs) i s only) numbers
  pub restored : AreRestored (world_of rs) evidence.bases i s numbers r.files origins
  pub skipped : r.skipped ≡ evidence.skipped
