-- A standby of datafiles that stand at one address.
use Rattle.std.specs.Prelude.{ℕ, ◌≡◌, ◌<◌, ◌≤◌, ◌-◌, ◌==◌, ◌^◌, if◌then◌else◌, List, Some, None, true, length, map, slice_get, All, AllPairs, Contains}
use Rattle.std.specs.{List.{sum_by}, Option.{option_map_or}}
use Rattle.rm_base.specs.{Numbers.{last_scn}, declared.{block.Change.{Change}, kinds.Kind.TheVariants.{Full}}}
use Rattle.rm_blocks.specs.File.{File, IsInOrder}
use Rattle.rm_history.specs.{Artefacts.{high_of}, State.{states}, Tree.{IsThere}, World.{creation_of, exists, file_of}}
use Rattle.rm_history.specs.declared.world.{Datafile.{Datafile}, World.{World}}
use Rattle.rm_piece.specs.{Filling.{risen}, declared.set.{Set.{Set}, SetFile.{SetFile}}}

-- the SCN at which the datafile of this number was created; 0 for one that is not listed
abbrev pub creation_in : List Datafile → ℕ → ℕ
creation_in datafiles f = option_map_or (λ d. d.creation) (if f == 0 then None else slice_get datafiles (f - 1)) 0

-- a full member of a datafile that was created there
abbrev pub imaged_member : ℕ → ℕ → File → SetFile
imaged_member dbid creation x = record {
  creation = creation;
  piece = record {
    kind = Full;
    dbid = dbid;
    inc = x.inc;
    file = x.file;
    blocks = length x.rows;
    from = 0;
    checkpoint = x.checkpoint;
    high = high_of x.checkpoint (map (risen creation) x.rows);
    rows = map (risen creation) x.rows;
  };
}

-- the standby of these datafiles
abbrev pub imaged : World → ℕ → ℕ → ℕ → List File → Set
imaged w dbid inc checkpoint files =
    record { dbid = dbid; inc = inc; checkpoint = checkpoint; members = map (λ x. imaged_member dbid (creation_of w x.file) x) files }

-- A datafile of the database that exists at (inc, checkpoint) and stands there, with its blocks, each below the
-- checkpoint. That there are at most 64, which were created above 0, is so in each catalog.
pub record StandsAt (w : World) (inc checkpoint : ℕ) (x : File) : Type 0 where
  pub number : (1 ≤ x.file) × (x.file ≤ 64)
  pub datafile : Datafile
  pub is : file_of w x.file ≡ Some datafile
  pub exists : exists w inc checkpoint datafile ≡ true
  pub of : x.inc ≡ inc
  pub at : x.checkpoint ≡ checkpoint
  pub created : 1 ≤ datafile.creation
  pub few : (1 ≤ datafile.blocks) × (datafile.blocks ≤ 65536)
  pub order : IsInOrder x.rows
  pub contents : All (λ r. length r.content.0 ≡ 64) x.rows
  pub blocks : length x.rows ≡ datafile.blocks
  pub below : All (λ r. r.version < checkpoint) x.rows

-- what an image is made of
pub record CanImage (w : World) (dbid inc checkpoint : ℕ) (files : List File) : Type 0 where
  pub number : (1 ≤ dbid) × (dbid < 2 ^ 32)
  pub there : IsThere w.tree inc
  pub last : checkpoint ≤ last_scn
  pub positive : (1 ≤ inc) × (inc < 2 ^ 32)
  pub few : length files ≤ 64
  pub room : sum_by (λ x. length x.rows) files ≤ 131072
  pub ascend : AllPairs (λ x y. x.file < y.file) files
  pub each : All (StandsAt w inc checkpoint) files

-- every datafile that exists at (inc, checkpoint) is one of these, and each has its states there
pub record AreStates (w : World) (h : List Change) (inc checkpoint : ℕ) (files : List File) : Type 0 where
  pub every : (f : ℕ) (d : Datafile) → file_of w f ≡ Some d → exists w inc checkpoint d ≡ true → (x : File) × Contains files x × (x.file ≡ f)
  pub rows : (x : File) → Contains files x → x.rows ≡ states w h inc checkpoint x.file (length x.rows)
