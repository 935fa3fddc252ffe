-- The database of which records tell: its incarnations, threads, switches of threads and datafiles.
use Rattle.std.specs.{Prelude.{◌≡◌, ℕ, ◌<◌, ◌≤◌, Contains, List, Some}, List.{filter_map}, Option.{option_map, option_map_or}}
use Rattle.rm_base.specs.Numbers.{last_scn}
use Rattle.rm_history.specs.{Tree.{IsThere, IsTree, end_of, reset_of}, World.{file_of}, declared.tree.Incarnation.{Incarnation}}
use Rattle.rm_history.specs.declared.world.{Datafile.{Datafile}, Switch.{Switch}, World.{World}}
use Rattle.rm_catalog.specs.{Keys.{base, datafile_in}, Switches.{began_with, switches}, Trees.{nodes}}
use Rattle.rm_catalog.specs.declared.record.{DatafileEntry.{DatafileEntry}, Record.{Record}}

-- a datafile as its record tells it
abbrev pub created_by : DatafileEntry → Datafile
created_by f = record { inc = f.inc; creation = f.creation; blocks = f.blocks }

-- the datafiles of the records, in order
abbrev pub datafiles : List Record → List Datafile
datafiles rs = filter_map (λ r. option_map created_by (datafile_in r)) rs

-- the number of the database; 0 without one
abbrev pub dbid_in : List Record → ℕ
dbid_in rs = option_map_or (λ b. b.dbid) (base rs) 0

-- the current incarnation; 0 without a database
abbrev pub current_in : List Record → ℕ
current_in rs = option_map_or (λ b. b.current) (base rs) 0

-- what the object of a set is compared with beside its record: the number of the database, and its datafiles as they were created
pub record Database : Type 0 where
  pub dbid : ℕ
  pub files : List Datafile

-- the database of these records
abbrev pub database_in : List Record → Database
database_in rs = record { dbid = dbid_in rs; files = datafiles rs }

abbrev pub world_of : List Record → World
world_of rs = record { tree = nodes rs; threads = began_with rs; switches = switches rs; files = datafiles rs }

-- what is true of a datafile: it was created on an incarnation that is there
pub record IsCreated (tree : List Incarnation) (d : Datafile) : Type 0 where
  pub inc : IsThere tree d.inc
  pub reset : reset_of tree d.inc ≤ d.creation
  pub creation : 0 < d.creation
  pub blocks : (0 < d.blocks) × (d.blocks ≤ 65536)

-- what is true of the database of a catalog
pub record IsSoundWorld (w : World) : Type 0 where
  pub tree : IsTree w.tree
  pub files : (f : ℕ) (d : Datafile) → file_of w f ≡ Some d → IsCreated w.tree d
  pub late : (x : Switch) → Contains w.switches x → 0 < x.scn
  -- two switches at one SCN of one incarnation are one
  pub switches : (x y : Switch) → Contains w.switches x → Contains w.switches y → x.inc ≡ y.inc → x.scn ≡ y.scn → x ≡ y

-- what is true of the current incarnation of a catalog
pub record IsCurrent (rs : List Record) (n : ℕ) : Type 0 where
  pub there : IsThere (nodes rs) n
  pub end : end_of (nodes rs) n ≤ last_scn
