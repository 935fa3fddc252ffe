-- A duplicate, as a whole.
use Rattle.std.specs.Prelude.{◌≡◌, ℕ, List, Option, map}
use Rattle.rm_apply.specs.{Recover.{TellsAll}, declared.recovering.Recovered.{Recovered}}
use Rattle.rm_base.specs.Store.{Held}
use Rattle.rm_catalog.specs.declared.record.Record.{Record}
use Rattle.rm_catalog_typed.specs.TypedCatalog.{records_of}
use Rattle.rm_evidence.specs.{Database.{world_of}, declared.evidence.InPlace.{InPlace}}
use Rattle.rm_dup.specs.{Copies.{copies_of}, Entries.{catalog_of, moment_in}, declared.database.Duplicate.{Duplicate}}

-- a duplicate of what is recovered to (i, s): its copies, its records, and the numbers that its datafiles had
pub record IsDuplicate (held : Option Held) (rs : List Record) (place : InPlace) (i s dbid : ℕ) (d : Duplicate) : Type 0 where
  pub recovered : Recovered
  pub tells : TellsAll held rs place i s recovered
  pub pieces : d.pieces ≡ copies_of dbid s recovered.files
  pub records : d.records ≡ records_of (catalog_of (world_of rs) dbid (moment_in rs) s recovered.files)
  pub from : d.from ≡ map (λ x. x.file) recovered.files
  pub skipped : d.skipped ≡ recovered.skipped
