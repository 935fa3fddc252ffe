-- What a recovery that tells all leads to: a duplicate that is valid.
use Rattle.std.proofs.Common.{◌≡◌, ◌<◌, ◌≤◌, ◌^◌, ℕ, List, Option, None, length, All}
use Rattle.rm_apply.specs.{Recover.{TellsAll, outside}, declared.recovering.Recovered.{Recovered}}
use Rattle.rm_base.specs.{Numbers.{last_moment}, Store.{Held}}
use Rattle.rm_blocks.specs.File.{File}
use Rattle.rm_catalog.specs.{Rules.{HasDatabase, IsCatalog}, Trees.{nodes}, declared.record.Record.{Record}}
use Rattle.rm_catalog_typed.{specs.{Facts.{IsTypedCatalog}, TypedCatalog.{records_of}}, proofs.{Fitted.{base_fits, moment_fits}, Valid.{typed_catalog-valid}}}
use Rattle.rm_evidence.specs.{Database.{world_of}, declared.evidence.InPlace.{InPlace}}
use Rattle.rm_history.specs.Tree.{IsThere}
use Rattle.rm_piece.specs.Valid.{IsPiece}
use Rattle.rm_dup.{specs.{Copies.{copies_of}, Entries.{catalog_of, moment_in}}, proofs.{Gathered.{catalog_at}, Valid.{catalog-valid, copies-valid, rows-few}}}

module _ (rs : List Record) (catalog : IsCatalog rs) (database : HasDatabase rs) (held : Option Held) (place : InPlace) (i s dbid : ℕ) (there : IsThere (nodes rs) i) (inside : outside (nodes rs) i s ≡ None)
    (some : (1 ≤ dbid) × (dbid < 2 ^ 32)) (r : Recovered) (tells : TellsAll held rs place i s r) where
  pub pieces-valid : All IsPiece (copies_of dbid s r.files)
  pieces-valid = copies-valid rs catalog database tells.evidence tells.is.fits i s dbid r.files there inside some tells.files

  pub catalog-is : IsTypedCatalog (catalog_of (world_of rs) dbid (moment_in rs) s r.files)
  catalog-is = catalog-valid rs catalog database tells.evidence tells.is.fits i s dbid r.files there inside some tells.files

  -- also at a later moment
  pub later-is : (now : ℕ) → moment_in rs ≤ now → now ≤ last_moment → IsTypedCatalog (catalog_at (world_of rs) dbid (moment_in rs) now s r.files)
  later-is now kept last =
      let new = catalog_of (world_of rs) dbid (moment_in rs) s r.files in
      base_fits new (record new.ledger.base { moment = now }) catalog-is (moment_fits new now catalog-is kept last)

  pub records-valid : IsCatalog (records_of (catalog_of (world_of rs) dbid (moment_in rs) s r.files))
  records-valid = typed_catalog-valid (catalog_of (world_of rs) dbid (moment_in rs) s r.files) catalog-is

  pub few-rows : All (λ (x : File). length x.rows ≤ 65536) r.files
  few-rows = rows-few rs catalog database tells.evidence tells.is.fits i s dbid r.files there inside some tells.files
