-- What is in place, as evidence, and where it fits a catalog.
use Rattle.std.specs.Prelude.{ℕ, List, [], map, All}
use Rattle.rm_catalog.specs.{Trees.{nodes}, declared.record.Record.{Record}}
use Rattle.rm_evidence.specs.{Database.{dbid_in}, Gathered.{placed, placed_piece}, Known.{FitsPiece, FitsLog}}
use Rattle.rm_evidence.specs.declared.evidence.{Evidence.{Evidence}, InPlace.{InPlace}}

-- each datafile and each log in place is valid, and of an incarnation that is there
pub record FitsPlace (rs : List Record) (place : InPlace) : Type 0 where
  pub files : All (λ x. FitsPiece (nodes rs) (placed_piece (dbid_in rs) x)) place.files
  pub logs : All (FitsLog (nodes rs)) place.logs

-- what is in place, alone
abbrev pub placed_evidence : ℕ → InPlace → Evidence
placed_evidence dbid place =
    record { bases = placed (map (placed_piece dbid) place.files); level1s = []; logs = placed place.logs; skipped = [] }
