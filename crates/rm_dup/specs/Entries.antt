-- The records of a duplicate.
use Rattle.std.specs.{Prelude.{◌≡◌, ◌≤◌, ◌+◌, ℕ, true, false, codes, List, [], ◌∷◌, None, Some, Contains, length, map}, Option.{option_map_or}}
use Rattle.rm_apply.specs.Restore.{backed_up}
use Rattle.rm_base.specs.{Numbers.{last_moment}, Store.{Held}, declared.kinds.Policy.TheVariants.{Redundancy}}
use Rattle.rm_blocks.specs.File.{File}
use Rattle.rm_catalog.specs.{Keys.{base}, declared.record.{PieceEntry.{PieceEntry}, Record.{Record}}}
use Rattle.rm_catalog_typed.specs.{Changes.{with_moment}, Ledger.{Ledger}, TypedCatalog.{TypedCatalog, records_of}}
use Rattle.rm_evidence.specs.{Names.{piece_name}, Objects.{piece_entry}, declared.evidence.InPlace.{InPlace}}
use Rattle.rm_history.specs.declared.world.World.{World}
use Rattle.rm_piece.specs.{Spelling.{spelling}, declared.piece.Piece.{Piece}}
use Rattle.rm_dup.specs.Copies.{copies_of, duplicated}

-- the latest moment that the records keep; 0 without a database
abbrev pub moment_in : List Record → ℕ
moment_in rs = option_map_or (λ b. b.moment) (base rs) 0

-- the record of a copy, under the number of its datafile
abbrev pub entry_of : ℕ → Piece → PieceEntry
entry_of moment a = piece_entry true false (codes "DUPLICATE") moment a.file a

-- a new database of the datafiles that were recovered until s, with a copy of each and one mark
abbrev pub ledger_of : World → (dbid moment s : ℕ) → List File → Ledger
ledger_of w dbid moment s files =
    record {
      base = record {
        dbid = dbid;
        threads = w.threads;
        current = 1;
        next_id = length files + 1;
        moment = moment;
        policy = Redundancy 1;
        parallelism = 1;
        tracking = false;
      };
      tree = (duplicated w s files).tree;
      files = (duplicated w s files).files;
      logs = [];
      pieces = map (entry_of moment) (copies_of dbid s files);
      sets = [];
      marks = record { moment = moment; inc = 1; scn = s } ∷ [];
      switches = [];
    }

-- without a saved site
abbrev pub catalog_of : World → (dbid moment s : ℕ) → List File → TypedCatalog
catalog_of w dbid moment s files = record { ledger = ledger_of w dbid moment s files; saved = None }

-- These are the records, but for the moment that they keep, which may be a later one: as a statement finds them at its moment.
pub record AreLater (rs now : List Record) : Type 0 where
  pub catalog : TypedCatalog
  pub of : records_of catalog ≡ rs
  pub moment : ℕ
  pub kept : catalog.ledger.base.moment ≤ moment
  pub last : moment ≤ last_moment
  pub is : now ≡ records_of (with_moment catalog moment)

-- each copy stands under its name
abbrev pub HoldsCopies : Held → List Piece → Type 0
HoldsCopies held copies = (a : Piece) → Contains copies a → held (piece_name true a.file) ≡ Some (spelling a)

-- these datafiles are in place, and no log
abbrev pub standing : List File → InPlace
standing files = record { files = files; logs = [] }

-- nothing is in place
abbrev pub nothing : InPlace
nothing = standing []

-- each copy is in place, as it stands there when it is restored
abbrev pub restored : List Piece → InPlace
restored copies = standing (map backed_up copies)
