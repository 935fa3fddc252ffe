-- The copies of a duplicate are valid pieces, and its records are a typed catalog's.
use Rattle.std.specs.{Prelude.{sum_by}, List.{enumerate_from}, Option.{option_map, option_map_or}}
use Rattle.std.proofs.Common.{◌≡◌, ◌<◌, ◌≤◌, ◌+◌, ◌-◌, ◌^◌, ◌∙◌, ℕ, List, [], ◌∷◌, None, Some, length, map, get_or, slice_get, Contains, All, AllPairs, refl, ap, arith}
use Rattle.std.proofs.lemmas.List.{length-map, Elements.{All-map, All-nil, Contains-get_or}, FromFn.{length-enumerate_from}}
use Rattle.std.proofs.lemmas.Option.{slice_get-get_or, slice_get-map, slice_get_within}
use Rattle.rm_base.{specs.{Numbers.{last_scn}, declared.block.Row.{Row}}, proofs.{Lists.{pairs-mapped}, Members.{none-in}}}
use Rattle.rm_base.proofs.{Sealing.{length-sealed}, Slots.{all-get}, Numbered.{all-numbered, numbers-ascend}}
use Rattle.rm_blocks.specs.File.{File}
use Rattle.rm_catalog.specs.{Rules.{HasDatabase, IsCatalog}, Trees.{nodes}, declared.record.{LogEntry.{LogEntry}, PieceEntry.{PieceEntry}}}
use Rattle.rm_catalog.specs.declared.record.{Record.{Record}, SetEntry.{SetEntry}}
use Rattle.rm_catalog_typed.specs.{Facts.{IsTypedCatalog}, Ledger.{Ledger, ledger_records}}
use Rattle.rm_catalog_typed.specs.LedgerFacts.{AreIds, AreIncarnations, IsCreated, IsLedger, IsLogEntry, IsPieceEntry, IsSetEntry}
use Rattle.rm_catalog_typed.proofs.{Fitted.{many}, Fresh.{one_incarnation, one_mark}, Ledgers.{datafiles-fit, incarnations}}
use Rattle.rm_catalog_typed.proofs.Trees.{first-begins}
use Rattle.rm_evidence.specs.{Database.{datafiles, world_of}, Known.{FitsTree, known_of}, declared.evidence.Evidence.{Evidence}}
use Rattle.rm_evidence.proofs.{Contents.{seen-content}, Fitting.{ascends}}
use Rattle.rm_history.specs.{Tree.{IsThere, end_of, owner, reset_of}, World.{blocks_of, creation_of}}
use Rattle.rm_history.{specs.declared.{tree.Incarnation.{Incarnation}, world.Datafile.{Datafile}}, proofs.Highs.{high-bound, high-least}}
use Rattle.rm_history.proofs.{Owners.{owner-first}, Worlds.{file-there}}
use Rattle.rm_piece.{specs.{Spelling.{body_of}, Valid.{IsPiece}, declared.piece.Piece.{Piece}}, proofs.Bodies.{length-body}}
use Rattle.rm_piece.proofs.Fitting.{fits as piece-fits}
use Rattle.rm_apply.{specs.{Recover.{outside}, Told.{AreFilesAt}}, proofs.Numbers.{few-targets}}
use Rattle.rm_dup.specs.{Copies.{as_first, copies_of, copy_as, first_until}, Entries.{catalog_of, entry_of, ledger_of, moment_in}}
use Rattle.rm_dup.proofs.{Back.{file-target, file-told, is-solid, member}, Blocks.{few-blocks}, Source.{facts, within}}

-- what is true of the copy of each datafile is true of all copies
pub all-copies : (P : Piece → Type 0) (dbid s : ℕ) (xs : List File) → ((k : ℕ) (x : File) → slice_get xs k ≡ Some x → P (copy_as dbid s (1 + k, x))) → All P (copies_of dbid s xs)
all-copies P dbid s xs each = All-map P (copy_as dbid s) (enumerate_from 1 xs) (all-numbered 1 xs (λ (p : ℕ × File). P (copy_as dbid s p)) each)

-- the copies ascend by number, and so do their ids
pub copies-ascend : (dbid s : ℕ) (xs : List File) → AllPairs (λ (a b : Piece). a.file < b.file) (copies_of dbid s xs)
copies-ascend dbid s xs =
    pairs-mapped (copy_as dbid s) (λ (p q : ℕ × File). p.0 < q.0) (λ (a b : Piece). a.file < b.file) (λ p q less. less) (enumerate_from 1 xs)
    (numbers-ascend 1 xs)

ids-ascend : (moment dbid s : ℕ) (xs : List File) → AllPairs (λ (p q : PieceEntry). p.id < q.id) (map (entry_of moment) (copies_of dbid s xs))
ids-ascend moment dbid s xs =
    pairs-mapped (entry_of moment) (λ (a b : Piece). a.file < b.file) (λ (p q : PieceEntry). p.id < q.id) (λ a b less. less) (copies_of dbid s xs)
    (copies-ascend dbid s xs)

-- a datafile of the source, and what is known of it
record IsOf (rs : List Record) (x : File) : Type 0 where
  datafile : Datafile
  number : 0 < x.file
  found : slice_get (datafiles rs) (x.file - 1) ≡ Some datafile
  created : creation_of (world_of rs) x.file ≡ datafile.creation
  size : blocks_of (world_of rs) x.file ≡ datafile.blocks
  fit : IsCreated (nodes rs) datafile

module _ (rs : List Record) (catalog : IsCatalog rs) (database : HasDatabase rs) (e : Evidence) (fits : FitsTree (nodes rs) e) (i s dbid : ℕ) (files : List File) (there : IsThere (nodes rs) i)
    (inside : outside (nodes rs) i s ≡ None) (some : (1 ≤ dbid) × (dbid < 2 ^ 32)) (at : AreFilesAt (world_of rs) (known_of e) i s files) where
  until : (reset_of (nodes rs) i ≤ s) × (s ≤ end_of (nodes rs) i)
  until = within s (reset_of (nodes rs) i) (end_of (nodes rs) i) (reset_of (nodes rs) i, end_of (nodes rs) i) inside

  incs : AreIncarnations (nodes rs)
  incs = incarnations rs catalog database

  begins : (j : ℕ) → IsThere (nodes rs) j → reset_of (nodes rs) 1 ≤ reset_of (nodes rs) j
  begins j is = first-begins (nodes rs) incs j j (omega arith) is

  pub range : (1 ≤ reset_of (nodes rs) 1) × (reset_of (nodes rs) 1 ≤ s) × (s ≤ last_scn)
  range =
      let first = incs.ranges 1 (omega arith, (let n = incs.some in omega (arith, n))) in
      let last = incs.ranges i there in
      (first.0, omega (arith, begins i there, until.0), omega (arith, until.1, last.2))

  abbrev tree : List Incarnation
  tree = first_until (world_of rs) s ∷ []

  abbrev created : List Datafile
  created = map (λ (x : File). as_first (world_of rs) x.file) files

  abbrev ledger : Ledger
  ledger = ledger_of (world_of rs) dbid (moment_in rs) s files

  is-of : (x : File) → Contains files x → IsOf rs x
  is-of x has =
      let target = file-target (world_of rs) (known_of e) i s files at x has in
      let found = file-there (world_of rs) x.file target.datafile target.is in
      record {
        datafile = target.datafile;
        number = found.0;
        found = found.1;
        created = ap (λ o. option_map_or (λ (d : Datafile). d.creation) o 0) target.is;
        size = ap (λ o. option_map_or (λ (d : Datafile). d.blocks) o 0) target.is;
        fit = all-get (IsCreated (nodes rs)) (datafiles rs) (x.file - 1) target.datafile found.1 (datafiles-fit rs catalog).each;
      }

  few : length files ≤ 64
  few = omega (arith, few-targets rs i s (map (λ (x : File). x.file) files) catalog at.numbers, length-map files (λ (x : File). x.file))

  -- a copy is a valid piece
  copy-valid : (k : ℕ) (x : File) → slice_get files k ≡ Some x → IsPiece (copy_as dbid s (1 + k, x))
  copy-valid k x is =
      let has = member files k x is in
      let of = is-of x has in
      let told = file-told (world_of rs) (known_of e) i s files at x has in
      let rows = (is-solid (world_of rs) (known_of e) i s files at x has).rows in
      let within = slice_get_within files k x is in
      let count = few in
      let sizes = of.fit.blocks in
      let low = range in
      let begun = begins of.datafile.inc of.fit.there in
      let read : (b : ℕ) (d : Row) → b < length x.rows → slice_get x.rows b ≡ Some (get_or x.rows b d) = λ b d lt. slice_get-get_or x.rows b d lt in
      record {
        dbid = some;
        inc = (omega arith, omega arith);
        file = (omega arith, omega (arith, within, count));
        blocks = (omega (arith, of.size, told.blocks, sizes.0), omega (arith, of.size, told.blocks, sizes.1));
        checkpoint = (omega (arith, low.0, low.1), low.2);
        kind = (refl, refl);
        ascend = ascends x.rows (λ b r at. (rows b r at).0);
        rows = λ b d lt.
            let row = rows b (get_or x.rows b d) (read b d lt) in
            record {
              block = omega (arith, row.0, lt);
              version = (omega (arith, row.1, of.created, of.fit.creation.0, begun, low.0), omega (arith, row.2, low.2));
              from = omega arith;
              content = seen-content (nodes rs) e fits (world_of rs) x.file b (owner (nodes rs) i (get_or x.rows b d).version) (get_or x.rows b d).version (get_or x.rows b d).content
                  (told.rows b (get_or x.rows b d) (read b d lt)).1.seen;
            };
        high = omega (arith, high-least s x.rows, high-bound s s x.rows (omega arith) (λ r in_rows. (rows in_rows.0 r (slice_get-get_or x.rows in_rows.0 r in_rows.1 ∙ ap (λ (y : Row). Some y) in_rows.2)).2));
      }

  pub copies-valid : All IsPiece (copies_of dbid s files)
  copies-valid = all-copies IsPiece dbid s files copy-valid

  created-first : (x : File) → Contains files x → IsCreated tree (as_first (world_of rs) x.file)
  created-first x has =
      let of = is-of x has in
      let begun = begins of.datafile.inc of.fit.there in
      let below = (is-solid (world_of rs) (known_of e) i s files at x has).created in
      record {
        there = (omega arith, omega arith);
        creation = (omega (arith, begun, of.fit.creation.0, of.created), omega (arith, below));
        blocks = (omega (arith, of.size, of.fit.blocks.0), omega (arith, of.size, of.fit.blocks.1));
      }

  room : sum_by (λ (d : Datafile). d.blocks) created ≤ 131072
  room =
      let all = few-blocks (world_of rs) (datafiles rs) files at.numbers.ascends (λ x has. let of = is-of x has in (of.number, (of.datafile, of.found, of.size))) in
      let most = (datafiles-fit rs catalog).room in
      omega (arith, all, most)

  -- its record is one of the database
  entry-fits : (k : ℕ) (x : File) → slice_get files k ≡ Some x → IsPieceEntry tree created (entry_of (moment_in rs) (copy_as dbid s (1 + k, x)))
  entry-fits k x is =
      let has = member files k x is in
      let valid = copy-valid k x is in
      let low = range in
      let back : 1 + k - 1 ≡ k = omega arith in
      record {
        there = (omega arith, omega arith);
        file = record {
          number = omega arith;
          datafile = as_first (world_of rs) x.file;
          is = ap (λ n. slice_get created n) back ∙ slice_get-map (λ (y : File). as_first (world_of rs) y.file) files k ∙ ap (λ o. option_map (λ (y : File). as_first (world_of rs) y.file) o) is;
          path = owner-first tree (creation_of (world_of rs) x.file);
          rows = (file-told (world_of rs) (known_of e) i s files at x has).blocks;
        };
        checkpoint = (omega (arith, low.0, low.1), omega arith);
        high = omega arith;
        kind = refl;
        tag = record { some = omega arith; few = omega arith; bytes = refl };
        size = omega (arith, length-body (copy_as dbid s (1 + k, x)) (piece-fits (copy_as dbid s (1 + k, x)) valid), length-sealed (body_of (copy_as dbid s (1 + k, x))), valid.blocks.1);
      }

  ids : AreIds 1 ledger.base.next_id [] ledger.pieces []
  ids = record {
    logs = All-nil (λ (l : LogEntry). (1 ≤ l.id) × (l.id < ledger.base.next_id));
    pieces = All-map (λ (p : PieceEntry). (1 ≤ p.id) × (p.id < ledger.base.next_id)) (entry_of (moment_in rs)) (copies_of dbid s files)
        (all-copies (λ a. (1 ≤ a.file) × (a.file < ledger.base.next_id)) dbid s files (λ k x is. (omega arith, omega (arith, slice_get_within files k x is))));
    sets = All-nil (λ (t : SetEntry). (1 ≤ t.id) × (t.id < ledger.base.next_id));
    logs_ascend = λ j k d less last. absurd (omega arith);
    pieces_ascend = ids-ascend (moment_in rs) dbid s files;
    sets_ascend = λ j k d less last. absurd (omega arith);
    apart = λ l p has. absurd (none-in l has);
    logs_apart = λ l t has. absurd (none-in l has);
    pieces_apart = λ p t has none. absurd (none-in t none);
  }

  records-few : length (ledger_records ledger) ≤ 65536
  records-few =
      omega (arith, many ledger, few, length-map files (λ (x : File). as_first (world_of rs) x.file), length-map (copies_of dbid s files) (entry_of (moment_in rs)), length-map (enumerate_from 1 files) (copy_as dbid s), length-enumerate_from 1 files)

  ledger-valid : IsLedger ledger
  ledger-valid =
      let known = facts rs catalog database in
      let low = range in
      record {
        base = record {
          dbid = some.0;
          threads = known.0;
          next_id = (omega arith, omega (arith, few));
          moment = known.1;
          policy = (omega arith, omega arith);
          parallelism = (omega arith, omega arith);
        };
        current = (omega arith, omega arith);
        incarnations = one_incarnation (first_until (world_of rs) s) refl low.0 low.1 low.2;
        datafiles = record {
          each = All-map (IsCreated tree) (λ (x : File). as_first (world_of rs) x.file) files (λ k d lt. created-first (get_or files k d) (Contains-get_or files k d lt));
          few = omega (arith, length-map files (λ (x : File). as_first (world_of rs) x.file), few);
          room = room;
        };
        logs = All-nil (IsLogEntry tree);
        pieces = All-map (IsPieceEntry tree created) (entry_of (moment_in rs)) (copies_of dbid s files)
            (all-copies (λ a. IsPieceEntry tree created (entry_of (moment_in rs) a)) dbid s files entry-fits);
        sets = All-nil (IsSetEntry tree created);
        ids = ids;
        marks = one_mark (first_until (world_of rs) s) s (moment_in rs) low.1 (omega arith);
        switches = λ k x is. absurd cc;
        few = records-few;
      }

  -- the records of the duplicate are a typed catalog's
  pub catalog-valid : IsTypedCatalog (catalog_of (world_of rs) dbid (moment_in rs) s files)
  catalog-valid = record { ledger = ledger-valid; saved = tt }

  pub rows-few : All (λ (x : File). length x.rows ≤ 65536) files
  rows-few k d lt = (copy-valid k (get_or files k d) (slice_get-get_or files k d lt)).blocks.1
