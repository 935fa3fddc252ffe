-- A piece that is made of what was read of a datafile, and what its recording comes to.
use Rattle.std.specs.Prelude.{ℕ, unwrap_or, Bool, List, [], ◌∷◌, length}
use Rattle.rm_base.specs.declared.block.Row.{Row}
use Rattle.rm_catalog.specs.declared.record.PieceEntry.{PieceEntry}
use Rattle.rm_commit.specs.declared.commit.Object.{Object}
use Rattle.rm_history.specs.{Artefacts.{high_of}, World.{blocks_of}}
use Rattle.rm_catalog_typed.specs.{Ledger.{Ledger}, Changes.{with_new_piece}, Worlds.{world_of}}
use Rattle.rm_evidence.specs.{Names.{piece_name}, Objects.{piece_entry}}
use Rattle.rm_piece.specs.{Spelling.{spelling}, declared.piece.Piece.{Piece}}
use Rattle.rm_report.specs.declared.line.Line.{Line, TheVariants.{BackedUp}}
use Rattle.rm_lang_statement.specs.declared.command.BackupForm.{BackupForm}
use Rattle.rm_machine.specs.{Backup.{is_copy, kind_by, rows_from}, Effect.{Made, a_piece}, Lists.{packing_by, shape_by}, State.{ledger}}
use Rattle.rm_machine.specs.declared.{job.{FileBackup.{FileBackup}, Job.{Job}}, state.State.{State}}

-- by the records, the piece of a datafile of which these rows were read, with this checkpoint
abbrev pub piece_by : Ledger → BackupForm → ℕ → Job → List Row → Piece
piece_by l b checkpoint j rows =
    record {
      kind = kind_by b j.from;
      dbid = l.base.dbid;
      inc = l.base.current;
      file = j.file;
      blocks = blocks_of (world_of l) j.file;
      from = unwrap_or j.from 0;
      checkpoint = checkpoint;
      high = high_of checkpoint (rows_from j.from rows);
      rows = rows_from j.from rows;
    }

-- its record under the next id, the piece as an artefact, and its object
abbrev pub entry_for : State → BackupForm → List ℕ → Bool → Piece → PieceEntry
entry_for s b tag copy a = piece_entry copy b.keep tag (ledger s).base.moment (ledger s).base.next_id a

abbrev pub made_for : State → Bool → Piece → Made
made_for s copy a = record { name = piece_name copy (ledger s).base.next_id; artefact = a_piece a }

abbrev pub object_for : State → Bool → Piece → Object
object_for s copy a = record { name = piece_name copy (ledger s).base.next_id; bytes = spelling a }

-- the database after it is recorded
abbrev pub after_piece : State → BackupForm → List ℕ → Bool → Piece → State
after_piece s b tag copy a = record s { catalog = with_new_piece s.catalog (entry_for s b tag copy a) }

-- a piece that is recorded, an image copy or not, and how many blocks were read for it
pub record Copied : Type 0 where
  pub copy : Bool
  pub piece : Piece
  pub reads : ℕ

-- what its line tells beside the id
abbrev pub told_alone : Copied → FileBackup
told_alone x =
    record {
      packing = packing_by x.copy;
      file = x.piece.file;
      shape = shape_by x.piece.kind x.piece.from;
      checkpoint = x.piece.checkpoint;
      rows = length x.piece.rows;
      reads = x.reads;
    }

-- the line of a datafile that is backed up, under an id
abbrev pub line_under : ℕ → FileBackup → Line
line_under id x = BackedUp x.packing id x.file x.shape x.checkpoint x.rows x.reads

-- its line, under the next id
abbrev pub line_for : State → Copied → Line
line_for s x = line_under (ledger s).base.next_id (told_alone x)

-- by the records, the pieces of these datafiles, of which these rows were read, with this checkpoint
abbrev pub copied : Ledger → BackupForm → ℕ → List Job → List (List Row) → List Copied
copied l b checkpoint [] rows = []
copied l b checkpoint (j ∷ js) [] = []
copied l b checkpoint (j ∷ js) (rs ∷ rows) =
    record { copy = is_copy b j; piece = piece_by l b checkpoint j rs; reads = length rs } ∷ copied l b checkpoint js rows
