-- A backup set that is made of what was read of datafiles, and what its recording comes to.
use Rattle.std.specs.Prelude.{ℕ, List, [], ◌∷◌, length, map}
use Rattle.rm_base.specs.declared.block.Row.{Row}
use Rattle.rm_catalog.specs.declared.record.SetEntry.{SetEntry}
use Rattle.rm_commit.specs.declared.commit.Object.{Object}
use Rattle.rm_history.specs.World.{creation_of}
use Rattle.rm_catalog_typed.specs.{Ledger.{Ledger}, Changes.{with_new_set}, Worlds.{world_of}}
use Rattle.rm_evidence.specs.Names.{set_name}
use Rattle.rm_piece.specs.{Filling.{risen}, SetSpelling.{set_spelling, spelled}, declared.set.{Set.{Set}, SetFile.{SetFile}}}
use Rattle.rm_report.specs.declared.line.Line.{Line}
use Rattle.rm_report.specs.declared.line.Packing.TheVariants as packing
use Rattle.rm_lang_statement.specs.declared.command.BackupForm.{BackupForm}
use Rattle.rm_machine.specs.{Backup.{set_entry}, Effect.{Made, a_set}, Lists.{shape_by}, MadePieces.{line_under, piece_by}, State.{ledger}}
use Rattle.rm_machine.specs.declared.{job.{FileBackup.{FileBackup}, Job.{Job}}, state.State.{State}}

-- By the records, the member of a datafile of which these rows were read, with this checkpoint. A row that is not above the creation
-- counts as the zero row at the creation.
abbrev pub member_by : Ledger → BackupForm → ℕ → Job → List Row → SetFile
member_by l b checkpoint j rows =
    record {
      creation = creation_of (world_of l) j.file;
      piece = piece_by l b checkpoint j (map (risen (creation_of (world_of l) j.file)) rows);
    }

-- a member of a set that is recorded, and how many blocks were read for it
pub record InSet : Type 0 where
  pub member : SetFile
  pub reads : ℕ

-- by the records, the members of these datafiles, of which these rows were read, with this checkpoint
abbrev pub in_sets : Ledger → BackupForm → ℕ → List Job → List (List Row) → List InSet
in_sets l b checkpoint [] rows = []
in_sets l b checkpoint (j ∷ js) [] = []
in_sets l b checkpoint (j ∷ js) (rs ∷ rows) =
    record { member = member_by l b checkpoint j rs; reads = length rs } ∷ in_sets l b checkpoint js rows

-- by the records, the set of these members
abbrev pub set_of : Ledger → ℕ → List InSet → Set
set_of l checkpoint xs = record { dbid = l.base.dbid; inc = l.base.current; checkpoint = checkpoint; members = map (λ x. x.member) xs }

-- its record under the next id, the set as an artefact, and its object
abbrev pub set_entry_for : State → BackupForm → List ℕ → Set → SetEntry
set_entry_for s b tag a = set_entry b.keep tag (ledger s).base.moment (ledger s).base.next_id a

abbrev pub set_made : State → Set → Made
set_made s a = record { name = set_name (ledger s).base.next_id; artefact = a_set a }

abbrev pub set_object : State → Set → Object
set_object s a = record { name = set_name (ledger s).base.next_id; bytes = set_spelling a }

-- the database after it is recorded
abbrev pub after_set : State → BackupForm → List ℕ → Set → State
after_set s b tag a = record s { catalog = with_new_set s.catalog (set_entry_for s b tag a) }

-- what the line of a member tells beside the id; its rows are those that stand in the bytes
abbrev pub told_member : InSet → FileBackup
told_member x =
    record {
      packing = packing.Set;
      file = x.member.piece.file;
      shape = shape_by x.member.piece.kind x.member.piece.from;
      checkpoint = x.member.piece.checkpoint;
      rows = length (spelled x.member);
      reads = x.reads;
    }

-- its line, under the next id
abbrev pub member_line : State → InSet → Line
member_line s x = line_under (ledger s).base.next_id (told_member x)
