-- The records of a database, told kind by kind.
use Rattle.std.specs.Prelude.{ℕ, ◌+◌, List, [], ◌∷◌, ◌++◌, map}
use Rattle.rm_base.specs.declared.block.Mark.{Mark}
use Rattle.rm_catalog.specs.declared.record.{BaseEntry.{BaseEntry}, LogEntry.{LogEntry}, PieceEntry.{PieceEntry}, Record.{Record}}
use Rattle.rm_catalog.specs.declared.record.SetEntry.{SetEntry}
use Rattle.rm_catalog.specs.declared.record.Record.TheVariants as kind
use Rattle.rm_history.specs.declared.{tree.Incarnation.{Incarnation}, world.Datafile.{Datafile}}
use Rattle.rm_catalog_typed.specs.declared.thread_switch.ThreadSwitch.{ThreadSwitch}

pub record Ledger : Type 0 where
  pub base : BaseEntry
  -- incarnations 1, 2, 3 and so on
  pub tree : List Incarnation
  -- datafiles 1, 2, 3 and so on
  pub files : List Datafile
  -- by ascending id
  pub logs : List LogEntry
  pub pieces : List PieceEntry
  pub sets : List SetEntry
  -- marks 1, 2, 3 and so on
  pub marks : List Mark
  -- switches of redo threads 1, 2, 3 and so on
  pub switches : List ThreadSwitch

-- the record of incarnation i
abbrev pub incarnation_record : ℕ → Incarnation → Record
incarnation_record i n = kind.Incarnation (record { inc = i; parent = n.parent; reset = n.reset; end = n.end })

-- the record of datafile f
abbrev pub datafile_record : ℕ → Datafile → Record
datafile_record f d = kind.Datafile (record { file = f; inc = d.inc; creation = d.creation; blocks = d.blocks })

-- the record of mark k
abbrev pub mark_record : ℕ → Mark → Record
mark_record k m = kind.Mark (record { id = k; moment = m.moment; inc = m.inc; scn = m.scn })

-- the record of switch k
abbrev pub switch_record : ℕ → ThreadSwitch → Record
switch_record k x = kind.Switch (record { id = k; thread = x.thread; inc = x.inc; scn = x.scn; on = x.on; sequence = x.sequence })

-- the records of these things, which are numbered from k on
abbrev pub numbered : {A : Type 0} → (ℕ → A → Record) → ℕ → List A → List Record
numbered make k [] = []
numbered make k (x ∷ xs) = make k x ∷ numbered make (k + 1) xs

-- the records that stand in front of a saved site's, ascending by kind and then id
abbrev pub front_records : Ledger → List Record
front_records l =
    kind.Base l.base ∷ numbered incarnation_record 1 l.tree ++ numbered datafile_record 1 l.files
    ++ map kind.Log l.logs ++ map kind.Piece l.pieces ++ numbered mark_record 1 l.marks

-- and those behind them, of backup sets and switches
abbrev pub back_records : Ledger → List Record
back_records l = map kind.Set l.sets ++ numbered switch_record 1 l.switches

-- all records but those of a saved site
abbrev pub ledger_records : Ledger → List Record
ledger_records l = front_records l ++ back_records l
