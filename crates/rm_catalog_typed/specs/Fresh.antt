-- A new database, and its records.
use Rattle.std.specs.Prelude.{ℕ, false, List, [], ◌∷◌, map}
use Rattle.rm_base.specs.declared.kinds.Policy.TheVariants.{Redundancy}
use Rattle.rm_catalog.specs.declared.record.Edit.{Edit, TheVariants.{Put}}
use Rattle.rm_history.specs.Tree.{branched}
use Rattle.rm_catalog_typed.specs.Ledger.{Ledger, ledger_records}

-- a new database: incarnation 1 alone, which begins and ends at its first SCN, no datafile, one mark, and no switch
abbrev pub fresh : (dbid threads scn moment : ℕ) → Ledger
fresh dbid threads scn moment =
    record {
      base = record {
        dbid = dbid;
        threads = threads;
        current = 1;
        next_id = 1;
        moment = moment;
        policy = Redundancy 1;
        parallelism = 1;
        tracking = false;
      };
      tree = branched 0 scn ∷ [];
      files = [];
      logs = [];
      pieces = [];
      sets = [];
      marks = record { moment = moment; inc = 1; scn = scn } ∷ [];
      switches = [];
    }

-- the edits that make the records of a new database
abbrev pub fresh_edits : Ledger → List Edit
fresh_edits l = map Put (ledger_records l)
