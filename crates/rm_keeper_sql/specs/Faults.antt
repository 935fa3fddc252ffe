-- Which faults are want of memory, and no failure of the file.
use Rattle.std.specs.{Prelude.{◌≡◌, ⊤}, IoError.{error_kind}}
use Rattle.std.specs.declared.io.ErrorKind.TheVariants as io
use Rattle.sqlite.specs.declared.error.Error.TheVariants.{SqliteFailure}
use Rattle.sqlite.specs.declared.error.ErrorCode.TheVariants as code
use Rattle.rm_keeper_sql.specs.declared.fault.Fault.{Fault, TheVariants.{NoMemory, NoRecord, NotOurs, Sqlite, System}}

-- of a crate below, of the system, or of sqlite
abbrev pub WantsMemory : Fault → Type 0
WantsMemory NoMemory = ⊤
WantsMemory (System e) = error_kind e ≡ io.OutOfMemory
WantsMemory (Sqlite e) = e ≡ SqliteFailure code.OutOfMemory
WantsMemory NotOurs = ⊥
WantsMemory NoRecord = ⊥
