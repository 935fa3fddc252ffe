-- What a site shows of its database at the end of a session.
use Rattle.std.specs.{Prelude.{ℕ, ◌+◌, Option, length}, Option.{option_map_or}}
use Rattle.rm_machine.specs.{State.{ledger, now_of}, declared.state.State.{State}}

-- the SCN that the next change takes; 0 without a database
abbrev pub next_scn : Option State → ℕ
next_scn o = option_map_or now_of o 0

-- the number of records of logs and pieces; 0 without a database
abbrev pub objects_in : Option State → ℕ
objects_in o = option_map_or (λ s. length (ledger s).logs + length (ledger s).pieces) o 0
