-- A database of two threads, one of which lost its log.
use Rattle.std.specs.Prelude.{ℕ, List, [], ◌∷◌, false}
use Rattle.rm_base.specs.{Content.{padded, zero_block}, declared.block.Change.{Change}}
use Rattle.rm_history.specs.{Artefacts.{Base, Log}, World.{with_switch}, Evidence.{Evidence}, declared.world.Switch.{Switch}}
use Rattle.rm_history.specs.declared.world.World.{World}

-- one incarnation from SCN 1 on, two threads, and a file of one block, created at 1
abbrev pub world : World
world = record {
  tree = record { parent = 0; reset = 1; end = 5 } ∷ [];
  threads = 2;
  switches = [];
  files = record { inc = 1; creation = 1; blocks = 1 } ∷ [];
}

-- a change of the block to this byte and zero bytes
abbrev pub change : ℕ → ℕ → ℕ → Change
change t g x = record { inc = 1; thread = t; scn = g; file = 1; block = 0; content = padded (x ∷ []) }

-- thread 1 changed the block at 2, and thread 2 at 3
abbrev pub history : List Change
history = change 1 2 65 ∷ change 2 3 66 ∷ []

-- a copy of the file as it was created
abbrev pub copy : Base
copy = record { inc = 1; file = 1; checkpoint = 2; rows = record { block = 0; version = 1; content = zero_block } ∷ [] }

-- the log of thread 1
abbrev pub log : Log
log = record { inc = 1; thread = 1; sequence = 1; first = 1; next = 5; changes = change 1 2 65 ∷ [] }

-- the copy and that log are at hand, and no log of thread 2
abbrev pub evidence : Evidence
evidence = record { bases = copy ∷ []; level1s = []; logs = log ∷ [] }

-- thread 2 is disabled at 4
abbrev pub disabled : Switch
disabled = record { thread = 2; inc = 1; scn = 4; on = false }

-- the same database, where it went
abbrev pub smaller : World
smaller = with_switch world disabled

-- its last log, which ends there
abbrev pub last_log : Log
last_log = record { inc = 1; thread = 2; sequence = 1; first = 1; next = 4; changes = change 2 3 66 ∷ [] }

-- both logs are at hand
abbrev pub whole : Evidence
whole = record { bases = copy ∷ []; level1s = []; logs = log ∷ last_log ∷ [] }
