-- A database of which a backup and a log fall out of the window.
use Rattle.std.specs.Prelude.{ℕ, List, [], ◌∷◌}
use Rattle.rm_base.specs.{Content.{padded}, declared.{block.{Change.{Change}, Row.{Row}}, kinds.Policy.TheVariants.{Window}}}
use Rattle.rm_history.specs.{Artefacts.{Base, Log}, Evidence.{Evidence}, declared.world.World.{World}}
use Rattle.rm_retain.specs.{Chosen.{Retention}, declared.copies.Backup.{Backup}}

-- one incarnation from SCN 1 to 5, one thread, and a file of one block, created at 1
abbrev pub world : World
world = record {
  tree = record { parent = 0; reset = 1; end = 5 } ∷ [];
  threads = 1;
  switches = [];
  files = record { inc = 1; creation = 1; blocks = 1 } ∷ [];
}

-- a change of the block to this byte and zero bytes
abbrev pub change : ℕ → ℕ → Change
change g x = record { inc = 1; thread = 1; scn = g; file = 1; block = 0; content = padded (x ∷ []) }

abbrev pub history : List Change
history = change 2 65 ∷ change 4 66 ∷ []

-- a copy with this checkpoint, and the block at this version
abbrev pub copy : ℕ → Row → Base
copy checkpoint row = record { inc = 1; file = 1; checkpoint = checkpoint; rows = row ∷ [] }

abbrev pub row : ℕ → ℕ → Row
row version x = record { block = 0; version = version; content = padded (x ∷ []) }

-- the backup at 3, and two that may be the one at 4: one that was made before the block changed at 4, and
-- one that was made while it did
abbrev pub first : Base
first = copy 3 (row 2 65)

abbrev pub second : Base
second = copy 4 (row 2 65)

abbrev pub late : Base
late = copy 4 (row 4 66)

-- the log up to 4
abbrev pub log : Log
log = record { inc = 1; thread = 1; sequence = 1; first = 1; next = 4; changes = change 2 65 ∷ [] }

-- what is at hand of both backups and the log, and when the first backup and the log are gone
abbrev pub before : Base → Evidence
before x = record { bases = first ∷ x ∷ []; level1s = []; logs = log ∷ [] }

abbrev pub after : Base → Evidence
after x = record { bases = x ∷ []; level1s = []; logs = [] }

-- the record of the backup of this id
abbrev pub backup : ℕ → ℕ → ℕ → Backup
backup id checkpoint high = record { id = id; inc = 1; file = 1; checkpoint = checkpoint; high = high }

-- a window that starts at 4, where the record of the backup at 4 has this `high`
abbrev pub window : ℕ → Retention
window high = record { world = world; current = 1; policy = Window 7; start = 4; copies = backup 1 3 3 ∷ backup 2 4 high ∷ [] }
