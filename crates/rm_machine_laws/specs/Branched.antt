-- A database that branched off, with a copy of the incarnation that it left and a level 1 of the one that it went on with.
use Rattle.std.specs.Prelude.{ℕ, List, [], ◌∷◌}
use Rattle.rm_base.specs.{Content.{padded, zero_block}, declared.block.Change.{Change}}
use Rattle.rm_history.specs.{Artefacts.{Base, Level1}, Evidence.{Evidence}, declared.world.World.{World}}

-- incarnation 1 from SCN 1 on, incarnation 2 which branched off at 3, one thread, and a file of two blocks, created at 1
abbrev pub branched : World
branched = record {
  tree = record { parent = 0; reset = 1; end = 4 } ∷ record { parent = 1; reset = 3; end = 6 } ∷ [];
  threads = 1;
  switches = [];
  files = record { inc = 1; creation = 1; blocks = 2 } ∷ [];
}

-- a change of block b at the address (m, g) to this byte and zero bytes
abbrev pub at_block : ℕ → ℕ → ℕ → ℕ → Change
at_block m g b x = record { inc = m; thread = 1; scn = g; file = 1; block = b; content = padded (x ∷ []) }

-- block 0 changed at 2, block 1 at 3 of the incarnation that was left, and block 0 at 3 of the other
abbrev pub both : List Change
both = at_block 1 2 0 65 ∷ at_block 1 3 1 88 ∷ at_block 2 3 0 66 ∷ []

-- a copy of the first incarnation, with checkpoint 3
abbrev pub left_copy : Base
left_copy = record {
  inc = 1;
  file = 1;
  checkpoint = 3;
  rows = record { block = 0; version = 2; content = padded (65 ∷ []) } ∷ record { block = 1; version = 1; content = zero_block } ∷ [];
}

-- a level 1 of the second, from 3 on, with checkpoint 5: it does not list block 1
abbrev pub level1 : Level1
level1 = record { inc = 2; file = 1; from = 3; checkpoint = 5; rows = record { block = 0; version = 3; content = padded (66 ∷ []) } ∷ [] }

-- both are at hand, and no log
abbrev pub two : Evidence
two = record { bases = left_copy ∷ []; level1s = level1 ∷ []; logs = [] }
