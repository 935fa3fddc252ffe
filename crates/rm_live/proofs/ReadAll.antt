-- The blocks of marks, or all blocks, are those of marks that are all set where there are none.
use Rattle.std.specs.Option.{option_map_or}
use Rattle.std.proofs.Common.{◌≡◌, ℕ, zero, suc, List, ◌∷◌, Option, Some, None, Bool, true, ap, refl, replicate}
use Rattle.rm_live.specs.Ruled.{upto}
use Rattle.rm_track.{specs.Bits.{blocks_from}, proofs.ReadBlocks.{marks_by}}

-- all blocks are those of marks that are all set
all-blocks : (b n : ℕ) → upto b n ≡ blocks_from b (replicate n true)
all-blocks b zero = refl
all-blocks b (suc n) = ap (λ (ns : List ℕ). b ∷ ns) (all-blocks (suc b) n)

pub read-by : (o : Option (List Bool)) (n : ℕ) → option_map_or (blocks_from 0) o (upto 0 n) ≡ blocks_from 0 (marks_by o n)
read-by None n = all-blocks 0 n
read-by (Some ms) n = refl
