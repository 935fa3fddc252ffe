-- The answers of a clock in memory.
use Rattle.std.proofs.Common.{◌≡◌, refl, ◌+◌, ◌<◌, ℕ, zero, suc, List, [], ◌∷◌, length, drop, arith, add-one}
use Rattle.rm_base.specs.MemStore.{answer_at}

-- behind an answer that is not the last come the others
pub answers-later : (xs : List ℕ) (at i : ℕ) → at + 1 < length xs → answer_at (drop (at + 1) xs) i ≡ answer_at (drop at xs) (i + 1)
answers-later [] at i h = absurd (omega (arith, h))
answers-later (x ∷ []) at i h = absurd (omega (arith, h))
answers-later (x ∷ y ∷ ys) zero i h = rw add-one refl
answers-later (x ∷ y ∷ ys) (suc a) i h =
    let next : suc a + 1 ≡ suc (a + 1) = omega arith in
    rw next (answers-later (y ∷ ys) a i (omega (arith, h)))
