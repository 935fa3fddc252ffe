-- What stands in place, one datafile after another.
use Rattle.std.proofs.Common.{◌≡◌, ◌<◌, ◌++◌, ℕ, zero, suc, List, [], ◌∷◌, Option, None, true, false, cond, ap, sym, arith, length, get_or, take, drop}
use Rattle.std.proofs.Math.ListN.{set}
use Rattle.rm_blocks.specs.File.{File}
use Rattle.rm_history.specs.{World.{exists}, declared.world.{Datafile.{Datafile}, World.{World}}}
use Rattle.rm_machine.specs.Open.{kept_in_place}

-- a datafile that exists stays in place
pub kept-stays : (w : World) (i s : ℕ) (ds : List Datafile) (xs : List (Option File)) (k : ℕ) (d : Datafile) → k < length ds → length xs ≡ length ds → exists w i s (get_or ds k d) ≡ true → take (suc k) xs ++ kept_in_place w i s (drop (suc k) ds) (drop (suc k) xs) ≡ take k xs ++ kept_in_place w i s (drop k ds) (drop k xs)
kept-stays w i s [] xs k d inside many there = absurd (omega arith)
kept-stays w i s (e ∷ ds) [] k d inside many there = absurd (omega arith)
kept-stays w i s (e ∷ ds) (x ∷ xs) zero d inside many there = ap (λ b. cond b x None ∷ kept_in_place w i s ds xs) (sym there)
kept-stays w i s (e ∷ ds) (x ∷ xs) (suc k) d inside many there = ap (λ ys. x ∷ ys) (kept-stays w i s ds xs k d (omega arith) (omega arith) there)

-- one that does not exist goes
pub kept-goes : (w : World) (i s : ℕ) (ds : List Datafile) (xs : List (Option File)) (k : ℕ) (d : Datafile) → k < length ds → length xs ≡ length ds → exists w i s (get_or ds k d) ≡ false → take (suc k) (set xs k None) ++ kept_in_place w i s (drop (suc k) ds) (drop (suc k) (set xs k None)) ≡ take k xs ++ kept_in_place w i s (drop k ds) (drop k xs)
kept-goes w i s [] xs k d inside many none = absurd (omega arith)
kept-goes w i s (e ∷ ds) [] k d inside many none = absurd (omega arith)
kept-goes w i s (e ∷ ds) (x ∷ xs) zero d inside many none = ap (λ b. cond b x None ∷ kept_in_place w i s ds xs) (sym none)
kept-goes w i s (e ∷ ds) (x ∷ xs) (suc k) d inside many none = ap (λ ys. x ∷ ys) (kept-goes w i s ds xs k d (omega arith) (omega arith) none)
