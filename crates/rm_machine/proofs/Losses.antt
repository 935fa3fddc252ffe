-- The search for a datafile that is lost, one datafile on.
use Rattle.std.proofs.Common.{◌≡◌, ◌<◌, ◌+◌, ◌∙◌, ◌&&◌, ℕ, zero, suc, List, [], ◌∷◌, Option, Some, None, true, false, Bool, cond, ap, arith, length, get_or, drop, is_none, is_some, not, refl}
use Rattle.std.proofs.lemmas.Bool.{and_right}
use Rattle.rm_blocks.specs.File.{File}
use Rattle.rm_history.specs.{World.{exists}, declared.world.{Datafile.{Datafile}, World.{World}}}
use Rattle.rm_machine.specs.Mount.{first_lost}

is_none-by : (o : Option File) (b : Bool) → is_some o ≡ not b → is_none o ≡ b
is_none-by None true is = refl
is_none-by None false is = absurd (cc)
is_none-by (Some x) true is = absurd (cc)
is_none-by (Some x) false is = refl

-- it is there and not lost
pub held-by : (e : Bool) (o : Option File) (b : Bool) → is_some o ≡ not b → b ≡ false → (e && is_none o) ≡ false
held-by e o b is held = and_right e (is_none o) (is_none-by o b is ∙ held)

pub lost-next : (w : World) (i s f : ℕ) (ds : List Datafile) (xs : List (Option File)) (k : ℕ) (d : Datafile) (x : Option File) → k < length ds → length xs ≡ length ds → (exists w i s (get_or ds k d) && is_none (get_or xs k x)) ≡ false
    → first_lost w i s f (drop k ds) (drop k xs) ≡ first_lost w i s (f + 1) (drop (suc k) ds) (drop (suc k) xs)
lost-next w i s f [] xs k d x inside many found = absurd (omega arith)
lost-next w i s f (e ∷ ds) [] k d x inside many found = absurd (omega arith)
lost-next w i s f (e ∷ ds) (y ∷ ys) zero d x inside many found = ap (λ b. cond b (Some f) (first_lost w i s (f + 1) ds ys)) found
lost-next w i s f (e ∷ ds) (y ∷ ys) (suc k) d x inside many found = lost-next w i s f ds ys k d x (omega arith) (omega arith) found
