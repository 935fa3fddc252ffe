-- Rows beside rows.
use Rattle.std.specs.Global.{Global}
use Rattle.std.proofs.Common.{◌≡◌, ℕ, zero, suc, ◌+◌, ◌<◌, List, [], ◌∷◌, ◌++◌, Vec, length, take, set, get_or, refl, sym, ap, ◌∙◌, arith}
use Rattle.std.proofs.lemmas.List.{map-set, get_or-map, length-map}
use Rattle.rm_channel.specs.{Jobs.{lists}, Runs.{side_by_side}}

pub side-none : {X : Type 0} (xs : List (List X)) → xs ≡ side_by_side xs []
side-none [] = refl
side-none (x ∷ xs) = refl

-- one list more
side-more : {X : Type 0} (xs ys : List (List X)) (k : ℕ) (d e : List X) → k < length (side_by_side xs (take k ys)) → k < length ys
    → set (side_by_side xs (take k ys)) k (get_or (side_by_side xs (take k ys)) k d ++ get_or ys k e) ≡ side_by_side xs (take (suc k) ys)
side-more [] ys k d e lt lt' = absurd (omega arith)
side-more (x ∷ xs) [] k d e lt lt' = absurd (omega arith)
side-more (x ∷ xs) (y ∷ ys) zero d e lt lt' = ap (λ l. (x ++ y) ∷ l) (side-none xs)
side-more (x ∷ xs) (y ∷ ys) (suc k) d e lt lt' = ap (λ l. (x ++ y) ∷ l) (side-more xs ys k d e (omega arith) (omega arith))

pub side-step : {X : Type 0} (rows more : List (Vec X Global)) (xs : List (List X)) (k : ℕ) (mine new part : Vec X Global) → k < length rows → k < length more → mine ≡ get_or rows k mine → part ≡ get_or more k part
    → new.items ≡ mine.items ++ part.items → lists rows ≡ side_by_side xs (take k (lists more)) → lists (set rows k new) ≡ side_by_side xs (take (k + 1) (lists more))
side-step {X = X} rows more xs k mine new part lt lt' at at' is so_far =
    let items = λ (v : Vec X Global). v.items in
    let n : k + 1 ≡ suc k = omega arith in
    let sides : List (List X) = side_by_side xs (take k (lists more)) in
    let a : mine.items ≡ get_or sides k mine.items = ap items at ∙ sym (get_or-map items rows k mine mine.items lt) ∙ ap (λ (l : List (List X)). get_or l k mine.items) so_far in
    let b : part.items ≡ get_or (lists more) k part.items = ap items at' ∙ sym (get_or-map items more k part part.items lt') in
    let long : length sides ≡ length rows = sym (ap length so_far) ∙ length-map rows items in
    let long' : length (lists more) ≡ length more = length-map more items in
    map-set items rows k new ∙ (λ i. set (so_far i) k (is i)) ∙ (λ i. set sides k (a i ++ b i)) ∙ side-more xs (lists more) k mine.items part.items (omega arith) (omega arith)
    ∙ ap (λ (m : ℕ). side_by_side xs (take m (lists more))) (sym n)
