-- What stands under the names of a list, after all of it.
use Rattle.std.specs.{Prelude.{AllPairs}, Str.{bytes_eq}}
use Rattle.std.proofs.Common.{◌≡◌, ◌≢◌, ℕ, zero, suc, ◌||◌, Bool, true, false, cond, List, [], ◌∷◌, get_or, All, Option, refl, ap, ◌∙◌, arith}
use Rattle.std.proofs.lemmas.{List.Elements.{All-head, All-tail}, Slice.Eq.{bytes_eq-Decides}}
use Rattle.rm_base.{specs.Store.{Held}, proofs.Both.{same-name}}
use Rattle.rm_commit.{specs.Names.{after_all, is_named, HasAll}, proofs.Named.{unnamed-stays}}

-- each of the items has a name of its own
abbrev pub AreApart : {X : Type 0} → (X → List ℕ) → List X → Type 0
AreApart name xs = AllPairs (λ x y. name x ≢ name y) xs

not-equal : (n m : List ℕ) (b : Bool) → bytes_eq n m ≡ b → n ≢ m → b ≡ false
not-equal n m true e apart = absurd (apart (same-name n m e))
not-equal n m false e apart = refl

-- a name that is none of theirs is not named
pub unnamed : {X : Type 0} (name : X → List ℕ) (xs : List X) (n : List ℕ) → All (λ x. n ≢ name x) xs → is_named name xs n ≡ false
unnamed name [] n apart = refl
unnamed name (x ∷ xs) n apart =
    let here : bytes_eq n (name x) ≡ false = not-equal n (name x) (bytes_eq n (name x)) refl (All-head (λ x. n ≢ name x) x xs apart) in
    ap (λ (b : Bool). b || is_named name xs n) here ∙ unnamed name xs n (All-tail (λ x. n ≢ name x) x xs apart)

-- under a name that is none of theirs stands what stood there
pub others-stay : {X : Type 0} (name : X → List ℕ) (value : X → Option (List ℕ)) (xs : List X) (before after : Held) (n : List ℕ)
    → HasAll name value xs before after → All (λ x. n ≢ name x) xs → after n ≡ before n
others-stay name value xs before after n done apart = done n ∙ unnamed-stays name value xs n (before n) (unnamed name xs n apart)

first-apart : {X : Type 0} (name : X → List ℕ) (x : X) (xs : List X) → AreApart name (x ∷ xs) → All (λ y. name x ≢ name y) xs
first-apart name x xs apart k d inside = apart 0 (suc k) d (omega arith) (omega arith)

rest-apart : {X : Type 0} (name : X → List ℕ) (x : X) (xs : List X) → AreApart name (x ∷ xs) → AreApart name xs
rest-apart name x xs apart i j d less inside = apart (suc i) (suc j) d (omega arith) (omega arith)

-- one after another, each leaves its value
each-left : {X : Type 0} (name : X → List ℕ) (value : X → Option (List ℕ)) (xs : List X) (old : Held) → AreApart name xs
    → All (λ x. after_all name value xs (name x) (old (name x)) ≡ value x) xs
each-left name value [] old apart k d inside = absurd (omega arith)
each-left name value (x ∷ xs) old apart zero d inside =
    ap (λ (b : Bool). after_all name value xs (name x) (cond b (value x) (old (name x)))) ((bytes_eq-Decides (name x) (name x)).1 refl)
    ∙ unnamed-stays name value xs (name x) (value x) (unnamed name xs (name x) (first-apart name x xs apart))
each-left name value (x ∷ xs) old apart (suc k) d inside =
    each-left name value xs (λ n. cond (bytes_eq n (name x)) (value x) (old n)) (rest-apart name x xs apart) k d (omega arith)

-- under the name of each stands its value
pub each-stands : {X : Type 0} (name : X → List ℕ) (value : X → Option (List ℕ)) (xs : List X) (before after : Held)
    → HasAll name value xs before after → AreApart name xs → All (λ x. after (name x) ≡ value x) xs
each-stands name value xs before after done apart k d inside = done (name (get_or xs k d)) ∙ each-left name value xs before apart k d inside
