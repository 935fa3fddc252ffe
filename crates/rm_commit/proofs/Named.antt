-- What stands under a name, one item after another.
use Rattle.std.specs.Str.{bytes_eq}
use Rattle.std.proofs.Common.{◌≡◌, ℕ, zero, suc, ◌+◌, ◌<◌, ◌||◌, Bool, true, false, cond, List, [], ◌∷◌, length, get_or, drop, Option, refl, ap, sym, ◌∙◌, add-one, drop-cons}
use Rattle.rm_base.{specs.Store.{Held, Both, HasNow, SameBut}, proofs.Both.{both-then, both-map, both-two, other-name, one-put}}
use Rattle.rm_commit.specs.Names.{after_all, is_named, SameBeyond}

-- what is left to do leads from what stands now to what stands after all
abbrev pub Ahead : {X : Type 0} → (X → List ℕ) → (X → Option (List ℕ)) → List X → List X → Held → Held → Type 0
Ahead name value rest xs before now = (n : List ℕ) → after_all name value rest n (now n) ≡ after_all name value xs n (before n)

pub head-of : {X : Type 0} (xs : List X) (i : ℕ) (x : X) → i < length xs → x ≡ get_or xs i x → drop i xs ≡ x ∷ drop (i + 1) xs
head-of xs i x within is =
    let next : drop i xs ≡ get_or xs i x ∷ drop (i + 1) xs = rw add-one (drop-cons xs i x within) in
    next ∙ ap (λ y. y ∷ drop (i + 1) xs) (sym is)

pub ahead-step : {X : Type 0} (name : X → List ℕ) (value : X → Option (List ℕ)) (xs : List X) (i : ℕ) (x : X) (before now next : Held)
    → i < length xs → x ≡ get_or xs i x → Ahead name value (drop i xs) xs before now → HasNow (name x) (value x) now next → SameBut (name x) now next
    → Ahead name value (drop (i + 1) xs) xs before next
ahead-step name value xs i x before now next within is ahead at others n =
    ap (λ o. after_all name value (drop (i + 1) xs) n o) (one-put now next (name x) n (value x) at others)
    ∙ sym (ap (λ ys. after_all name value ys n (now n)) (head-of xs i x within is))
    ∙ ahead n

pub left-false : (a b : Bool) → (a || b) ≡ false → a ≡ false
left-false true b e = e
left-false false b e = refl

right-false : (a b : Bool) → (a || b) ≡ false → b ≡ false
right-false true b e = absurd (cc)
right-false false b e = e

-- what stands under another name stays
pub unnamed-stays : {X : Type 0} (name : X → List ℕ) (value : X → Option (List ℕ)) (xs : List X) (n : List ℕ) (o : Option (List ℕ)) → is_named name xs n ≡ false → after_all name value xs n o ≡ o
unnamed-stays name value [] n o e = refl
unnamed-stays name value (x ∷ xs) n o e =
    ap (λ (b : Bool). after_all name value xs n (cond b (value x) o)) (left-false (bytes_eq n (name x)) (is_named name xs n) e)
    ∙ unnamed-stays name value xs n o (right-false (bytes_eq n (name x)) (is_named name xs n) e)

unnamed-drop : {X : Type 0} (name : X → List ℕ) (xs : List X) (i : ℕ) (n : List ℕ) → is_named name xs n ≡ false → is_named name (drop i xs) n ≡ false
unnamed-drop name xs zero n e = e
unnamed-drop name [] (suc i) n e = refl
unnamed-drop name (x ∷ xs) (suc i) n e = unnamed-drop name xs i n (right-false (bytes_eq n (name x)) (is_named name xs n) e)

ahead-beyond : {X : Type 0} (name : X → List ℕ) (value : X → Option (List ℕ)) (xs : List X) (i : ℕ) (before now : Held) → Ahead name value (drop i xs) xs before now → SameBeyond name xs before now
ahead-beyond name value xs i before now ahead n free =
    sym (unnamed-stays name value (drop i xs) n (now n) (unnamed-drop name xs i n free)) ∙ ahead n ∙ unnamed-stays name value xs n (before n) free

stop-beyond : {X : Type 0} (name : X → List ℕ) (value : X → Option (List ℕ)) (xs : List X) (i : ℕ) (x : X) (before now next : Held)
    → i < length xs → x ≡ get_or xs i x → Ahead name value (drop i xs) xs before now → SameBut (name x) now next → SameBeyond name xs before next
stop-beyond name value xs i x before now next within is ahead others n free =
    let left : is_named name (drop i xs) n ≡ false = unnamed-drop name xs i n free in
    let head : is_named name (x ∷ drop (i + 1) xs) n ≡ false = sym (ap (λ ys. is_named name ys n) (head-of xs i x within is)) ∙ left in
    others n (other-name n (name x) (left-false (bytes_eq n (name x)) (is_named name (drop (i + 1) xs) n) head)) ∙ ahead-beyond name value xs i before now ahead n free

-- one item more
pub next-item : {X : Type 0} (name : X → List ℕ) (value : X → Option (List ℕ)) (xs : List X) (i : ℕ) (it : X) (x y z : Option Held)
    → i < length xs → it ≡ get_or xs i it → Both (Ahead name value (drop i xs) xs) x y → Both (HasNow (name it) (value it)) y z → Both (SameBut (name it)) y z
    → Both (Ahead name value (drop (i + 1) xs) xs) x z
next-item name value xs i it x y z within is ahead at others =
    both-then (Ahead name value (drop i xs) xs) (λ b c. HasNow (name it) (value it) b c × SameBut (name it) b c) (Ahead name value (drop (i + 1) xs) xs)
    (λ a b c far now. ahead-step name value xs i it a b c within is far now.0 now.1) x y z ahead (both-two (HasNow (name it) (value it)) (SameBut (name it)) y z at others)

-- as far as it came, only names of the items have something else
pub so-far : {X : Type 0} (name : X → List ℕ) (value : X → Option (List ℕ)) (xs : List X) (i : ℕ) (x y : Option Held)
    → Both (Ahead name value (drop i xs) xs) x y → Both (SameBeyond name xs) x y
so-far name value xs i x y far = both-map (Ahead name value (drop i xs) xs) (SameBeyond name xs) (λ a b ahead. ahead-beyond name value xs i a b ahead) x y far

-- and so where the next one failed
pub stopped-at : {X : Type 0} (name : X → List ℕ) (value : X → Option (List ℕ)) (xs : List X) (i : ℕ) (it : X) (x y z : Option Held)
    → i < length xs → it ≡ get_or xs i it → Both (Ahead name value (drop i xs) xs) x y → Both (SameBut (name it)) y z → Both (SameBeyond name xs) x z
stopped-at name value xs i it x y z within is far others = both-then (Ahead name value (drop i xs) xs) (SameBut (name it)) (SameBeyond name xs)
    (λ a b c. stop-beyond name value xs i it a b c within is) x y z far others
