-- Records whose places run on: they rise strictly between two bounds, and so are in order, and each is found at its place.
use Rattle.std.proofs.Common.{◌≡◌, ◌∙◌, ℕ, zero, suc, ◌+◌, ◌<◌, ◌≤◌, List, [], ◌∷◌, ◌++◌, get_or, map, All, AllPairs, Contains, Some, ap, arith, length, take, sym}
use Rattle.std.proofs.lemmas.List.{get_or_default, get_or-take, length-take, Elements.{Contains-get_or}, Kept.{AllPairs-cons}}
use Rattle.rm_catalog.specs.{Keys.{place, place_of, at, InOrder}, Rules.{IsCatalog}, declared.record.Record.{Record}}
use Rattle.rm_catalog.proofs.{Unique.{Rises, all_above}, Told.{at_here, at_past}, Numbering.{rises_catalog}}

-- the places rise strictly, all from `low` on and below `high`
unfoldable pub Runs : ℕ → ℕ → List Record → Type 0
Runs low high [] = low ≤ high
Runs low high (r ∷ rs) = (low ≤ place_of r) × Runs (place_of r + 1) high rs

pub runs-lower : (a b high : ℕ) (rs : List Record) → a ≤ b → Runs b high rs → Runs a high rs
unfolding Runs
runs-lower a b high [] le up = let last : b ≤ high = up in omega arith
runs-lower a b high (r ∷ rs) le up = let first = up.0 in (omega arith, up.1)

-- what runs on behind a run is one run with it
pub runs-append : (low mid high : ℕ) (rs qs : List Record) → Runs low mid rs → Runs mid high qs → Runs low high (rs ++ qs)
unfolding Runs
runs-append low mid high [] qs up down = runs-lower low mid high qs up down
runs-append low mid high (r ∷ rs) qs up down = (up.0, runs-append (place_of r + 1) mid high rs qs up.1 down)

pub runs-rise : (low high : ℕ) (rs : List Record) → Runs low high rs → Rises low rs
unfolding Runs Rises
runs-rise low high [] up = tt
runs-rise low high (r ∷ rs) up = (up.0, runs-rise (place_of r + 1) high rs up.1)

-- each place of a run lies within its bounds
runs-short : (low high : ℕ) (rs : List Record) → Runs low high rs → low ≤ high
unfolding Runs
runs-short low high [] up = up
runs-short low high (r ∷ rs) up = let first = up.0 in let later = runs-short (place_of r + 1) high rs up.1 in omega arith

pub runs-within : (low high : ℕ) (rs : List Record) → Runs low high rs → All (λ r. (low ≤ place_of r) × (place_of r < high)) rs
unfolding Runs
runs-within low high [] up k d lt = absurd (omega arith)
runs-within low high (r ∷ rs) up zero d lt = let first = up.0 in let later = runs-short (place_of r + 1) high rs up.1 in (first, omega arith)
runs-within low high (r ∷ rs) up (suc k) d lt =
    let first = up.0 in
    let later = runs-within (place_of r + 1) high rs up.1 k d (omega arith) in
    let low_of = later.0 in
    (omega arith, later.1)

-- what goes on behind a gap
pub runs-join : (mid low from high : ℕ) (rs qs : List Record) → mid ≤ from → Runs low mid rs → Runs from high qs → Runs low high (rs ++ qs)
runs-join mid low from high rs qs le up down = runs-append low mid high rs qs up (runs-lower mid from high qs le down)

-- objects whose ids ascend from n on run from the place of n on
pub runs-objects : {A : Type 0} (make : A → Record) (id : A → ℕ) (of n : ℕ) (xs : List A) → ((x : A) → place_of (make x) ≡ place of (id x))
    → All (λ x. (n ≤ id x) × (id x < 4294967295)) xs → AllPairs (λ x y. id x < id y) xs → Runs (place of n) (place (of + 1) 0) (map make xs)
unfolding Runs
runs-objects make id of n [] is within up = omega arith
runs-objects {A} make id of n (x ∷ xs) is within up =
    let here : place_of (make x) ≡ place of (id x) = is x in
    let first : (n ≤ id x) × (id x < 4294967295) = within 0 x (omega arith) in
    let from = first.0 in
    let small = first.1 in
    let above : All (λ (y : A). (id x + 1 ≤ id y) × (id y < 4294967295)) xs = λ k d lt.
    let next : id x < id (get_or xs k d) = up 0 (suc k) d (omega arith) (omega arith) in
    let bound : (n ≤ id (get_or xs k d)) × (id (get_or xs k d) < 4294967295) = within (suc k) d (omega arith) in
    (omega arith, bound.1)
    in
    let later = runs-objects make id of (id x + 1) xs is above (λ i j d less lt. up (suc i) (suc j) d (omega arith) (omega arith)) in
    (omega arith, runs-lower (place_of (make x) + 1) (place of (id x + 1)) (place (of + 1) 0) (map make xs) (omega arith) later)

-- records that rise are in order
pub rises-order : (low : ℕ) (rs : List Record) → Rises low rs → InOrder rs
unfolding Rises
rises-order low [] up i j d le lt = absurd (omega arith)
rises-order low (r ∷ rs) up zero zero d le lt = omega arith
rises-order low (r ∷ rs) up zero (suc j) d le lt = let over = all_above (place_of r + 1) rs up.1 (get_or rs j d) (Contains-get_or rs j d (omega arith)) in omega arith
rises-order low (r ∷ rs) up (suc i) zero d le lt = absurd (omega arith)
rises-order low (r ∷ rs) up (suc i) (suc j) d le lt = rises-order (place_of r + 1) rs up.1 i j d (omega arith) (omega arith)

-- where records rise, each is found at its place
pub rises-found : (low : ℕ) (rs : List Record) (x : Record) → Rises low rs → Contains rs x → at (place_of x) rs ≡ Some x
unfolding Rises
rises-found low [] x up has = absurd (let lt = has.1 in omega arith)
rises-found low (r ∷ rs) x up (zero, lt, is) = at_here r rs (place_of x) (ap place_of is) ∙ ap (λ (y : Record). Some y) is
rises-found low (r ∷ rs) x up (suc k, lt, is) =
    let has : Contains rs x = (k, omega arith, is) in
    let over = all_above (place_of r + 1) rs up.1 x has in
    at_past r rs (place_of x) (λ e. omega arith) ∙ rises-found (place_of r + 1) rs x up.1 has

pub places-ascend : (b : ℕ) (rs : List Record) → Rises b rs → AllPairs (λ r s. place_of r < place_of s) rs
unfolding Rises
places-ascend b [] up = λ i j d less inside. absurd (omega arith)
places-ascend b (r ∷ rs) up =
    AllPairs-cons (λ (r s : Record). place_of r < place_of s) r rs
    (λ k d inside. let over = all_above (place_of r + 1) rs up.1 (get_or rs k d) (Contains-get_or rs k d inside) in omega arith)
    (places-ascend (place_of r + 1) rs up.1)

-- a record before stands at a lower place
pub earlier-lower : (rs : List Record) (i : ℕ) (r x : Record) → IsCatalog rs → i < length rs → r ≡ get_or rs i r → Contains (take i rs) x → Contains rs x × (place_of x < place_of r)
earlier-lower rs i r x c inside is has =
    let k = has.0 in
    let long = length-take i rs in
    let less = has.1 in
    let before : k < i = omega arith in
    let here : get_or rs k x ≡ x = sym (get_or-take i rs k x before) ∙ has.2 in
    let low = places-ascend 0 rs (rises_catalog rs c) k i x before inside in
    let first = ap place_of here in
    let second = ap place_of (is ∙ get_or_default rs i r x inside) in
    ((k, omega arith, here), omega arith)
