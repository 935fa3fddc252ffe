-- Items of lists that are filtered, mapped, searched and read from the front.
use Rattle.std.specs.List.{AllPairs, AllZip, list_any}
use Rattle.std.proofs.Common.{◌≡◌, ◌∙◌, ◌⊎◌, ◌<◌, ◌≤◌, ◌+◌, inl, inr, ℕ, zero, suc, List, [], ◌∷◌, ◌++◌, Bool, true, false, cond, Some, None, refl, ap, sym, subst, arith, filter, map, find, length, take, get_or, All, Contains, AllPairs}
use Rattle.std.proofs.lemmas.Bool.{cases_Bool}
use Rattle.std.proofs.lemmas.List.Elements.{All-contains, All-contains_itself, All-filter, Contains-append_cases, Contains-get_or, filter_passes}
use Rattle.std.proofs.{lemmas.List.{Kept.{AllPairs-cons}, Folds.{Any-from_list_any, list_any-from_Any}}, Math.Seq.{take-suc}}
use Rattle.std.proofs.lemmas.List.{get_or-map, length-map}
use Rattle.rm_base.proofs.Members.{in-front, behind, none-in, first-or-rest}

-- what a filter keeps was there, and passes
pub filter_from : {X : Type 0} (p : X → Bool) (xs : List X) (x : X) → Contains (filter p xs) x → Contains xs x × (p x ≡ true)
filter_from p xs x held =
    (All-contains (Contains xs) (filter p xs) x (All-filter p (Contains xs) xs (All-contains_itself xs)) held, All-contains (λ y. p y ≡ true) (filter p xs) x (filter_passes p xs) held)

kept-in-front : {X : Type 0} (p : X → Bool) (x : X) (xs : List X) (b : Bool) → p x ≡ b → p x ≡ true → Contains (cond b (x ∷ filter p xs) (filter p xs)) x
kept-in-front p x xs true is passes = in-front x (filter p xs)
kept-in-front p x xs false is passes = let both : true ≡ false = sym passes ∙ is in absurd (cc)

kept-behind : {X : Type 0} (x y : X) (ys : List X) (b : Bool) → Contains ys y → Contains (cond b (x ∷ ys) ys) y
kept-behind x y ys true held = behind x ys y held
kept-behind x y ys false held = held

-- what was there and passes is kept
pub filter_to : {X : Type 0} (p : X → Bool) (xs : List X) (x : X) → Contains xs x → p x ≡ true → Contains (filter p xs) x
filter_to p [] x held passes = absurd (none-in x held)
filter_to p (y ∷ ys) x held passes = elim (first-or-rest y ys x held) [
  | inl same ↦ subst (Contains (filter p (y ∷ ys))) same (kept-in-front p y ys (p y) refl (ap p same ∙ passes))
  | inr rest ↦ kept-behind y x (filter p ys) (p y) (filter_to p ys x rest passes)
]

skip-first : {X : Type 0} (p q : X → Bool) (x : X) (xs ys : List X) (a b : Bool) → p x ≡ a → q x ≡ b → (p x ≡ true → q x ≡ true) → filter p ys ≡ filter p xs → filter p (cond b (x ∷ ys) ys) ≡ filter p (x ∷ xs)
skip-first p q x xs ys a true of_p of_q keeps rest = ap (λ zs. cond (p x) (x ∷ zs) zs) rest
skip-first p q x xs ys true false of_p of_q keeps rest = let both : true ≡ false = sym (keeps of_p) ∙ of_q in absurd (cc)
skip-first p q x xs ys false false of_p of_q keeps rest = rest ∙ sym (ap (λ t. cond t (x ∷ filter p xs) (filter p xs)) of_p)

-- a filter before another, which keeps all that passes the other, changes nothing
pub filter_filter : {X : Type 0} (p q : X → Bool) (xs : List X) → ((x : X) → Contains xs x → p x ≡ true → q x ≡ true) → filter p (filter q xs) ≡ filter p xs
filter_filter p q [] keeps = refl
filter_filter p q (x ∷ xs) keeps =
    skip-first p q x xs (filter q xs) (p x) (q x) refl refl (keeps x (in-front x xs)) (filter_filter p q xs (λ y held. keeps y (behind x xs y held)))

-- a filter whose test each item passes keeps all, and one whose test none passes keeps none
pub filter_all : {X : Type 0} (p : X → Bool) (xs : List X) → All (λ x. p x ≡ true) xs → filter p xs ≡ xs
filter_all p [] all = refl
filter_all p (x ∷ xs) all = rw (all 0 x (omega arith)) (ap (λ ys. x ∷ ys) (filter_all p xs (λ k d lt. all (suc k) d (omega arith))))

pub filter_none : {X : Type 0} (p : X → Bool) (xs : List X) → All (λ x. p x ≡ false) xs → filter p xs ≡ []
filter_none p [] all = refl
filter_none p (x ∷ xs) all = rw (all 0 x (omega arith)) (filter_none p xs (λ k d lt. all (suc k) d (omega arith)))

-- some item passes, or none does
pub find_passing : {X : Type 0} (p : X → Bool) (xs : List X) → ((x : X) × Contains xs x × (p x ≡ true)) ⊎ ((x : X) → Contains xs x → ¬ (p x ≡ true))
find_passing p [] = inr (λ x held passes. none-in x held)
find_passing p (x ∷ xs) = elim (cases_Bool (p x)) [
  | inl passes ↦ inl (x, in-front x xs, passes)
  | inr fails ↦ elim (find_passing p xs) [
    | inl found ↦ inl (found.0, behind x xs found.0 found.1, found.2)
    | inr none ↦ inr (λ y held passes. elim (first-or-rest x xs y held) [
      | inl same ↦ let both : true ≡ false = sym passes ∙ ap p (sym same) ∙ fails in absurd (cc)
      | inr rest ↦ none y rest passes
    ])
  ]
]

module _ {X Y : Type 0} (f : X → Y) where
  -- what a list has, its map has
  pub map_to : (xs : List X) (x : X) → Contains xs x → Contains (map f xs) (f x)
  map_to [] x held = absurd (none-in x held)
  map_to (y ∷ ys) x held = elim (first-or-rest y ys x held) [
    | inl same ↦ subst (λ z. Contains (f y ∷ map f ys) z) (ap f same) (in-front (f y) (map f ys))
    | inr rest ↦ behind (f y) (map f ys) (f x) (map_to ys x rest)
  ]

  -- an item of the list of which f makes y
  pub record Source (xs : List X) (y : Y) : Type 0 where
    pub item : X
    pub held : Contains xs item
    pub is : f item ≡ y

  pub map_from : (xs : List X) (y : Y) → Contains (map f xs) y → Source xs y
  map_from [] y held = absurd (none-in y held)
  map_from (x ∷ xs) y held = elim (first-or-rest (f x) (map f xs) y held) [
    | inl same ↦ record { item = x; held = in-front x xs; is = same }
    | inr rest ↦ let s = map_from xs y rest in record { item = s.item; held = behind x xs s.item s.held; is = s.is }
  ]

-- an item that passes and that a search finds
pub record IsFound {X : Type 0} (p : X → Bool) (xs : List X) : Type 0 where
  pub item : X
  pub held : Contains xs item
  pub passes : p item ≡ true
  pub is : find p xs ≡ Some item

found-behind : {X : Type 0} (p : X → Bool) (x : X) (xs : List X) → p x ≡ false → (find p xs ≡ None) ⊎ IsFound p xs → (find p (x ∷ xs) ≡ None) ⊎ IsFound p (x ∷ xs)
found-behind p x xs fails (inl none) = inl (ap (λ b. cond b (Some x) (find p xs)) fails ∙ none)
found-behind p x xs fails (inr s) = inr (record { item = s.item; held = behind x xs s.item s.held; passes = s.passes; is = ap (λ b. cond b (Some x) (find p xs)) fails ∙ s.is })

-- a search finds none, or one that passes
pub find_cases : {X : Type 0} (p : X → Bool) (xs : List X) → (find p xs ≡ None) ⊎ IsFound p xs
find_cases p [] = inl refl
find_cases p (x ∷ xs) = elim (cases_Bool (p x)) [
  | inl passes ↦ inr (record { item = x; held = in-front x xs; passes = passes; is = ap (λ b. cond b (Some x) (find p xs)) passes })
  | inr fails ↦ found-behind p x xs fails (find_cases p xs)
]

-- where it finds none, none passes
pub find_none : {X : Type 0} (p : X → Bool) (xs : List X) (x : X) → find p xs ≡ None → Contains xs x → ¬ (p x ≡ true)
find_none p [] x none held passes = none-in x held
find_none p (y ∷ ys) x none held passes = elim (cases_Bool (p y)) [
  | inl first ↦ let both : Some y ≡ None = sym (ap (λ b. cond b (Some y) (find p ys)) first) ∙ none in absurd (cc)
  | inr fails ↦ elim (first-or-rest y ys x held) [
    | inl same ↦ let both : true ≡ false = sym (subst (λ z. p z ≡ true) (sym same) passes) ∙ fails in absurd (cc)
    | inr rest ↦ find_none p ys x (sym (ap (λ b. cond b (Some y) (find p ys)) fails) ∙ none) rest passes
  ]
]

module _ {X : Type 0} (p : X → Bool) where
  -- one passes where any does
  pub any_from : (xs : List X) → list_any p xs ≡ true → (x : X) × Contains xs x × (p x ≡ true)
  any_from xs some = let a = Any-from_list_any p xs some in (a.1, (a.0, a.2, a.3), a.4)

  pub any_to : (xs : List X) (x : X) → Contains xs x → p x ≡ true → list_any p xs ≡ true
  any_to xs x held passes = list_any-from_Any p xs (held.0, x, held.1, held.2, passes)

  -- and none where none does
  pub any_none : (xs : List X) → list_any p xs ≡ false → (x : X) → Contains xs x → p x ≡ false
  any_none xs none x held = elim (cases_Bool (p x)) [
    | inr fails ↦ fails
    | inl passes ↦ let both : true ≡ false = sym (any_to xs x held passes) ∙ none in absurd (cc)
  ]

  pub any_fails : (xs : List X) → ((x : X) → Contains xs x → ¬ (p x ≡ true)) → list_any p xs ≡ false
  any_fails xs none = elim (cases_Bool (list_any p xs)) [
    | inr fails ↦ fails
    | inl some ↦ let one = any_from xs some in absurd (none one.0 one.1 one.2)
  ]

module _ {X : Type 0} where
  -- with one item more at the end
  pub in_front_part : (xs : List X) (x y : X) → Contains xs y → Contains (xs ++ x ∷ []) y
  in_front_part [] x y held = absurd (none-in y held)
  in_front_part (z ∷ zs) x y held = elim (first-or-rest z zs y held) [
    | inl same ↦ subst (λ (a : X). Contains (z ∷ (zs ++ x ∷ [])) a) same (in-front z (zs ++ x ∷ []))
    | inr rest ↦ behind z (zs ++ x ∷ []) y (in_front_part zs x y rest)
  ]

  pub at_end : (xs : List X) (x : X) → Contains (xs ++ x ∷ []) x
  at_end [] x = in-front x []
  at_end (z ∷ zs) x = behind z (zs ++ x ∷ []) x (at_end zs x)

  pub front_or_end : (xs : List X) (x y : X) → Contains (xs ++ x ∷ []) y → Contains xs y ⊎ (x ≡ y)
  front_or_end [] x y held = elim (first-or-rest x [] y held) [
    | inl same ↦ inr same
    | inr rest ↦ absurd (none-in y rest)
  ]
  front_or_end (z ∷ zs) x y held = elim (first-or-rest z (zs ++ x ∷ []) y held) [
    | inl same ↦ inl (subst (λ (a : X). Contains (z ∷ zs) a) same (in-front z zs))
    | inr rest ↦ elim (front_or_end zs x y rest) [
      | inl front ↦ inl (behind z zs y front)
      | inr last ↦ inr last
    ]
  ]

  -- the first i + 1 items are the first i and one more
  pub take_more : (xs : List X) (i : ℕ) (x : X) → i < length xs → x ≡ get_or xs i x → take (i + 1) xs ≡ take i xs ++ x ∷ []
  take_more xs i x inside is =
      let one : i + 1 ≡ suc i = omega arith in
      ap (λ (n : ℕ). take n xs) one ∙ take-suc xs i x inside ∙ ap (λ y. take i xs ++ y ∷ []) (sym is)

-- lists that are related place by place join
pub all_zip_join : {A B : Type 0} (R : A → B → Type 0) (xs ys : List A) (us vs : List B) → AllZip R xs us → AllZip R ys vs → AllZip R (xs ++ ys) (us ++ vs)
all_zip_join R [] ys [] vs first second = second
all_zip_join R [] ys (u ∷ us) vs first second = absurd first
all_zip_join R (x ∷ xs) ys [] vs first second = absurd first
all_zip_join R (x ∷ xs) ys (u ∷ us) vs first second = (first.0, all_zip_join R xs ys us vs first.1 second)

module _ {X : Type 0} (R : X → X → Type 0) where
  -- what holds of all pairs holds of the first and each later one, and of those behind the first
  pub pairs-head : (x : X) (xs : List X) (y : X) → AllPairs R (x ∷ xs) → Contains xs y → R x y
  pairs-head x xs y all (k, inside, is) = subst (λ z. R x z) is (all 0 (suc k) y (omega arith) (omega arith))

  pub pairs-tail : (x : X) (xs : List X) → AllPairs R (x ∷ xs) → AllPairs R xs
  pairs-tail x xs all i j d less inside = all (suc i) (suc j) d (omega arith) (omega arith)

  -- and of those behind some first ones
  pub pairs-behind : (xs ys : List X) → AllPairs R (xs ++ ys) → AllPairs R ys
  pairs-behind [] ys all = all
  pairs-behind (x ∷ xs) ys all = pairs-behind xs ys (pairs-tail x (xs ++ ys) all)

  -- what holds in both lists, and of each of the first with each of the second, holds of all pairs
  pub pairs-append : (xs ys : List X) → AllPairs R xs → AllPairs R ys → ((x y : X) → Contains xs x → Contains ys y → R x y) → AllPairs R (xs ++ ys)
  pairs-append [] ys first second cross = second
  pairs-append (x ∷ xs) ys first second cross =
      AllPairs-cons R x (xs ++ ys) (λ k d inside. elim (Contains-append_cases xs ys (get_or (xs ++ ys) k d) (Contains-get_or (xs ++ ys) k d inside)) [
        | inl here ↦ pairs-head x xs _ first here
        | inr there ↦ cross x _ (in-front x xs) there
      ])
      (pairs-append xs ys (pairs-tail x xs first) second (λ y z here there. cross y z (behind x xs y here) there))

-- items that ascend by numbers from `low` on, below low + n, are at most n
pub few-between : {X : Type 0} (f : X → ℕ) (xs : List X) (low n : ℕ) → AllPairs (λ x y. f x < f y) xs → ((x : X) → Contains xs x → (low ≤ f x) × (f x < low + n)) → length xs ≤ n
few-between f [] low n up each = omega arith
few-between f (x ∷ xs) low zero up each = let first = each x (in-front x xs) in absurd (omega (arith, first.0, first.1))
few-between f (x ∷ xs) low (suc n) up each =
    let first = each x (in-front x xs) in
    let rest = few-between f xs (low + 1) n (pairs-tail (λ x y. f x < f y) x xs up) (λ y has.
    let more = pairs-head (λ x y. f x < f y) x xs y up has in
    let most = (each y (behind x xs y has)).1 in
    (omega (arith, more, first.0), omega (arith, most))) in
    omega (arith, rest)

pub only-in : {X : Type 0} (x y : X) → Contains (x ∷ []) y → x ≡ y
only-in x y has = elim (first-or-rest x [] y has) [
  | inl same ↦ same
  | inr tail ↦ absurd (none-in y tail)
]

-- what holds of all pairs of items holds of what is made of them
pub pairs-mapped : {X Y : Type 0} (f : X → Y) (R : X → X → Type 0) (S : Y → Y → Type 0) → ((x y : X) → R x y → S (f x) (f y)) → (xs : List X) → AllPairs R xs → AllPairs S (map f xs)
pairs-mapped f R S to [] all = λ i j d less inside. absurd (omega arith)
pairs-mapped f R S to (x ∷ xs) all =
    AllPairs-cons S (f x) (map f xs)
    (λ k d inside. let from = map_from f xs (get_or (map f xs) k d) (Contains-get_or (map f xs) k d inside) in subst (S (f x)) from.is (to x from.item (pairs-head R x xs from.item all from.held)))
    (pairs-mapped f R S to xs (pairs-tail R x xs all))

-- and what holds of what is made of them, of the items
pub unmapped-pairs : {X Y : Type 0} (S : Y → Y → Type 0) (f : X → Y) (xs : List X) → AllPairs S (map f xs) → AllPairs (λ x y. S (f x) (f y)) xs
unmapped-pairs S f xs all i k d less inside =
    let lower : i < length xs = omega (arith, less, inside) in
    subst (λ y. S (f (get_or xs i d)) y) (get_or-map f xs k d (f d) inside)
    (subst (λ x. S x (get_or (map f xs) k (f d))) (get_or-map f xs i d (f d) lower) (all i k (f d) less (omega (arith, inside, length-map xs f))))
