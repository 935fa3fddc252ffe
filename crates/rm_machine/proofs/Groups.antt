-- Lists that are cut into groups.
use Rattle.std.proofs.Common.{◌≡◌, ◌<◌, ◌≤◌, ◌+◌, ◌*◌, ◌/◌, ◌%◌, ◌-◌, ◌∙◌, inl, inr, ℕ, zero, suc, List, [], ◌∷◌, All, AllPairs, ap, refl, sym, subst, arith, drop, get_or, length, length-drop, length-take, map, min, sum_by, take, get_or-drop, get_or-take}
use Rattle.std.proofs.lemmas.{Bool.{cases_lt}, Grind.{div_ceil_times}}
use Rattle.std.proofs.lemmas.List.{Elements.{All-cons, All-map, All-nil}, Kept.{AllPairs-cons}, Sums.{sum_by-cons}}
use Rattle.rm_machine.specs.Backup.{cut}

-- where something is so of a list, of its first n items and of what is left behind them, it is so of each group
pub cut-each : {A : Type 0} (Q : List A → Type 0) (n : ℕ) → 1 ≤ n → ((xs : List A) → Q xs → Q (take n xs)) → ((xs : List A) → Q xs → Q (drop n xs)) → (most : ℕ) (xs : List A) → Q xs
    → All (λ g. (1 ≤ length g) × Q g) (cut most n xs)
cut-each Q n some front back zero xs is = All-nil (λ g. (1 ≤ length g) × Q g)
cut-each Q n some front back (suc most) [] is = All-nil (λ g. (1 ≤ length g) × Q g)
cut-each Q n some front back (suc most) (x ∷ xs) is =
    All-cons (λ g. (1 ≤ length g) × Q g) (take n (x ∷ xs)) (cut most n (drop n (x ∷ xs)))
    (omega (arith, some, length-take n (x ∷ xs)), front (x ∷ xs) is) (cut-each Q n some front back most (drop n (x ∷ xs)) (back (x ∷ xs) is))

-- there are as many groups of each list that is as long
pub cut-long : {A B : Type 0} (most n : ℕ) (xs : List A) (ys : List B) → length xs ≡ length ys → length (cut most n xs) ≡ length (cut most n ys)
cut-long zero n xs ys same = refl
cut-long (suc most) n [] [] same = refl
cut-long (suc most) n [] (y ∷ ys) same = absurd (omega (arith, same))
cut-long (suc most) n (x ∷ xs) [] same = absurd (omega (arith, same))
cut-long (suc most) n (x ∷ xs) (y ∷ ys) same =
    let left : length (drop n (x ∷ xs)) ≡ length (drop n (y ∷ ys)) = omega (arith, same, length-drop n (x ∷ xs), length-drop n (y ∷ ys)) in
    let rest = cut-long most n (drop n (x ∷ xs)) (drop n (y ∷ ys)) left in
    omega (arith, rest)

-- no more groups than items are asked for
cut-none : {A : Type 0} (most n : ℕ) → cut {A = A} most n [] ≡ []
cut-none zero n = refl
cut-none (suc most) n = refl

cut-enough : {A : Type 0} (most more n : ℕ) (xs : List A) → 1 ≤ n → length xs ≤ most → length xs ≤ more → cut most n xs ≡ cut more n xs
cut-enough zero more n [] some few many = sym (cut-none more n)
cut-enough (suc most) more n [] some few many = sym (cut-none more n)
cut-enough zero more n (x ∷ xs) some few many = absurd (omega (arith, few))
cut-enough (suc most) zero n (x ∷ xs) some few many = absurd (omega (arith, many))
cut-enough (suc most) (suc more) n (x ∷ xs) some few many =
    let left = length-drop n (x ∷ xs) in
    ap (λ gs. take n (x ∷ xs) ∷ gs) (cut-enough most more n (drop n (x ∷ xs)) some (omega (arith, some, few, left)) (omega (arith, some, many, left)))

-- the first group, and those behind it
pub cut-next : {A : Type 0} (n : ℕ) (xs : List A) → 1 ≤ n → 1 ≤ length xs → cut (length xs) n xs ≡ take n xs ∷ cut (length (drop n xs)) n (drop n xs)
cut-next n [] some more = absurd (omega (arith, more))
cut-next n (x ∷ xs) some more =
    let left = length-drop n (x ∷ xs) in
    ap (λ gs. take n (x ∷ xs) ∷ gs) (cut-enough (length xs) (length (drop n (x ∷ xs))) n (drop n (x ∷ xs)) some (omega (arith, some, left)) (omega arith))

-- How many groups there are

none-of : (c n : ℕ) → c * n < n → c ≡ 0
none-of zero n less = refl
none-of (suc c) n less = absurd (omega (arith, less))

-- n times their number reaches the length, and passes it by less than n
cut-bounds : {A : Type 0} (most n : ℕ) (xs : List A) → 1 ≤ n → length xs ≤ most → (length xs ≤ length (cut most n xs) * n) × (length (cut most n xs) * n < length xs + n)
cut-bounds zero n [] some few = (omega arith, omega (arith, some))
cut-bounds zero n (x ∷ xs) some few = absurd (omega (arith, few))
cut-bounds (suc most) n [] some few = (omega arith, omega (arith, some))
cut-bounds (suc most) n (x ∷ xs) some few =
    let left = length-drop n (x ∷ xs) in
    let c : ℕ = length (cut most n (drop n (x ∷ xs))) in
    let rest = cut-bounds most n (drop n (x ∷ xs)) some (omega (arith, some, few, left)) in
    let low = rest.0 in
    let high = rest.1 in (
      omega (arith, low, left),
      elim (cases_lt (length (x ∷ xs)) n) [
        | inl short ↦ let none = none-of c n (omega (arith, high, left, short)) in omega (arith, ap (λ k. suc k * n) none)
        | inr enough ↦ omega (arith, high, left, enough)
      ],
    )

not-over : (c k n m : ℕ) → m ≤ c * n → (c + suc k) * n < m + n → ⊥
not-over c k n m low high = omega (arith, low, high)

not-above : (c d n m : ℕ) → c < d → m ≤ c * n → d * n < m + n → ⊥
not-above c d n m less low high = let is : d ≡ c + suc (d - c - 1) = omega (arith, less) in not-over c (d - c - 1) n m low (subst (λ k. k * n < m + n) is high)

one-number : (c d n m : ℕ) → m ≤ c * n → c * n < m + n → m ≤ d * n → d * n < m + n → c ≡ d
one-number c d n m low high low' high' = elim (cases_lt c d) [
  | inl less ↦ absurd (not-above c d n m less low high')
  | inr enough ↦ elim (cases_lt d c) [
    | inl more ↦ absurd (not-above d c n m more low' high)
    | inr most ↦ omega (arith, enough, most)
  ]
]

-- as many as the length by n, and one more where some are left
pub cut-many : {A : Type 0} (n : ℕ) (xs : List A) → 1 ≤ n → length (cut (length xs) n xs) ≡ length xs / n + min 1 (length xs % n)
cut-many n xs some =
    let is = cut-bounds (length xs) n xs some (omega arith) in
    let by = div_ceil_times (length xs) n (omega (arith, some)) in
    one-number (length (cut (length xs) n xs)) (length xs / n + min 1 (length xs % n)) n (length xs) is.0 is.1 by.0 by.1

-- no more than are asked for
pub cut-few : {A : Type 0} (most n : ℕ) (xs : List A) → length (cut most n xs) ≤ most
cut-few zero n xs = omega arith
cut-few (suc most) n [] = omega arith
cut-few (suc most) n (x ∷ xs) = let rest = cut-few most n (drop n (x ∷ xs)) in omega (arith, rest)

-- Pairs of what is in front, and of what is left

pub pairs-take : {A : Type 0} (R : A → A → Type 0) (n : ℕ) (xs : List A) → AllPairs R xs → AllPairs R (take n xs)
pairs-take R n xs all i k d less inside =
    let within : k < length xs = omega (arith, inside, length-take n xs) in
    let low : k < n = omega (arith, inside, length-take n xs) in
    let lower : i < n = omega (arith, less, low) in
    subst (λ x. R x (get_or (take n xs) k d)) (sym (get_or-take n xs i d lower)) (subst (λ y. R (get_or xs i d) y) (sym (get_or-take n xs k d low)) (all i k d less within))

pub pairs-drop : {A : Type 0} (R : A → A → Type 0) (n : ℕ) (xs : List A) → AllPairs R xs → AllPairs R (drop n xs)
pairs-drop R n xs all i k d less inside =
    let within : n + k < length xs = omega (arith, inside, length-drop n xs) in
    subst (λ x. R x (get_or (drop n xs) k d)) (sym (get_or-drop n xs i d)) (subst (λ y. R (get_or xs (n + i) d) y) (sym (get_or-drop n xs k d)) (all (n + i) (n + k) d (omega (arith, less)) within))

-- Pairs and sums of what is made of each item

pub mapped-pairs : {A B : Type 0} (R : B → B → Type 0) (f : A → B) (xs : List A) → AllPairs (λ x y. R (f x) (f y)) xs → AllPairs R (map f xs)
mapped-pairs R f [] all = λ i k d less inside. absurd (omega (arith, inside))
mapped-pairs R f (x ∷ xs) all =
    AllPairs-cons R (f x) (map f xs) (All-map (R (f x)) f xs (λ k d inside. all 0 (suc k) d (omega arith) (omega (arith, inside))))
    (mapped-pairs R f xs (λ i k d less inside. all (suc i) (suc k) d (omega (arith, less)) (omega (arith, inside))))

pub mapped-sum : {A B : Type 0} (g : B → ℕ) (f : A → B) (xs : List A) → sum_by g (map f xs) ≡ sum_by (λ x. g (f x)) xs
mapped-sum g f [] = refl
mapped-sum g f (x ∷ xs) = sum_by-cons g (f x) (map f xs) ∙ ap (λ n. g (f x) + n) (mapped-sum g f xs) ∙ sym (sum_by-cons (λ y. g (f y)) x xs)
