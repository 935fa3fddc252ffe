-- Copies in the order of their age, and how many are newer than one of them.
use Rattle.std.specs.{Prelude.{IfNone, IfSome}, List.{sum_by, Sorted.{IsNonDecreasingBy, IsPermutation, IsStableByKey, ties}}}
use Rattle.std.specs.{Ordering.{is_lt, nat_cmp}, declared.cmp.Ordering.TheVariants.{Less, Equal, Greater}}
use Rattle.std.proofs.Common.{◌≡◌, ◌<◌, ◌≤◌, ◌+◌, ◌-◌, ◌∙◌, ◌⊎◌, ◌==◌, ◌&&◌, ◌||◌, inl, inr, nat_lt, not, ℕ, zero, suc, List, [], ◌∷◌, Bool, true, false, cond, Option, Some, None, refl, ap, sym, subst, arith, filter, get_or, length, slice_get, AllPairs, Contains}
use Rattle.std.proofs.lemmas.Bool.{cases_lt, cases_order, eq-eqb, eqb-true, false_from_ne_true, le-ltb, lt-ltb, ltb-true}
use Rattle.std.proofs.lemmas.{Bool.Decides.{nat_tests}, List.{Elements.{Contains-get_or}, Kept.{AllPairs-cons}}}
use Rattle.std.proofs.lemmas.List.{Sorted.{length_permutation, sum_by-IsPermutation}, Sums.{length-filter, sum_by-cons}}
use Rattle.std.proofs.lemmas.Option.{get_or_from_slice_get, same_Some}
use Rattle.rm_base.proofs.{Lists.{filter_to, find_cases, find_none, pairs-head, pairs-tail}, Members.{in-front, behind}}
use Rattle.rm_retain.specs.{Chosen.{is_newer, rank, newest, nth_newest, IsByAge, is_among}, declared.copies.Backup.{Backup}}
use Rattle.rm_retain.proofs.Ranks.{IsRising, rising_filter, filter_shorter, none_kept}
use Rattle.rm_retain.proofs.SecondTime.{never_of, above_of, rank_rises, rising_one}

lt_not : (b c : Bool) → b ≡ false → is_lt (cond b Less (cond c Equal Greater)) ≡ false
lt_not true c h = absurd (cc)
lt_not false true h = refl
lt_not false false h = refl

both_not : (x y : Bool) → x ≡ false → y ≡ false → not x && not y ≡ true
both_not true y h k = absurd (cc)
both_not false true h k = absurd (cc)
both_not false false h k = refl

-- copies of one checkpoint tie
abbrev tie : Backup → Backup → Bool
tie = ties (λ x y. is_lt (nat_cmp x.checkpoint y.checkpoint))

tie_same : (x y : Backup) → x.checkpoint ≡ y.checkpoint → tie x y ≡ true
tie_same x y same =
    let a = x.checkpoint in
    let b = y.checkpoint in
    both_not (is_lt (nat_cmp a b)) (is_lt (nat_cmp b a)) (lt_not (nat_lt a b) (a == b) (le-ltb a b (omega (arith, same)))) (lt_not (nat_lt b a) (b == a) (le-ltb b a (omega (arith, same))))

equal_of : (a b i j : ℕ) → a ≡ b → j < i → (nat_lt b a || ((a == b) && nat_lt j i)) ≡ true
equal_of a b i j same less = grind (arith, nat_tests)

not_both : (a b i j : ℕ) → (nat_lt b a || ((a == b) && nat_lt j i)) ≡ true → (nat_lt a b || ((b == a) && nat_lt i j)) ≡ false
not_both a b i j h = grind (arith, nat_tests)

rising_tail : (b : Bool) (y : Backup) (l : List Backup) → IsRising (cond b (y ∷ l) l) → IsRising l
rising_tail true y l rise = rise.1
rising_tail false y l rise = rise

-- where checkpoints don't fall, and copies of one checkpoint rise by id, each copy is older than those behind it
in_order : (ys : List Backup) → AllPairs (λ x y. x.checkpoint ≤ y.checkpoint) ys → ((x : Backup) → IsRising (filter (tie x) ys)) → IsByAge ys
in_order [] up each = λ i j d less inside. absurd (omega arith)
in_order (y ∷ zs) up each =
    AllPairs-cons (λ (x z : Backup). is_newer z x ≡ true) y zs (λ k d inside. newer (get_or zs k d) (Contains-get_or zs k d inside))
    (in_order zs (pairs-tail (λ (x z : Backup). x.checkpoint ≤ z.checkpoint) y zs up) (λ x. rising_tail (tie x y) y (filter (tie x) zs) (each x)))
  where
    newer : (z : Backup) → Contains zs z → is_newer z y ≡ true
    newer z held = elim (cases_lt y.checkpoint z.checkpoint) [
      | inl less ↦ above_of z.checkpoint y.checkpoint z.id y.id less
      | inr most ↦
          let low : y.checkpoint ≤ z.checkpoint = pairs-head (λ (x z : Backup). x.checkpoint ≤ z.checkpoint) y zs z up held in
          let same : y.checkpoint ≡ z.checkpoint = omega (arith, low, most) in
          let rise : IsRising (y ∷ filter (tie y) zs) = subst (λ b. IsRising (cond b (y ∷ filter (tie y) zs) (filter (tie y) zs))) (tie_same y y refl) (each y) in
          let up : y.id < z.id = rise.0 z (filter_to (tie y) zs z held (tie_same y z same)) in
          equal_of z.checkpoint y.checkpoint z.id y.id (sym same) up
    ]

-- so a stable sort by checkpoint puts copies that rise by id in the order of their age
pub by_age : (xs ys : List Backup) → IsRising xs → IsNonDecreasingBy (λ x. x.checkpoint) ys → IsStableByKey (λ x. x.checkpoint) nat_cmp xs ys → IsByAge ys
by_age xs ys rise order stable =
    in_order ys (λ i j d less inside. order i j d (omega arith) inside) (λ x. subst IsRising (sym (stable x)) (rising_filter (tie x) xs rise))

all_pass : (p : Backup → Bool) (xs : List Backup) → ((x : Backup) → Contains xs x → p x ≡ true) → length (filter p xs) ≡ length xs
all_pass p [] all = refl
all_pass p (x ∷ xs) all =
    ap (λ b. length (cond b (x ∷ filter p xs) (filter p xs))) (all x (in-front x xs)) ∙ ap suc (all_pass p xs (λ y held. all y (behind x xs y held)))

-- as many are newer as stand behind
place_rank : (ys : List Backup) → IsByAge ys → (k : ℕ) (d : Backup) → k < length ys → length (filter (λ y. is_newer y (get_or ys k d)) ys) + 1 + k ≡ length ys
place_rank [] up k d inside = absurd (omega arith)
place_rank (y ∷ zs) up zero d inside =
    let p : Backup → Bool = λ z. is_newer z y in
    let off : p y ≡ false = false_from_ne_true (p y) (never_of y.checkpoint y.id) in
    let is : length (filter p (y ∷ zs)) ≡ length (filter p zs) = ap (λ b. length (cond b (y ∷ filter p zs) (filter p zs))) off in
    let all = all_pass p zs (λ z held. pairs-head (λ (x z : Backup). is_newer z x ≡ true) y zs z up held) in
    omega (arith, is, all)
place_rank (y ∷ zs) up (suc k) d inside =
    let z = get_or zs k d in
    let p : Backup → Bool = λ x. is_newer x z in
    let newer : is_newer z y ≡ true = pairs-head (λ (x z : Backup). is_newer z x ≡ true) y zs z up (Contains-get_or zs k d (omega arith)) in
    let off : p y ≡ false = not_both z.checkpoint y.checkpoint z.id y.id newer in
    let is : length (filter p (y ∷ zs)) ≡ length (filter p zs) = ap (λ b. length (cond b (y ∷ filter p zs) (filter p zs))) off in
    let rest = place_rank zs (pairs-tail (λ (x z : Backup). is_newer z x ≡ true) y zs up) k d (omega arith) in
    omega (arith, is, rest)

-- how many pass does not hang on the order
count_sum : (p : Backup → Bool) (xs : List Backup) → length (filter p xs) ≡ sum_by (λ x. cond (p x) 1 0) xs
count_sum p [] = refl
count_sum p (x ∷ xs) = step (p x) (count_sum p xs) ∙ sym (sum_by-cons (λ y. cond (p y) 1 0) x xs)
  where
    step : (b : Bool) → length (filter p xs) ≡ sum_by (λ y. cond (p y) 1 0) xs → length (cond b (x ∷ filter p xs) (filter p xs)) ≡ cond b 1 0 + sum_by (λ y. cond (p y) 1 0) xs
    step true is = omega (arith, is)
    step false is = omega (arith, is)

count_moved : (p : Backup → Bool) (xs ys : List Backup) → IsPermutation xs ys → length (filter p ys) ≡ length (filter p xs)
count_moved p xs ys moved = count_sum p ys ∙ sum_by-IsPermutation (λ x. cond (p x) 1 0) xs ys moved ∙ sym (count_sum p xs)

filter_same : (p q : Backup → Bool) (xs : List Backup) → ((x : Backup) → Contains xs x → p x ≡ q x) → filter p xs ≡ filter q xs
filter_same p q [] same = refl
filter_same p q (x ∷ xs) same =
    ap (λ b. cond b (x ∷ filter p xs) (filter p xs)) (same x (in-front x xs))
    ∙ ap (λ ys. cond (q x) (x ∷ ys) ys) (filter_same p q xs (λ y held. same y (behind x xs y held)))

module _ (xs : List Backup) (rise : IsRising xs) where
  -- fewer are newer than a copy than there are
  rank_few : (x : Backup) → Contains xs x → rank xs x < length xs
  rank_few x held =
      let p : Backup → Bool = λ y. is_newer y x in
      let less = filter_shorter p xs x held (never_of x.checkpoint x.id) in
      let is = length-filter p xs in
      omega (arith, less, is)

  -- of two copies the older one has the higher rank, so ranks tell copies
  rises : (y x : Backup) → Contains xs y → is_newer y x ≡ true → rank xs y < rank xs x
  rises y x held newer = rank_rises xs xs 0 rise rise (λ z h. h) (λ z h few. h) y x held newer

  same_rank : (x y : Backup) → Contains xs x → Contains xs y → rank xs x ≡ rank xs y → x ≡ y
  same_rank x y first second same = elim (cases_order x.checkpoint y.checkpoint) [
    | inl equal ↦ elim (cases_order x.id y.id) [
      | inl id ↦ rising_one xs x y rise first second id
      | inr (inl less) ↦ let up = rises y x second (equal_of y.checkpoint x.checkpoint y.id x.id (sym equal) less) in absurd (omega (arith, up, same))
      | inr (inr less) ↦ let up = rises x y first (equal_of x.checkpoint y.checkpoint x.id y.id equal less) in absurd (omega (arith, up, same))
    ]
    | inr (inl less) ↦ let up = rises y x second (above_of y.checkpoint x.checkpoint y.id x.id less) in absurd (omega (arith, up, same))
    | inr (inr less) ↦ let up = rises x y first (above_of x.checkpoint y.checkpoint x.id y.id less) in absurd (omega (arith, up, same))
  ]

  -- the n-th newest is the one with n - 1 that are newer
  pub nth_found : (n : ℕ) (x : Backup) → Contains xs x → rank xs x + 1 ≡ n → nth_newest n xs ≡ Some x
  nth_found n x held is = elim (find_cases (λ y. rank xs y + 1 == n) xs) [
    | inl none ↦ absurd (find_none (λ y. rank xs y + 1 == n) xs x none held (eq-eqb (rank xs x + 1) n is))
    | inr found ↦
        let at = eqb-true (rank xs found.item + 1) n found.passes in
        found.is ∙ ap (λ (y : Backup). Some y) (same_rank found.item x found.held held (omega (arith, at, is)))
  ]

  pub nth_absent : (n : ℕ) → (n ≡ 0) ⊎ (length xs < n) → nth_newest n xs ≡ None
  nth_absent n few = elim (find_cases (λ y. rank xs y + 1 == n) xs) [
    | inl none ↦ none
    | inr found ↦
        let at = eqb-true (rank xs found.item + 1) n found.passes in
        let less = rank_few found.item found.held in
        elim few [ inl none ↦ absurd (omega (arith, at, none)) | inr short ↦ absurd (omega (arith, at, less, short)) ]
  ]

  -- in the order of their age it stands n-th from the end
  pub place_is : (ys : List Backup) → IsPermutation xs ys → IsByAge ys → (n k : ℕ) (x : Backup) → slice_get ys k ≡ Some x → k < length ys → n + k ≡ length ys → ((y : Backup) → Contains ys y → Contains xs y) → nth_newest n xs ≡ Some x
  place_is ys moved up n k x at inside count back =
      let p : Backup → Bool = λ y. is_newer y x in
      let here : get_or ys k x ≡ x = get_or_from_slice_get ys k x x at in
      let placed : length (filter p ys) + 1 + k ≡ length ys = subst (λ z. length (filter (λ y. is_newer y z) ys) + 1 + k ≡ length ys) here (place_rank ys up k x inside) in
      let same = count_moved p xs ys moved in
      let is = length-filter p xs in
      nth_found n x (back x (k, inside, here)) (omega (arith, placed, same, is, count))

  -- what the n-th newest is newer than is not among the newest
  older : (l x : Backup) → Contains xs l → Contains xs x → rank xs l < rank xs x → is_newer l x ≡ true
  older l x first second less = elim (cases_order l.checkpoint x.checkpoint) [
    | inl equal ↦ elim (cases_order l.id x.id) [
      | inl id ↦ let same : rank xs l ≡ rank xs x = ap (rank xs) (rising_one xs l x rise first second id) in absurd (omega (arith, same, less))
      | inr (inl up) ↦ let low = rises x l second (equal_of x.checkpoint l.checkpoint x.id l.id (sym equal) up) in absurd (omega (arith, low, less))
      | inr (inr down) ↦ equal_of l.checkpoint x.checkpoint l.id x.id equal down
    ]
    | inr (inl up) ↦ let low = rises x l second (above_of x.checkpoint l.checkpoint x.id l.id up) in absurd (omega (arith, low, less))
    | inr (inr down) ↦ above_of l.checkpoint x.checkpoint l.id x.id down
  ]

  among : (n : ℕ) (o : Option Backup) → nth_newest n xs ≡ o → (o ≡ None → length xs < n) → (x : Backup) → Contains xs x → is_among o x ≡ nat_lt (rank xs x) n
  among n None is few x held = let less = rank_few x held in let short = few refl in sym (lt-ltb (rank xs x) n (omega (arith, less, short)))
  among n (Some l) is few x held = elim (find_cases (λ y. rank xs y + 1 == n) xs) [
    | inl none ↦ let both : Some l ≡ None = sym is ∙ none in absurd (cc)
    | inr found ↦
        let same : found.item ≡ l = same_Some found.item l (sym found.is ∙ is) in
        let at : rank xs l + 1 ≡ n = ap (λ (y : Backup). rank xs y + 1) (sym same) ∙ eqb-true (rank xs found.item + 1) n found.passes in
        let there : Contains xs l = subst (Contains xs) same found.held in
        elim (cases_lt (rank xs x) n) [
          | inl less ↦
              let off : is_newer l x ≡ false = false_from_ne_true (is_newer l x) (λ newer. let up = rises l x there newer in omega (arith, up, at, less)) in
              ap not off ∙ sym (lt-ltb (rank xs x) n less)
          | inr most ↦ ap not (older l x there held (omega (arith, at, most))) ∙ sym (le-ltb (rank xs x) n most)
        ]
  ]

  -- so these are the n newest
  pub newest_is : (n : ℕ) (o : Option Backup) → nth_newest n xs ≡ o → (o ≡ None → length xs < n) → filter (is_among o) xs ≡ newest n xs
  newest_is n o is few = filter_same (is_among o) (λ x. nat_lt (rank xs x) n) xs (λ x held. among n o is few x held)

  pub newest_none : (n : ℕ) → n ≡ 0 → newest n xs ≡ []
  newest_none n none =
      none_kept (λ x. nat_lt (rank xs x) n) xs (λ x held passes. let low = ltb-true (rank xs x) n passes in omega (arith, low, none))

  -- what stands n-th from the end in the order of their age
  pub nth_of : (ys : List Backup) → IsPermutation xs ys → IsByAge ys → ((y : Backup) → Contains ys y → Contains xs y) → (n : ℕ) (o : Option Backup) → IfNone o ((n ≡ 0) ⊎ (length ys < n)) → IfSome o (λ x. (0 < n) × (n ≤ length ys) × (slice_get ys (length ys - n) ≡ Some x)) → o ≡ nth_newest n xs
  nth_of ys moved up back n None none some =
      let long = length_permutation xs ys moved in
      sym (nth_absent n (elim none [ inl zero_is ↦ inl zero_is | inr short ↦ inr (omega (arith, short, long)) ]))
  nth_of ys moved up back n (Some x) none some =
      let few = some.1 in
      let more = some.0 in
      sym (place_is ys moved up n (length ys - n) x some.2 (omega (arith, few, more)) (omega (arith, few)) back)

-- where none is the n-th, though some are wanted, there are fewer
pub short_of : (n long : ℕ) (o : Option Backup) → IfNone o ((n ≡ 0) ⊎ (long < n)) → ¬ (n ≡ 0) → o ≡ None → long < n
short_of n long None few some is = elim few [ inl none ↦ absurd (some none) | inr short ↦ short ]
short_of n long (Some x) few some is = absurd (cc)
