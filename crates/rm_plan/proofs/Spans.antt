-- Sets of SCNs, as lists of spans.
use Rattle.std.proofs.Common.{◌≡◌, ◌<◌, ◌≤◌, ◌+◌, ◌-◌, ◌∙◌, ◌&&◌, ◌||◌, inl, inr, nat_lt, nat_le, ℕ, zero, suc, Bool, true, false, List, [], ◌∷◌, ◌++◌, length, get_or, drop, max, refl, ap, sym, subst, arith}
use Rattle.std.proofs.lemmas.Bool.{cases_lt, Decides.{nat_tests}}
use Rattle.std.proofs.lemmas.List.{drop_more, get_or-drop, get_or_append_left, get_or_default, get_or_push, length-drop, length_push}
use Rattle.std.proofs.lemmas.List.{Folds.{list_any-append, list_any_at, list_any_none}, Quantifiers.{all_pairs_push}}
use Rattle.std.proofs.lemmas.List.Sorted.{IsNonDecreasingBy-push}
use Rattle.rm_plan.specs.{Spans.{lies_in, covers, AreApart, IsAscending, IsFirstOutside}, declared.span.Span.{Span}}
use Rattle.rm_base.proofs.Tests.{or_false, or_first, or_second, within_not_below, within_not_past, within_to}

-- nothing lies below spans that all start above it
none_below : (spans : List Span) (g : ℕ) → ((k : ℕ) (d : Span) → k < length spans → g < (get_or spans k d).start) → covers spans g ≡ false
none_below [] g above = refl
none_below (x ∷ xs) g above =
    or_false (lies_in g x) (covers xs g) (within_not_below x.start x.end g (above 0 x (omega arith)))
    (none_below xs g (λ k d inside. above (suc k) d (omega (arith, inside))))

-- in front of the first span lies nothing
pub outside_front : (x : Span) (xs : List Span) (at : ℕ) → IsAscending (x ∷ xs) → at < x.start → IsFirstOutside (x ∷ xs) at at
outside_front x xs at order before = record {
  above = omega arith;
  outside = none_below (x ∷ xs) at (λ k d inside. let up : x.start ≤ (get_or (x ∷ xs) k d).start = order 0 k d (omega arith) inside in omega (arith, up, before));
  inside = λ k low high. absurd (omega arith);
}

-- without a span nothing is covered
pub outside_none : (at : ℕ) → IsFirstOutside [] at at
outside_none at = record { above = omega arith; outside = refl; inside = λ k low high. absurd (omega arith) }

-- a span that starts at or below what is looked at is passed over
pub outside_step : (x : Span) (xs : List Span) (at r : ℕ) → x.start ≤ at → IsFirstOutside xs (max at x.end) r → IsFirstOutside (x ∷ xs) at r
outside_step x xs at r begun is = record {
  above = let up = is.above in omega (arith, up);
  outside = let up = is.above in or_false (lies_in r x) (covers xs r) (within_not_past x.start x.end r (omega (arith, up))) is.outside;
  inside = λ k low high. elim (cases_lt k x.end) [
    | inl within ↦ or_first (lies_in k x) (covers xs k) (within_to x.start x.end k (omega (arith, begun, low)) within)
    | inr past ↦ or_second (lies_in k x) (covers xs k) (is.inside k (omega (arith, past, low)) high)
  ];
}

-- a list in order is so without its last span, of which no other starts above it
ascend_front : (xs : List Span) (x : Span) → IsAscending (xs ++ x ∷ []) → IsAscending xs
ascend_front xs x order = λ i j d le inside.
    let long = length_push xs x in
    let up = order i j d le (omega (arith, long, inside)) in
    let first = get_or_append_left xs (x ∷ []) d i (omega (arith, le, inside)) in
    let second = get_or_append_left xs (x ∷ []) d j inside in
    subst (λ (y : Span). (get_or xs i d).start ≤ y.start) second (subst (λ (y : Span). y.start ≤ (get_or (xs ++ x ∷ []) j d).start) first up)

ascend_below : (xs : List Span) (x : Span) → IsAscending (xs ++ x ∷ []) → (i : ℕ) (d : Span) → i < length xs → (get_or xs i d).start ≤ x.start
ascend_below xs x order i d inside =
    let long = length_push xs x in
    let up = order i (length xs) d (omega (arith, inside)) (omega (arith, long)) in
    let first = get_or_append_left xs (x ∷ []) d i inside in
    let second = get_or_push xs x d (length xs) refl in
    subst (λ (y : Span). (get_or xs i d).start ≤ y.start) second (subst (λ (y : Span). y.start ≤ (get_or (xs ++ x ∷ []) (length xs) d).start) first up)

-- the last span may start later
pub ascend_last : (xs : List Span) (x y : Span) → IsAscending (xs ++ x ∷ []) → x.start ≤ y.start → IsAscending (xs ++ y ∷ [])
ascend_last xs x y order up = IsNonDecreasingBy-push (λ z. z.start) xs y (ascend_front xs x order) (λ d some. let low = ascend_below xs x order (length xs - 1) d (omega (arith, some)) in omega (arith, low, up))

-- a span may follow that starts no earlier than the last
pub ascend_more : (xs : List Span) (x y : Span) → IsAscending (xs ++ x ∷ []) → x.start ≤ y.start → IsAscending ((xs ++ x ∷ []) ++ y ∷ [])
ascend_more xs x y order up =
    let long = length_push xs x in
    IsNonDecreasingBy-push (λ z. z.start) (xs ++ x ∷ []) y order (λ d some. subst (λ (z : Span). z.start ≤ y.start) (sym (get_or_push xs x d (length (xs ++ x ∷ []) - 1) (omega (arith, long)))) up)

-- the span at a place that is there is the same whatever stands where none is
pub start_same : (xs : List Span) (k : ℕ) (c d : Span) → k < length xs → (get_or xs k c).start ≡ (get_or xs k d).start
start_same [] k c d inside = absurd (omega arith)
start_same (x ∷ xs) zero c d inside = refl
start_same (x ∷ xs) (suc k) c d inside = start_same xs k c d (omega arith)

-- spans that lie apart do so without the last of them
apart_front : (xs : List Span) (x : Span) → AreApart (xs ++ x ∷ []) → AreApart xs
apart_front xs x apart = λ i j d less inside.
    let long = length_push xs x in
    let before = apart i j d less (omega (arith, long, inside)) in
    let first = get_or_append_left xs (x ∷ []) d i (omega (arith, less, inside)) in
    let second = get_or_append_left xs (x ∷ []) d j inside in
    subst (λ (y : Span). (get_or xs i d).end < y.start) second (subst (λ (y : Span). y.end < (get_or (xs ++ x ∷ []) j d).start) first before)

apart_below : (xs : List Span) (x : Span) → AreApart (xs ++ x ∷ []) → (i : ℕ) (d : Span) → i < length xs → (get_or xs i d).end < x.start
apart_below xs x apart i d inside =
    let long = length_push xs x in
    let before = apart i (length xs) d inside (omega (arith, long)) in
    let first = get_or_append_left xs (x ∷ []) d i inside in
    let second = get_or_push xs x d (length xs) refl in
    subst (λ (y : Span). (get_or xs i d).end < y.start) second (subst (λ (y : Span). y.end < (get_or (xs ++ x ∷ []) (length xs) d).start) first before)

-- the last span may start later, and end elsewhere
pub apart_last : (xs : List Span) (x y : Span) → AreApart (xs ++ x ∷ []) → x.start ≤ y.start → AreApart (xs ++ y ∷ [])
apart_last xs x y apart up = all_pairs_push (λ (p q : Span). p.end < q.start) xs y (apart_front xs x apart) (λ k d inside. let low = apart_below xs x apart k d inside in omega (arith, low, up))

-- a span may follow that starts past the end of the last
pub apart_more : (xs : List Span) (x y : Span) → AreApart (xs ++ x ∷ []) → x.start ≤ y.start → x.end < y.start → AreApart ((xs ++ x ∷ []) ++ y ∷ [])
apart_more xs x y apart up past = all_pairs_push (λ (p q : Span). p.end < q.start) (xs ++ x ∷ []) y apart (λ k d inside. elim (cases_lt k (length xs)) [
  | inl old ↦
      let low = apart_below xs x apart k d old in
      subst (λ (z : Span). z.end < y.start) (sym (get_or_append_left xs (x ∷ []) d k old)) (omega (arith, low, up))
  | inr last ↦
      let long = length_push xs x in
      subst (λ (z : Span). z.end < y.start) (sym (get_or_push xs x d k (omega (arith, last, inside, long)))) past
])

-- of spans that lie apart, the last that starts at or below low tells alone
pub outside_apart : (spans : List Span) (low n r : ℕ) (d : Span) → IsAscending spans → AreApart spans → n ≤ length spans → ((k : ℕ) → k < n → (get_or spans k d).start ≤ low) → ((k : ℕ) → n ≤ k → k < length spans → low < (get_or spans k d).start) → 0 < n → r ≡ max low (get_or spans (n - 1) d).end → IsFirstOutside spans low r
outside_apart spans low n r d order apart inside before after some is = record {
  above = omega (arith, is);
  outside = list_any_none (lies_in r) spans (λ k c within. subst (λ (z : Span). lies_in r z ≡ false) (get_or_default spans k d c within) (by k within));
  inside = λ k above below.
      let under : k < (get_or spans (n - 1) d).end = omega (arith, is, above, below) in
      let start = before (n - 1) (omega (arith, some)) in
      list_any_at (lies_in k) spans (n - 1) d (omega (arith, some, inside)) (within_to (get_or spans (n - 1) d).start (get_or spans (n - 1) d).end k (omega (arith, start, above)) under);
}
  where
    by : (k : ℕ) → k < length spans → lies_in r (get_or spans k d) ≡ false
    by k within = elim (cases_lt k (n - 1)) [
      | inl early ↦
          let e = apart k (n - 1) d early (omega (arith, some, inside)) in
          let start = before (n - 1) (omega (arith, some)) in
          within_not_past (get_or spans k d).start (get_or spans k d).end r (omega (arith, e, start, is))
      | inr late ↦ elim (cases_lt k n) [
        | inl this ↦
            let same : n - 1 ≡ k = omega (arith, late, this) in
            subst (λ j. lies_in r (get_or spans j d) ≡ false) same (within_not_past (get_or spans (n - 1) d).start (get_or spans (n - 1) d).end r (omega (arith, is)))
        | inr past ↦
            let start = after k past within in
            let e = apart (n - 1) k d (omega (arith, some, past)) within in
            within_not_below (get_or spans k d).start (get_or spans k d).end r (omega (arith, is, start, e))
      ]
    ]

-- where none starts at or below low, low is outside
pub outside_before : (spans : List Span) (low : ℕ) (d : Span) → ((k : ℕ) → k < length spans → low < (get_or spans k d).start) → IsFirstOutside spans low low
outside_before spans low d after = record {
  above = omega arith;
  outside = none_below spans low (λ k c within. subst (λ (z : Span). low < z.start) (get_or_default spans k d c within) (after k within));
  inside = λ k above below. absurd (omega (arith, above, below));
}

-- the rest of spans that lie apart does so
pub apart_drop : (n : ℕ) (xs : List Span) → AreApart xs → AreApart (drop n xs)
apart_drop n xs apart = λ i j d less inside.
    let long = length-drop n xs in
    let before = apart (n + i) (n + j) d (omega (arith, less)) (omega (arith, inside, long)) in
    subst (λ (y : Span). (get_or (drop n xs) i d).end < y.start) (sym (get_or-drop n xs j d)) (subst (λ (y : Span). y.end < (get_or xs (n + j) d).start) (sym (get_or-drop n xs i d)) before)

-- up to the end of the first, none of the others covers anything
past_first : (x : Span) (xs : List Span) (g : ℕ) → AreApart (x ∷ xs) → g < x.end → covers xs g ≡ false
past_first x xs g apart low = none_below xs g (λ k d inside. let up = apart 0 (suc k) d (omega arith) (omega (arith, inside)) in omega (arith, low, up))

has_under : (a b c g : ℕ) → b ≤ c → (nat_le a g && nat_lt g b) ≡ true → g < c
has_under a b c g le h = grind (arith, nat_tests)

split_first : (p c q d : Bool) → (p ≡ true → d ≡ false) → ((p || c) && (q || d)) ≡ ((p && q) || (c && (q || d)))
split_first true c q true h = let clash : true ≡ false = h refl in absurd (cc)
split_first true true true false h = refl
split_first true true false false h = refl
split_first true false true false h = refl
split_first true false false false h = refl
split_first false c q d h = refl

-- where x ends first, what both have in common is in x and y, or past x
pub common_first : (x y : Span) (xs ys : List Span) (g : ℕ) → AreApart (y ∷ ys) → x.end ≤ y.end → (covers (x ∷ xs) g && covers (y ∷ ys) g) ≡ ((lies_in g x && lies_in g y) || (covers xs g && covers (y ∷ ys) g))
common_first x y xs ys g apart le = split_first (lies_in g x) (covers xs g) (lies_in g y) (covers ys g) (λ h. past_first y ys g apart (has_under x.start x.end y.end g le h))

flip_and : (p q : Bool) → (p && q) ≡ (q && p)
flip_and true true = refl
flip_and true false = refl
flip_and false true = refl
flip_and false false = refl

flip_both : (p q r t : Bool) → ((p && q) || (r && t)) ≡ ((q && p) || (t && r))
flip_both p q r t = ap (λ b. b || (r && t)) (flip_and p q) ∙ ap (λ b. (q && p) || b) (flip_and r t)

pub common_second : (x y : Span) (xs ys : List Span) (g : ℕ) → AreApart (x ∷ xs) → y.end ≤ x.end → (covers (x ∷ xs) g && covers (y ∷ ys) g) ≡ ((lies_in g x && lies_in g y) || (covers (x ∷ xs) g && covers ys g))
common_second x y xs ys g apart le = flip_and (covers (x ∷ xs) g) (covers (y ∷ ys) g) ∙ common_first y x ys xs g apart le ∙ flip_both (lies_in g y) (lies_in g x) (covers ys g) (covers (x ∷ xs) g)

or_more : (o m n c z : Bool) → z ≡ (o || c) → c ≡ (m || n) → z ≡ ((o || m) || n)
or_more true m n c z h k = h
or_more false m n c z h k = h ∙ k

-- one step of the way through both lists
pub common_step : (xs ys out new : List Span) (a b c d : ℕ) (both : Span) (g : ℕ) → (covers xs g && covers ys g) ≡ (covers out g || (covers (drop a xs) g && covers (drop b ys) g)) → (covers (drop a xs) g && covers (drop b ys) g) ≡ (lies_in g both || (covers (drop c xs) g && covers (drop d ys) g)) → new ≡ out ++ both ∷ [] → (covers xs g && covers ys g) ≡ (covers new g || (covers (drop c xs) g && covers (drop d ys) g))
common_step xs ys out new a b c d both g all step is =
    or_more (covers out g) (lies_in g both) (covers (drop c xs) g && covers (drop d ys) g) (covers (drop a xs) g && covers (drop b ys) g) (covers xs g && covers ys g) all step
    ∙ ap (λ p. p || (covers (drop c xs) g && covers (drop d ys) g)) (sym (ap (λ zs. covers zs g) is ∙ list_any-append (lies_in g) out (both ∷ []) ∙ ap (λ q. covers out g || q) (or_none (lies_in g both))))
  where
    or_none : (p : Bool) → (p || false) ≡ p
    or_none true = refl
    or_none false = refl

module _ (xs ys : List Span) (a b : ℕ) (d both : Span) (g : ℕ) (left : a < length xs) (right : b < length ys) (over : lies_in g both ≡ (lies_in g (get_or xs a d) && lies_in g (get_or ys b d))) where
  first_is : drop a xs ≡ get_or xs a d ∷ drop (a + 1) xs
  first_is = drop_more xs a d left

  second_is : drop b ys ≡ get_or ys b d ∷ drop (b + 1) ys
  second_is = drop_more ys b d right

  pub next_first : AreApart ys → (get_or xs a d).end ≤ (get_or ys b d).end → (covers (drop a xs) g && covers (drop b ys) g) ≡ (lies_in g both || (covers (drop (a + 1) xs) g && covers (drop b ys) g))
  next_first apart le =
      ap (λ zs. covers zs g && covers (drop b ys) g) first_is
      ∙ ap (λ zs. covers (get_or xs a d ∷ drop (a + 1) xs) g && covers zs g) second_is
      ∙ common_first (get_or xs a d) (get_or ys b d) (drop (a + 1) xs) (drop (b + 1) ys) g (subst AreApart second_is (apart_drop b ys apart)) le
      ∙ ap (λ p. p || (covers (drop (a + 1) xs) g && covers (get_or ys b d ∷ drop (b + 1) ys) g)) (sym over)
      ∙ ap (λ zs. lies_in g both || (covers (drop (a + 1) xs) g && covers zs g)) (sym second_is)

  pub next_second : AreApart xs → (get_or ys b d).end ≤ (get_or xs a d).end → (covers (drop a xs) g && covers (drop b ys) g) ≡ (lies_in g both || (covers (drop a xs) g && covers (drop (b + 1) ys) g))
  next_second apart le =
      ap (λ zs. covers zs g && covers (drop b ys) g) first_is
      ∙ ap (λ zs. covers (get_or xs a d ∷ drop (a + 1) xs) g && covers zs g) second_is
      ∙ common_second (get_or xs a d) (get_or ys b d) (drop (a + 1) xs) (drop (b + 1) ys) g (subst AreApart first_is (apart_drop a xs apart)) le
      ∙ ap (λ p. p || (covers (get_or xs a d ∷ drop (a + 1) xs) g && covers (drop (b + 1) ys) g)) (sym over)
      ∙ ap (λ zs. lies_in g both || (covers zs g && covers (drop (b + 1) ys) g)) (sym first_is)
