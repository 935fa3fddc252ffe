-- Lists that ascend by id, and how many come before one.
use Rattle.std.proofs.Common.{◌≡◌, ◌<◌, ◌≤◌, ◌∙◌, ◌⊎◌, ◌==◌, ◌&&◌, inl, inr, ℕ, List, [], ◌∷◌, Bool, true, false, cond, not, refl, ap, sym, subst, arith, filter, length, Contains, map, get_or, AllPairs}
use Rattle.std.proofs.lemmas.{Bool.{and_parts, cases_Bool, ne_eqb, eq-eqb, eqb-true, false_from_ne_true}, List.Elements.{Contains-get_or}}
use Rattle.std.proofs.lemmas.List.{Kept.{AllPairs-cons, AllPairs-filter}, Sums.{length-filter, count_by-le-length}}
use Rattle.rm_base.{specs.declared.kinds.Policy.{Policy}, proofs.Members.{in-front, behind, none-in, first-or-rest}}
use Rattle.rm_base.proofs.Lists.{filter_from, filter_to, map_from, pairs-head, pairs-tail}
use Rattle.rm_history.specs.{Tree.{is_within}, declared.tree.Incarnation.{Incarnation}}
use Rattle.rm_retain.specs.{Chosen.{is_before_window, is_candidate, Ascend, AscendById}, declared.copies.Backup.{Backup}}

-- x stands before y: its id is lower, or in the same set its datafile
abbrev pub IsEarlier : Backup → Backup → Type 0
IsEarlier x y = (x.id < y.id) ⊎ ((x.id ≡ y.id) × (x.file < y.file))

-- each id lies below those behind it
abbrev pub IsRising : List Backup → Type 0
IsRising [] = Unit {0}
IsRising (x ∷ xs) = ((y : Backup) → Contains xs y → x.id < y.id) × IsRising xs

pub rising_from : (xs : List Backup) → AscendById xs → IsRising xs
rising_from [] ascend = tt
rising_from (x ∷ xs) ascend =
    (λ y held. pairs-head (λ (x y : Backup). x.id < y.id) x xs y ascend held, rising_from xs (pairs-tail (λ (x y : Backup). x.id < y.id) x xs ascend))

-- a filter that nothing passes
pub none_kept : {X : Type 0} (p : X → Bool) (xs : List X) → ((x : X) → Contains xs x → ¬ (p x ≡ true)) → filter p xs ≡ []
none_kept p [] none = refl
none_kept p (x ∷ xs) none = elim (cases_Bool (p x)) [
  | inl passes ↦ absurd (none x (in-front x xs) passes)
  | inr fails ↦ ap (λ b. cond b (x ∷ filter p xs) (filter p xs)) fails ∙ none_kept p xs (λ y held. none y (behind x xs y held))
]

rising_kept : (p : Backup → Bool) (x : Backup) (xs : List Backup) (b : Bool) → ((y : Backup) → Contains xs y → x.id < y.id) → IsRising (filter p xs) → IsRising (cond b (x ∷ filter p xs) (filter p xs))
rising_kept p x xs true first rest = (λ y held. first y (filter_from p xs y held).0, rest)
rising_kept p x xs false first rest = rest

pub rising_filter : (p : Backup → Bool) (xs : List Backup) → IsRising xs → IsRising (filter p xs)
rising_filter p [] is = tt
rising_filter p (x ∷ xs) is = rising_kept p x xs (p x) is.0 (rising_filter p xs is.1)

drop_first : (x : Backup) (xs ys : List Backup) → IsRising (x ∷ xs) → ((z : Backup) → Contains (x ∷ xs) z → Contains (x ∷ ys) z) → (z : Backup) → Contains xs z → Contains ys z
drop_first x xs ys rise to z held = elim (first-or-rest x ys z (to z (behind x xs z held))) [
  | inr rest ↦ rest
  | inl same ↦ let up : x.id < z.id = rise.0 z held in let one : x.id ≡ z.id = ap (λ (y : Backup). y.id) same in absurd (omega (arith, up, one))
]

pub after_first : (x : Backup) (xs ys : List Backup) (y : Backup) → IsRising (x ∷ xs) → y.id < x.id → ((z : Backup) → Contains (x ∷ xs) z → Contains (y ∷ ys) z) → (z : Backup) → Contains (x ∷ xs) z → Contains ys z
after_first x xs ys y rise less to z held = elim (first-or-rest y ys z (to z held)) [
  | inr rest ↦ rest
  | inl same ↦
      let one : y.id ≡ z.id = ap (λ (k : Backup). k.id) same in
      elim (first-or-rest x xs z held) [
        | inl here ↦ let id : x.id ≡ z.id = ap (λ (k : Backup). k.id) here in absurd (omega (arith, less, one, id))
        | inr later ↦ let up : x.id < z.id = rise.0 z later in absurd (omega (arith, less, one, up))
      ]
]

-- a part of a list that ascends has no more items
pub part_length : (xs ys : List Backup) → IsRising xs → IsRising ys → ((z : Backup) → Contains xs z → Contains ys z) → length xs ≤ length ys
part_length [] ys first second to = omega arith
part_length (x ∷ xs) [] first second to = absurd (none-in x (to x (in-front x xs)))
part_length (x ∷ xs) (y ∷ ys) first second to = elim (first-or-rest y ys x (to x (in-front x xs))) [
  | inl same ↦
      let rest = part_length xs ys first.1 second.1 (drop_first x xs ys first (subst (λ (k : Backup). (z : Backup) → Contains (x ∷ xs) z → Contains (k ∷ ys) z) same to)) in
      omega (arith, rest)
  | inr later ↦
      let rest = part_length (x ∷ xs) ys first second.1 (after_first x xs ys y first (second.0 x later) to) in
      omega (arith, rest)
]

other_id : (m n : ℕ) → (m ≡ n → ⊥) → not (m == n) ≡ true
other_id m n differ = ap not (ne_eqb m n differ)

same_id : (m n : ℕ) → m ≡ n → not (m == n) ≡ true → ⊥
same_id m n same h = let both : false ≡ true = sym (ap not (eq-eqb m n same)) ∙ h in absurd (cc)

-- a filter that drops an item leaves fewer
filter_most : (p : Backup → Bool) (xs : List Backup) → length (filter p xs) ≤ length xs
filter_most p xs = let is = length-filter p xs in let most = count_by-le-length p xs in omega (arith, is, most)

shorter_cond : (p : Backup → Bool) (x : Backup) (xs : List Backup) (b : Bool) → length (filter p xs) < length xs → length (cond b (x ∷ filter p xs) (filter p xs)) < length (x ∷ xs)
shorter_cond p x xs true less = omega (arith, less)
shorter_cond p x xs false less = omega (arith, less)

pub filter_shorter : (p : Backup → Bool) (xs : List Backup) (y : Backup) → Contains xs y → ¬ (p y ≡ true) → length (filter p xs) < length xs
filter_shorter p [] y held fails = absurd (none-in y held)
filter_shorter p (x ∷ xs) y held fails = elim (first-or-rest x xs y held) [
  | inr rest ↦ shorter_cond p x xs (p x) (filter_shorter p xs y rest fails)
  | inl same ↦
      let off : p x ≡ false = false_from_ne_true (p x) (λ passes. fails (subst (λ (k : Backup). p k ≡ true) same passes)) in
      let most = filter_most p xs in
      let is : length (filter p (x ∷ xs)) ≡ length (filter p xs) = ap (λ b. length (cond b (x ∷ filter p xs) (filter p xs))) off in
      omega (arith, is, most)
]

-- a part without one of the items has fewer
pub part_shorter : (xs ys : List Backup) (y : Backup) → IsRising xs → IsRising ys → ((z : Backup) → Contains xs z → Contains ys z) → Contains ys y → ((z : Backup) → Contains xs z → z.id ≡ y.id → ⊥) → length xs < length ys
part_shorter xs ys y first second to held out =
    let p : Backup → Bool = λ z. not (z.id == y.id) in
    let some = part_length xs (filter p ys) first (rising_filter p ys second) (λ z has. filter_to p ys z (to z has) (other_id z.id y.id (out z has))) in
    let less = filter_shorter p ys y held (λ passes. same_id y.id y.id refl passes) in
    omega (arith, some, less)

pub ascend_filter : (p : Backup → Bool) (xs : List Backup) → AscendById xs → AscendById (filter p xs)
ascend_filter p xs ascend = AllPairs-filter (λ (x y : Backup). x.id < y.id) p xs ascend

candidate_file : (tree : List Incarnation) (current : ℕ) (policy : Policy) (start f : ℕ) (x : Backup) → is_candidate tree current policy start f x ≡ true → x.file ≡ f
candidate_file tree current policy start f x is =
    let first = and_parts ((x.file == f) && is_within tree x.inc current x.high) (is_before_window policy start x) is in
    eqb-true x.file f (and_parts (x.file == f) (is_within tree x.inc current x.high) first.0).0

-- of one datafile no two have the same id
pub candidates_ascend : (tree : List Incarnation) (current : ℕ) (policy : Policy) (start f : ℕ) (xs : List Backup) → Ascend xs → AscendById (filter (is_candidate tree current policy start f) xs)
candidates_ascend tree current policy start f xs ascend =
    let p = is_candidate tree current policy start f in
    let file : (k : ℕ) (d : Backup) → k < length (filter p xs) → (get_or (filter p xs) k d).file ≡ f =
    λ k d inside. candidate_file tree current policy start f (get_or (filter p xs) k d) (filter_from p xs (get_or (filter p xs) k d) (Contains-get_or (filter p xs) k d inside)).1 in
    λ i j d less inside. elim (AllPairs-filter IsEarlier p xs ascend i j d less inside) [
      | inl up ↦ up
      | inr same ↦
          let over = same.1 in
          let first = file i d (omega (arith, less, inside)) in
          let second = file j d inside in
          absurd (omega (arith, over, first, second))
    ]

pub ids_ascend : (xs : List Backup) → AscendById xs → AllPairs (λ i j. i < j) (map (λ x. x.id) xs)
ids_ascend [] ascend = λ i j d less inside. absurd (omega arith)
ids_ascend (x ∷ xs) ascend =
    let ids = map (λ (y : Backup). y.id) xs in
    AllPairs-cons (λ (i j : ℕ). i < j) x.id ids
    (λ k d inside.
    let s = map_from (λ (y : Backup). y.id) xs (get_or ids k d) (Contains-get_or ids k d inside) in
    let less : x.id < s.item.id = pairs-head (λ (x y : Backup). x.id < y.id) x xs s.item ascend s.held in
    subst (λ n. x.id < n) s.is less)
    (ids_ascend xs (pairs-tail (λ (x y : Backup). x.id < y.id) x xs ascend))
