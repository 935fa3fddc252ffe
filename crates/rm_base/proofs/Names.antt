-- The names of the objects in memory.
use Rattle.std.specs.{Prelude.{◌↔◌, Contains, IsSome, String}, List.{AllByRecursion, Sorted.{IsStrictlySortedBy}}}
use Rattle.std.specs.{Cmp.Lexicographic.{slice_cmp}, Ordering.{nat_cmp, is_eq}, String.{string_bytes, string_cmp}, Map.{keys_of, lookup}}
use Rattle.std.specs.{Map.Iter.{deref}, BTreeMap.{is_at}, declared.cmp.Ordering.TheVariants.{Less}}
use Rattle.std.proofs.Common.{◌≡◌, refl, sym, subst, ◌∙◌, ap, arith, ℕ, Bool, true, false, cond, List, [], ◌∷◌, Option, Some, map, inl, inr}
use Rattle.std.proofs.lemmas.List.Elements.{Contains-append_left, Contains-append_right, Contains-append_cases, Contains-push, Contains-push_cases}
use Rattle.std.proofs.lemmas.{Map.Text.{is_eq-slice_cmp}, Slice.Eq.{bytes_eq-Decides}}
use Rattle.rm_base.specs.Store.{Ascends}
use denote.Ref.{Bor}

-- the bytes of texts that were lent
pub lent-names : {Z : Type 0} (xs : List (Bor (String Z))) → map (λ x. string_bytes x.now) xs ≡ map string_bytes (map deref xs)
lent-names [] = refl
lent-names (x ∷ xs) = ap (λ ns. string_bytes x.now ∷ ns) (lent-names xs)

names-behind : {Z : Type 0} (k : String Z) (ks : List (String Z)) → AllByRecursion (λ y. string_cmp k y ≡ Less) ks → AllByRecursion (λ y. slice_cmp nat_cmp (string_bytes k) y ≡ Less) (map string_bytes ks)
names-behind k [] h = h
names-behind k (y ∷ ys) h = (h.0, names-behind k ys h.1)

-- keys that ascend have names that ascend
pub names-ascend : {Z : Type 0} (ks : List (String Z)) → IsStrictlySortedBy string_cmp ks → Ascends (map string_bytes ks)
unfolding IsStrictlySortedBy
names-ascend [] h = h
names-ascend (k ∷ ks) h = (names-behind k ks h.0, names-ascend ks h.1)

-- the name compares as equal to its own bytes alone
same-name : (n x : List ℕ) → is_eq (slice_cmp nat_cmp n x) ≡ true → x ≡ n
same-name n x e = sym ((bytes_eq-Decides n x).0 (sym (is_eq-slice_cmp n x) ∙ e))

name-same : (n x : List ℕ) → x ≡ n → is_eq (slice_cmp nat_cmp n x) ≡ true
name-same n x e = is_eq-slice_cmp n x ∙ (bytes_eq-Decides n x).1 (sym e)

-- what has one name more has it, or had it before
first-name : (x n : List ℕ) → Contains (x ∷ []) n → x ≡ n
first-name x n h = elim (Contains-push_cases [] x n h) [ inl k ↦ absurd (omega (arith, k.1)) | inr e ↦ e ]

-- one entry more, whose name is x
found-first : {X : Type 0} (x n : List ℕ) (names : List (List ℕ)) (v : X) (found : Option X) → Contains names n ↔ IsSome found → (t : Bool) → is_eq (slice_cmp nat_cmp n x) ≡ t → Contains (x ∷ names) n ↔ IsSome (cond t (Some v) found)
found-first x n names v found rest true same =
    (λ h. refl, λ h. Contains-append_left (x ∷ []) names n (subst (λ m. Contains (x ∷ []) m) (same-name n x same) (Contains-push [] x)))
found-first x n names v found rest false apart = (
  λ h. elim (Contains-append_cases (x ∷ []) names n h) [
    | inl one ↦ let same = name-same n x (first-name x n one) in absurd (cc)
    | inr more ↦ rest.0 more
  ],
  λ h. Contains-append_right (x ∷ []) names n (rest.1 h),
)

-- the names of the entries are those at which a value is found
pub names-found : {Z X : Type 0} (es : List (String Z × X)) (n : List ℕ) → Contains (map string_bytes (keys_of es)) n ↔ IsSome (lookup (is_at (λ k. slice_cmp nat_cmp n (string_bytes k))) es)
names-found [] n = (λ h. absurd (omega (arith, h.1)), λ h. absurd (cc))
names-found (e ∷ es) n =
    let others = lookup (is_at (λ k. slice_cmp nat_cmp n (string_bytes k))) es in
    found-first (string_bytes e.0) n (map string_bytes (keys_of es)) e.1 others (names-found es n) (is_eq (slice_cmp nat_cmp n (string_bytes e.0))) refl
