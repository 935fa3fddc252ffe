-- The owner of an SCN, one step along the path.
use Rattle.std.specs.Option.{option_map_or}
use Rattle.std.proofs.Common.{◌≡◌, ◌<◌, ◌≤◌, ◌-◌, ◌∙◌, ◌⊎◌, inl, inr, nat_le, ℕ, zero, suc, List, ◌∷◌, length, sym, subst, Option, Some, None, Bool, true, false, cond, unwrap_or, find, refl, ap, arith, eqb, slice_get, slice_index_or}
use Rattle.std.proofs.lemmas.{Bool.{ne_eqb, cases_lt, Decides.{nat_tests}}, Option.{slice_get-get_or, slice_get_past}}
use Rattle.rm_history.specs.Tree.{HasParentsBelow, IsThere, owner, ancestors, parent_of, reset_of, end_of, path, incarnation}
use Rattle.rm_history.specs.declared.tree.Incarnation.{Incarnation}

-- steps beyond the number of i change nothing
pub ancestors_enough : (tree : List Incarnation) → HasParentsBelow tree → (m n i : ℕ) → i ≤ m → i ≤ n → ancestors m tree i ≡ ancestors n tree i
ancestors_enough tree below zero zero i hm hn = refl
ancestors_enough tree below zero (suc n) zero hm hn = refl
ancestors_enough tree below zero (suc n) (suc i) hm hn = absurd (omega arith)
ancestors_enough tree below (suc m) zero zero hm hn = refl
ancestors_enough tree below (suc m) zero (suc i) hm hn = absurd (omega arith)
ancestors_enough tree below (suc m) (suc n) zero hm hn = refl
ancestors_enough tree below (suc m) (suc n) (suc i) hm hn =
    let less : parent_of tree (suc i) < suc i = below (suc i) (omega arith) in
    ap (λ xs. suc i ∷ xs) (ancestors_enough tree below m n (parent_of tree (suc i)) (omega arith) (omega arith))

-- the path of i is i and the path of its parent
pub path-step : (tree : List Incarnation) → HasParentsBelow tree → (i : ℕ) → 0 < i → path tree i ≡ i ∷ path tree (parent_of tree i)
path-step tree below zero h = absurd (omega arith)
path-step tree below (suc i) h =
    let less : parent_of tree (suc i) < suc i = below (suc i) (omega arith) in
    ap (λ xs. suc i ∷ xs) (ancestors_enough tree below i (parent_of tree (suc i)) (parent_of tree (suc i)) (omega arith) (omega arith))

unwrap_or-cond : (b : Bool) (i : ℕ) (o : Option ℕ) → unwrap_or (cond b (Some i) o) 1 ≡ cond b i (unwrap_or o 1)
unwrap_or-cond true i o = refl
unwrap_or-cond false i o = refl

-- the owner is i where i began at or below g, and else the parent's
pub owner-step : (tree : List Incarnation) → HasParentsBelow tree → (i g : ℕ) → 0 < i → owner tree i g ≡ cond (nat_le (reset_of tree i) g) i (owner tree (parent_of tree i) g)
unfolding owner
owner-step tree below i g h =
    ap (λ xs. unwrap_or (find (λ j. nat_le (reset_of tree j) g) xs) 1) (path-step tree below i h)
    ∙ unwrap_or-cond (nat_le (reset_of tree i) g) i (find (λ j. nat_le (reset_of tree j) g) (path tree (parent_of tree i)))

-- without a path the owner is 1
pub owner-none : (tree : List Incarnation) (g : ℕ) → owner tree 0 g ≡ 1
unfolding owner
owner-none tree g = refl

one-of : (b : Bool) (i : ℕ) → unwrap_or (cond b (Some i) None) i ≡ i
one-of true i = refl
one-of false i = refl

-- on the path of the first incarnation it owns every SCN
pub owner-first : (tree : List Incarnation) (g : ℕ) → owner tree 1 g ≡ 1
unfolding owner
owner-first tree g = one-of (nat_le (reset_of tree 1) g) 1

-- what the code reads of an incarnation that is there
pub incarnation-there : (tree : List Incarnation) (i : ℕ) (d : Incarnation) → IsThere tree i → incarnation tree i ≡ Some (slice_index_or tree (i - 1) d)
incarnation-there tree i d there =
    let ne : eqb i 0 ≡ false = ne_eqb i 0 (λ e. omega arith) in
    ap (λ b. cond b None (slice_get tree (i - 1))) ne ∙ slice_get-get_or tree (i - 1) d (omega arith)

-- and of one that is not
pub incarnation-none : (tree : List Incarnation) (i : ℕ) → length tree < i → incarnation tree i ≡ None
incarnation-none tree i past =
    let ne : eqb i 0 ≡ false = ne_eqb i 0 (λ e. omega arith) in
    ap (λ b. cond b None (slice_get tree (i - 1))) ne ∙ slice_get_past tree (i - 1) (omega arith)

pub parent-none : (tree : List Incarnation) (i : ℕ) → length tree < i → parent_of tree i ≡ 0
parent-none tree i past = ap (λ o. option_map_or (λ n. n.parent) o 0) (incarnation-none tree i past)

pub parent-outside : (tree : List Incarnation) (i : ℕ) → ¬ IsThere tree i → parent_of tree i ≡ 0
parent-outside tree zero outside = refl
parent-outside tree (suc i) outside = elim (cases_lt (length tree) (suc i)) [
  | inl past ↦ parent-none tree (suc i) past
  | inr inside ↦ absurd (outside (omega arith, inside))
]

pub parent-there : (tree : List Incarnation) (i : ℕ) (d : Incarnation) → IsThere tree i → parent_of tree i ≡ (slice_index_or tree (i - 1) d).parent
parent-there tree i d there = ap (λ o. option_map_or (λ n. n.parent) o 0) (incarnation-there tree i d there)

pub reset-there : (tree : List Incarnation) (i : ℕ) (d : Incarnation) → IsThere tree i → reset_of tree i ≡ (slice_index_or tree (i - 1) d).reset
reset-there tree i d there = ap (λ o. option_map_or (λ n. n.reset) o 0) (incarnation-there tree i d there)

pub end-there : (tree : List Incarnation) (i : ℕ) (d : Incarnation) → IsThere tree i → end_of tree i ≡ (slice_index_or tree (i - 1) d).end
end-there tree i d there = ap (λ o. option_map_or (λ n. n.end) o 0) (incarnation-there tree i d there)

pub le_true : (a b : ℕ) → a ≤ b → nat_le a b ≡ true
le_true a b h = grind (arith, nat_tests)

le_false : (a b : ℕ) → b < a → nat_le a b ≡ false
le_false a b h = grind (arith, nat_tests)

-- where i began at or below g, it is the owner
pub owner-here : (tree : List Incarnation) → HasParentsBelow tree → (i g : ℕ) → 0 < i → reset_of tree i ≤ g → owner tree i g ≡ i
owner-here tree below i g h begun =
    owner-step tree below i g h
    ∙ ap (λ b. cond b i (owner tree (parent_of tree i) g)) (le_true (reset_of tree i) g begun)

-- and else its parent's owner is its own
pub owner-above : (tree : List Incarnation) → HasParentsBelow tree → (i g : ℕ) → 0 < i → g < reset_of tree i → owner tree i g ≡ owner tree (parent_of tree i) g
owner-above tree below i g h later =
    owner-step tree below i g h
    ∙ ap (λ b. cond b i (owner tree (parent_of tree i) g)) (le_false (reset_of tree i) g later)

-- the owner is i, or an owner on the path of i's parent, which is below i
pub owner-cases : (tree : List Incarnation) → HasParentsBelow tree → (i g : ℕ) → 0 < i → ((reset_of tree i ≤ g) × (owner tree i g ≡ i)) ⊎ ((g < reset_of tree i) × (owner tree i g ≡ owner tree (parent_of tree i) g))
owner-cases tree below i g h = elim (cases_lt g (reset_of tree i)) [
  | inl later ↦ inr (later, owner-above tree below i g h later)
  | inr begun ↦ inl (begun, owner-here tree below i g h begun)
]

owner-within : (tree : List Incarnation) → HasParentsBelow tree → (most i g : ℕ) → i ≤ most → 0 < i → (0 < owner tree i g) × (owner tree i g ≤ i)
owner-within tree below zero i g few h = absurd (omega arith)
owner-within tree below (suc most) i g few h = elim (owner-cases tree below i g h) [
  | inl here ↦ let same = here.1 in (omega (arith, same), omega (arith, same))
  | inr above ↦
      let less : parent_of tree i < i = below i h in
      let same = above.1 in
      elim (cases_lt 0 (parent_of tree i)) [
        | inl up ↦
            let low = owner-within tree below most (parent_of tree i) g (omega (arith, less)) up in
            (omega (arith, same, low.0), omega (arith, same, low.1, less))
        | inr none ↦
            let top : parent_of tree i ≡ 0 = omega (arith, none) in
            let one : owner tree i g ≡ 1 = same ∙ ap (λ p. owner tree p g) top ∙ owner-none tree g in
            (omega (arith, one), omega (arith, one))
      ]
]

-- the owner on the path of i is above 0, and i at most
pub owner-below : (tree : List Incarnation) → HasParentsBelow tree → (i g : ℕ) → 0 < i → (0 < owner tree i g) × (owner tree i g ≤ i)
owner-below tree below i g h = owner-within tree below i i g (omega arith) h

-- the owner is there
pub owner-there : (tree : List Incarnation) → HasParentsBelow tree → (i g : ℕ) → IsThere tree i → IsThere tree (owner tree i g)
owner-there tree below i g there =
    let low = owner-below tree below i g there.0 in
    (low.0, omega (arith, low.1, there.1))

owner-again : (tree : List Incarnation) → HasParentsBelow tree → (most i g c : ℕ) → i ≤ most → c ≤ g → owner tree (owner tree i g) c ≡ owner tree i c
owner-again tree below zero i g c few low =
    let top : i ≡ 0 = omega arith in
    ap (λ k. owner tree (owner tree k g) c) top ∙ ap (λ k. owner tree k c) (owner-none tree g) ∙ owner-first tree c ∙ sym (owner-none tree c) ∙ ap (λ k. owner tree k c) (sym top)
owner-again tree below (suc most) zero g c few low =
    ap (λ k. owner tree k c) (owner-none tree g) ∙ owner-first tree c ∙ sym (owner-none tree c)
owner-again tree below (suc most) (suc i) g c few low = elim (owner-cases tree below (suc i) g (omega arith)) [
  | inl here ↦ ap (λ k. owner tree k c) here.1
  | inr above ↦
      let less : parent_of tree (suc i) < suc i = below (suc i) (omega arith) in
      ap (λ k. owner tree k c) above.1
      ∙ owner-again tree below most (parent_of tree (suc i)) g c (omega (arith, less)) low
      ∙ sym (owner-above tree below (suc i) c (omega arith) (omega (arith, above.0)))
]

-- up to g the path of g's owner has the owners of the path of i
pub owner-owner : (tree : List Incarnation) → HasParentsBelow tree → (i g c : ℕ) → c ≤ g → owner tree (owner tree i g) c ≡ owner tree i c
owner-owner tree below i g c low = owner-again tree below i i g c (omega arith) low

owner-begins : (tree : List Incarnation) → HasParentsBelow tree → (most i g : ℕ) → i ≤ most → (reset_of tree (owner tree i g) ≤ g) ⊎ ((c : ℕ) → c ≤ g → owner tree i c ≡ 1)
owner-begins tree below zero i g few =
    let top : i ≡ 0 = omega arith in
    inr (λ c low. ap (λ k. owner tree k c) top ∙ owner-none tree c)
owner-begins tree below (suc most) zero g few = inr (λ c low. owner-none tree c)
owner-begins tree below (suc most) (suc i) g few = elim (owner-cases tree below (suc i) g (omega arith)) [
  | inl here ↦ inl (subst (λ k. reset_of tree k ≤ g) (sym here.1) here.0)
  | inr above ↦
      let less : parent_of tree (suc i) < suc i = below (suc i) (omega arith) in
      elim (owner-begins tree below most (parent_of tree (suc i)) g (omega (arith, less))) [
        | inl begun ↦ inl (subst (λ k. reset_of tree k ≤ g) (sym above.1) begun)
        | inr ones ↦ inr (λ c low. owner-above tree below (suc i) c (omega arith) (omega (arith, above.0)) ∙ ones c low)
      ]
]

-- the owner of g began at or below g, or 1 owns all up to g
pub owner-begun : (tree : List Incarnation) → HasParentsBelow tree → (i g : ℕ) → (reset_of tree (owner tree i g) ≤ g) ⊎ ((c : ℕ) → c ≤ g → owner tree i c ≡ 1)
owner-begun tree below i g = owner-begins tree below i i g (omega arith)
