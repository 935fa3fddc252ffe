-- Another end of an incarnation is its end from then on, and changes no parent, no resetlogs SCN, no other end and no owner.
use Rattle.std.specs.Option.{option_map_or}
use Rattle.std.proofs.Common.{◌≡◌, ◌≢◌, ◌<◌, ◌≤◌, ◌-◌, ◌∙◌, nat_le, inl, inr, ℕ, zero, suc, List, [], ◌∷◌, Option, Some, None, Bool, true, false, cond, unwrap_or, find, refl, ap, sym, subst, arith, eqb, length, slice_get, slice_set, get_or-set_same, get_or-set_other}
use Rattle.std.proofs.lemmas.{Bool.{cases_eq, ne_eqb}, List.{length-set}}
use Rattle.rm_history.specs.Tree.{HasParentsBelow, IsThere, IsTree, owner, ancestors, parent_of, reset_of, end_of, path, incarnation, with_end}
use Rattle.rm_history.{specs.declared.tree.Incarnation.{Incarnation}, proofs.Owners.{incarnation-there}}

-- an item that is replaced by one with the same number leaves the numbers as they were
set-alike : (number : Incarnation → ℕ) (tree : List Incarnation) (k i : ℕ) (new : Incarnation) → option_map_or number (slice_get tree k) 0 ≡ number new → option_map_or number (slice_get (slice_set tree k new) i) 0 ≡ option_map_or number (slice_get tree i) 0
set-alike number [] k i new same = refl
set-alike number (n ∷ ns) zero zero new same = sym same
set-alike number (n ∷ ns) zero (suc i) new same = refl
set-alike number (n ∷ ns) (suc k) zero new same = refl
set-alike number (n ∷ ns) (suc k) (suc i) new same = set-alike number ns k i new same

within-cond : (number : Incarnation → ℕ) (none : Bool) (o p : Option Incarnation) → option_map_or number o 0 ≡ option_map_or number p 0 → option_map_or number (cond none None o) 0 ≡ option_map_or number (cond none None p) 0
within-cond number true o p same = refl
within-cond number false o p same = same

number-there : (number : Incarnation → ℕ) (tree : List Incarnation) (j : ℕ) → IsThere tree j → option_map_or number (incarnation tree j) 0 ≡ option_map_or number (slice_get tree (j - 1)) 0
number-there number tree j there =
    let ne : eqb j 0 ≡ false = ne_eqb j 0 (λ e. omega arith) in
    ap (λ b. option_map_or number (cond b None (slice_get tree (j - 1))) 0) ne

pub parent_of-with_end : (tree : List Incarnation) (j end i : ℕ) → IsThere tree j → parent_of (with_end tree j end) i ≡ parent_of tree i
parent_of-with_end tree j end i there =
    within-cond (λ n. n.parent) (eqb i 0) (slice_get (with_end tree j end) (i - 1)) (slice_get tree (i - 1))
    (set-alike (λ n. n.parent) tree (j - 1) (i - 1) (record { parent = parent_of tree j; reset = reset_of tree j; end = end }) (sym (number-there (λ n. n.parent) tree j there)))

pub reset_of-with_end : (tree : List Incarnation) (j end i : ℕ) → IsThere tree j → reset_of (with_end tree j end) i ≡ reset_of tree i
reset_of-with_end tree j end i there =
    within-cond (λ n. n.reset) (eqb i 0) (slice_get (with_end tree j end) (i - 1)) (slice_get tree (i - 1))
    (set-alike (λ n. n.reset) tree (j - 1) (i - 1) (record { parent = parent_of tree j; reset = reset_of tree j; end = end }) (sym (number-there (λ n. n.reset) tree j there)))

pub IsThere-with_end : (tree : List Incarnation) (j end i : ℕ) → IsThere tree i → IsThere (with_end tree j end) i
IsThere-with_end tree j end i there =
    let same : length (with_end tree j end) ≡ length tree = length-set tree (j - 1) (record { parent = parent_of tree j; reset = reset_of tree j; end = end }) in
    (there.0, omega (arith, same))

-- the end is the new one
pub end_of-with_end : (tree : List Incarnation) (i end : ℕ) → IsThere tree i → end_of (with_end tree i end) i ≡ end
end_of-with_end tree i end there =
    let new : Incarnation = record { parent = parent_of tree i; reset = reset_of tree i; end = end } in
    ap (λ (o : Option Incarnation). option_map_or (λ n. n.end) o 0) (incarnation-there (with_end tree i end) i new (IsThere-with_end tree i end i there))
    ∙ ap (λ (n : Incarnation). n.end) (get_or-set_same tree (i - 1) new new (omega (arith, there.0, there.1)))

-- the other ends stay
pub end_of-with_end_other : (tree : List Incarnation) (j end i : ℕ) → IsThere tree j → IsThere tree i → i ≢ j → end_of (with_end tree j end) i ≡ end_of tree i
end_of-with_end_other tree j end i tj ti ne =
    let new : Incarnation = record { parent = parent_of tree j; reset = reset_of tree j; end = end } in
    ap (λ (o : Option Incarnation). option_map_or (λ n. n.end) o 0) (incarnation-there (with_end tree j end) i new (IsThere-with_end tree j end i ti))
    ∙ ap (λ (n : Incarnation). n.end) (get_or-set_other tree (j - 1) (i - 1) new new (λ e. ne (omega (arith, e, tj.0, ti.0))))
    ∙ sym (ap (λ (o : Option Incarnation). option_map_or (λ n. n.end) o 0) (incarnation-there tree i new ti))

pub HasParentsBelow-with_end : (tree : List Incarnation) (j end : ℕ) → IsThere tree j → HasParentsBelow tree → HasParentsBelow (with_end tree j end)
HasParentsBelow-with_end tree j end there below i h = subst (λ p. p < i) (sym (parent_of-with_end tree j end i there)) (below i h)

-- and the tree stays one
pub IsTree-with_end : (tree : List Incarnation) (j end : ℕ) → IsThere tree j → IsTree tree → IsTree (with_end tree j end)
IsTree-with_end tree j end there is =
    let long : length (with_end tree j end) ≡ length tree = length-set tree (j - 1) (record { parent = parent_of tree j; reset = reset_of tree j; end = end }) in
    record {
      some = let some = is.some in omega (arith, long, some);
      few = let few = is.few in omega (arith, long, few);
      parents = HasParentsBelow-with_end tree j end there is.parents;
      rooted = λ i above inside. subst (λ p. 0 < p) (sym (parent_of-with_end tree j end i there)) (is.rooted i above (omega (arith, long)));
      ascends = λ i at.
          let inside = at.1 in
          let parent = ap (reset_of (with_end tree j end)) (parent_of-with_end tree j end i there) ∙ reset_of-with_end tree j end (parent_of tree i) there in
          let reset = reset_of-with_end tree j end i there in
          let rising : reset_of tree (parent_of tree i) ≤ reset_of tree i = is.ascends i (at.0, omega (arith, long, inside)) in
          omega (arith, parent, reset, rising);
    }

-- trees of the same parents have the same paths
pub ancestors-same : (t u : List Incarnation) → ((i : ℕ) → parent_of t i ≡ parent_of u i) → (most i : ℕ) → ancestors most t i ≡ ancestors most u i
ancestors-same t u parents zero i = refl
ancestors-same t u parents (suc most) zero = refl
ancestors-same t u parents (suc most) (suc i) =
    ap (λ xs. suc i ∷ xs) (ap (ancestors most t) (parents (suc i)) ∙ ancestors-same t u parents most (parent_of u (suc i)))

find-same : (p q : ℕ → Bool) → ((j : ℕ) → p j ≡ q j) → (xs : List ℕ) → find p xs ≡ find q xs
find-same p q same [] = refl
find-same p q same (x ∷ xs) = ap (λ b. cond b (Some x) (find p xs)) (same x) ∙ ap (λ o. cond (q x) (Some x) o) (find-same p q same xs)

-- and with the same resetlogs SCNs the same owners
pub owner-same : (t u : List Incarnation) → ((i : ℕ) → parent_of t i ≡ parent_of u i) → ((i : ℕ) → reset_of t i ≡ reset_of u i) → (i g : ℕ) → owner t i g ≡ owner u i g
unfolding owner
owner-same t u parents resets i g =
    ap (λ xs. unwrap_or (find (λ j. nat_le (reset_of t j) g) xs) 1) (ancestors-same t u parents i i)
    ∙ ap (λ o. unwrap_or o 1) (find-same (λ j. nat_le (reset_of t j) g) (λ j. nat_le (reset_of u j) g) (λ j. ap (λ r. nat_le r g) (resets j)) (path u i))

pub owner-with_end : (tree : List Incarnation) (j end i g : ℕ) → IsThere tree j → owner (with_end tree j end) i g ≡ owner tree i g
owner-with_end tree j end i g there =
    owner-same (with_end tree j end) tree (λ k. parent_of-with_end tree j end k there) (λ k. reset_of-with_end tree j end k there) i g

-- where one end rises, none falls
pub ends-risen : (tree : List Incarnation) (j end i : ℕ) → IsThere tree j → end_of tree j ≤ end → IsThere tree i → end_of tree i ≤ end_of (with_end tree j end) i
ends-risen tree j end i there up is = elim (cases_eq i j) [
  | inl same ↦ subst (λ k. end_of tree k ≤ end_of (with_end tree j end) k) (sym same) (omega (arith, up, end_of-with_end tree j end there))
  | inr other ↦ omega (arith, end_of-with_end_other tree j end i there is other)
]
