-- An incarnation more changes nothing of those that were there.
use Rattle.std.specs.Option.{option_map_or}
use Rattle.std.proofs.Common.{◌≡◌, ◌<◌, ◌≤◌, ◌+◌, ◌-◌, ◌∙◌, inl, inr, ℕ, zero, suc, List, [], ◌∷◌, ◌++◌, Some, None, cond, refl, ap, sym, subst, arith, length, length-append, slice_get}
use Rattle.std.proofs.lemmas.Bool.{ne_eqb, cases_lt}
use Rattle.rm_history.specs.Tree.{HasParentsBelow, IsThere, IsTree, incarnation, owner, parent_of, reset_of, end_of, branched, with_branch}
use Rattle.rm_history.specs.declared.tree.Incarnation.{Incarnation}
use Rattle.rm_history.proofs.Owners.{parent-none, owner-none, owner-here, owner-above, owner-cases}
use Rattle.rm_base.proofs.Members.{slice_get-front}

slice_get-last : (xs : List Incarnation) (x : Incarnation) (k : ℕ) → k ≡ length xs → slice_get (xs ++ x ∷ []) k ≡ Some x
slice_get-last [] x zero is = refl
slice_get-last [] x (suc k) is = absurd (omega arith)
slice_get-last (y ∷ ys) x zero is = absurd (omega arith)
slice_get-last (y ∷ ys) x (suc k) is = slice_get-last ys x k (omega arith)

at-number : (tree : List Incarnation) (i : ℕ) → 0 < i → incarnation tree i ≡ slice_get tree (i - 1)
at-number tree i h = ap (λ b. cond b None (slice_get tree (i - 1))) (ne_eqb i 0 (λ e. omega arith))

pub length-with_branch : (tree : List Incarnation) (p at : ℕ) → length (with_branch tree p at) ≡ length tree + 1
length-with_branch tree p at = omega (arith, length-append tree (branched p at ∷ []))

-- those that were there stay
pub incarnation-with_branch : (tree : List Incarnation) (p at i : ℕ) → IsThere tree i → incarnation (with_branch tree p at) i ≡ incarnation tree i
incarnation-with_branch tree p at i there =
    at-number (with_branch tree p at) i there.0 ∙ slice_get-front tree (branched p at) (i - 1) (omega arith) ∙ sym (at-number tree i there.0)

-- the new one is the last
pub incarnation-branched : (tree : List Incarnation) (p at : ℕ) → incarnation (with_branch tree p at) (length tree + 1) ≡ Some (branched p at)
incarnation-branched tree p at =
    at-number (with_branch tree p at) (length tree + 1) (omega arith) ∙ slice_get-last tree (branched p at) (length tree + 1 - 1) (omega arith)

pub parent_of-with_branch : (tree : List Incarnation) (p at i : ℕ) → IsThere tree i → parent_of (with_branch tree p at) i ≡ parent_of tree i
parent_of-with_branch tree p at i there = ap (λ o. option_map_or (λ n. n.parent) o 0) (incarnation-with_branch tree p at i there)

pub reset_of-with_branch : (tree : List Incarnation) (p at i : ℕ) → IsThere tree i → reset_of (with_branch tree p at) i ≡ reset_of tree i
reset_of-with_branch tree p at i there = ap (λ o. option_map_or (λ n. n.reset) o 0) (incarnation-with_branch tree p at i there)

-- also of 0, which stands for none
reset_of-below : (tree : List Incarnation) (p at i : ℕ) → i ≤ length tree → reset_of (with_branch tree p at) i ≡ reset_of tree i
reset_of-below tree p at zero inside = refl
reset_of-below tree p at (suc i) inside = reset_of-with_branch tree p at (suc i) (omega arith, inside)

pub end_of-with_branch : (tree : List Incarnation) (p at i : ℕ) → IsThere tree i → end_of (with_branch tree p at) i ≡ end_of tree i
end_of-with_branch tree p at i there = ap (λ o. option_map_or (λ n. n.end) o 0) (incarnation-with_branch tree p at i there)

pub parent_of-branched : (tree : List Incarnation) (p at : ℕ) → parent_of (with_branch tree p at) (length tree + 1) ≡ p
parent_of-branched tree p at = ap (λ o. option_map_or (λ n. n.parent) o 0) (incarnation-branched tree p at)

pub reset_of-branched : (tree : List Incarnation) (p at : ℕ) → reset_of (with_branch tree p at) (length tree + 1) ≡ at
reset_of-branched tree p at = ap (λ o. option_map_or (λ n. n.reset) o 0) (incarnation-branched tree p at)

pub end_of-branched : (tree : List Incarnation) (p at : ℕ) → end_of (with_branch tree p at) (length tree + 1) ≡ at
end_of-branched tree p at = ap (λ o. option_map_or (λ n. n.end) o 0) (incarnation-branched tree p at)

pub IsThere-with_branch : (tree : List Incarnation) (p at i : ℕ) → IsThere tree i → IsThere (with_branch tree p at) i
IsThere-with_branch tree p at i there = (there.0, omega (arith, length-with_branch tree p at, there.1))

pub IsThere-branched : (tree : List Incarnation) (p at : ℕ) → IsThere (with_branch tree p at) (length tree + 1)
IsThere-branched tree p at = (omega arith, omega (arith, length-with_branch tree p at))

-- an incarnation above 0 was there, is the new one, or is not there
data Place (tree : List Incarnation) (i : ℕ) : Type 0 where
  was_there : IsThere tree i → Place tree i
  is_new : length tree + 1 ≡ i → Place tree i
  is_past : length tree + 1 < i → Place tree i

place-of : (tree : List Incarnation) (i : ℕ) → 0 < i → Place tree i
place-of tree i h = elim (cases_lt (length tree) i) [
  | inr inside ↦ was_there (h, inside)
  | inl past ↦ elim (cases_lt (length tree + 1) i) [
    | inl out ↦ is_past out
    | inr last ↦ is_new (omega arith)
  ]
]

HasParentsBelow-with_branch : (tree : List Incarnation) (p at : ℕ) → HasParentsBelow tree → IsThere tree p → HasParentsBelow (with_branch tree p at)
HasParentsBelow-with_branch tree p at below there i h = elim (place-of tree i h) [
  | was_there is ↦ let same = parent_of-with_branch tree p at i is in let less : parent_of tree i < i = below i h in omega (arith, same, less)
  | is_new is ↦ subst (λ k. parent_of (with_branch tree p at) k < k) is (let same = parent_of-branched tree p at in omega (arith, same, there.1))
  | is_past is ↦
      let none = parent-none (with_branch tree p at) i (omega (arith, length-with_branch tree p at)) in omega (arith, none)
]

-- a tree that branches off at or above the parent's resetlogs SCN is a tree
pub IsTree-with_branch : (tree : List Incarnation) (p at : ℕ) → IsTree tree → length tree < 256 → IsThere tree p → reset_of tree p ≤ at → IsTree (with_branch tree p at)
IsTree-with_branch tree p at is few there begun =
    let t = with_branch tree p at in
    let long = length-with_branch tree p at in
    record {
      some = omega (arith, long);
      few = omega (arith, long);
      parents = HasParentsBelow-with_branch tree p at is.parents there;
      rooted = λ i above inside. elim (place-of tree i (omega arith)) [
        | was_there old ↦ let same = parent_of-with_branch tree p at i old in let up : 0 < parent_of tree i = is.rooted i above old.1 in omega (arith, same, up)
        | is_new new ↦ subst (λ k. 0 < parent_of t k) new (let same = parent_of-branched tree p at in omega (arith, same, there.0))
        | is_past out ↦ absurd (omega (arith, long))
      ];
      ascends = λ i inside. elim (place-of tree i inside.0) [
        | was_there old ↦
            let parent = ap (reset_of t) (parent_of-with_branch tree p at i old) in
            let less : parent_of tree i < i = is.parents i old.0 in
            let low : reset_of t (parent_of tree i) ≡ reset_of tree (parent_of tree i) = reset_of-below tree p at (parent_of tree i) (omega (arith, less, old.1)) in
            let reset = reset_of-with_branch tree p at i old in
            let rising : reset_of tree (parent_of tree i) ≤ reset_of tree i = is.ascends i old in
            omega (arith, parent, low, reset, rising)
        | is_new new ↦ subst (λ k. reset_of t (parent_of t k) ≤ reset_of t k) new
            (let parent = ap (reset_of t) (parent_of-branched tree p at) ∙ reset_of-with_branch tree p at p there in
            let reset = reset_of-branched tree p at in
            omega (arith, parent, reset))
        | is_past out ↦ let high = inside.1 in absurd (omega (arith, long, high))
      ];
    }

owner-kept : (tree : List Incarnation) (p at : ℕ) → HasParentsBelow tree → IsThere tree p → (most i g : ℕ) → i ≤ most → IsThere tree i → owner (with_branch tree p at) i g ≡ owner tree i g
owner-kept tree p at below there zero i g few is = let up = is.0 in absurd (omega (arith, up))
owner-kept tree p at below there (suc most) i g few is =
    let t = with_branch tree p at in
    let below_t = HasParentsBelow-with_branch tree p at below there in
    let reset = reset_of-with_branch tree p at i is in
    elim (owner-cases tree below i g is.0) [
      | inl here ↦ let begun = here.0 in owner-here t below_t i g is.0 (omega (arith, reset, begun)) ∙ sym here.1
      | inr above ↦
          let later = above.0 in
          let less : parent_of tree i < i = below i is.0 in
          let up = is.1 in
          owner-above t below_t i g is.0 (omega (arith, reset, later))
          ∙ ap (λ k. owner t k g) (parent_of-with_branch tree p at i is)
          ∙ elim (cases_lt 0 (parent_of tree i)) [
            | inl some ↦ owner-kept tree p at below there most (parent_of tree i) g (omega (arith, less)) (some, omega (arith, less, up))
            | inr none ↦
                let top : parent_of tree i ≡ 0 = omega (arith, none) in
                ap (λ k. owner t k g) top ∙ owner-none t g ∙ sym (owner-none tree g) ∙ ap (λ k. owner tree k g) (sym top)
          ]
          ∙ sym above.1
    ]

-- on the paths that were there the owners stay
pub owner-with_branch : (tree : List Incarnation) (p at i g : ℕ) → HasParentsBelow tree → IsThere tree p → IsThere tree i → owner (with_branch tree p at) i g ≡ owner tree i g
owner-with_branch tree p at i g below there is = owner-kept tree p at below there i i g (omega arith) is

-- the new one owns all from where it branched off
pub owner-branched : (tree : List Incarnation) (p at g : ℕ) → HasParentsBelow tree → IsThere tree p → at ≤ g → owner (with_branch tree p at) (length tree + 1) g ≡ length tree + 1
owner-branched tree p at g below there high =
    let reset = reset_of-branched tree p at in
    owner-here (with_branch tree p at) (HasParentsBelow-with_branch tree p at below there) (length tree + 1) g (omega arith) (omega (arith, reset))

-- and below that its path has its parent's owners
pub owner-branched_below : (tree : List Incarnation) (p at g : ℕ) → HasParentsBelow tree → IsThere tree p → g < at → owner (with_branch tree p at) (length tree + 1) g ≡ owner tree p g
owner-branched_below tree p at g below there low =
    let t = with_branch tree p at in
    let reset = reset_of-branched tree p at in
    owner-above t (HasParentsBelow-with_branch tree p at below there) (length tree + 1) g (omega arith) (omega (arith, reset))
    ∙ ap (λ k. owner t k g) (parent_of-branched tree p at)
    ∙ owner-with_branch tree p at p g below there there
