-- The members of a path, and the segment ends on it.
use Rattle.std.specs.List.{list_any}
use Rattle.std.proofs.Common.{◌≡◌, ◌≢◌, ◌<◌, ◌≤◌, ◌↔◌, ◌∙◌, ◌||◌, inl, inr, ℕ, zero, suc, List, [], ◌∷◌, Option, Some, None, Bool, true, false, cond, refl, ap, sym, subst, arith, eqb, Contains, IsSome, IsTrue, is_some, option_map, ◌⊎◌}
use Rattle.std.proofs.lemmas.Bool.{eq-eqb, ne_eqb, cases_eq, cases_Bool, both_ways, false_from_ne_true}
use Rattle.rm_history.specs.Tree.{HasParentsBelow, IsProperAncestor, ancestors, parent_of, reset_of, path, is_on_path, item_before, segment_end, standing}
use Rattle.rm_history.specs.declared.tree.{Incarnation.{Incarnation}, Standing.TheVariants.{Current, Parent, Orphan}}
use Rattle.rm_history.proofs.Owners.{path-step}
use Rattle.rm_base.proofs.Members.{in-front, behind, none-in, first-or-rest}

ancestors-below : (tree : List Incarnation) → HasParentsBelow tree → (most i j : ℕ) → Contains (ancestors most tree i) j → (0 < j) × (j ≤ i)
ancestors-below tree below zero i j is = absurd (none-in j is)
ancestors-below tree below (suc most) zero j is = absurd (none-in j is)
ancestors-below tree below (suc most) (suc i) j is = elim (first-or-rest (suc i) (ancestors most tree (parent_of tree (suc i))) j is) [
  | inl same ↦ (omega arith, omega arith)
  | inr rest ↦
      let less : parent_of tree (suc i) < suc i = below (suc i) (omega arith) in
      let low = ancestors-below tree below most (parent_of tree (suc i)) j rest in
      (low.0, omega (arith, less, low.1))
]

-- a member of the path of i is above 0, and i at most
pub path-below : (tree : List Incarnation) → HasParentsBelow tree → (i j : ℕ) → Contains (path tree i) j → (0 < j) × (j ≤ i)
path-below tree below i j is = ancestors-below tree below i i j is

-- j is on the path of i where it is i, or on the path of its parent
pub is_on_path-step : (tree : List Incarnation) → HasParentsBelow tree → (i j : ℕ) → 0 < i → is_on_path tree j i ≡ (eqb i j || is_on_path tree j (parent_of tree i))
unfolding is_on_path
is_on_path-step tree below i j h = ap (list_any (λ k. eqb k j)) (path-step tree below i h)

pub is_on_path-none : (tree : List Incarnation) (j : ℕ) → is_on_path tree j 0 ≡ false
unfolding is_on_path
is_on_path-none tree j = refl

pub is_on_path-here : (tree : List Incarnation) → HasParentsBelow tree → (i j : ℕ) → 0 < i → i ≡ j → is_on_path tree j i ≡ true
is_on_path-here tree below i j h same = is_on_path-step tree below i j h ∙ ap (λ b. b || is_on_path tree j (parent_of tree i)) (eq-eqb i j same)

pub is_on_path-above : (tree : List Incarnation) → HasParentsBelow tree → (i j : ℕ) → 0 < i → (i ≡ j → ⊥) → is_on_path tree j i ≡ is_on_path tree j (parent_of tree i)
is_on_path-above tree below i j h differ = is_on_path-step tree below i j h ∙ ap (λ b. b || is_on_path tree j (parent_of tree i)) (ne_eqb i j differ)

or-true : (b : Bool) → (b || true) ≡ true
or-true true = refl
or-true false = refl

any-member : (xs : List ℕ) (j : ℕ) → list_any (λ k. eqb k j) xs ≡ true → Contains xs j
any-member [] j is = absurd (cc)
any-member (x ∷ xs) j is = elim (cases_eq x j) [
  | inl same ↦ subst (Contains (x ∷ xs)) same (in-front x xs)
  | inr differ ↦ behind x xs j (any-member xs j (ap (λ b. b || list_any (λ k. eqb k j) xs) (sym (ne_eqb x j differ)) ∙ is))
]

member-any : (xs : List ℕ) (j : ℕ) → Contains xs j → list_any (λ k. eqb k j) xs ≡ true
member-any [] j is = absurd (none-in j is)
member-any (x ∷ xs) j is = elim (first-or-rest x xs j is) [
  | inl same ↦ ap (λ b. b || list_any (λ k. eqb k j) xs) (eq-eqb x j same)
  | inr rest ↦ ap (λ b. eqb x j || b) (member-any xs j rest) ∙ or-true (eqb x j)
]

-- an incarnation's path has exactly its members
pub is_on_path-member : (tree : List Incarnation) (i j : ℕ) → IsTrue (is_on_path tree j i) ↔ Contains (path tree i) j
unfolding is_on_path
is_on_path-member tree i j = (any-member (path tree i) j, member-any (path tree i) j)

-- before j stands x where the next item is j, and else what stands before it in the rest
item-next : (j x : ℕ) (xs ys : List ℕ) (y : ℕ) → xs ≡ y ∷ ys → item_before j (x ∷ xs) ≡ cond (eqb y j) (Some x) (item_before j xs)
item-next j x xs ys y is = ap (λ l. item_before j (x ∷ l)) is ∙ ap (λ l. cond (eqb y j) (Some x) (item_before j l)) (sym is)

-- the same along the path of i, whose parent is there
path-next : (tree : List Incarnation) → HasParentsBelow tree → (i j : ℕ) → 0 < i → 0 < parent_of tree i → item_before j (path tree i) ≡ cond (eqb (parent_of tree i) j) (Some i) (item_before j (path tree (parent_of tree i)))
path-next tree below i j h up =
    ap (item_before j) (path-step tree below i h)
    ∙ item-next j i (path tree (parent_of tree i)) (path tree (parent_of tree (parent_of tree i))) (parent_of tree i) (path-step tree below (parent_of tree i) up)

-- where i's parent is j, its resetlogs SCN is the segment end of j
pub segment_end-here : (tree : List Incarnation) → HasParentsBelow tree → (i j : ℕ) → 0 < i → 0 < j → parent_of tree i ≡ j → segment_end tree j i ≡ Some (reset_of tree i)
unfolding segment_end
segment_end-here tree below i j h there is =
    let up : 0 < parent_of tree i = omega (arith, is) in
    ap (option_map (reset_of tree)) (path-next tree below i j h up)
    ∙ ap (λ b. option_map (reset_of tree) (cond b (Some i) (item_before j (path tree (parent_of tree i))))) (eq-eqb (parent_of tree i) j is)

-- without a path there is none
pub segment_end-none : (tree : List Incarnation) (j : ℕ) → segment_end tree j 0 ≡ None
unfolding segment_end
segment_end-none tree j = refl

-- and where its parent is another, it is the segment end on the parent's path
pub segment_end-above : (tree : List Incarnation) → HasParentsBelow tree → (i j : ℕ) → 0 < i → (parent_of tree i ≡ j → ⊥) → segment_end tree j i ≡ segment_end tree j (parent_of tree i)
unfolding segment_end
segment_end-above tree below i j h differ = elim (cases_eq (parent_of tree i) 0) [
  | inl none ↦
      ap (λ xs. option_map (reset_of tree) (item_before j xs)) (path-step tree below i h)
      ∙ ap (λ p. option_map (reset_of tree) (item_before j (i ∷ path tree p))) none
      ∙ ap (λ p. option_map (reset_of tree) (item_before j (path tree p))) (sym none)
  | inr some ↦
      let up : 0 < parent_of tree i = omega (arith, some) in
      ap (option_map (reset_of tree)) (path-next tree below i j h up)
      ∙ ap (λ b. option_map (reset_of tree) (cond b (Some i) (item_before j (path tree (parent_of tree i))))) (ne_eqb (parent_of tree i) j differ)
]

-- one stands before j where j is there and not first, and nowhere else
item-some : (j x : ℕ) (xs : List ℕ) → Contains xs j → is_some (item_before j (x ∷ xs)) ≡ true
item-some j x [] is = absurd (none-in j is)
item-some j x (y ∷ ys) is = elim (cases_eq y j) [
  | inl same ↦ ap (λ b. is_some (cond b (Some x) (item_before j (y ∷ ys)))) (eq-eqb y j same)
  | inr differ ↦ elim (first-or-rest y ys j is) [
    | inl same ↦ absurd (differ same)
    | inr rest ↦ ap (λ b. is_some (cond b (Some x) (item_before j (y ∷ ys)))) (ne_eqb y j differ) ∙ item-some j y ys rest
  ]
]

some-item : (j x : ℕ) (xs : List ℕ) → is_some (item_before j (x ∷ xs)) ≡ true → Contains xs j
some-item j x [] some = absurd (cc)
some-item j x (y ∷ ys) some = elim (cases_eq y j) [
  | inl same ↦ subst (Contains (y ∷ ys)) same (in-front y ys)
  | inr differ ↦ behind y ys j (some-item j y ys (ap (λ b. is_some (cond b (Some x) (item_before j (y ∷ ys)))) (sym (ne_eqb y j differ)) ∙ some))
]

is_some-map : (f : ℕ → ℕ) (o : Option ℕ) → is_some (option_map f o) ≡ is_some o
is_some-map f None = refl
is_some-map f (Some x) = refl

-- a segment end is there exactly where j is an ancestor of i
pub segment_end-some : (tree : List Incarnation) → HasParentsBelow tree → (i j : ℕ) → 0 < i → IsSome (segment_end tree j i) ↔ IsProperAncestor tree j i
unfolding segment_end
segment_end-some tree below i j h =
    let step = path-step tree below i h in
    let rest = path tree (parent_of tree i) in
    let there : is_some (segment_end tree j i) ≡ is_some (item_before j (i ∷ rest)) =
    is_some-map (reset_of tree) (item_before j (path tree i)) ∙ ap (λ xs. is_some (item_before j xs)) step in (
      λ some.
          let on : Contains rest j = some-item j i rest (sym there ∙ some) in
          let less : parent_of tree i < i = below i h in
          let low = path-below tree below (parent_of tree i) j on in
          ((λ same. absurd (omega (arith, low.1, less, same))), subst (λ xs. Contains xs j) (sym step) (behind i rest j on)),
      λ ancestor. there ∙ item-some j i rest (elim (first-or-rest i rest j (subst (λ xs. Contains xs j) step ancestor.1)) [
        | inl same ↦ absurd (ancestor.0 (sym same))
        | inr on ↦ on
      ]),
    )

none-of : (o : Option ℕ) → ¬ (is_some o ≡ true) → o ≡ None
none-of None absent = refl
none-of (Some x) absent = absurd (absent refl)

ancestors-positive : (tree : List Incarnation) (most i j : ℕ) → Contains (ancestors most tree i) j → 0 < j
ancestors-positive tree zero i j is = absurd (none-in j is)
ancestors-positive tree (suc most) zero j is = absurd (none-in j is)
ancestors-positive tree (suc most) (suc i) j is = elim (first-or-rest (suc i) (ancestors most tree (parent_of tree (suc i))) j is) [
  | inl same ↦ omega arith
  | inr rest ↦ ancestors-positive tree most (parent_of tree (suc i)) j rest
]

ancestors-none : (tree : List Incarnation) (most : ℕ) → ancestors most tree 0 ≡ []
ancestors-none tree zero = refl
ancestors-none tree (suc most) = refl

not-above : (tree : List Incarnation) (i j : ℕ) → (j ≡ 0) ⊎ (parent_of tree (suc i) ≡ 0) → ¬ Contains (ancestors i tree (parent_of tree (suc i))) j
not-above tree i j (inl none) is = let up = ancestors-positive tree i (parent_of tree (suc i)) j is in absurd (omega (arith, up))
not-above tree i j (inr top) is = none-in j (subst (λ xs. Contains xs j) (ap (ancestors i tree) top ∙ ancestors-none tree i) is)

-- 0 is no ancestor, and one without a parent has none
pub no_ancestor : (tree : List Incarnation) (i j : ℕ) → (j ≡ 0) ⊎ (parent_of tree i ≡ 0) → ¬ IsProperAncestor tree j i
no_ancestor tree zero j out ancestor = none-in j ancestor.1
no_ancestor tree (suc i) j out ancestor = elim (first-or-rest (suc i) (ancestors i tree (parent_of tree (suc i))) j ancestor.1) [
  | inl same ↦ ancestor.0 (sym same)
  | inr rest ↦ not-above tree i j out rest
]

-- and then there is no segment end
pub segment_end-absent : (tree : List Incarnation) (i j : ℕ) → (j ≡ 0) ⊎ (parent_of tree i ≡ 0) → segment_end tree j i ≡ None
unfolding segment_end
segment_end-absent tree zero j out = refl
segment_end-absent tree (suc i) j out =
    ap (option_map (reset_of tree)) (none-of (item_before j (path tree (suc i))) (λ some. not-above tree i j out (some-item j (suc i) (ancestors i tree (parent_of tree (suc i))) some)))

pub standing-current : (tree : List Incarnation) (i current : ℕ) → i ≡ current → Current ≡ standing tree i current
unfolding standing
standing-current tree i current same = ap (λ b. cond b Current (cond (is_on_path tree i current) Parent Orphan)) (sym (eq-eqb i current same))

-- the standing of another one, by whether it is on the path
pub standing-other : (tree : List Incarnation) (i current : ℕ) (on : Bool) → (i ≡ current → ⊥) → is_on_path tree i current ≡ on → cond on Parent Orphan ≡ standing tree i current
unfolding standing
standing-other tree i current on differ is =
    ap (λ b. cond b Parent Orphan) (sym is)
    ∙ ap (λ b. cond b Current (cond (is_on_path tree i current) Parent Orphan)) (sym (ne_eqb i current differ))

-- the standing tells how i lies to the current path, both ways
pub standing-is_current : (tree : List Incarnation) (i current : ℕ) → (standing tree i current ≡ Current) ↔ (i ≡ current)
standing-is_current tree i current = (
  λ is. elim (cases_eq i current) [
    | inl same ↦ same
    | inr differ ↦ elim (cases_Bool (is_on_path tree i current)) [
      | inl on ↦ let other = standing-other tree i current true differ on in absurd (cc)
      | inr off ↦ let other = standing-other tree i current false differ off in absurd (cc)
    ]
  ],
  λ same. sym (standing-current tree i current same),
)

pub standing-is_parent : (tree : List Incarnation) (i current : ℕ) → (standing tree i current ≡ Parent) ↔ IsProperAncestor tree i current
standing-is_parent tree i current = (
  λ is. elim (cases_eq i current) [
    | inl same ↦ let other = standing-current tree i current same in absurd (cc)
    | inr differ ↦ elim (cases_Bool (is_on_path tree i current)) [
      | inl on ↦ (differ, (is_on_path-member tree current i).0 on)
      | inr off ↦ let other = standing-other tree i current false differ off in absurd (cc)
    ]
  ],
  λ ancestor. sym (standing-other tree i current true ancestor.0 ((is_on_path-member tree current i).1 ancestor.1)),
)

pub standing-is_orphan : (tree : List Incarnation) (i current : ℕ) → (standing tree i current ≡ Orphan) ↔ ((i ≢ current) × (¬ Contains (path tree current) i))
standing-is_orphan tree i current = (
  λ is. elim (cases_eq i current) [
    | inl same ↦ let other = standing-current tree i current same in absurd (cc)
    | inr differ ↦ elim (cases_Bool (is_on_path tree i current)) [
      | inl on ↦ let other = standing-other tree i current true differ on in absurd (cc)
      | inr off ↦ (differ, λ held. both_ways (is_on_path tree i current) off ((is_on_path-member tree current i).1 held))
    ]
  ],
  λ apart. sym (standing-other tree i current false apart.0 (false_from_ne_true (is_on_path tree i current) (λ on. apart.1 ((is_on_path-member tree current i).0 on)))),
)

segment_end-child-of : (tree : List Incarnation) → HasParentsBelow tree → (most i x : ℕ) → i ≤ most → Contains (path tree i) x → 0 < parent_of tree x → segment_end tree (parent_of tree x) i ≡ Some (reset_of tree x)
segment_end-child-of tree below zero i x few held up = let low = path-below tree below i x held in absurd (omega (arith, low.0, low.1))
segment_end-child-of tree below (suc most) i x few held up =
    let low = path-below tree below i x held in
    let some : 0 < i = omega (arith, low.0, low.1) in
    elim (first-or-rest i (path tree (parent_of tree i)) x (subst (λ xs. Contains xs x) (path-step tree below i some) held)) [
      | inl same ↦ subst (λ k. segment_end tree (parent_of tree k) i ≡ Some (reset_of tree k)) same (segment_end-here tree below i (parent_of tree i) some (subst (λ k. 0 < parent_of tree k) (sym same) up) refl)
      | inr rest ↦
          let less : parent_of tree i < i = below i some in
          let within = path-below tree below (parent_of tree i) x rest in
          let under : parent_of tree x < x = below x within.0 in
          segment_end-above tree below i (parent_of tree x) some (λ met. absurd (omega (arith, within.1, under, met)))
          ∙ segment_end-child-of tree below most (parent_of tree i) x (omega (arith, less)) rest up
    ]

-- a member's resetlogs SCN is the segment end of its parent
pub segment_end-child : (tree : List Incarnation) → HasParentsBelow tree → (i x : ℕ) → Contains (path tree i) x → 0 < parent_of tree x → segment_end tree (parent_of tree x) i ≡ Some (reset_of tree x)
segment_end-child tree below i x held up = segment_end-child-of tree below i i x (omega arith) held up
