-- Segments of a path: how far an artefact of a member may tell of the path, and where owners are the same.
use Rattle.std.specs.Option.{option_map_or}
use Rattle.std.proofs.Common.{◌≡◌, ◌≢◌, ◌<◌, ◌≤◌, ◌∙◌, inl, inr, nat_le, max, ℕ, zero, suc, List, length, Option, Some, None, true, false, refl, ap, sym, subst, arith, Contains, is_some, ◌&&◌, nat_eq}
use Rattle.std.proofs.lemmas.Bool.{and_parts, cases_eq, cases_lt, eq-eqb, ne_eqb, false_from_ne_true, Decides.{nat_tests}}
use Rattle.rm_base.{specs.Numbers.{last_scn}, proofs.Members.{first-or-rest, in-front}}
use Rattle.rm_history.specs.Tree.{HasParentsBelow, IsTree, IsThere, IsShared, end_of, owner, parent_of, reset_of, path, ancestors, segment_end, is_on_path, IsProperAncestor, is_within}
use Rattle.rm_history.{specs.declared.tree.Incarnation.{Incarnation}, proofs.States.{both-hold}}
use Rattle.rm_history.proofs.Owners.{le_true, owner-above, owner-below, owner-here, owner-owner, path-step}
use Rattle.rm_history.proofs.Paths.{path-below, segment_end-here, segment_end-above, segment_end-some, is_on_path-member}

-- where two paths have one owner of g, they have the same owners up to g
pub alike_below : (tree : List Incarnation) → HasParentsBelow tree → (i j g c : ℕ) → owner tree i g ≡ owner tree j g → c ≤ g → owner tree i c ≡ owner tree j c
alike_below tree below i j g c same low =
    sym (owner-owner tree below i g c low) ∙ ap (λ k. owner tree k c) same ∙ owner-owner tree below j g c low

-- from where they part on they have none in common
pub parted : (tree : List Incarnation) → HasParentsBelow tree → (i j s g : ℕ) → IsShared tree i j s → s ≤ g → g < last_scn → ¬ (owner tree i g ≡ owner tree j g)
parted tree below i j s g shared from low same =
    shared.apart (omega (arith, from, low)) (alike_below tree below i j g s same from)

-- a member's segment end lies at or below where the path's end begins, and below it both have the same owners
pub record IsSegment (tree : List Incarnation) (j i end : ℕ) : Type 0 where
  pub low : end ≤ reset_of tree i
  pub alike : (g : ℕ) → g < end → owner tree j g ≡ owner tree i g

some_one : (a b : ℕ) (o : Option ℕ) → o ≡ Some a → o ≡ Some b → a ≡ b
some_one a b o first second = ap (λ (x : Option ℕ). option_map_or (λ n. n) x a) (sym first ∙ second)

segment_of : (tree : List Incarnation) → IsTree tree → (most i j end : ℕ) → i ≤ most → i ≤ length tree → 0 < j → Contains (path tree i) j → j ≢ i → segment_end tree j i ≡ Some end → IsSegment tree j i end
segment_of tree is zero i j end few there up held differ at =
    let low = path-below tree is.parents i j held in absurd (omega (arith, low.0, low.1, few))
segment_of tree is (suc most) i j end few there up held differ at =
    let low = path-below tree is.parents i j held in
    let some : 0 < i = omega (arith, low.0, low.1) in
    let less : parent_of tree i < i = is.parents i some in
    let rises : reset_of tree (parent_of tree i) ≤ reset_of tree i = is.ascends i (some, there) in
    elim (cases_eq (parent_of tree i) j) [
      | inl here ↦
          let end_is : reset_of tree i ≡ end = some_one (reset_of tree i) end (segment_end tree j i) (segment_end-here tree is.parents i j some up here) at in
          record {
            low = omega (arith, end_is);
            alike = λ g before. sym (owner-above tree is.parents i g some (omega (arith, before, end_is)) ∙ ap (λ k. owner tree k g) here);
          }
      | inr other ↦ elim (first-or-rest i (path tree (parent_of tree i)) j (subst (λ xs. Contains xs j) (path-step tree is.parents i some) held)) [
        | inl same ↦ absurd (differ (sym same))
        | inr rest ↦
            let above = segment_of tree is most (parent_of tree i) j end (omega (arith, less, few)) (omega (arith, less, there)) up rest (λ same. other (sym same)) (sym (segment_end-above tree is.parents i j some other) ∙ at) in
            let under = above.low in
            record {
              low = omega (arith, under, rises);
              alike = λ g before. above.alike g before ∙ sym (owner-above tree is.parents i g some (omega (arith, before, under, rises)));
            }
      ]
    ]

le_holds : (a b : ℕ) → nat_le a b ≡ true → a ≤ b
le_holds a b h = grind (arith, nat_tests)

within_end : (tree : List Incarnation) → IsTree tree → (i j high : ℕ) → IsThere tree i → Contains (path tree i) j → j ≢ i → (o : Option ℕ) → segment_end tree j i ≡ o → option_map_or (λ end. nat_le high end) o true ≡ true → (g : ℕ) → g < high → owner tree j g ≡ owner tree i g
within_end tree is i j high there held differ None at within g low =
    let has : is_some (segment_end tree j i) ≡ true = (segment_end-some tree is.parents i j there.0).1 (differ, held) in
    let both : true ≡ false = sym has ∙ ap is_some at in
    absurd (cc)
within_end tree is i j high there held differ (Some end) at within g low =
    let up = path-below tree is.parents i j held in
    let most : high ≤ end = le_holds high end within in
    (segment_of tree is i i j end (omega arith) there.1 up.0 held differ at).alike g (omega (arith, low, most))

-- what lies below `high` has the same owner on both paths, where `high` is within the segment
pub within_segment : (tree : List Incarnation) → IsTree tree → (i j high : ℕ) → IsThere tree i → Contains (path tree i) j → option_map_or (λ end. nat_le high end) (segment_end tree j i) true ≡ true → (g : ℕ) → g < high → owner tree j g ≡ owner tree i g
within_segment tree is i j high there held within g low = elim (cases_eq j i) [
  | inl same ↦ ap (λ k. owner tree k g) same
  | inr differ ↦ within_end tree is i j high there held differ (segment_end tree j i) refl within g low
]

-- whether a copy lies within its segment, where that ends
pub is_within_some : (tree : List Incarnation) (inc current high end : ℕ) → Contains (path tree current) inc → segment_end tree inc current ≡ Some end → nat_le high end ≡ (is_on_path tree inc current && option_map_or (λ e. nat_le high e) (segment_end tree inc current) true)
is_within_some tree inc current high end held at =
    sym (ap (λ b. b && option_map_or (λ e. nat_le high e) (segment_end tree inc current) true) ((is_on_path-member tree current inc).1 held) ∙ ap (λ o. option_map_or (λ e. nat_le high e) o true) at)

-- an incarnation is on its own path
own_path : (tree : List Incarnation) (i : ℕ) → 0 < i → Contains (path tree i) i
own_path tree zero some = absurd (omega arith)
own_path tree (suc i) some = in-front (suc i) (ancestors i tree (parent_of tree (suc i)))

-- and where it does not
pub is_within_none : (tree : List Incarnation) (inc current high : ℕ) → 0 < current → ¬ IsProperAncestor tree inc current → segment_end tree inc current ≡ None → nat_eq inc current ≡ (is_on_path tree inc current && option_map_or (λ e. nat_le high e) (segment_end tree inc current) true)
is_within_none tree inc current high some none at = elim (cases_eq inc current) [
  | inl same ↦
      eq-eqb inc current same
      ∙ sym (ap (λ b. b && option_map_or (λ e. nat_le high e) (segment_end tree inc current) true) ((is_on_path-member tree current inc).1 (subst (Contains (path tree current)) (sym same) (own_path tree current some))) ∙ ap (λ o. option_map_or (λ e. nat_le high e) o true) at)
  | inr differ ↦
      ne_eqb inc current differ
      ∙ sym (ap (λ b. b && option_map_or (λ e. nat_le high e) (segment_end tree inc current) true) (false_from_ne_true (is_on_path tree inc current) (λ on. none (differ, (is_on_path-member tree current inc).0 on))))
]

-- a member begins before its segment ends
pub starts_before : (tree : List Incarnation) → IsTree tree → (most i j end : ℕ) → i ≤ most → i ≤ length tree → 0 < j → Contains (path tree i) j → j ≢ i → segment_end tree j i ≡ Some end → reset_of tree j ≤ end
starts_before tree is zero i j end few there up held differ at =
    let low = path-below tree is.parents i j held in absurd (omega (arith, low.0, low.1, few))
starts_before tree is (suc most) i j end few there up held differ at =
    let low = path-below tree is.parents i j held in
    let some : 0 < i = omega (arith, low.0, low.1) in
    let less : parent_of tree i < i = is.parents i some in
    let rises : reset_of tree (parent_of tree i) ≤ reset_of tree i = is.ascends i (some, there) in
    elim (cases_eq (parent_of tree i) j) [
      | inl here ↦
          let end_is : reset_of tree i ≡ end = some_one (reset_of tree i) end (segment_end tree j i) (segment_end-here tree is.parents i j some up here) at in
          let same : reset_of tree (parent_of tree i) ≡ reset_of tree j = ap (reset_of tree) here in
          omega (arith, end_is, same, rises)
      | inr other ↦ elim (first-or-rest i (path tree (parent_of tree i)) j (subst (λ xs. Contains xs j) (path-step tree is.parents i some) held)) [
        | inl same ↦ absurd (differ (sym same))
        | inr rest ↦ starts_before tree is most (parent_of tree i) j end (omega (arith, less, few)) (omega (arith, less, there)) up rest (λ same. other (sym same)) (sym (segment_end-above tree is.parents i j some other) ∙ at)
      ]
    ]

-- a proper ancestor has a segment end, and what is within its segment is not above where the path's end begins
below_start : (tree : List Incarnation) → IsTree tree → (i j high : ℕ) → IsThere tree i → Contains (path tree i) j → j ≢ i → (o : Option ℕ) → segment_end tree j i ≡ o → option_map_or (λ end. nat_le high end) o true ≡ true → high ≤ reset_of tree i
below_start tree is i j high there held differ None at within =
    let has : is_some (segment_end tree j i) ≡ true = (segment_end-some tree is.parents i j there.0).1 (differ, held) in
    let both : true ≡ false = sym has ∙ ap is_some at in
    absurd (cc)
below_start tree is i j high there held differ (Some end) at within =
    let up = path-below tree is.parents i j held in
    let most : high ≤ end = le_holds high end within in
    let low = (segment_of tree is i i j end (omega arith) there.1 up.0 held differ at).low in
    omega (arith, most, low)

within_of : (o : Option ℕ) (high end : ℕ) → o ≡ Some end → option_map_or (λ e. nat_le high e) o true ≡ true → high ≤ end
within_of o high end at within = le_holds high end (sym (ap (λ x. option_map_or (λ e. nat_le high e) x true) at) ∙ within)

-- what is within the segment of k on the path of j, and j's own segment on the path of i: both are within the latter
both_within : (tree : List Incarnation) → IsTree tree → (i j k low high m : ℕ) → IsThere tree i → IsThere tree j → m ≡ max low high → Contains (path tree i) j → Contains (path tree j) k → option_map_or (λ e. nat_le low e) (segment_end tree k j) true ≡ true → option_map_or (λ e. nat_le low e) (segment_end tree k i) true ≡ true → option_map_or (λ e. nat_le high e) (segment_end tree j i) true ≡ true → (o : Option ℕ) → segment_end tree j i ≡ o → option_map_or (λ e. nat_le m e) o true ≡ true
both_within tree is i j k low high m there here top on under first own second None at = refl
both_within tree is i j k low high m there here top on under first own second (Some end) at =
    let more : high ≤ end = within_of (segment_end tree j i) high end at second in
    let differ : j ≢ i = let proper = (segment_end-some tree is.parents i j there.0).0 (ap is_some at) in proper.0 in
    let less : low ≤ end = elim (cases_eq k j) [
      | inl same ↦ within_of (segment_end tree j i) low end at (subst (λ (n : ℕ). option_map_or (λ e. nat_le low e) (segment_end tree n i) true ≡ true) same own)
      | inr other ↦
          let under_start = below_start tree is j k low here under other (segment_end tree k j) refl first in
          let start = starts_before tree is i i j end (omega arith) there.1 here.0 on differ at in
          omega (arith, under_start, start)
    ] in
    le_true m end (omega (arith, top, more, less))

pub within_both : (tree : List Incarnation) → IsTree tree → (i j k low high m : ℕ) → IsThere tree i → IsThere tree j → m ≡ max low high → Contains (path tree i) j → Contains (path tree j) k → option_map_or (λ e. nat_le low e) (segment_end tree k j) true ≡ true → option_map_or (λ e. nat_le low e) (segment_end tree k i) true ≡ true → option_map_or (λ e. nat_le high e) (segment_end tree j i) true ≡ true → option_map_or (λ e. nat_le m e) (segment_end tree j i) true ≡ true
within_both tree is i j k low high m there here top on under first own second = both_within tree is i j k low high m there here top on under first own second (segment_end tree j i) refl

-- what lies below `high` has one owner on both paths
pub is_within_alike : (tree : List Incarnation) → IsTree tree → (j i high : ℕ) → IsThere tree i → is_within tree j i high ≡ true → (g : ℕ) → g < high → owner tree j g ≡ owner tree i g
is_within_alike tree is j i high there within =
    let parts = both-hold (is_on_path tree j i) (option_map_or (λ end. nat_le high end) (segment_end tree j i) true) within in
    within_segment tree is i j high there ((is_on_path-member tree i j).0 parts.0) parts.1

-- what holds on the path of an incarnation lies up to its end: where the incarnation begins, each path but its own has another owner
pub within-end : (ns : List Incarnation) → IsTree ns → (i j high : ℕ) → IsThere ns i → reset_of ns i ≤ end_of ns i → high ≤ end_of ns j → is_within ns j i high ≡ true → high ≤ end_of ns i
within-end ns is i j high there range most within = elim (cases_lt (reset_of ns i) high) [
  | inr low ↦ omega (arith, low, range)
  | inl over ↦
      let on = (and_parts (is_on_path ns j i) (option_map_or (λ e. nat_le high e) (segment_end ns j i) true) within).0 in
      let member = path-below ns is.parents i j ((is_on_path-member ns i j).0 on) in
      let here = owner-here ns is.parents i (reset_of ns i) there.0 (omega arith) in
      let below = (owner-below ns is.parents j (reset_of ns i) member.0).1 in
      let same : j ≡ i = omega (arith, here, below, is_within_alike ns is j i high there within (reset_of ns i) over, member.1) in
      subst (λ k. high ≤ end_of ns k) same most
]
