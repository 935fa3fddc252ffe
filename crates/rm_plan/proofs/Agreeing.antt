-- How far the path of an incarnation agrees with that of a target.
use Rattle.std.proofs.Common.{◌≡◌, ◌<◌, ◌≤◌, ◌+◌, ◌-◌, ◌∙◌, ◌∷◌, ◌++◌, [], inl, inr, ℕ, List, min, false, cond, eqb, length, get_or, ap, sym, subst, arith}
use Rattle.std.proofs.lemmas.{Bool.{cases_lt, ne_eqb}, List.{get_or_append_left, get_or_push, length_push}}
use Rattle.rm_base.specs.Numbers.{last_scn}
use Rattle.rm_history.specs.{Tree.{HasParentsBelow, IsShared, owner, reset_of}, declared.tree.Incarnation.{Incarnation}}
use Rattle.rm_history.proofs.Owners.{owner-owner}
use Rattle.rm_plan.specs.{Ways.{AreWays, IsWay, nowhere}, declared.span.Span.{Span}}

-- where two paths have one owner of an SCN, they have one owner of each SCN below it
pub alike_below : (tree : List Incarnation) → HasParentsBelow tree → (i j g c : ℕ) → owner tree i g ≡ owner tree j g → c ≤ g → owner tree i c ≡ owner tree j c
alike_below tree below i j g c same low =
    sym (owner-owner tree below i g c low) ∙ ap (λ m. owner tree m c) same ∙ owner-owner tree below j g c low

-- two paths have one owner of an SCN exactly below the least at which they have not
pub alike_before : (tree : List Incarnation) → HasParentsBelow tree → (i j shared g : ℕ) → IsShared tree i j shared → g < last_scn → owner tree i g ≡ owner tree j g → g < shared
alike_before tree below i j shared g is low same = elim (cases_lt g shared) [
  | inl before ↦ before
  | inr past ↦ absurd (is.apart (omega (arith, past, low)) (alike_below tree below i j g shared same past))
]

pub way_is : (tree : List Incarnation) → HasParentsBelow tree → (i s j shared reset end : ℕ) → IsShared tree i j shared → reset ≡ reset_of tree j → end ≡ min shared s → IsWay tree i s j (record { start = reset; end = end })
way_is tree below i s j shared reset end is begun least = record {
  start = begun;
  until = omega (arith, least);
  alike = λ g some low. is.alike g (omega (arith, some)) (omega (arith, low, least));
  apart = λ g some before last same. let low = alike_before tree below i j shared g is last same in omega (arith, least, low, before);
}

-- one way after another
pub more_ways : (P : ℕ → Span → Type 0) (xs : List Span) (x : Span) → ((k : ℕ) → k < length xs → P (k + 1) (get_or xs k nowhere)) → P (length xs + 1) x → (k : ℕ) → k < length (xs ++ x ∷ []) → P (k + 1) (get_or (xs ++ x ∷ []) k nowhere)
more_ways P xs x each here k inside = elim (cases_lt k (length xs)) [
  | inl old ↦ subst (λ y. P (k + 1) y) (sym (get_or_append_left xs (x ∷ []) nowhere k old)) (each k old)
  | inr new ↦
      let long = length_push xs x in
      let is : length xs ≡ k = omega (arith, new, inside, long) in
      subst (λ y. P (k + 1) y) (sym (get_or_push xs x nowhere k is)) (subst (λ n. P (n + 1) x) is here)
]

pub are_ways : (tree : List Incarnation) (i s : ℕ) (ways : List Span) → length ways ≡ length tree → ((k : ℕ) → k < length ways → IsWay tree i s (k + 1) (get_or ways k nowhere)) → AreWays tree i s ways
are_ways tree i s ways long each = record {
  each = λ j there.
      let ne : eqb j 0 ≡ false = ne_eqb j 0 (λ e. let up = there.0 in omega (arith, e, up)) in
      let up = there.0 in
      let top = there.1 in
      let is : (j - 1) + 1 ≡ j = omega (arith, up) in
      let at = each (j - 1) (omega (arith, up, top, long)) in
      subst (λ (x : Span). IsWay tree i s j x) (ap (λ c. cond c nowhere (get_or ways (j - 1) nowhere)) (sym ne)) (subst (λ n. IsWay tree i s n (get_or ways (j - 1) nowhere)) is at);
}
