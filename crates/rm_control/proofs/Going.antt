-- The edits between two lists of records, made from the greatest key on.
use Rattle.std.specs.Prelude.{IfNone}
use Rattle.std.proofs.Common.{◌≡◌, ℕ, ◌+◌, ◌-◌, ◌<◌, List, [], ◌∷◌, ◌++◌, Option, Some, None, length, get_or, refl, ap, sym, subst, ◌∙◌, arith, ◌⊎◌, inl, inr, All}
use Rattle.std.proofs.lemmas.{Bool.{cases_lt}, List.{append-nil, append_assoc, get_or_default}}
use Rattle.rm_catalog.specs.{Edits.{below, after_edit, after_edits}, Keys.{Ascends, place_of, place_of_key}, declared.record.Edit.{Edit}}
use Rattle.rm_catalog.specs.declared.record.{Edit.TheVariants.{Put, Drop}, Record.{Record}}
use Rattle.rm_catalog.proofs.{Ascending.{ascends_after_all, ascends_front, front_below, rest_above}, Filters.{after_both}}
use Rattle.rm_catalog.proofs.Sides.{put_free, put_over, drop_over}
use Rattle.rm_control.specs.Steps.{IsStep, IsTaken, IsFree, IsReplaced}

-- what is left of both lists, and the records behind that both have after the edits
pub record Stands (wanted present : List Record) (edits : List Edit) (w p : List Record) : Type 0 where
  pub tail : List Record
  pub is : wanted ≡ w ++ tail
  pub made : after_edits edits present ≡ p ++ tail

pub stands_first : (wanted present : List Record) → Stands wanted present [] wanted present
stands_first wanted present = record { tail = []; is = sym (append-nil wanted); made = sym (append-nil present) }

pub stands_last : (wanted present : List Record) (edits : List Edit) (w p : List Record) → w ≡ [] → p ≡ [] → Stands wanted present edits w p
    → after_edits edits present ≡ wanted
stands_last wanted present edits w p no_w no_p at = at.made ∙ ap (λ (x : List Record). x ++ at.tail) (no_p ∙ sym no_w) ∙ sym at.is

-- a record goes from the end of what is left to the front of what stands behind
moved : (all rs rest tail : List Record) (r : Record) → all ≡ rs ++ tail → IsTaken rs r rest → all ≡ rest ++ r ∷ tail
moved all rs rest tail r is taken = is ∙ ap (λ (x : List Record). x ++ tail) taken ∙ append_assoc rest (r ∷ []) tail

pub stands_edit : (wanted present : List Record) (edits : List Edit) (w p w' p' : List Record) (e : Edit) → Ascends wanted → Ascends present
    → IsStep w p (Some e) w' p' → Stands wanted present edits w p
    → Stands wanted present (edits ++ e ∷ []) w' p'
stands_edit wanted present edits w p w' p' (Drop k) up down (stays, (f, gone, key)) at =
    let here = moved (after_edits edits present) p p' at.tail f at.made gone in
    let order : Ascends (p' ++ f ∷ at.tail) = subst (λ (x : List Record). Ascends x) here (ascends_after_all edits present down) in
    let same : place_of f ≡ place_of_key k = ap place_of_key key in
    record {
      tail = at.tail;
      is = at.is ∙ ap (λ (x : List Record). x ++ at.tail) (sym stays);
      made = after_both edits (Drop k ∷ []) present ∙ ap (λ (x : List Record). after_edit (Drop k) x) here
          ∙ drop_over k f p' at.tail same
          (λ i d lt. let h = front_below p' f at.tail order i d lt in omega arith) (λ i d lt. let h = rest_above p' f at.tail order i d lt in omega arith);
    }
stands_edit wanted present edits w p w' p' (Put r) up down (taken, free) at =
    let there = moved wanted w w' at.tail r at.is taken in
    let high : All (λ x. place_of r < place_of x) at.tail = rest_above w' r at.tail (subst (λ (x : List Record). Ascends x) there up) in
    let order : Ascends (p ++ at.tail) = subst (λ (x : List Record). Ascends x) at.made (ascends_after_all edits present down) in
    record {
      tail = r ∷ at.tail;
      is = there;
      made = after_both edits (Put r ∷ []) present ∙ ap (λ (x : List Record). after_edit (Put r) x) at.made ∙ put r p p' at.tail free order high;
    }
  where
    put : (r : Record) (p p' tail : List Record) → IsFree p r p' ⊎ IsReplaced p r p' → Ascends (p ++ tail) → All (λ x. place_of r < place_of x) tail
        → after_edit (Put r) (p ++ tail) ≡ p' ++ r ∷ tail
    put r p p' tail (inl (same, low)) order high = put_free r p tail (low (ascends_front p tail order)) high ∙ ap (λ (x : List Record). x ++ r ∷ tail) (sym same)
    put r p p' tail (inr (f, gone, same)) order high =
        let here = moved (p ++ tail) p p' tail f refl gone in
        let order' : Ascends (p' ++ f ∷ tail) = subst (λ (x : List Record). Ascends x) here order in
        ap (λ (x : List Record). after_edit (Put r) x) here
        ∙ put_over r f p' tail same (λ i d lt. let h = front_below p' f tail order' i d lt in omega arith) high

-- the last record of a list that ascends stands above all others
pub top_below : (xs : List Record) (e : Record) → e ≡ get_or xs (length xs - 1) e → Ascends xs → (k : ℕ) (d : Record) → k < length xs
    → place_of (get_or xs k d) < place_of e + 1
top_below xs e is up k d lt = elim (cases_lt k (length xs - 1)) [
  | inl low ↦
      let h : place_of (get_or xs k e) < place_of (get_or xs (length xs - 1) e) = up k (length xs - 1) e low (omega arith) in
      let here = ap place_of is in
      let there = ap place_of (get_or_default xs k d e lt) in
      omega (arith, h, here, there)
  | inr high ↦
      let last : k ≡ length xs - 1 = omega arith in
      let here = ap place_of is in
      let there = ap place_of (get_or_default xs k d e lt) in
      let same = ap (λ (n : ℕ). place_of (get_or xs n e)) last in
      omega (arith, here, there, same)
]

-- what stands below a number below a place stands below the place
pub below_place : (present seen : List Record) (low high : ℕ) (r : Record) → seen ≡ present → (Ascends seen → All (λ x. place_of x < low) seen)
    → low < high → high ≡ place_of r + 1 → Ascends present → All (λ x. place_of x < place_of r) present
below_place present seen low high r same below less is up k d lt =
    let h : place_of (get_or present k d) < low = subst (λ (xs : List Record). Ascends xs → All (λ x. place_of x < low) xs) same below up k d lt in
    omega (arith, h, less, is)

pub on_none : {X : Type 0} {P : Type 0} (o : Option X) → P → IfNone o P
on_none None p = p
on_none (Some x) p = tt
