-- Parts under ids, one after another.
use Rattle.std.proofs.Common.{◌≡◌, ◌<◌, ◌≤◌, ◌+◌, ◌∙◌, inl, inr, ℕ, suc, List, [], ◌∷◌, ap, sym, subst, arith, length, AllPairs, Contains}
use Rattle.std.proofs.lemmas.List.{Elements.{All-contains}, Kept.{AllPairs-cons}}
use Rattle.rm_base.proofs.{Members.{behind, in-front, none-in, first-or-rest}, Standing.{each-in}}
use Rattle.rm_machine.specs.Saving.{SitePart, with_ids}

-- made of one of these parts, which has an id, the same for all that is made of it
pub record IsUnderId {A : Type 0} (make : ℕ → SitePart → A) (n : ℕ) (ps : List SitePart) (y : A) : Type 1 where
  pub at : ℕ
  pub inside : at < length ps
  pub part : SitePart
  pub held : Contains ps part
  pub is : make (n + at) part ≡ y
  pub under : {B : Type 0} (other : ℕ → SitePart → B) → Contains (with_ids other n ps) (other (n + at) part)

pub ids-from : {A : Type 0} (make : ℕ → SitePart → A) (n : ℕ) (ps : List SitePart) (y : A) → Contains (with_ids make n ps) y → IsUnderId make n ps y
ids-from make n [] y has = absurd (none-in y has)
ids-from make n (p ∷ ps) y has = elim (first-or-rest (make n p) (with_ids make (n + 1) ps) y has) [
  | inl same ↦
      let here : n + 0 ≡ n = omega arith in
      record {
        at = 0;
        inside = omega arith;
        part = p;
        held = in-front p ps;
        is = ap (λ k. make k p) here ∙ same;
        under = λ {B} other. subst (λ (z : B). Contains (with_ids other n (p ∷ ps)) z) (ap (λ k. other k p) (sym here)) (in-front (other n p) (with_ids other (n + 1) ps));
      }
  | inr rest ↦
      let later = ids-from make (n + 1) ps y rest in
      let inside = later.inside in
      let next : n + suc later.at ≡ n + 1 + later.at = omega arith in
      record {
        at = suc later.at;
        inside = omega (arith, inside);
        part = later.part;
        held = behind p ps later.part later.held;
        is = ap (λ k. make k later.part) next ∙ later.is;
        under = λ {B} other.
            subst (λ (z : B). Contains (with_ids other n (p ∷ ps)) z) (ap (λ k. other k later.part) (sym next))
            (behind (other n p) (with_ids other (n + 1) ps) (other (n + 1 + later.at) later.part) (later.under other));
      }
]

-- each part has its id
pub ids-to : (n : ℕ) (ps : List SitePart) (p : SitePart) → Contains ps p → IsUnderId (λ id q. q) n ps p
ids-to n ps p has = ids-from (λ id q. q) n ps p (same-list n ps has)
  where
    same-list : (k : ℕ) (qs : List SitePart) → Contains qs p → Contains (with_ids (λ id q. q) k qs) p
    same-list k [] has = has
    same-list k (q ∷ qs) has = elim (first-or-rest q qs p has) [
      | inl same ↦ subst (λ (z : SitePart). Contains (q ∷ with_ids (λ id r. r) (k + 1) qs) z) same (in-front q (with_ids (λ id r. r) (k + 1) qs))
      | inr rest ↦ behind q (with_ids (λ id r. r) (k + 1) qs) p (same-list (k + 1) qs rest)
    ]

-- what is so for each two parts that are so, under ids that ascend
pub ids-pairs : {A : Type 0} (make : ℕ → SitePart → A) (Q : SitePart → SitePart → Type 0) (R : A → A → Type 0) (top : ℕ) → ((i j : ℕ) (p q : SitePart) → i < j → j < top → Q p q → R (make i p) (make j q))
    → (n : ℕ) (ps : List SitePart) → n + length ps ≤ top → AllPairs Q ps → AllPairs R (with_ids make n ps)
ids-pairs make Q R top each n [] room apart = λ i j d less inside. absurd (omega (arith, inside))
ids-pairs {A} make Q R top each n (p ∷ ps) room apart =
    AllPairs-cons R (make n p) (with_ids make (n + 1) ps)
    (each-in (R (make n p)) (with_ids make (n + 1) ps) (λ y has.
    let from = ids-from make (n + 1) ps y has in
    subst (R (make n p)) from.is (each n (n + 1 + from.at) p from.part (omega arith) (omega (arith, from.inside, room))
    (All-contains (Q p) ps from.part (λ k d in-ps. apart 0 (suc k) d (omega arith) (omega (arith, in-ps))) from.held))))
    (ids-pairs make Q R top each (n + 1) ps (omega (arith, room)) (λ i j d less in-ps. apart (suc i) (suc j) d (omega (arith, less)) (omega (arith, in-ps))))
