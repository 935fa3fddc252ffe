-- Lists that grow, each two items related.
use Rattle.std.{specs.Prelude.{◌↔◌}, proofs.Common.{◌≡◌, ◌⊎◌, ◌∙◌, ℕ, List, [], ◌∷◌, ◌++◌, Contains, ap, sym, subst, arith, inl, inr}}
use Rattle.std.proofs.lemmas.List.{append-nil, append_assoc, Elements.{Contains-append_cases, Contains-append_left, Contains-append_right}}
use Rattle.rm_base.proofs.{Lists.{pairs-append, only-in}, Members.{none-in}}
use Rattle.rm_evidence.specs.Taking.{Extends}

-- nothing is told, and nothing is added
pub extends-none : {A : Type 0} (R : ℕ × A → ℕ × A → Type 0) (Is : ℕ → A → Type 0) (old new : List (ℕ × A)) → new ≡ old → ((id : ℕ) (a : A) → Is id a → ⊥) → Extends A R old Is new
extends-none {A} R Is old new same none = record {
  rest = [];
  list = same ∙ sym (append-nil old);
  related = λ i j d less inside. absurd (omega arith);
  exact = λ id a. ((λ has. absurd (none-in (id, a) has)), (λ is. absurd (none id a is)));
}

-- one is told, and no other, and it is added
pub extends-one : {A : Type 0} (R : ℕ × A → ℕ × A → Type 0) (Is : ℕ → A → Type 0) (old new : List (ℕ × A)) (id : ℕ) (a : A) → new ≡ old ++ (id, a) ∷ [] → Is id a → ((j : ℕ) (b : A) → Is j b → (id ≡ j) × (a ≡ b)) → Extends A R old Is new
extends-one {A} R Is old new id a same is one = record {
  rest = (id, a) ∷ [];
  list = same;
  related = λ i j d less inside. absurd (omega arith);
  exact = λ j b. (there j b, here j b);
}
  where
    there : (j : ℕ) (b : A) → Contains {X = ℕ × A} ((id, a) ∷ []) (j, b) → Is j b
    there j b has = subst (λ (x : ℕ × A). Is x.0 x.1) (only-in (id, a) (j, b) has) is

    pair : (j : ℕ) (b : A) → id ≡ j → a ≡ b → ◌≡◌ {A = ℕ × A} (id, a) (j, b)
    pair j b first second = cc

    here : (j : ℕ) (b : A) → Is j b → Contains {X = ℕ × A} ((id, a) ∷ []) (j, b)
    here j b is = let both = one j b is in (0, omega arith, pair j b both.0 both.1)

-- one after the other
pub extends-then : {A : Type 0} (R : ℕ × A → ℕ × A → Type 0) (P Q S : ℕ → A → Type 0) (xs ys zs : List (ℕ × A)) → Extends A R xs P ys → Extends A R ys Q zs → ((i j : ℕ) (x y : A) → P i x → Q j y → R (i, x) (j, y)) → ((i : ℕ) (x : A) → (P i x ⊎ Q i x) ↔ S i x) → Extends A R xs S zs
extends-then {A} R P Q S xs ys zs e f cross both = record {
  rest = e.rest ++ f.rest;
  list = f.list ∙ ap (λ (u : List (ℕ × A)). u ++ f.rest) e.list ∙ append_assoc xs e.rest f.rest;
  related = pairs-append R e.rest f.rest e.related f.related (λ x y here there. cross x.0 y.0 x.1 y.1 ((e.exact x.0 x.1).0 here) ((f.exact y.0 y.1).0 there));
  exact = λ i x. (told i x, listed i x);
}
  where
    told : (i : ℕ) (x : A) → Contains {X = ℕ × A} (e.rest ++ f.rest) (i, x) → S i x
    told i x has = elim (Contains-append_cases e.rest f.rest (i, x) has) [
      | inl here ↦ (both i x).0 (inl ((e.exact i x).0 here))
      | inr there ↦ (both i x).0 (inr ((f.exact i x).0 there))
    ]

    listed : (i : ℕ) (x : A) → S i x → Contains {X = ℕ × A} (e.rest ++ f.rest) (i, x)
    listed i x is = elim ((both i x).1 is) [
      | inl here ↦ Contains-append_left e.rest f.rest (i, x) ((e.exact i x).1 here)
      | inr there ↦ Contains-append_right e.rest f.rest (i, x) ((f.exact i x).1 there)
    ]

-- a list that grew by what is so grew by what is so by other words
pub extends-as : {A : Type 0} (R : ℕ × A → ℕ × A → Type 0) (Is As : ℕ → A → Type 0) (old new : List (ℕ × A)) → ((id : ℕ) (a : A) → Is id a → As id a) → ((id : ℕ) (a : A) → As id a → Is id a) → Extends A R old Is new → Extends A R old As new
extends-as R Is As old new to from e = record {
  rest = e.rest;
  list = e.list;
  related = e.related;
  exact = λ id a. (λ has. to id a ((e.exact id a).0 has), λ is. (e.exact id a).1 (from id a is));
}
