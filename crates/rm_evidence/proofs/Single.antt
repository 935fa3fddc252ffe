-- What is so of records is so by one of them, which has the id.
use Rattle.std.{specs.Prelude.{◌↔◌}, proofs.Common.{◌≡◌, ◌⊎◌, ◌<◌, ℕ, List, [], ◌∷◌, ◌++◌, Some, Contains, inl, inr}}
use Rattle.std.proofs.lemmas.List.Elements.{Contains-append_cases, Contains-append_left, Contains-append_right}
use Rattle.rm_catalog.specs.declared.record.Record.{Record}
use Rattle.rm_evidence.{specs.{Names.{object_id}, Taking.{Extends}}, proofs.Extending.{extends-then}}

pub record IsOfOne (A : Type 0) (P : List Record → ℕ → A → Type 0) : Type 0 where
  pub one : (rs : List Record) (id : ℕ) (a : A) → P rs id a → (r : Record) × Contains rs r × P (r ∷ []) id a
  pub all : (rs : List Record) (r : Record) (id : ℕ) (a : A) → Contains rs r → P (r ∷ []) id a → P rs id a
  pub number : (r : Record) (id : ℕ) (a : A) → P (r ∷ []) id a → object_id r ≡ Some id

-- the ids of objects before the record's are so related to its own
abbrev pub AreRelated : (ℕ → ℕ → Type 0) → List Record → Record → Type 0
AreRelated Q xs r = (x : Record) (i j : ℕ) → Contains xs x → object_id x ≡ Some i → object_id r ≡ Some j → Q i j

-- objects before the record's have lower ids
abbrev pub IsAhead : List Record → Record → Type 0
IsAhead = AreRelated (λ i j. i < j)

module _ (A : Type 0) (P : List Record → ℕ → A → Type 0) (single : IsOfOne A P) where
  pub split : (xs ys : List Record) (id : ℕ) (a : A) → (P xs id a ⊎ P ys id a) ↔ P (xs ++ ys) id a
  split xs ys id a = (join, part)
    where
      join : P xs id a ⊎ P ys id a → P (xs ++ ys) id a
      join (inl p) = let o = single.one xs id a p in single.all (xs ++ ys) o.0 id a (Contains-append_left xs ys o.0 o.1) o.2
      join (inr p) = let o = single.one ys id a p in single.all (xs ++ ys) o.0 id a (Contains-append_right xs ys o.0 o.1) o.2

      part : P (xs ++ ys) id a → P xs id a ⊎ P ys id a
      part p =
          let o = single.one (xs ++ ys) id a p in
          elim (Contains-append_cases xs ys o.0 o.1) [
            | inl has ↦ inl (single.all xs o.0 id a has o.2)
            | inr has ↦ inr (single.all ys o.0 id a has o.2)
          ]

  -- one record more
  pub extends-more : (Q : ℕ → ℕ → Type 0) (R : ℕ × A → ℕ × A → Type 0) (xs : List Record) (r : Record) (a b c : List (ℕ × A)) → ((i j : ℕ) (x y : A) → Q i j → R (i, x) (j, y)) → AreRelated Q xs r
      → Extends A R a (P xs) b → Extends A R b (P (r ∷ [])) c → Extends A R a (P (xs ++ r ∷ [])) c
  extends-more Q R xs r a b c relates related before more =
      extends-then R (P xs) (P (r ∷ [])) (P (xs ++ r ∷ [])) a b c before more
      (λ i j x y p q. let o = single.one xs i x p in relates i j x y (related o.0 i j o.1 (single.number o.0 i x o.2) (single.number r j y q)))
      (split xs (r ∷ []))

  -- so of each list with the same objects
  pub same-objects : (xs ys : List Record) → ((r : Record) (id : ℕ) → object_id r ≡ Some id → Contains xs r → Contains ys r) → (id : ℕ) (a : A) → P xs id a → P ys id a
  same-objects xs ys to id a p = let o = single.one xs id a p in single.all ys o.0 id a (to o.0 id (single.number o.0 id a o.2) o.1) o.2
