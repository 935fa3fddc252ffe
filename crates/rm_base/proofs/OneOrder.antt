-- Lists that ascend in one order and have the same items are one.
use Rattle.std.{specs.Prelude.{◌↔◌}, proofs.Common.{◌≡◌, ◌∙◌, inl, inr, List, [], ◌∷◌, ap, refl, sym, subst, AllPairs, Contains}}
use Rattle.rm_base.proofs.{Members.{behind, first-or-rest, in-front, none-in}, Lists.{pairs-head, pairs-tail}}

-- no two stand before each other
abbrev pub IsOneWay : {X : Type 0} → (X → X → Type 0) → Type 0
IsOneWay {X} R = (x y : X) → R x y → R y x → ⊥

module _ {X : Type 0} (R : X → X → Type 0) (one-way : IsOneWay R) where
  -- behind the first stands another item
  not-behind : (x y p : X) (xs : List X) → AllPairs R (x ∷ xs) → y ≡ x → Contains xs p → y ≡ p → ⊥
  not-behind x y p xs up same has is =
      let before : R x x = subst (λ (z : X). R x z) (sym is ∙ same) (pairs-head R x xs p up has) in
      one-way x x before before

  pub one-order : (xs ys : List X) → AllPairs R xs → AllPairs R ys → ((p : X) → Contains xs p ↔ Contains ys p) → xs ≡ ys
  one-order [] [] up down both = refl
  one-order [] (y ∷ ys) up down both = absurd (none-in y ((both y).1 (in-front y ys)))
  one-order (x ∷ xs) [] up down both = absurd (none-in x ((both x).0 (in-front x xs)))
  one-order (x ∷ xs) (y ∷ ys) up down both =
      ap (λ z. z ∷ xs) (sym same) ∙ ap (λ zs. y ∷ zs) (one-order xs ys (pairs-tail R x xs up) (pairs-tail R y ys down) (λ p. (to p, from p)))
    where
      same : y ≡ x
      same = elim (first-or-rest x xs y ((both y).1 (in-front y ys))) [
        | inl is ↦ sym is
        | inr late ↦ elim (first-or-rest y ys x ((both x).0 (in-front x xs))) [
          | inl is ↦ is
          | inr later ↦ absurd (one-way x y (pairs-head R x xs y up late) (pairs-head R y ys x down later))
        ]
      ]

      to : (p : X) → Contains xs p → Contains ys p
      to p has = elim (first-or-rest y ys p ((both p).0 (behind x xs p has))) [
        | inr rest ↦ rest
        | inl is ↦ absurd (not-behind x y p xs up same has is)
      ]

      from : (p : X) → Contains ys p → Contains xs p
      from p has = elim (first-or-rest x xs p ((both p).1 (behind y ys p has))) [
        | inr rest ↦ rest
        | inl is ↦ absurd (not-behind y x p ys down (sym same) has is)
      ]
