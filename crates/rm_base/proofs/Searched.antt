-- What a search finds is there, and passes.
use Rattle.std.proofs.Common.{◌≡◌, ◌∙◌, inl, inr, List, Some, None, Bool, true, sym, subst, find, Contains}
use Rattle.std.proofs.lemmas.Option.{same_Some}
use Rattle.rm_base.proofs.Lists.{find_cases}

pub found-in : {X : Type 0} (p : X → Bool) (xs : List X) (x : X) → find p xs ≡ Some x → Contains xs x × (p x ≡ true)
found-in p xs x is = elim (find_cases p xs) [
  | inl none ↦ absurd (let clash : None ≡ Some x = sym none ∙ is in cc)
  | inr found ↦
      let same = same_Some found.item x (sym found.is ∙ is) in
      (subst (Contains xs) same found.held, subst (λ y. p y ≡ true) same found.passes)
]
