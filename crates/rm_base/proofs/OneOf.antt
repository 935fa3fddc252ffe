-- Of objects that ascend by id, at most one has an id.
use Rattle.std.proofs.Common.{◌≡◌, ◌∙◌, ◌+◌, ◌<◌, ◌==◌, ◌++◌, inl, inr, ℕ, List, [], ◌∷◌, Option, Some, None, cond, refl, ap, sym, arith, filter, find, map, AllPairs}
use Rattle.std.proofs.lemmas.{Bool.{cases_Bool, eqb-true, Decides.{nat_tests}}, List.{append-nil}}
use Rattle.rm_base.proofs.Lists.{filter_none, pairs-tail}

-- what is found, as a list
abbrev pub listed : {A : Type 0} → Option A → List A
listed None = []
listed (Some x) = x ∷ []

module _ {A : Type 0} (id : A → ℕ) (n : ℕ) where
  abbrev Ascend : A → A → Type 0
  Ascend x y = id x < id y

  -- the one that is found is all there is
  pub one-of : (xs : List A) → AllPairs Ascend xs → filter (λ x. id x == n) xs ≡ listed (find (λ x. id x == n) xs)
  one-of [] up = refl
  one-of (x ∷ xs) up = elim (cases_Bool (id x == n)) [
    | inl same ↦
        let here = eqb-true (id x) n same in
        let none : filter (λ y. id y == n) xs ≡ [] = filter_none (λ y. id y == n) xs (λ k d inside. let more = up 0 (1 + k) d (omega arith) (omega (arith, inside)) in grind (arith, nat_tests)) in
        ap (λ b. cond b (x ∷ filter (λ y. id y == n) xs) (filter (λ y. id y == n) xs)) same ∙ ap (λ ys. x ∷ ys) none ∙ sym (ap (λ b. listed (cond b (Some x) (find (λ y. id y == n) xs))) same)
    | inr other ↦
        ap (λ b. cond b (x ∷ filter (λ y. id y == n) xs) (filter (λ y. id y == n) xs)) other ∙ one-of xs (pairs-tail Ascend x xs up) ∙ sym (ap (λ b. listed (cond b (Some x) (find (λ y. id y == n) xs))) other)
  ]

  module _ (name : A → List ℕ) (xs : List A) (up : AllPairs Ascend xs) (names : List (List ℕ)) where
    -- where none is found no name is added
    pub no-name : find (λ x. id x == n) xs ≡ None → names ≡ names ++ map name (filter (λ x. id x == n) xs)
    no-name none = sym (append-nil names) ∙ ap (λ ys. names ++ map name ys) (sym (one-of xs up ∙ ap listed none))

    -- else the one's
    pub one-name : (x : A) (by : List ℕ) (new : List (List ℕ)) → find (λ x. id x == n) xs ≡ Some x → by ≡ name x → new ≡ names ++ by ∷ [] → new ≡ names ++ map name (filter (λ x. id x == n) xs)
    one-name x by new is named added = added ∙ ap (λ y. names ++ y ∷ []) named ∙ ap (λ ys. names ++ map name ys) (sym (one-of xs up ∙ ap listed is))
