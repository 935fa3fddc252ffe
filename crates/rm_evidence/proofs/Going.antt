-- Artefacts that records name, before and after obsolete records went.
use Rattle.std.proofs.Common.{◌≡◌, ◌∙◌, ◌⊎◌, ◌++◌, inl, inr, ℕ, List, sym, subst, map, Contains}
use Rattle.std.proofs.lemmas.List.Elements.{Contains-append_left, Contains-append_right, Contains-append_cases}
use Rattle.rm_evidence.specs.Gathered.{ListsBy}
use Rattle.rm_base.proofs.Lists.{map_to, map_from}

-- an artefact at hand, of a record or in place
abbrev pub seen : {A B : Type 0} → (A → B) → List (ℕ × A) → List B
seen f xs = map (λ x. f x.1) xs

-- an artefact of a record that is gone
pub record IsOfGone {A B : Type 0} (f : A → B) (Gone : ℕ → A → Type 0) (b : B) : Type 0 where
  pub id : ℕ
  pub item : A
  pub is : f item ≡ b
  pub gone : Gone id item

module _ {A B : Type 0} {R : ℕ × A → ℕ × A → Type 0} (f : A → B) (first last all new : List (ℕ × A)) (Was Is : ℕ → A → Type 0) (before : ListsBy A R first Was all) (after : ListsBy A R last Is new) where
  pub named_had : ((x : ℕ × A) → Contains last x → Contains (seen f first) (f x.1)) → ((id : ℕ) (a : A) → Is id a → Was id a) → (b : B) → Contains (seen f new) b → Contains (seen f all) b
  named_had placed had b held =
      let s = map_from (λ (x : ℕ × A). f x.1) new b held in
      subst (λ (xs : List (ℕ × A)). Contains (seen f xs) b) (sym before.list)
      (elim (Contains-append_cases last after.rest s.item (subst (λ (xs : List (ℕ × A)). Contains xs s.item) after.list s.held)) [
        | inl in_place ↦
            let t = map_from (λ (x : ℕ × A). f x.1) first (f s.item.1) (placed s.item in_place) in
            subst (Contains (seen f (first ++ before.rest))) (t.is ∙ s.is) (map_to (λ (x : ℕ × A). f x.1) (first ++ before.rest) t.item (Contains-append_left first before.rest t.item t.held))
        | inr named ↦
            let was = (before.exact s.item.0 s.item.1).1 (had s.item.0 s.item.1 ((after.exact s.item.0 s.item.1).0 named)) in
            subst (Contains (seen f (first ++ before.rest))) s.is (map_to (λ (x : ℕ × A). f x.1) (first ++ before.rest) s.item (Contains-append_right first before.rest s.item was))
      ])

  -- what a record names is at hand
  pub named_seen : (id : ℕ) (a : A) → Is id a → Contains (seen f new) (f a)
  named_seen id a is =
      subst (λ (xs : List (ℕ × A)). Contains (seen f xs) (f a)) (sym after.list) (map_to (λ (x : ℕ × A). f x.1) (last ++ after.rest) (id, a) (Contains-append_right last after.rest (id, a) ((after.exact id a).1 is)))

  pub named_stays : ((x : ℕ × A) → Contains first x → Contains (seen f last) (f x.1)) → (Gone : ℕ → A → Type 0) → ((id : ℕ) (a : A) → Was id a → Is id a ⊎ Gone id a) → (b : B) → Contains (seen f all) b → Contains (seen f new) b ⊎ IsOfGone f Gone b
  named_stays placed Gone stays b held =
      let s = map_from (λ (x : ℕ × A). f x.1) all b held in
      elim (Contains-append_cases first before.rest s.item (subst (λ (xs : List (ℕ × A)). Contains xs s.item) before.list s.held)) [
        | inl in_place ↦
            let t = map_from (λ (x : ℕ × A). f x.1) last (f s.item.1) (placed s.item in_place) in
            inl (subst (λ (xs : List (ℕ × A)). Contains (seen f xs) b) (sym after.list) (subst (Contains (seen f (last ++ after.rest))) (t.is ∙ s.is) (map_to (λ (x : ℕ × A). f x.1) (last ++ after.rest) t.item (Contains-append_left last after.rest t.item t.held))))
        | inr named ↦ elim (stays s.item.0 s.item.1 ((before.exact s.item.0 s.item.1).0 named)) [
          | inl is ↦ inl (subst (Contains (seen f new)) s.is (named_seen s.item.0 s.item.1 is))
          | inr gone ↦ inr (record { id = s.item.0; item = s.item.1; is = s.is; gone = gone })
        ]
      ]
