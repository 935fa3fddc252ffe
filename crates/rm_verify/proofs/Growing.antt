-- Lists that grow by what is told of one record after the other.
use Rattle.std.specs.Prelude.{IsPermutation}
use Rattle.std.proofs.Common.{◌≡◌, ◌≢◌, ◌∙◌, ◌+◌, ◌<◌, ◌≤◌, ℕ, List, [], ◌∷◌, ◌++◌, length, get_or, take, Option, Some, None, AllPairs, Contains, refl, ap, sym, subst, arith}
use Rattle.std.proofs.{Math.Seq.{take-length}, lemmas.List.{take_more, Sorted.{Contains-permutation, IsPermutation-sym}}}
use Rattle.std.proofs.lemmas.Option.{same_Some}
use Rattle.rm_base.proofs.{Members.{in-front}, Lists.{only-in}}
use Rattle.rm_catalog.specs.{Rules.{IsCatalog}, declared.record.Record.{Record}}
use Rattle.rm_evidence.{specs.{Gathered.{Lists}, Names.{object_id}, Taking.{Extends}}, proofs.Extending.{extends-none, extends-one}}
use Rattle.rm_evidence.proofs.{Runs.{is-apart}, Single.{IsOfOne, extends-more}}
use Rattle.rm_verify.specs.Told.{Tells, with_found}

-- they have different ids
abbrev pub AreApart : {A : Type 0} → ℕ × A → ℕ × A → Type 0
AreApart x y = x.0 ≢ y.0

-- the list has exactly what is so of the records
abbrev pub Has : (A : Type 0) → (ℕ → A → Type 0) → List (ℕ × A) → Type 0
Has A Is list = Extends A AreApart [] Is list

-- what a function tells of a record is told of the object of its id
module _ {A : Type 0} (tell : Record → Option (ℕ × A)) (numbered : (r : Record) (id : ℕ) (a : A) → tell r ≡ Some (id, a) → object_id r ≡ Some id) where
  -- it tells this of one of the records
  abbrev pub IsTold : List Record → ℕ → A → Type 0
  IsTold rs id a = (r : Record) × Contains rs r × (tell r ≡ Some (id, a))

  said : (r s : Record) (y : ℕ × A) → Contains (r ∷ []) s → tell s ≡ Some y → tell r ≡ Some y
  said r s y has is = ap tell (only-in r s has) ∙ is

  pub told-of-one : IsOfOne A IsTold
  told-of-one = record {
    one = λ rs id a is. (is.0, is.1, (is.0, in-front is.0 [], is.2));
    all = λ rs r id a has is. (r, has, said r is.0 (id, a) is.1 is.2);
    number = λ r id a is. numbered r id a (said r is.0 (id, a) is.1 is.2);
  }

  pub one-told : (r : Record) (found : Option (ℕ × A)) → found ≡ tell r → Tells (IsTold (r ∷ [])) found
  one-told r found same = λ id a. (λ is. (r, in-front r [], sym same ∙ is), λ is. same ∙ said r is.0 (id, a) is.1 is.2)

module _ (A : Type 0) (P : List Record → ℕ → A → Type 0) (single : IsOfOne A P) where
  added : (r : Record) (old new : List (ℕ × A)) (found : Option (ℕ × A)) → Tells (P (r ∷ [])) found → new ≡ with_found old found → Extends A AreApart old (P (r ∷ [])) new
  added r old new None tells same = extends-none AreApart (P (r ∷ [])) old new same (λ id a is. absurd (let no : None ≡ Some (id, a) = (tells id a).1 is in cc))
  added r old new (Some x) tells same =
      extends-one AreApart (P (r ∷ [])) old new x.0 x.1 same ((tells x.0 x.1).0 refl)
      (λ j b is. let one : x ≡ (j, b) = same_Some x (j, b) ((tells j b).1 is) in (ap (λ (y : ℕ × A). y.0) one, ap (λ (y : ℕ × A). y.1) one))

  -- one record more
  pub next : (xs rs : List Record) (i : ℕ) (r : Record) (old new : List (ℕ × A)) (found : Option (ℕ × A)) → xs ≡ rs → IsCatalog rs → i < length xs → r ≡ get_or xs i r
      → Has A (P (take i xs)) old → Tells (P (r ∷ [])) found → new ≡ with_found old found → Has A (P (take (i + 1) xs)) new
  next xs rs i r old new found all catalog inside is before tells same =
      let more : take (i + 1) xs ≡ take i xs ++ r ∷ [] = take_more xs i r inside ∙ ap (λ (x : Record). take i xs ++ x ∷ []) (sym is) in
      subst (λ (ys : List Record). Has A (P ys) new) (sym more) (
      extends-more A P single (λ m n. m ≢ n) AreApart (take i xs) r [] old new (λ m n x y differ. differ) (is-apart xs i r (subst IsCatalog (sym all) catalog) inside is) before (added r old new found tells same)
      )

  -- all records, once the list is sorted
  pub end : (xs rs : List Record) (i : ℕ) (list new : List (ℕ × A)) → xs ≡ rs → i ≤ length xs → length xs ≤ i → Has A (P (take i xs)) list → IsPermutation list new → (AllPairs AreApart list → AllPairs (λ x y. x.0 < y.0) new) → Lists A [] (P rs) new
  end xs rs i list new same within past told moved sorts =
      let ended : i ≡ length xs = omega arith in
      let all : take i xs ≡ rs = ap (λ (n : ℕ). take n xs) ended ∙ take-length xs ∙ same in
      let has : Has A (P rs) list = subst (λ (ys : List Record). Has A (P ys) list) all told in
      record {
        rest = new;
        list = refl;
        ascends = sorts (subst (λ (ys : List (ℕ × A)). AllPairs AreApart ys) (sym has.list) has.related);
        exact = λ id a. (
          λ in_new. (has.exact id a).0 (subst (λ (ys : List (ℕ × A)). Contains ys (id, a)) has.list (Contains-permutation new list (id, a) (IsPermutation-sym list new moved) in_new)),
          λ is. Contains-permutation list new (id, a) moved (subst (λ (ys : List (ℕ × A)). Contains ys (id, a)) (sym has.list) ((has.exact id a).1 is)),
        );
      }
