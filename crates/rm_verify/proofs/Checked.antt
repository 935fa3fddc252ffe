-- What a crosscheck says of a record.
use Rattle.std.specs.Option.{option_map}
use Rattle.std.proofs.Common.{◌≡◌, ◌∙◌, ℕ, Bool, true, false, cond, List, [], ◌∷◌, Option, Some, None, refl, ap, sym}
use Rattle.std.proofs.lemmas.Option.{same_Some}
use Rattle.rm_base.specs.declared.kinds.{Class.{Class}, Status.{Status}}
use Rattle.rm_catalog.specs.declared.record.Record.{Record, TheVariants.{Log, Piece, Set}}
use Rattle.rm_evidence.{specs.{Gathered.{Lists}, Names.{object_id}}, proofs.Single.{IsOfOne}}
use Rattle.rm_verify.specs.{Classes.{is_of, object_in}, Crosscheck.{IsChecked, checked, status_after}, Told.{Tells}}
use Rattle.rm_verify.{specs.declared.object.Expected.{Expected}, proofs.Growing.{one-told, told-of-one}}

-- what is said under a test is said where it passes
pub passed : {X : Type 0} (b : Bool) (o : Option X) (x : X) → cond b o None ≡ Some x → (b ≡ true) × (o ≡ Some x)
passed true o x is = (refl, is)
passed false o x is = absurd cc

-- the id that is told is the record's
ids-are : (r : Record) → object_id r ≡ option_map (λ (x : Expected). x.id) (object_in r)
ids-are (Log l) = refl
ids-are (Piece p) = refl
ids-are (Set e) = refl
ids-are _ = refl

pub numbered : (r : Record) (x : Expected) → object_in r ≡ Some x → object_id r ≡ Some x.id
numbered r x is = ids-are r ∙ ap (λ (o : Option Expected). option_map (λ y. y.id) o) is

-- what is made of something is made of what is there
pub made : {X Y : Type 0} (f : X → Y) (o : Option X) (y : Y) → option_map f o ≡ Some y → (x : X) × (o ≡ Some x) × (f x ≡ y)
made f None y is = absurd cc
made f (Some x) y is = (x, refl, same_Some (f x) y is)

-- the id of an object, and the status that its record gets
abbrev pub judged : (List ℕ → Bool) → Expected → ℕ × Status
judged stands x = (x.id, status_after x.status (stands x.name))

module _ (stands : List ℕ → Bool) (class : Class) where
  pub is-numbered : (r : Record) (id : ℕ) (status : Status) → checked stands class r ≡ Some (id, status) → object_id r ≡ Some id
  is-numbered r id status is =
      let told = (passed (is_of class r) _ (id, status) is).1 in
      let x = made (judged stands) (object_in r) (id, status) told in
      numbered r x.0 x.1 ∙ ap (λ (y : ℕ × Status). Some y.0) x.2

  pub is-of-one : IsOfOne Status (λ rs. IsChecked stands rs class)
  is-of-one = told-of-one (checked stands class) is-numbered

  pub tells : (r : Record) (found : Option (ℕ × Status)) → found ≡ checked stands class r → Tells (IsChecked stands (r ∷ []) class) found
  tells = one-told (checked stands class) is-numbered

-- two tests that answer alike say the same
alike-checked : (f g : List ℕ → Bool) (class : Class) (r : Record) → ((n : List ℕ) → f n ≡ g n) → checked f class r ≡ checked g class r
alike-checked f g class r same = ap (λ (o : Option (ℕ × Status)). cond (is_of class r) o None) (inner (object_in r))
  where
    inner : (o : Option Expected) → option_map (judged f) o ≡ option_map (judged g) o
    inner None = refl
    inner (Some x) = ap (λ (b : Bool). let y : ℕ × Status = (x.id, status_after x.status b) in Some y) (same x.name)

-- and so do their lists
pub lists-alike : (f g : List ℕ → Bool) (rs : List Record) (class : Class) (list : List (ℕ × Status)) → ((n : List ℕ) → f n ≡ g n) → Lists Status [] (IsChecked f rs class) list → Lists Status [] (IsChecked g rs class) list
lists-alike f g rs class list same lists = record {
  rest = lists.rest;
  list = lists.list;
  ascends = lists.ascends;
  exact = λ id status. (
    λ has. let is = (lists.exact id status).0 has in (is.0, is.1, sym (alike-checked f g class is.0 same) ∙ is.2),
    λ is. (lists.exact id status).1 (is.0, is.1, alike-checked f g class is.0 same ∙ is.2),
  );
}
