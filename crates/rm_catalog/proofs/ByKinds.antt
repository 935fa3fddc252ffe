-- What is said by lists of kinds: of ids of objects, and of the records of a saved site.
use Rattle.std.specs.{Prelude.{◌||◌}, List.{list_any}}
use Rattle.std.proofs.Common.{◌≡◌, ◌∙◌, ℕ, eqb, leb, ltb, true, false, List, [], ◌∷◌, arith, eq-eqb, refl, sym, All}
use Rattle.std.proofs.lemmas.{Bool.{eqb-true, true≢false, Decides.{nat_tests}}, List.Elements.{All-contains, All-cons, All-nil}}
use Rattle.std.proofs.lemmas.Map.Views.{Contains-from_any}
use Rattle.rm_catalog.specs.{Keys.{IsThere, place, place_of}, Objects.{IdRule, IsFree, id_kinds}, Rules.{is_lasting}}
use Rattle.rm_catalog.specs.declared.record.Record.{Record}
use Rattle.rm_catalog.specs.declared.record.Record.TheVariants as records

-- no record of another kind of objects has the id
pub free-in : (rs : List Record) (kind id other : ℕ) → IdRule rs kind id → list_any (eqb other) id_kinds ≡ true → eqb other kind ≡ false → ¬ IsThere other id rs
free-in rs kind id other rule among apart there =
    All-contains (IsFree rs kind id) id_kinds other rule.free (Contains-from_any {eq = eqb} eqb-true other id_kinds among) (λ same. true≢false (sym (eq-eqb other kind same) ∙ apart)) there

-- an id is free in all kinds where it is in each
pub all-free : (rs : List Record) (kind id : ℕ) → IsFree rs kind id 4 → IsFree rs kind id 5 → IsFree rs kind id 7 → IsFree rs kind id 9 → All (IsFree rs kind id) id_kinds
all-free rs kind id logs pieces parts sets =
    let free = IsFree rs kind id in
    All-cons free 4 (5 ∷ 7 ∷ 9 ∷ []) logs (All-cons free 5 (7 ∷ 9 ∷ []) pieces (All-cons free 7 (9 ∷ []) parts (All-cons free 9 [] sets (All-nil free))))

-- a kind is no other one than itself
pub own-free : (rs : List Record) (kind id : ℕ) → IsFree rs kind id kind
own-free rs kind id apart = absurd (apart refl)

-- a record is of no saved site where its place is in front of kind 7 or behind kind 8
pub lasting-place : (r : Record) → is_lasting r ≡ (ltb (place_of r) (place 7 0) || leb (place 9 0) (place_of r))
lasting-place (records.Base b) = refl
lasting-place (records.Incarnation i) = grind (arith, nat_tests)
lasting-place (records.Datafile f) = grind (arith, nat_tests)
lasting-place (records.Log l) = grind (arith, nat_tests)
lasting-place (records.Piece p) = grind (arith, nat_tests)
lasting-place (records.Mark m) = grind (arith, nat_tests)
lasting-place (records.Part p) = grind (arith, nat_tests)
lasting-place (records.Head h) = refl
lasting-place (records.Set s) = grind (arith, nat_tests)
lasting-place (records.Switch x) = grind (arith, nat_tests)
