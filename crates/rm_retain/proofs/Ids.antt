-- The ids of obsolete records, one record after the other, and in order.
use Rattle.std.specs.{Bool.{Decides}, List.Sorted.{IsNonDecreasingBy, IsPermutation}}
use Rattle.std.proofs.Common.{◌≡◌, ◌≢◌, ◌<◌, ◌≤◌, ◌+◌, eqb, ◌∙◌, ◌∷◌, ◌++◌, [], ℕ, List, Some, inl, inr, take, length, get_or, AllPairs, Contains, refl, ap, sym, subst, arith}
use Rattle.std.proofs.lemmas.{Bool.Decides.{Decides-eqb, nat_tests}, Map.Keys.{IsDistinct-IsPermutation}}
use Rattle.std.proofs.lemmas.Map.Made.{AllPairs-from_IsDistinct, IsDistinct-from_AllPairs}
use Rattle.rm_catalog.specs.{Keys.{key_of}, declared.record.Record.{Record}}
use Rattle.rm_catalog.specs.declared.record.Record.TheVariants as records
use Rattle.rm_base.proofs.Lists.{at_end, front_or_end, in_front_part, take_more, pairs-append, only-in}
use Rattle.rm_evidence.{specs.Names.{object_id}, proofs.Single.{AreRelated}}
use Rattle.rm_retain.specs.{Chosen.{Retention}, Catalogued.{IsObsoleteRecord, AreObsolete}}

-- a record more that is obsolete
pub exactly_more : (r : Retention) (rs : List Record) (row : Record) (ids : List ℕ) → AreObsolete rs r ids → IsObsoleteRecord r row → AreObsolete (rs ++ row ∷ []) r (ids ++ (key_of row).id ∷ [])
exactly_more r rs row ids all is id = (
  λ held. elim (front_or_end ids (key_of row).id id held) [
    | inl before ↦ let x = (all id).0 before in record { row = x.row; held = in_front_part rs row x.row x.held; is = x.is; number = x.number }
    | inr last ↦ record { row = row; held = at_end rs row; is = is; number = last }
  ],
  λ x. elim (front_or_end rs row x.row x.held) [
    | inl before ↦ in_front_part ids (key_of row).id id ((all id).1 (record { row = x.row; held = before; is = x.is; number = x.number }))
    | inr last ↦
        let number : (key_of row).id ≡ id = ap (λ (y : Record). (key_of y).id) last ∙ x.number in
        subst (Contains (ids ++ (key_of row).id ∷ [])) number (at_end ids (key_of row).id)
  ],
)

-- a record more that is not
pub exactly_same : (r : Retention) (rs : List Record) (row : Record) (ids : List ℕ) → AreObsolete rs r ids → ¬ IsObsoleteRecord r row → AreObsolete (rs ++ row ∷ []) r ids
exactly_same r rs row ids all off id = (
  λ held. let x = (all id).0 held in record { row = x.row; held = in_front_part rs row x.row x.held; is = x.is; number = x.number },
  λ x. elim (front_or_end rs row x.row x.held) [
    | inl before ↦ (all id).1 (record { row = x.row; held = before; is = x.is; number = x.number })
    | inr last ↦ absurd (off (subst (IsObsoleteRecord r) (sym last) x.is))
  ],
)

-- an obsolete record has an object, and its id
object_of : (r : Retention) (s : Record) → IsObsoleteRecord r s → object_id s ≡ Some (key_of s).id
object_of r (records.Log l) is = refl
object_of r (records.Piece p) is = refl
object_of r (records.Set e) is = refl
object_of r _ is = absurd is

-- one row more of a list that is read in order
pub exactly_taken : (r : Retention) (xs : List Record) (i : ℕ) (row : Record) (ids : List ℕ) → i < length xs → row ≡ get_or xs i row → AreObsolete (take i xs) r ids → IsObsoleteRecord r row → AreObsolete (take (i + 1) xs) r (ids ++ (key_of row).id ∷ [])
exactly_taken r xs i row ids inside is all gone =
    subst (λ ys. AreObsolete ys r (ids ++ (key_of row).id ∷ [])) (sym (take_more xs i row inside is)) (exactly_more r (take i xs) row ids all gone)

pub exactly_passed : (r : Retention) (xs : List Record) (i : ℕ) (row : Record) (ids : List ℕ) → i < length xs → row ≡ get_or xs i row → AreObsolete (take i xs) r ids → ¬ IsObsoleteRecord r row → AreObsolete (take (i + 1) xs) r ids
exactly_passed r xs i row ids inside is all off =
    subst (λ ys. AreObsolete ys r ids) (sym (take_more xs i row inside is)) (exactly_same r (take i xs) row ids all off)

-- its id is another than those before
pub apart_taken : (r : Retention) (xs : List Record) (i : ℕ) (row : Record) (ids : List ℕ) → AreRelated (λ m n. m ≢ n) (take i xs) row → AreObsolete (take i xs) r ids → IsObsoleteRecord r row → AllPairs (λ i j. i ≢ j) ids → AllPairs (λ i j. i ≢ j) (ids ++ (key_of row).id ∷ [])
apart_taken r xs i row ids others all gone apart =
    pairs-append (λ (i j : ℕ). i ≢ j) ids ((key_of row).id ∷ []) apart (λ j k d less inside. absurd (omega arith))
    (λ x y held one.
    let before = (all x).0 held in
    let last = only-in (key_of row).id y one in
    λ same. others before.row (key_of before.row).id (key_of row).id before.held (object_of r before.row before.is) (object_of r row gone) (before.number ∙ same ∙ sym last))

decides : (a b : ℕ) → Decides (eqb a b) (a ≡ b)
decides a b = Decides-eqb a b

flips : (m n : ℕ) → eqb m n ≡ eqb n m
flips m n = grind (arith, nat_tests)

strictly : (m n : ℕ) → m ≤ n → m ≢ n → m < n
strictly m n le differ = grind arith

-- ids that are apart ascend strictly once they are sorted
pub sorted_ascends : (xs ys : List ℕ) → AllPairs (λ i j. i ≢ j) xs → IsPermutation xs ys → IsNonDecreasingBy (λ x. x) ys → AllPairs (λ i j. i < j) ys
sorted_ascends xs ys differ moved order =
    let differing = AllPairs-from_IsDistinct {eq = eqb} decides ys (IsDistinct-IsPermutation eqb flips xs ys moved (IsDistinct-from_AllPairs {eq = eqb} decides xs differ)) in
    λ i j d less inside. strictly (get_or ys i d) (get_or ys j d) (order i j d (omega arith) inside) (differing i j d less inside)
