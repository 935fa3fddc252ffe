-- The records of objects, in the order of their ids.
use Rattle.std.specs.{List.{cons_option, filter_map}, Option.{option_map, option_map_or}, Prelude.{IsPermutation}}
use Rattle.std.proofs.Common.{◌≡◌, ◌≢◌, ◌∙◌, ◌+◌, ◌<◌, ◌≤◌, ℕ, List, [], ◌∷◌, ◌++◌, Option, Some, None, length, get_or, map, take, AllPairs, Contains, refl, ap, sym, subst, arith}
use Rattle.std.proofs.Math.Seq.{take-length}
use Rattle.std.proofs.lemmas.List.{append-nil, get_or-map, get_or-take, get_or_default, length-map, length-take, map-append, take_more}
use Rattle.std.proofs.lemmas.List.{Elements.{Contains-get_or, filter_map-append}, Kept.{AllPairs-cons}}
use Rattle.std.proofs.lemmas.{List.Sorted.{Contains-permutation, IsPermutation-map, IsPermutation-sym}, Option.{same_Some}}
use Rattle.rm_base.{specs.Store.{Held}, proofs.Lists.{map_from, map_to, pairs-head, pairs-tail, pairs-mapped}}
use Rattle.rm_catalog.{specs.{Rules.{IsCatalog}, declared.record.Record.{Record}}, proofs.Numbering.{rises_catalog}}
use Rattle.rm_catalog.proofs.{Telling.{record-told, told-record}, Running.{places-ascend}}
use Rattle.rm_evidence.specs.{Database.{Database, database_in, dbid_in}, Gathered.{IsGathered}, Names.{object_id}, Place.{placed_evidence}}
use Rattle.rm_evidence.specs.{Seen.{IsSeen}, Taking.{Adds, AreObjects, HasId, with_object}, declared.evidence.Evidence.{Evidence}}
use Rattle.rm_evidence.{specs.declared.evidence.InPlace.{InPlace}, proofs.Runs.{adds-by_objects, adds-then, apart, gathered}}
use Rattle.rm_evidence.proofs.{Seen.{adds-as, ahead-named, seen-more, seen-then}, Single.{IsAhead}}

-- what is told of each two records is so related
told-pairs : {A : Type 0} (tell : Record → Option A) (R : A → A → Type 0) (rs : List Record) → AllPairs (λ r s. (x y : A) → tell r ≡ Some x → tell s ≡ Some y → R x y) rs → AllPairs R (filter_map tell rs)
told-pairs tell R [] all = λ i j d less inside. absurd (omega arith)
told-pairs {A} tell R (r ∷ rs) all = step (tell r) refl (told-pairs tell R rs (pairs-tail (λ (s t : Record). (x y : A) → tell s ≡ Some x → tell t ≡ Some y → R x y) r rs all))
  where
    step : (o : Option A) → tell r ≡ o → AllPairs R (filter_map tell rs) → AllPairs R (cons_option o (filter_map tell rs))
    step None none pairs = pairs
    step (Some x) some pairs = AllPairs-cons R x (filter_map tell rs)
        (λ k d lt.
        let y = get_or (filter_map tell rs) k d in
        let from = told-record tell rs y (Contains-get_or (filter_map tell rs) k d lt) in
        pairs-head (λ (s t : Record). (x y : A) → tell s ≡ Some x → tell t ≡ Some y → R x y) r rs from.0 all from.1 x y some from.2)
        pairs

-- a record of an object, with its id
abbrev pub numbered : Record → Option (ℕ × Record)
numbered r = option_map (λ id. (id, r)) (object_id r)

is-numbered : (r : Record) (x : ℕ × Record) → numbered r ≡ Some x → (object_id r ≡ Some x.0) × (r ≡ x.1)
is-numbered r x is = decide (object_id r) refl is
  where
    decide : (o : Option ℕ) → object_id r ≡ o → option_map (λ id. (id, r)) o ≡ Some x → (object_id r ≡ Some x.0) × (r ≡ x.1)
    decide None e some = absurd cc
    decide (Some id) e some =
        let same : ◌≡◌ {A = ℕ × Record} (id, r) x = same_Some (id, r) x some in
        (e ∙ ap (λ (y : ℕ × Record). Some y.0) same, ap (λ (y : ℕ × Record). y.1) same)

-- one record more
pub numbered-more : (rs : List Record) (i : ℕ) (r : Record) → i < length rs → r ≡ get_or rs i r → with_object (filter_map numbered (take i rs)) r ≡ filter_map numbered (take (i + 1) rs)
numbered-more rs i r inside is =
    step (object_id r) ∙ sym (filter_map-append numbered (take i rs) (r ∷ []))
    ∙ ap (λ (xs : List Record). filter_map numbered xs) (sym (take_more rs i r inside ∙ ap (λ (x : Record). take i rs ++ x ∷ []) (sym is)))
  where
    step : (o : Option ℕ) → option_map_or (λ id. filter_map numbered (take i rs) ++ (id, r) ∷ []) o (filter_map numbered (take i rs)) ≡ filter_map numbered (take i rs) ++ cons_option (option_map (λ id. (id, r)) o) []
    step None = sym (append-nil (filter_map numbered (take i rs)))
    step (Some id) = refl

-- their ids differ
pub ids-differ : (rs : List Record) → IsCatalog rs → AllPairs (λ x y. x.0 ≢ y.0) (filter_map numbered rs)
ids-differ rs c = told-pairs numbered (λ (x y : ℕ × Record). x.0 ≢ y.0) rs
    (λ i j d less inside. λ x y first second.
    apart rs c (get_or rs i d) (get_or rs j d) x.0 y.0 (Contains-get_or rs i d (omega (arith, less, inside))) (Contains-get_or rs j d inside) (places-ascend 0 rs (rises_catalog rs c) i j d less inside)
    (is-numbered (get_or rs i d) x first).0 (is-numbered (get_or rs j d) y second).0)

-- what is read through references, in another order
pub are-objects : {X : Type 0} (see : X → ℕ × Record) (rs : List Record) (list sorted : List X) → IsCatalog rs → map see list ≡ filter_map numbered rs → IsPermutation list sorted
    → (AllPairs (λ x y. (see x).0 ≢ (see y).0) list → AllPairs (λ x y. (see x).0 < (see y).0) sorted) → AreObjects rs (map see sorted)
are-objects {X} see rs list sorted c same moved sorts = record {
  ascends = pairs-mapped see (λ (x y : X). (see x).0 < (see y).0) (λ (x y : ℕ × Record). x.0 < y.0) (λ x y less. less) sorted (sorts differ);
  exact = λ id r. (told id r, listed id r);
}
  where
    differ : AllPairs (λ x y. (see x).0 ≢ (see y).0) list
    differ i j d less inside =
        let all = ids-differ rs c in
        let within : j < length (filter_map numbered rs) = subst (λ (xs : List (ℕ × Record)). j < length xs) same (rw (length-map list see) inside) in
        λ one. subst (λ (xs : List (ℕ × Record)). AllPairs (λ x y. x.0 ≢ y.0) xs) (sym same) all i j (see d) less (rw (length-map list see) inside)
        (ap (λ (x : ℕ × Record). x.0) (get_or-map see list i d (see d) (omega (arith, less, inside))) ∙ one ∙ sym (ap (λ (x : ℕ × Record). x.0) (get_or-map see list j d (see d) inside)))

    told : (id : ℕ) (r : Record) → Contains {X = ℕ × Record} (map see sorted) (id, r) → Contains rs r × (object_id r ≡ Some id)
    told id r has =
        let before : Contains {X = ℕ × Record} (map see list) (id, r) = Contains-permutation (map see sorted) (map see list) (id, r) (IsPermutation-sym (map see list) (map see sorted) (IsPermutation-map see list sorted moved)) has in
        let from = told-record numbered rs (id, r) (subst (λ (xs : List (ℕ × Record)). Contains xs (id, r)) same before) in
        let is = is-numbered from.0 (id, r) from.2 in
        (subst (λ (x : Record). Contains rs x) is.1 from.1, subst (λ (x : Record). object_id x ≡ Some id) is.1 is.0)

    listed : (id : ℕ) (r : Record) → Contains rs r × (object_id r ≡ Some id) → Contains {X = ℕ × Record} (map see sorted) (id, r)
    listed id r is =
        let tells : numbered r ≡ Some (id, r) = ap (λ (o : Option ℕ). option_map (λ n. (n, r)) o) is.1 in
        Contains-permutation (map see list) (map see sorted) (id, r) (IsPermutation-map see list sorted moved)
        (subst (λ (xs : List (ℕ × Record)). Contains xs (id, r)) (sym same) (record-told numbered rs r (id, r) is.0 tells))

-- the records themselves
abbrev pub rows_of : List (ℕ × Record) → List Record
rows_of objects = map (λ (x : ℕ × Record). x.1) objects

-- the objects before one have lower ids
is-ahead : (rs : List Record) (objects : List (ℕ × Record)) (i : ℕ) (x : ℕ × Record) → AreObjects rs objects → i < length objects → x ≡ get_or objects i x → IsAhead (rows_of (take i objects)) x.1
is-ahead rs objects i x are inside is y m n has first second =
    let from = map_from (λ (z : ℕ × Record). z.1) (take i objects) y has in
    let z : ℕ × Record = from.item in
    let k = from.held.0 in
    let long = length-take i objects in
    let short = from.held.1 in
    let before : k < i = omega (arith, long, short, inside) in
    let at : get_or objects k z ≡ z = sym (get_or-take i objects k z before) ∙ from.held.2 in
    let earlier = (are.exact z.0 z.1).0 (k, omega (arith, before, inside), at) in
    let own = (are.exact x.0 x.1).0 (i, inside, sym is) in
    let low : m ≡ z.0 = same_Some m z.0 (sym first ∙ sym (ap object_id from.is) ∙ earlier.1) in
    let high : n ≡ x.0 = same_Some n x.0 (sym second ∙ own.1) in
    let less = are.ascends k i z before inside in
    let a = ap (λ (w : ℕ × Record). w.0) at in
    let b = ap (λ (w : ℕ × Record). w.0) (is ∙ get_or_default objects i x z inside) in
    omega (arith, low, high, less, a, b)

-- the objects are read from these items, one after the other
module _ {X : Type 0} (see : X → ℕ × Record) (rs : List Record) (items : List X) (are : AreObjects rs (map see items)) (o : Option Held) (i : ℕ) where
  -- the records of those before
  abbrev before : List Record
  before = rows_of (take i (map see items))

  -- one object more
  pub told-more : (p : Option Held) (base : Database) (x : X) (a b c : Evidence) → p ≡ o → i < length items → x ≡ get_or items i x → HasId (see x).1
      → IsSeen o (λ h. Adds h base before a b) → IsSeen p (λ h. Adds h base ((see x).1 ∷ []) b c) → IsSeen o (λ h. Adds h base (rows_of (take (i + 1) (map see items))) a c)
  told-more p base x a b c same inside is id told here =
      let y : ℕ × Record = see x in
      let within : i < length (map see items) = rw (length-map items see) inside in
      let at : y ≡ get_or (map see items) i y = ap see is ∙ sym (get_or-map see items i x y inside) in
      let ahead : IsAhead before y.1 = is-ahead rs (map see items) i y are within at in
      let more : rows_of (take (i + 1) (map see items)) ≡ before ++ y.1 ∷ [] =
      ap rows_of (take_more (map see items) i y within ∙ ap (λ (z : ℕ × Record). take i (map see items) ++ z ∷ []) (sym at)) ∙ map-append (λ (z : ℕ × Record). z.1) (take i (map see items)) (y ∷ []) in
      seen-more o p before y.1 (λ h. Adds h base (rows_of (take (i + 1) (map see items))) a c) same (ahead-named before y.1 ahead id) told here
      (λ held now for. adds-as base before held now a b for) (λ held now for. adds-as base (y.1 ∷ []) held now b c for)
      (λ h first second. subst (λ (ys : List Record). Adds h base ys a c) (sym more) (adds-then h base before y.1 a b c ahead first second))

  to : (r : Record) (id : ℕ) → object_id r ≡ Some id → Contains (rows_of (map see items)) r → Contains rs r
  to r id is has =
      let from = map_from (λ (x : ℕ × Record). x.1) (map see items) r has in
      subst (λ (x : Record). Contains rs x) from.is ((are.exact from.item.0 from.item.1).0 from.held).0

  from : (r : Record) (id : ℕ) → object_id r ≡ Some id → Contains rs r → Contains (rows_of (map see items)) r
  from r id is has = map_to (λ (x : ℕ × Record). x.1) (map see items) (id, r) ((are.exact id r).1 (has, is))

  -- all of them
  pub told-all : (place : InPlace) (first e : Evidence) → i ≤ length items → length items ≤ i → first ≡ placed_evidence (dbid_in rs) place → IsSeen o (λ h. Adds h (database_in rs) before first e) → IsSeen o (λ h. IsGathered h rs place e)
  told-all place first e within past begins told =
      let end : i ≡ length (map see items) = rw (length-map items see) (omega (arith, within, past)) in
      let all : take i (map see items) ≡ map see items = ap (λ (n : ℕ). take n (map see items)) end ∙ take-length (map see items) in
      seen-then o told (λ h adds.
      gathered h rs place e (adds-by_objects h (database_in rs) (rows_of (map see items)) rs to from (placed_evidence (dbid_in rs) place) e
      (coe 0 1 (i. Adds h (database_in rs) (rows_of (all i)) (begins i) e) adds)))
