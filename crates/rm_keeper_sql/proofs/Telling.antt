-- Each edit that is made in the table is told by it.
use Rattle.std.specs.Ordering.{is_eq}
use Rattle.std.proofs.Common.{◌≡◌, ◌⊎◌, inl, inr, ℕ, ◌^◌, ◌<◌, ℤ, Bool, true, false, cond, not, ◌&&◌, eqb, ltb, List, [], ◌∷◌, ◌++◌, map, drop, filter, Ordering, Less, Equal, Greater, refl, sym, ap, subst, ◌∙◌, arith, true≢false, IsPermutation}
use Rattle.std.proofs.lemmas.Bool.{and_parts, and_from, or_parts, not-true, false_from_ne_true, Decides.{nat_tests}}
use Rattle.std.proofs.lemmas.List.Sorted.{IsPermutation-refl, IsPermutation-sym, IsPermutation-trans, IsPermutation-cons, IsPermutation-middle, IsPermutation-map, IsPermutation-filter_both}
use Rattle.sqlite_value.specs.Order.{Row, column, value_cmp}
use Rattle.sqlite_trees.{specs.Tree.{IsTable, rowid, put_row}, proofs.TreeLemmas.{IsTable-put_row}}
use Rattle.sqlite_trees.proofs.ListLemmas.{filter-map, IsPermutation-filter}
use Rattle.sqlite_rules.{specs.{Lists.{Has}, Edit.{is_taken}}, proofs.ListLemmas.{all_has, all_from, has_filtered, has_either}}
use Rattle.sqlite_rules.proofs.TableLemmas.{put_has}
use Rattle.rm_catalog.specs.{Keys.{key_of, place, place_of, place_of_key}, Edits.{below, above, after_edit, after_edits}}
use Rattle.rm_catalog.specs.declared.record.{Key.{Key}, Record.{Record}, Edit.{Edit, TheVariants.{Put, Drop}}}
use Rattle.rm_catalog.proofs.Filters.{after_both}
use Rattle.rm_catalog_bytes.specs.Spelling.{body_of}
use Rattle.rm_keeper_sql.specs.{Entries.{stored, IsEntry, is_number, has_key, others, IsKeyed, Upserted}, Shelves.{edits_at, records_at}}
use Rattle.rm_keeper_sql.specs.Table.{row_of, is_of, rows_at, IsTyped, Tells}
use Rattle.rm_keeper_sql.proofs.{Upsert.{same_number, own_number, filter_same, bool_same}, Delete.{filter_twice}}

-- ---- the records after one edit more

both : (b c : Bool) (x e : Edit) (es : List Edit)
    → cond b (x ∷ cond c (es ++ e ∷ []) es) (cond c (es ++ e ∷ []) es) ≡ cond c (cond b (x ∷ es) es ++ e ∷ []) (cond b (x ∷ es) es)
both true true x e es = refl
both true false x e es = refl
both false true x e es = refl
both false false x e es = refl

edits_push : (m n : ℕ) (e : Edit) (es : List (ℕ × Edit)) → edits_at m (es ++ (n, e) ∷ []) ≡ cond (eqb n m) (edits_at m es ++ e ∷ []) (edits_at m es)
edits_push m n e [] = refl
edits_push m n e (x ∷ es) = ap (λ l. cond (eqb x.0 m) (x.1 ∷ l) l) (edits_push m n e es) ∙ both (eqb x.0 m) (eqb n m) x.1 e (edits_at m es)

pub records_push : (m n : ℕ) (e : Edit) (es : List (ℕ × Edit))
    → records_at m (es ++ (n, e) ∷ []) ≡ cond (eqb n m) (after_edit e (records_at m es)) (records_at m es)
records_push m n e es = ap (λ l. after_edits l []) (edits_push m n e es) ∙ go (eqb n m)
  where
    go : (b : Bool) → after_edits (cond b (edits_at m es ++ e ∷ []) (edits_at m es)) [] ≡ cond b (after_edit e (records_at m es)) (records_at m es)
    go true = after_both (edits_at m es) (e ∷ []) []
    go false = refl

-- the records of another number stay
pub records_other : (m n : ℕ) (e : Edit) (es : List (ℕ × Edit)) → eqb n m ≡ false → records_at m (es ++ (n, e) ∷ []) ≡ records_at m es
records_other m n e es other = records_push m n e es ∙ ap (λ b. cond b (after_edit e (records_at m es)) (records_at m es)) other

pub records_own : (n : ℕ) (e : Edit) (es : List (ℕ × Edit)) → records_at n (es ++ (n, e) ∷ []) ≡ after_edit e (records_at n es)
records_own n e es = records_push n n e es ∙ ap (λ b. cond b (after_edit e (records_at n es)) (records_at n es)) (own_number n)

-- ---- places

unlike : (a p : ℕ) → ltb a p ≡ true → not (eqb a p) ≡ true
unlike a p h = grind (arith, nat_tests)

unlike_above : (a p : ℕ) → ltb p a ≡ true → not (eqb a p) ≡ true
unlike_above a p h = grind (arith, nat_tests)

not_below : (a p : ℕ) → ltb p a ≡ true → not (ltb a p) ≡ true
not_below a p h = grind (arith, nat_tests)

so_above : (a p : ℕ) → not (eqb a p) ≡ true → not (ltb a p) ≡ true → ltb p a ≡ true
so_above a p one two = grind (arith, nat_tests)

low : (a p : ℕ) → (not (eqb a p) && ltb a p) ≡ ltb a p
low a p = bool_same (not (eqb a p) && ltb a p) (ltb a p) (λ h. (and_parts _ _ h).1) (λ h. and_from (not (eqb a p)) (ltb a p) (unlike a p h) h)

high : (a p : ℕ) → (not (eqb a p) && not (ltb a p)) ≡ ltb p a
high a p = bool_same (not (eqb a p) && not (ltb a p)) (ltb p a) (λ h. so_above a p (and_parts _ _ h).0 (and_parts _ _ h).1)
    (λ h. and_from (not (eqb a p)) (not (ltb a p)) (unlike_above a p h) (not_below a p h))

numbers_apart : (k i l j : ℕ) → i < 2 ^ 32 → j < 2 ^ 32 → place k i ≡ place l j → (k ≡ l) × (i ≡ j)
numbers_apart k i l j p q e = (omega (arith, e), omega (arith, e))

places : (k i l j : ℕ) → i < 2 ^ 32 → j < 2 ^ 32 → eqb (place k i) (place l j) ≡ (eqb k l && eqb i j)
places k i l j p q = bool_same _ _
    (λ h.
    let parts = numbers_apart k i l j p q (same_number (place k i) (place l j) h) in
    and_from _ _ (subst (λ n. eqb k n ≡ true) parts.0 (own_number k)) (subst (λ n. eqb i n ≡ true) parts.1 (own_number i)))
    (λ h.
    let parts = and_parts _ _ h in
    subst (λ n. eqb (place k i) n ≡ true) (λ d. place (same_number k l parts.0 d) (same_number i j parts.1 d)) (own_number (place k i)))

abbrev elsewhere : ℕ → Record → Bool
elsewhere p z = not (eqb (place_of z) p)

-- the records that an edit leaves
left_is : (p : ℕ) (ks : List Record) → IsPermutation (filter (elsewhere p) ks) (below p ks ++ above p ks)
left_is p ks =
    let down : filter (λ z. ltb (place_of z) p) (filter (elsewhere p) ks) ≡ below p ks =
    filter_twice (elsewhere p) (λ z. ltb (place_of z) p) ks ∙ (λ d. filter (λ z. low (place_of z) p d) ks) in
    let up : filter (λ z. not (ltb (place_of z) p)) (filter (elsewhere p) ks) ≡ above p ks =
    filter_twice (elsewhere p) (λ z. not (ltb (place_of z) p)) ks ∙ (λ d. filter (λ z. high (place_of z) p d) ks) in
    subst (λ (l : List Record). IsPermutation (filter (elsewhere p) ks) l) (λ d. down d ++ up d)
    (IsPermutation-filter_both (λ z. ltb (place_of z) p) (λ z. not (ltb (place_of z) p)) (λ z. refl) (filter (elsewhere p) ks))

-- ---- the rows that are left

abbrev is_key : ℕ → ℕ → Row → Bool
is_key k i c = is_number k (column c 0) && is_number i (column c 1)

split : (a c : Bool) → (a && not c) ≡ (not (a && c) && a)
split true true = refl
split true false = refl
split false c = refl

keeps_stored : (at : ℤ) (m l j n k i : ℕ) (b : List ℕ)
    → (is_of n (stored at m l j b) && not (is_key k i (drop 2 (stored at m l j b)))) ≡ (not (has_key n k i (stored at m l j b)) && is_of n (stored at m l j b))
keeps_stored at m l j n k i b = split (eqb m n) (eqb l k && eqb j i)

keeps_entry : (n k i : ℕ) (x : Row) → IsEntry x → (is_of n x && not (is_key k i (drop 2 x))) ≡ (not (has_key n k i x) && is_of n x)
keeps_entry n k i x e = subst (λ y. (is_of n y && not (is_key k i (drop 2 y))) ≡ (not (has_key n k i y) && is_of n y)) (sym e.is)
    (keeps_stored e.at e.number e.kind e.id n k i e.body)

rows_left : (n k i : ℕ) (rows : List Row) → IsKeyed rows → filter (λ c. not (is_key k i c)) (rows_at n rows) ≡ rows_at n (others n k i rows)
rows_left n k i rows keyed =
    filter-map (λ c. not (is_key k i c)) (drop 2) (filter (is_of n) rows)
    ∙ ap (map (drop 2)) (filter_twice (is_of n) (λ x. not (is_key k i (drop 2 x))) rows
    ∙ filter_same (λ x. is_of n x && not (is_key k i (drop 2 x))) (λ x. not (has_key n k i x) && is_of n x) rows
    (λ x there. keeps_entry n k i x (keyed.entries x there))
    ∙ sym (filter_twice (λ x. not (has_key n k i x)) (is_of n) rows))

foreign : (at : ℤ) (a l j m n k i : ℕ) (b : List ℕ) → eqb n m ≡ false
    → (not (has_key n k i (stored at a l j b)) && is_of m (stored at a l j b)) ≡ is_of m (stored at a l j b)
foreign at a l j m n k i b other = bool_same _ _ (λ h. (and_parts _ _ h).1)
    (λ h. and_from _ _ (ap not (false_from_ne_true _ (λ yes.
    let one = same_number a n (and_parts _ _ yes).0 in
    let two = same_number a m h in
    true≢false (sym (subst (λ x. eqb n x ≡ true) (sym one ∙ two) (own_number n)) ∙ other)))) h)

foreign_entry : (m n k i : ℕ) (x : Row) → eqb n m ≡ false → IsEntry x → (not (has_key n k i x) && is_of m x) ≡ is_of m x
foreign_entry m n k i x other e = subst (λ y. (not (has_key n k i y) && is_of m y) ≡ is_of m y) (sym e.is)
    (foreign e.at e.number e.kind e.id m n k i e.body other)

rows_stay : (m n k i : ℕ) (rows : List Row) → IsKeyed rows → eqb n m ≡ false → rows_at m (others n k i rows) ≡ rows_at m rows
rows_stay m n k i rows keyed other =
    ap (map (drop 2)) (filter_twice (λ x. not (has_key n k i x)) (is_of m) rows
    ∙ filter_same (λ x. not (has_key n k i x) && is_of m x) (is_of m) rows (λ x there. foreign_entry m n k i x other (keyed.entries x there)))

cases : (b : Bool) → (b ≡ true) ⊎ (b ≡ false)
cases true = inl refl
cases false = inr refl

module _ (n : ℕ) (key : Key) (es : List (ℕ × Edit)) (rows : List Row) (few : key.id < 2 ^ 32) (told : Tells es rows) where
  abbrev k : ℕ
  k = key.kind

  abbrev i : ℕ
  i = key.id

  abbrev ks : List Record
  ks = records_at n es

  -- the records that are left are those of the rows that are left
  own_left : IsPermutation (map row_of (after_edit (Drop key) ks)) (rows_at n (others n k i rows))
  own_left =
      let p = place_of_key key in
      let kept : map row_of (filter (elsewhere p) ks) ≡ filter (λ c. not (is_key k i c)) (map row_of ks) =
      ap (map row_of) (filter_same (elsewhere p) (λ z. not (is_key k i (row_of z))) ks
      (λ z there. ap not (places (key_of z).kind (key_of z).id k i (told.typed n z there).0 few)))
      ∙ sym (filter-map (λ c. not (is_key k i c)) row_of ks) in
      IsPermutation-trans _ _ _ (IsPermutation-map row_of _ _ (IsPermutation-sym _ _ (left_is p ks)))
      (subst (λ (l : List Row). IsPermutation l (rows_at n (others n k i rows))) (sym kept)
      (subst (λ (l : List Row). IsPermutation (filter (λ c. not (is_key k i c)) (map row_of ks)) l) (rows_left n k i rows told.keyed)
      (IsPermutation-filter (λ c. not (is_key k i c)) (map row_of ks) (rows_at n rows) (told.each n))))

  pub left_each : (m : ℕ) → IsPermutation (map row_of (records_at m (es ++ (n, Drop key) ∷ []))) (rows_at m (others n k i rows))
  left_each m = elim (cases (eqb n m)) [
    | inl own ↦
        let same = same_number n m own in
        subst (λ (j : ℕ). IsPermutation (map row_of (records_at j (es ++ (n, Drop key) ∷ []))) (rows_at j (others n k i rows))) same
        (subst (λ (l : List Record). IsPermutation (map row_of l) (rows_at n (others n k i rows))) (sym (records_own n (Drop key) es)) own_left)
    | inr other ↦
        subst (λ (l : List Record). IsPermutation (map row_of l) (rows_at m (others n k i rows))) (sym (records_other m n (Drop key) es other))
        (subst (λ (l : List Row). IsPermutation (map row_of (records_at m es)) l) (sym (rows_stay m n k i rows told.keyed other)) (told.each m))
  ]

-- ---- a row that is put

put_permuted : (new : Row) (rows : List Row) → is_taken rows new ≡ false → IsPermutation (put_row new rows) (new ∷ rows)
put_permuted new [] free = IsPermutation-refl (new ∷ [])
put_permuted new (r ∷ rows) free = go (value_cmp (rowid r) (rowid new)) refl (or_parts _ _ free).0 (put_permuted new rows (or_parts _ _ free).1)
  where
    go : (o : Ordering) → value_cmp (rowid r) (rowid new) ≡ o → is_eq (value_cmp (rowid r) (rowid new)) ≡ false
        → IsPermutation (put_row new rows) (new ∷ rows) → IsPermutation (put_row new (r ∷ rows)) (new ∷ r ∷ rows)
    go Less is other later = rw is (IsPermutation-trans _ _ _ (IsPermutation-cons r _ _ later) (IsPermutation-middle (r ∷ []) new rows))
    go Equal is other later = absurd (true≢false (sym (ap is_eq is) ∙ other))
    go Greater is other later = rw is (IsPermutation-refl (new ∷ r ∷ rows))

table_filter : (p : Row → Bool) (rows : List Row) → IsTable rows → IsTable (filter p rows)
table_filter p [] up = tt
table_filter p (r ∷ rows) up =
    elim (p r) as (λ b. IsTable (cond b (r ∷ filter p rows) (filter p rows))) [
      | true ↦ (all_from _ (filter p rows) (λ x h. all_has _ rows x up.0 (has_filtered p rows x h).0), table_filter p rows up.1)
      | false ↦ table_filter p rows up.1
    ]

others_keyed : (n k i : ℕ) (rows : List Row) → IsKeyed rows → IsKeyed (others n k i rows)
others_keyed n k i rows keyed =
    let p = λ (r : Row). not (has_key n k i r) in
    record {
      ordered = table_filter p rows keyed.ordered;
      entries = λ r h. keyed.entries r (has_filtered p rows r h).0;
      apart = λ m l j r s h g. keyed.apart m l j r s (has_filtered p rows r h).0 (has_filtered p rows s g).0;
    }

-- the key of a row that is put is of no row that is left
not_left : (at : ℤ) (n k i m l j : ℕ) (body : List ℕ) (rows : List Row) (s : Row) → has_key m l j (stored at n k i body) ≡ true → Has (others n k i rows) s
    → has_key m l j s ≡ true → ⊥
not_left at n k i m l j body rows s mine there his =
    let parts = and_parts _ _ mine in
    let more = and_parts _ _ parts.1 in
    let same : has_key m l j s ≡ has_key n k i s = λ d. has_key (sym (same_number n m parts.0) d) (sym (same_number k l more.0) d)
    (sym (same_number i j more.1) d) s in
    let none = not-true _ (has_filtered (λ (r : Row). not (has_key n k i r)) rows s there).1 in
    true≢false (sym his ∙ same ∙ none)

put_keyed : (at : ℤ) (n k i : ℕ) (body : List ℕ) (rows : List Row) → IsKeyed rows → IsKeyed (put_row (stored at n k i body) (others n k i rows))
put_keyed at n k i body rows keyed =
    let new = stored at n k i body in
    let left = others n k i rows in
    let rest = others_keyed n k i rows keyed in
    record {
      ordered = IsTable-put_row new left rest.ordered;
      entries = λ r h. elim (put_has new left r h) [
        | inl same ↦ record { at = at; number = n; kind = k; id = i; body = body; is = same }
        | inr there ↦ rest.entries r there
      ];
      apart = λ m l j r s h g p q. elim (put_has new left r h) [
        | inl r_new ↦ elim (put_has new left s g) [
          | inl s_new ↦ r_new ∙ sym s_new
          | inr s_left ↦ absurd (not_left at n k i m l j body rows s (subst (λ (x : Row). has_key m l j x ≡ true) r_new p) s_left q)
        ]
        | inr r_left ↦ elim (put_has new left s g) [
          | inl s_new ↦ absurd (not_left at n k i m l j body rows r (subst (λ (x : Row). has_key m l j x ≡ true) s_new q) r_left p)
          | inr s_left ↦ rest.apart m l j r s r_left s_left p q
        ]
      ];
    }

-- ---- the laws

has_left_over : (p : ℕ) (ks : List Record) (x : Record) → Has (below p ks ++ above p ks) x → Has ks x
has_left_over p ks x h = elim (has_either (below p ks) (above p ks) x h) [
  | inl low ↦ (has_filtered (λ z. ltb (place_of z) p) ks x low).0
  | inr high ↦ (has_filtered (λ z. ltb p (place_of z)) ks x high).0
]

has_put : (p : ℕ) (r : Record) (ks : List Record) (x : Record) → Has (below p ks ++ r ∷ above p ks) x → (x ≡ r) ⊎ Has ks x
has_put p r ks x h = elim (has_either (below p ks) (r ∷ above p ks) x h) [
  | inl low ↦ inr (has_filtered (λ z. ltb (place_of z) p) ks x low).0
  | inr more ↦ elim more [ inl same ↦ inl same | inr high ↦ inr (has_filtered (λ z. ltb p (place_of z)) ks x high).0 ]
]

typed_drop : (n : ℕ) (key : Key) (es : List (ℕ × Edit)) (rows : List Row) → Tells es rows → (m : ℕ) (x : Record)
    → Has (records_at m (es ++ (n, Drop key) ∷ [])) x → IsTyped x
typed_drop n key es rows told m x h = go (eqb n m) (subst (λ (l : List Record). Has l x) (records_push m n (Drop key) es) h)
  where
    go : (b : Bool) → Has (cond b (after_edit (Drop key) (records_at m es)) (records_at m es)) x → IsTyped x
    go true there = told.typed m x (has_left_over (place_of_key key) (records_at m es) x there)
    go false there = told.typed m x there

typed_put : (n : ℕ) (r : Record) (es : List (ℕ × Edit)) (rows : List Row) → IsTyped r → Tells es rows → (m : ℕ) (x : Record)
    → Has (records_at m (es ++ (n, Put r) ∷ [])) x → IsTyped x
typed_put n r es rows fits told m x h = go (eqb n m) (subst (λ (l : List Record). Has l x) (records_push m n (Put r) es) h)
  where
    go : (b : Bool) → Has (cond b (after_edit (Put r) (records_at m es)) (records_at m es)) x → IsTyped x
    go true there = elim (has_put (place_of r) r (records_at m es) x there) [ inl same ↦ subst IsTyped (sym same) fits | inr was ↦ told.typed m x was ]
    go false there = told.typed m x there

pub tells_drop : (n : ℕ) (key : Key) (es : List (ℕ × Edit)) (old new : List Row) → key.id < 2 ^ 32 → Tells es old → new ≡ others n key.kind key.id old
    → Tells (es ++ (n, Drop key) ∷ []) new
tells_drop n key es old new few told is = record {
  keyed = subst IsKeyed (sym is) (others_keyed n key.kind key.id old told.keyed);
  typed = typed_drop n key es old told;
  each = λ m. subst (λ (l : List Row). IsPermutation (map row_of (records_at m (es ++ (n, Drop key) ∷ []))) (rows_at m l)) (sym is)
      (left_each n key es old few told m);
}

module _ (n : ℕ) (r : Record) (es : List (ℕ × Edit)) (old new : List Row) (fits : IsTyped r) (told : Tells es old)
    (done : Upserted n (key_of r).kind (key_of r).id (body_of r) old new) where
  abbrev left : List Row
  left = others n (key_of r).kind (key_of r).id old

  abbrev row : Row
  row = stored done.at n (key_of r).kind (key_of r).id (body_of r)

  -- the rows of a number among one row more
  more : (m : ℕ) → IsPermutation (rows_at m (row ∷ left)) (rows_at m new)
  more m = subst (λ (l : List Row). IsPermutation (rows_at m (row ∷ left)) (rows_at m l)) (sym done.is)
      (IsPermutation-map (drop 2) _ _ (IsPermutation-filter (is_of m) (row ∷ left) (put_row row left)
      (IsPermutation-sym _ _ (put_permuted row left done.free))))

  own_put : IsPermutation (map row_of (after_edit (Put r) (records_at n es))) (row_of r ∷ rows_at n left)
  own_put =
      let p = place_of r in
      let ks = records_at n es in
      IsPermutation-trans _ _ _ (IsPermutation-map row_of _ _ (IsPermutation-middle (below p ks) r (above p ks)))
      (IsPermutation-cons (row_of r) _ _ (subst (λ (l : List Record). IsPermutation (map row_of l) (rows_at n left)) (records_own n (Drop (key_of r)) es)
      (left_each n (key_of r) es old fits.0 told n)))

  each_put : (m : ℕ) → IsPermutation (map row_of (records_at m (es ++ (n, Put r) ∷ []))) (rows_at m (row ∷ left))
  each_put m = elim (cases (eqb n m)) [
    | inl own ↦
        let same = same_number n m own in
        let here : rows_at n (row ∷ left) ≡ row_of r ∷ rows_at n left =
        ap (λ b. map (drop 2) (cond b (row ∷ filter (is_of n) left) (filter (is_of n) left))) (own_number n) in
        subst (λ (j : ℕ). IsPermutation (map row_of (records_at j (es ++ (n, Put r) ∷ []))) (rows_at j (row ∷ left))) same
        (subst (λ (l : List Row). IsPermutation (map row_of (records_at n (es ++ (n, Put r) ∷ []))) l) (sym here)
        (subst (λ (l : List Record). IsPermutation (map row_of l) (row_of r ∷ rows_at n left)) (sym (records_own n (Put r) es)) own_put))
    | inr other ↦
        let here : rows_at m (row ∷ left) ≡ rows_at m left = ap (λ b. map (drop 2) (cond b (row ∷ filter (is_of m) left) (filter (is_of m) left))) other in
        subst (λ (l : List Row). IsPermutation (map row_of (records_at m (es ++ (n, Put r) ∷ []))) l) (sym here)
        (subst (λ (l : List Record). IsPermutation (map row_of l) (rows_at m left))
        (records_other m n (Drop (key_of r)) es other ∙ sym (records_other m n (Put r) es other)) (left_each n (key_of r) es old fits.0 told m))
  ]

  pub tells_put : Tells (es ++ (n, Put r) ∷ []) new
  tells_put = record {
    keyed = subst IsKeyed (sym done.is) (put_keyed done.at n (key_of r).kind (key_of r).id (body_of r) old told.keyed);
    typed = typed_put n r es old fits told;
    each = λ m. IsPermutation-trans _ _ _ (each_put m) (more m);
  }
