-- The records that are read of rows are those that were written.
use Rattle.std.proofs.Common.{◌≡◌, inl, inr, ℕ, zero, suc, ◌<◌, pos, true, List, [], ◌∷◌, map, length, get_or, set, swap, All, refl, sym, ap, subst, ◌∙◌, IsPermutation}
use Rattle.std.proofs.lemmas.List.{length-map, Elements.{All-contains}}
use Rattle.std.proofs.lemmas.List.Sorted.{IsPermutation-refl, IsPermutation-trans, IsPermutation-keeps, IsPermutation-swap}
use Rattle.sqlite_value.specs.{Order.{Row, column, bytes}, declared.value.Value.{Value, TheVariants.{Int}}}
use Rattle.sqlite_trees.{specs.declared.store.Store.{Ghosts}, proofs.ListLemmas.{all-permutation}}
use Rattle.sqlite_rules.{specs.Lists.{Has}, proofs.ListLemmas.{all_has, all_from, contains_had}}
use Rattle.sqlite.specs.{Effect.{Database}, Held.{Held, state}}
use Rattle.rm_catalog.specs.{Keys.{key_of}, declared.record.{Edit.{Edit}, Record.{Record}}}
use Rattle.rm_catalog_bytes.{specs.Fits.{Fits}, proofs.Records.{record_same}}
use Rattle.rm_keeper_sql.specs.{Tables.{no_schema, record_schema}, Shelves.{records_at}, Entries.{IsKeyed}}
use Rattle.rm_keeper_sql.{specs.{Table.{row_of, rows_at, IsTyped, Holds, Reads, Lists}, Loads.{AreRows, Selects}}, proofs.Select.{selects}}
use Rattle.rm_keeper_sql.proofs.Applied.{some_table}

abbrev number_in : Value → ℕ
number_in (Int (pos n)) = n
number_in _ = 0

row_same : (r s : Record) → Fits r → Fits s → row_of r ≡ row_of s → r ≡ s
row_same r s a b e =
    let kind : (key_of r).kind ≡ (key_of s).kind = ap (λ (row : Row). number_in (column row 0)) e in
    let id : (key_of r).id ≡ (key_of s).id = ap (λ (row : Row). number_in (column row 1)) e in
    record_same r s a b (λ d. record { kind = kind d; id = id d }) (ap (λ (row : Row). bytes (column row 2)) e)

rows_same : (rs qs : List Record) → map row_of rs ≡ map row_of qs → ((r : Record) → Has rs r → Fits r) → ((r : Record) → Has qs r → Fits r) → rs ≡ qs
rows_same [] [] e a b = refl
rows_same [] (q ∷ qs) e a b = absurd cc
rows_same (r ∷ rs) [] e a b = absurd cc
rows_same (r ∷ rs) (q ∷ qs) e a b =
    let first : row_of r ≡ row_of q = cc in
    let rest : map row_of rs ≡ map row_of qs = cc in
    let head = row_same r q (a r (inl refl)) (b q (inl refl)) first in
    let tail = rows_same rs qs rest (λ x h. a x (inr h)) (λ x h. b x (inr h)) in
    λ d. head d ∷ tail d

-- ---- a permutation of a mapped list

get_map : {X Y : Type 0} (f : X → Y) (xs : List X) (i : ℕ) (d : X) → get_or (map f xs) i (f d) ≡ f (get_or xs i d)
get_map f [] i d = refl
get_map f (x ∷ xs) zero d = refl
get_map f (x ∷ xs) (suc i) d = get_map f xs i d

set_map : {X Y : Type 0} (f : X → Y) (xs : List X) (i : ℕ) (x : X) → set (map f xs) i (f x) ≡ map f (set xs i x)
set_map f [] i x = refl
set_map f (y ∷ xs) zero x = refl
set_map f (y ∷ xs) (suc i) x = ap (λ l. f y ∷ l) (set_map f xs i x)

swap_map : {X Y : Type 0} (f : X → Y) (xs : List X) (i j : ℕ) → swap (map f xs) i j ≡ map f (swap xs i j)
swap_map f [] i j = refl
swap_map f (x ∷ l) i j =
    (λ d. set (set (f x ∷ map f l) i (get_map f (x ∷ l) j x d)) j (get_map f (x ∷ l) i x d))
    ∙ ap (λ k. set k j (f (get_or (x ∷ l) i x))) (set_map f (x ∷ l) i (get_or (x ∷ l) j x))
    ∙ set_map f (set (x ∷ l) i (get_or (x ∷ l) j x)) j (get_or (x ∷ l) i x)

swapped : {X : Type 0} (xs : List X) (i j : ℕ) → i < length xs → j < length xs → IsPermutation xs (swap xs i j)
swapped [] i j p q = IsPermutation-refl []
swapped (x ∷ l) i j p q = IsPermutation-swap (x ∷ l) (swap (x ∷ l) i j) i j p q refl

abbrev Pulled : {X Y : Type 0} → (X → Y) → List X → List Y → Type 0
Pulled {X} {Y} f ks l = (qs : List X) × IsPermutation ks qs × (l ≡ map f qs)

pulled : {X Y : Type 0} (f : X → Y) (ks : List X) (ys : List Y) → IsPermutation (map f ks) ys → Pulled f ks ys
pulled {X} {Y} f ks ys perm =
    IsPermutation-keeps (map f ks) (Pulled f ks) (ks, IsPermutation-refl ks, refl)
    (λ l i j p q h.
    let long : length l ≡ length h.0 = ap length h.2 ∙ length-map h.0 f in (
      swap h.0 i j,
      IsPermutation-trans ks h.0 (swap h.0 i j) h.1 (swapped h.0 i j (subst (λ n. i < n) long p) (subst (λ n. j < n) long q)),
      ap
          (λ (k : List Y). swap k i j) h.2 ∙ swap_map f h.0 i j,
    ))
    ys perm

loaded : (ks rs : List Record) → ((r : Record) → Has ks r → IsTyped r) → All Fits rs → IsPermutation (map row_of ks) (map row_of rs) → IsPermutation ks rs
loaded ks rs typed fit perm =
    let p = pulled row_of ks (map row_of rs) perm in
    let back = λ (r : Record) (h : Has p.0 r). all_has (Has ks) p.0 r (all-permutation (Has ks) ks p.0 p.1 (all_from (Has ks) ks (λ e k. k))) h in
    let same : rs ≡ p.0 = rows_same rs p.0 p.2 (λ r h. All-contains Fits rs r fit (contains_had rs r h)) (λ r h. (typed r (back r h)).1) in
    subst (IsPermutation ks) (sym same) p.1

pub reads : {S : Type 0} (g : Ghosts S) (n : ℕ) (old : Held S) (before : Database) (rows : List Row) (rs : List Record) → Selects g n rows old → AreRows rs rows
    → (((state g old).now.schema ≡ no_schema) → ⊥) → (state g old).now ≡ before → Reads n rs before
reads g n old before rows rs sel are some settled es holds = elim (subst (Holds es) (sym settled) holds) [
  | inl blanks ↦ absurd (some blanks.0)
  | inr has ↦
      let perm = selects (state g (record old { in_transaction = true })) (state g sel.last) n rows has.0 has.1.keyed sel.shown in
      loaded (records_at n es) rs (has.1.typed n) are.fit
      (IsPermutation-trans _ _ _ (has.1.each n) (subst (λ (l : List Row). IsPermutation (rows_at n ((state g old).now.trees 0)) l) are.told perm))
]

-- a file that is new has no record
pub reads_none : {S : Type 0} (g : Ghosts S) (n : ℕ) (old : Held S) (before : Database) → (state g old).now.schema ≡ no_schema → (state g old).now ≡ before
    → Reads n [] before
reads_none g n old before none settled es holds = elim (subst (Holds es) (sym settled) holds) [
  | inl blanks ↦ subst (λ (l : List (ℕ × Edit)). IsPermutation (records_at n l) []) (sym blanks.1) (IsPermutation-refl [])
  | inr has ↦ some_table _ has.0 none
]

-- the rows of the number are those of the records that are read
pub lists : {S : Type 0} (g : Ghosts S) (n : ℕ) (old : Held S) (before : Database) (rows : List Row) (rs : List Record) → Selects g n rows old → AreRows rs rows
    → (state g old).now ≡ before → Lists n rs before
lists g n old before rows rs sel are settled has keyed =
    let now_has : (state g old).now.schema ≡ record_schema = ap (λ (db : Database). db.schema) settled ∙ has in
    let now_keyed : IsKeyed ((state g old).now.trees 0) = subst (λ (db : Database). IsKeyed (db.trees 0)) (sym settled) keyed in
    let perm = selects (state g (record old { in_transaction = true })) (state g sel.last) n rows now_has now_keyed sel.shown in
    subst (λ (db : Database). IsPermutation (rows_at n (db.trees 0)) (map row_of rs)) settled
    (subst (λ (l : List Row). IsPermutation (rows_at n ((state g old).now.trees 0)) l) are.told perm)

-- a file that is new has no table
pub lists_none : {S : Type 0} (g : Ghosts S) (n : ℕ) (old : Held S) (before : Database) → (state g old).now.schema ≡ no_schema → (state g old).now ≡ before
    → Lists n [] before
lists_none g n old before none settled has keyed = some_table before.schema has (ap (λ (db : Database). db.schema) (sym settled) ∙ none)
