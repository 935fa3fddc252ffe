-- The rows that list a schema tell it.
use Rattle.std.specs.List.{AllZip}
use Rattle.std.proofs.Common.{◌≡◌, inl, inr, ℕ, zero, suc, ◌+◌, pos, List, [], ◌∷◌, filter, slice_get, Some, refl, sym, ap, subst, ◌∙◌, arith}
use Rattle.sqlite_value.specs.{Order.{Row, column, bytes}, declared.value.Value.{Value, TheVariants.{Null, Int, Real, Text, Blob}}}
use Rattle.sqlite_trees.specs.{Tree.{rowid}, Objects.{catalog_tree}}
use Rattle.sqlite_schema.specs.declared.schema.{Table.{Table}, Index.{Index}, Schema.{Schema}}
use Rattle.sqlite_rules.specs.Lists.{Has}
use Rattle.sqlite_resolve.specs.Compile.{table_defined_by}
use Rattle.sqlite_catalog.specs.Listing.{IsTableRow, IsIndexRow, IsViewRow, IsDefined, AreListed, automatic, is_table_row, is_index_row, is_view_row}
use Rattle.sqlite.specs.Effect.{Database, IsDatabase}
use Rattle.rm_catalog.specs.declared.record.Edit.{Edit}
use Rattle.rm_keeper_sql.{specs.{Tables.{no_schema, record_schema}, Table.{Tells, Holds}}, proofs.{Reading.{same_value}, Upsert.{table}}}

zip_same : {X Y : Type 0} (P : X → Y → Type 0) → ((x : X) (a b : Y) → P x a → P x b → a ≡ b) → (xs : List X) (ys zs : List Y) → AllZip P xs ys
    → AllZip P xs zs → ys ≡ zs
zip_same P same [] [] [] h k = refl
zip_same P same [] [] (b ∷ zs) h k = absurd k
zip_same P same [] (a ∷ ys) zs h k = absurd h
zip_same P same (x ∷ xs) [] zs h k = absurd h
zip_same P same (x ∷ xs) (a ∷ ys) [] h k = absurd k
zip_same P same (x ∷ xs) (a ∷ ys) (b ∷ zs) h k = let rest = zip_same P same xs ys zs h.1 k.1 in λ d. same x a b h.0 k.0 d ∷ rest d

zip_none : {X Y : Type 0} (P Q : X → Y → Type 0) (xs : List X) (bs : List Y) → AllZip P xs [] → AllZip Q xs bs → bs ≡ []
zip_none P Q [] [] h k = refl
zip_none P Q [] (b ∷ bs) h k = absurd k
zip_none P Q (x ∷ xs) bs h k = absurd h

number_in : Value → ℕ
number_in (Int (pos n)) = n
number_in _ = 0

same_tree : (row : Row) (m n : ℕ) → rowid row ≡ Int (pos (m + 1)) → rowid row ≡ Int (pos (n + 1)) → m ≡ n
unfolding number_in
same_tree row m n p q = let e : m + 1 ≡ n + 1 = ap number_in (sym p ∙ q) in omega (arith, e)

table_same : (row : Row) (a b : Table) → IsTableRow row a → IsTableRow row b → a ≡ b
table_same row a b p q =
    let tree = same_tree row a.tree b.tree p.described.id q.described.id in
    let made : p.defined.0 ≡ q.defined.0 = same_value (sym p.defined.1 ∙ ap table_defined_by (ap bytes (sym p.sql_is ∙ q.sql_is)) ∙ q.defined.1) in
    p.defined.2 ∙ (λ d. record (made d) { tree = tree d }) ∙ sym q.defined.2

-- the table has one UNIQUE
one_key : (at : ℕ) (key : List ℕ) → slice_get table.uniques at ≡ Some key → (at ≡ 0) × (key ≡ 1 ∷ 2 ∷ 3 ∷ [])
one_key zero key h = let e : 1 ∷ 2 ∷ 3 ∷ [] ≡ key = cc in (refl, sym e)
one_key (suc at) key h = absurd cc

only_table : (t : Table) → Has record_schema.tables t → t ≡ table
only_table t (inl same) = same
only_table t (inr none) = absurd none

defined_same : (v : Value) (a b : Index) → IsDefined table a v → IsDefined table b v → a.tree ≡ b.tree → a ≡ b
defined_same Null a b p q tree =
    let one = one_key p.0 p.1 p.2 in
    let two = one_key q.0 q.1 q.2 in
    p.3 ∙ (λ d. automatic table ((one.0 ∙ sym two.0) d) ((one.1 ∙ sym two.1) d) (tree d)) ∙ sym q.3
defined_same (Int n) a b p q tree = absurd p
defined_same (Real x) a b p q tree = absurd p
defined_same (Text sql) a b p q tree =
    let made : p.0 ≡ q.0 = same_value (sym p.1 ∙ q.1) in
    p.2 ∙ (λ d. record (made d) { tree = tree d; table = 0 }) ∙ sym q.2
defined_same (Blob x) a b p q tree = absurd p

index_same : (row : Row) (a b : Index) → IsIndexRow record_schema.tables row a → IsIndexRow record_schema.tables row b → a ≡ b
index_same row a b p q =
    defined_same (column row 4) a b (subst (λ (t : Table). IsDefined t a (column row 4)) (only_table p.table p.listed) p.defined)
    (subst (λ (t : Table). IsDefined t b (column row 4)) (only_table q.table q.listed) q.defined) (same_tree row a.tree b.tree p.described.id q.described.id)

listed_same : (objects : List Row) (s : Schema) → AreListed objects record_schema → AreListed objects s → s ≡ record_schema
listed_same objects s a b =
    let tables : s.tables ≡ record_schema.tables = zip_same IsTableRow table_same
    (filter is_table_row objects) s.tables record_schema.tables b.tables a.tables in
    let listed = subst (λ (ts : List Table). AllZip (IsIndexRow ts) (filter is_index_row objects) s.indexes) tables b.indexes in
    let indexes : s.indexes ≡ record_schema.indexes = zip_same (IsIndexRow record_schema.tables) index_same
    (filter is_index_row objects) s.indexes record_schema.indexes listed a.indexes in
    let views : s.views ≡ [] = zip_none IsViewRow IsViewRow (filter is_view_row objects) s.views a.views b.views in
    λ d. record { tables = tables d; indexes = indexes d; views = views d }

listed_none : (objects : List Row) (s : Schema) → AreListed objects no_schema → AreListed objects s → s ≡ no_schema
listed_none objects s a b =
    let tables : s.tables ≡ [] = zip_none IsTableRow IsTableRow (filter is_table_row objects) s.tables a.tables b.tables in
    let indexes : s.indexes ≡ [] = zip_none (IsIndexRow []) (IsIndexRow s.tables) (filter is_index_row objects) s.indexes a.indexes b.indexes in
    let views : s.views ≡ [] = zip_none IsViewRow IsViewRow (filter is_view_row objects) s.views a.views b.views in
    λ d. record { tables = tables d; indexes = indexes d; views = views d }

pub held_again : (es : List (ℕ × Edit)) (a b : Database) → IsDatabase a → IsDatabase b → b.trees ≡ a.trees → Holds es a → Holds es b
held_again es a b p q same (inl blanks) =
    let mine = subst (λ (s : Schema). AreListed (a.trees catalog_tree) s) blanks.0 p.lists.listed in
    let his = subst (λ (ts : ℕ → List Row). AreListed (ts catalog_tree) b.schema) same q.lists.listed in
    inl (listed_none (a.trees catalog_tree) b.schema mine his, blanks.1)
held_again es a b p q same (inr has) =
    let mine = subst (λ (s : Schema). AreListed (a.trees catalog_tree) s) has.0 p.lists.listed in
    let his = subst (λ (ts : ℕ → List Row). AreListed (ts catalog_tree) b.schema) same q.lists.listed in
    inr (listed_same (a.trees catalog_tree) b.schema mine his, subst (λ (ts : ℕ → List Row). Tells es (ts 0)) (sym same) has.1)

zip_nil : {X Y : Type 0} (P : X → Y → Type 0) (ys : List Y) → AllZip P [] ys → ys ≡ []
zip_nil P [] h = refl
zip_nil P (y ∷ ys) h = absurd h

pub held_new : (db : Database) → IsDatabase db → db.trees catalog_tree ≡ [] → Holds [] db
held_new db sound none =
    let listed = subst (λ (l : List Row). AreListed l db.schema) none sound.lists.listed in
    let tables : db.schema.tables ≡ [] = zip_nil IsTableRow db.schema.tables listed.tables in
    let indexes : db.schema.indexes ≡ [] = zip_nil (IsIndexRow db.schema.tables) db.schema.indexes listed.indexes in
    let views : db.schema.views ≡ [] = zip_nil IsViewRow db.schema.views listed.views in
    inl (λ d. record { tables = tables d; indexes = indexes d; views = views d }, refl)
