-- What loading rests on.
use Rattle.std.specs.{Prelude.{option_and_then}, List.{filter_map}}
use Rattle.std.proofs.Common.{◌≡◌, ◌∙◌, ◌<◌, ◌≤◌, List, [], ◌∷◌, length, Some, None, refl, ap, sym, subst, arith, Contains, slice_get}
use Rattle.std.proofs.lemmas.Option.{slice_get_within, get_or_from_slice_get}
use Rattle.rm_catalog.specs.{Keys.{base, base_in}, Rules.{HasDatabase, IsCatalog}, Trees.{as_tree, nodes}}
use Rattle.rm_catalog.{specs.declared.record.{BaseEntry.{BaseEntry}, Record.{Record}}, proofs.{Trees.{some_node}, Telling.{record-told}}}
use Rattle.rm_catalog.proofs.Numbering.{at-is, obeys}
use Rattle.rm_catalog.specs.declared.record.Record.TheVariants as records
use Rattle.rm_history.specs.declared.tree.Incarnation.{Incarnation}
use Rattle.rm_base.proofs.Members.{in-front, none-in}
use Rattle.rm_catalog_typed.specs.{Facts.{IsTypedCatalog}, Kinds.{AreSmall, Told, told_by}, Loading.{gathered}, TypedCatalog.{records_of}}
use Rattle.rm_catalog_typed.proofs.{ByKind.{is-base, made, placed}, Loads.{records-are}, Saves.{typed_catalog-is}}

base-is : (rs : List Record) (b : BaseEntry) → IsCatalog rs → slice_get (filter_map base_in rs) 0 ≡ Some b → base rs ≡ Some b
base-is rs b c first =
    let has : Contains (filter_map base_in rs) b = (0, slice_get_within (filter_map base_in rs) 0 b first, get_or_from_slice_get (filter_map base_in rs) 0 b b first) in
    ap (option_and_then base_in) (at-is rs (records.Base b) c (made records.Base base_in 1 is-base rs b has))

-- what the records say is a typed catalog, with these records
pub rules-hold : (rs : List Record) (tree : List Incarnation) (t : Told) (b : BaseEntry) → IsCatalog rs → tree ≡ nodes rs → t ≡ told_by rs → AreSmall rs → slice_get t.bases 0 ≡ Some b → b.next_id ≤ 4294967295 → IsTypedCatalog (gathered b tree t)
rules-hold rs tree t b c is-tree is-told small first ids =
    let is = base-is rs b c (ap (λ (u : Told). slice_get u.bases 0) (sym is-told) ∙ first) in
    subst (λ (n : List Incarnation). IsTypedCatalog (gathered b n t)) (sym is-tree)
    (subst (λ (u : Told). IsTypedCatalog (gathered b (nodes rs) u)) (sym is-told) (typed_catalog-is rs b c is small ids))

pub records-kept : (rs : List Record) (tree : List Incarnation) (t : Told) (b : BaseEntry) → IsCatalog rs → tree ≡ nodes rs → t ≡ told_by rs → AreSmall rs → slice_get t.bases 0 ≡ Some b → records_of (gathered b tree t) ≡ rs
records-kept rs tree t b c is-tree is-told small first =
    let is = base-is rs b c (ap (λ (u : Told). slice_get u.bases 0) (sym is-told) ∙ first) in
    ap (λ (n : List Incarnation). records_of (gathered b n t)) is-tree
    ∙ ap (λ (u : Told). records_of (gathered b (nodes rs) u)) is-told
    ∙ records-are rs b c is small

-- records with incarnations have base facts
database-of : (rs : List Record) → IsCatalog rs → 0 < length (nodes rs) → HasDatabase rs
database-of [] c some = absurd (omega arith)
database-of (r ∷ rs) c some = (obeys (r ∷ rs) r c (in-front r rs)).base

some-base : (rs : List Record) → IsCatalog rs → HasDatabase rs → filter_map base_in rs ≡ [] → ⊥
some-base rs c database none =
    let b = placed records.Base base_in 1 is-base rs 0 database in
    none-in b.entry (subst (λ (bs : List BaseEntry). Contains bs b.entry) none (record-told base_in rs (records.Base b.entry) b.entry b.has b.told))

pub base-told : (rs : List Record) (tree : List Incarnation) (t : Told) → IsCatalog rs → tree ≡ nodes rs → 0 < length tree → t ≡ told_by rs → slice_get t.bases 0 ≡ None → ⊥
base-told rs tree t c is-tree some is-told none = empty (filter_map base_in rs) refl (ap (λ (u : Told). slice_get u.bases 0) (sym is-told) ∙ none)
  where
    empty : (bs : List BaseEntry) → filter_map base_in rs ≡ bs → slice_get bs 0 ≡ None → ⊥
    empty [] e free = some-base rs c (database-of rs c (let l = ap length is-tree in omega arith)) e
    empty (b ∷ bs) e free = absurd cc

-- without incarnations there are no records
pub none-whole : (rs : List Record) → IsCatalog rs → as_tree (nodes rs) ≡ None → [] ≡ rs
none-whole [] c none = refl
none-whole (r ∷ rs) c none = absurd (no (nodes (r ∷ rs)) (some_node (r ∷ rs) c (obeys (r ∷ rs) r c (in-front r rs)).base) none)
  where
    no : (ns : List Incarnation) → 0 < length ns → as_tree ns ≡ None → ⊥
    no [] some none = omega arith
    no (n ∷ ns) some none = absurd cc
