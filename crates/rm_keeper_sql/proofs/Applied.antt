-- What an apply leaves in the table.
use Rattle.std.proofs.Common.{◌≡◌, inl, inr, ℕ, Bool, true, false, List, [], ◌∷◌, ◌++◌, refl, sym, ap, subst, ◌∙◌, append_assoc, append-nil}
use Rattle.std.proofs.lemmas.List.Sorted.{IsPermutation-refl}
use Rattle.sqlite_trees.specs.declared.store.Store.{Ghosts}
use Rattle.sqlite_value.specs.Order.{Row}
use Rattle.sqlite_schema.specs.declared.schema.Schema.{Schema}
use Rattle.sqlite.specs.{Effect.{Database}, Held.{Held, state}}
use Rattle.rm_catalog.specs.{Keys.{key_of}, declared.record.Edit.{Edit, TheVariants.{Put, Drop}}}
use Rattle.rm_catalog_bytes.specs.Spelling.{body_of}
use Rattle.rm_keeper_sql.specs.{Tables.{no_schema, record_schema}, Shelves.{numbered}, Table.{Tells, Holds, Takes}}
use Rattle.rm_keeper_sql.{specs.Applies.{Makes, MakesAll, Readies, Applies}, proofs.{Reading.{creates}, Upsert.{upserts}}}
use Rattle.rm_keeper_sql.proofs.{Delete.{deletes_key}, Telling.{tells_put, tells_drop}}

abbrev pub rows_in : {S : Type 0} → Ghosts S → Held S → List Row
rows_in g h = (state g h).now.trees 0

abbrev pub IsMade : {S : Type 0} → Ghosts S → Held S → Type 0
IsMade g h = (state g h).now.schema ≡ record_schema

module _ {S : Type 0} (g : Ghosts S) (n : ℕ) where
  step : (e : Edit) (es : List (ℕ × Edit)) (old new : Held S) → Makes g n e old new → IsMade g old → Tells es (rows_in g old)
      → IsMade g new × Tells (es ++ (n, e) ∷ []) (rows_in g new)
  step (Put r) es old new m has told =
      let u = upserts (state g old) (state g new) n (key_of r).kind (key_of r).id (body_of r) m.ran.count has told.keyed m.ran.ran in
      (u.0, tells_put n r es (rows_in g old) (rows_in g new) m.typed told u.1)
  step (Drop key) es old new m has told =
      let d = deletes_key (state g old) (state g new) n key.kind key.id m.ran.count has told.keyed m.ran.ran in
      (d.0, tells_drop n key es (rows_in g old) (rows_in g new) m.typed told d.1)

  steps : (edits : List Edit) (es : List (ℕ × Edit)) (old new : Held S) → MakesAll g n edits old new → IsMade g old → Tells es (rows_in g old)
      → IsMade g new × Tells (es ++ numbered n edits) (rows_in g new)
  steps [] es old new same has told = (
    subst (λ (h : Held S). IsMade g h) (sym same) has,
    subst (λ (h : Held S). Tells (es ++ []) (rows_in g h)) (sym same) (subst (λ (l : List (ℕ × Edit)). Tells l (rows_in g old)) (sym (append-nil es)) told),
  )
  steps (e ∷ more) es old new m has told =
      let one = step e es old m.0 m.1 has told in
      let rest = steps more (es ++ (n, e) ∷ []) m.0 new m.2 one.0 one.1 in
      (rest.0, subst (λ (l : List (ℕ × Edit)). Tells l (rows_in g new)) (append_assoc es ((n, e) ∷ []) (numbered n more)) rest.1)

none_told : Tells [] []
none_told = record {
  keyed = record { ordered = tt; entries = λ r h. absurd h; apart = λ n k i r s h. absurd h };
  typed = λ n r h. absurd h;
  each = λ n. IsPermutation-refl [];
}

pub some_table : {P : Type 0} (schema : Schema) → schema ≡ record_schema → schema ≡ no_schema → P
some_table schema has none = absurd (let e : record_schema.tables ≡ [] = ap (λ (s : Schema). s.tables) (sym has ∙ none) in cc)

readied : {S : Type 0} (g : Ghosts S) (fresh : Bool) (es : List (ℕ × Edit)) (old new : Held S) → Readies g fresh old new
    → (fresh ≡ true → (state g old).now.schema ≡ no_schema) → ((state g old).now.schema ≡ no_schema → fresh ≡ true)
    → Holds es (state g old).now → IsMade g new × Tells es (rows_in g new)
readied g true es old new ran blank is (inl blanks) =
    let made = creates (state g old) (state g new) ran.count blanks.0 ran.ran in
    (made.0, subst (λ (l : List (ℕ × Edit)). Tells l (rows_in g new)) (sym blanks.1) (subst (Tells []) (sym made.1) none_told))
readied g true es old new ran blank is (inr some) = some_table _ some.0 (blank refl)
readied g false es old new same blank is (inl blanks) = absurd (let e = is blanks.0 in cc)
readied {S} g false es old new same blank is (inr some) = (
  subst (λ (h : Held S). IsMade g h) (sym same) some.0,
  subst
      (λ (h : Held S). Tells es (rows_in g h)) (sym same) some.1,
)

pub applied : {S : Type 0} (g : Ghosts S) (fresh : Bool) (n : ℕ) (edits : List Edit) (old : Held S) (before db : Database) → Applies g fresh n edits old db
    → (fresh ≡ true → (state g old).now.schema ≡ no_schema) → ((state g old).now.schema ≡ no_schema → fresh ≡ true) → (state g old).now ≡ before
    → Takes n edits before db
applied g fresh n edits old before db a blank is settled es holds =
    let begin = record old { in_transaction = true } in
    let first = readied g fresh es begin a.mid a.begun blank is (subst (Holds es) (sym settled) holds) in
    let all = steps g n edits es a.mid a.last a.edited first.0 first.1 in
    subst (Holds (es ++ numbered n edits)) (sym a.is) (inr all)
