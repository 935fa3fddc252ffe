-- What the text of the selection reads of the table.
use Rattle.std.specs.List.{list_all}
use Rattle.std.proofs.Common.{◌≡◌, ℕ, ℤ, pos, Bool, List, [], ◌∷◌, map, drop, filter, refl, sym, ap, subst, ◌∙◌, inl, inr, IsPermutation}
use Rattle.std.proofs.lemmas.List.Sorted.{IsPermutation-map}
use Rattle.sqlite.specs.{Query.{Output, output}, Order.{Row, column}, State.{State, Shown}, declared.types.Value.TheVariants.{Int}}
use Rattle.sqlite_sql.specs.Term.{holds}
use Rattle.sqlite_trees.proofs.ListLemmas.{map-map}
use Rattle.sqlite_rules.{specs.Lists.{Has}, proofs.ListLemmas.{has_filtered}}
use Rattle.rm_keeper_sql.specs.{Tables.{record_schema}, Texts.{select_text}, Entries.{stored, IsEntry, IsKeyed}, Table.{is_of, rows_at}}
use Rattle.rm_keeper_sql.{specs.Loads.{columns}, proofs.{Reading.{query, answers}, Upsert.{equal_int, and_true, filter_same, flat_is}}}

pub map_same : {X Y : Type 0} (f g : X → Y) (xs : List X) → ((x : X) → Has xs x → f x ≡ g x) → map f xs ≡ map g xs
map_same f g [] each = refl
map_same f g (x ∷ xs) each = λ d. each x (inl refl) d ∷ map_same f g xs (λ y h. each y (inr h)) d

abbrev hits : Row → Row → Bool
hits params x = list_all (holds (params ∷ x ∷ [])) query.filter

hits_is : (to : ℤ) (m l j n : ℕ) (old : List ℕ) → hits (Int (pos n) ∷ []) (stored to m l j old) ≡ is_of n (stored to m l j old)
hits_is to m l j n old = and_true _ ∙ equal_int m n

hits_entry : (n : ℕ) (x : Row) → IsEntry x → hits (Int (pos n) ∷ []) x ≡ is_of n x
hits_entry n x e = subst (λ y. hits (Int (pos n) ∷ []) y ≡ is_of n y) (sym e.is) (hits_is e.at e.number e.kind e.id n e.body)

abbrev shown : Row → Row
shown x = column x 2 ∷ column x 3 ∷ column x 4 ∷ []

shown_entry : (x : Row) → IsEntry x → shown x ≡ drop 2 x
shown_entry x e = subst (λ y. shown y ≡ drop 2 y) (sym e.is) refl

-- the rows of the number, in some order
pub selects : (old new : State) (n : ℕ) (out : List Row) → old.now.schema ≡ record_schema → IsKeyed (old.now.trees 0)
    → Shown select_text (Int (pos n) ∷ []) old new out
    → IsPermutation (rows_at n (old.now.trees 0)) (map columns out)
selects old new n out has keyed h =
    let rows = old.now.trees 0 in
    let params : Row = Int (pos n) ∷ [] in
    let answer = answers old new params out has h in
    let cut = λ (o : Output). columns o.1 in
    let staged : answer.staged ≡ map (λ x. params ∷ x ∷ []) (filter (hits params) rows) = answer.grouped ∙ flat_is (hits params) (λ x. params ∷ x ∷ []) rows in
    let kept : answer.kept ≡ map (output query) (map (λ x. params ∷ x ∷ []) (filter (hits params) rows)) = answer.distinct ∙ ap (map (output query)) staged in
    let first : map cut answer.kept ≡ rows_at n rows =
    ap (map cut) kept ∙ map-map cut (output query) (map (λ x. params ∷ x ∷ []) (filter (hits params) rows)) ∙ map-map (λ (e : List Row). cut (output query e))
    (λ x. params ∷ x ∷ []) (filter (hits params) rows)
    ∙ ap (map shown) (filter_same (hits params) (is_of n) rows (λ x there. hits_entry n x (keyed.entries x there)))
    ∙ map_same shown (drop 2) (filter (is_of n) rows) (λ x there. shown_entry x (keyed.entries x (has_filtered (is_of n) rows x there).0)) in
    let last : map cut answer.ordered ≡ map columns out = sym (map-map columns (λ (o : Output). o.1) answer.ordered) ∙ ap (map columns) (sym answer.shown) in
    subst (λ (l : List Row). IsPermutation (rows_at n rows) l) last (subst (λ (l : List Row). IsPermutation l (map cut answer.ordered)) first
    (IsPermutation-map cut answer.kept answer.ordered answer.same))
