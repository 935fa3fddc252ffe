-- What the text of the deletion makes of the table.
use Rattle.std.specs.List.{list_any, list_all}
use Rattle.std.proofs.Common.{◌≡◌, ℕ, ℤ, pos, Bool, true, false, cond, not, ◌&&◌, ◌||◌, List, [], ◌∷◌, map, filter, Ok, refl, sym, ap, subst, ◌∙◌}
use Rattle.std.proofs.lemmas.List.Sorted.{list_any-IsPermutation}
use Rattle.sqlite.specs.{Query.{Output, IsAnswer, output}, Program.{overlay}, Tree.{Trees}, Order.{Row}, Edit.{without_all, id_in}}
use Rattle.sqlite.specs.{State.{State, Executes}, declared.types.Value.TheVariants.{Int}}
use Rattle.sqlite_trees.specs.Tree.{rowid, has_rowid, without_rowid}
use Rattle.sqlite_sql.specs.Term.{holds}
use Rattle.sqlite_rules.{specs.{Lists.{Has}, Calls.{ids_of}}, proofs.ListLemmas.{has_filtered, has_kept, some_has, some_from}}
use Rattle.sqlite_rules.proofs.PlaceLemmas.{tied_same}
use Rattle.rm_keeper_sql.specs.{Tables.{record_schema}, Entries.{stored, IsEntry, has_key, others, IsKeyed}, Texts.{delete_text}}
use Rattle.rm_keeper_sql.proofs.Reading.{delete_query, deletes}
use Rattle.rm_keeper_sql.proofs.Upsert.{equal_int, and_true, own_rowid, both_at, bool_same, filter_same, filter_whole, flat_is}

pub filter_twice : {X : Type 0} (p q : X → Bool) (xs : List X) → filter q (filter p xs) ≡ filter (λ x. p x && q x) xs
filter_twice p q [] = refl
filter_twice p q (x ∷ xs) =
    let more = filter_twice p q xs in
    elim (p x) as (λ b. filter q (cond b (x ∷ filter p xs) (filter p xs)) ≡ cond (b && q x) (x ∷ filter (λ y. p y && q y) xs) (filter (λ y. p y && q y) xs))
    [ true ↦ λ d. cond (q x) (x ∷ more d) (more d) | false ↦ more ]

neither : (a b : Bool) → (not a && not b) ≡ not (a || b)
neither true b = refl
neither false b = refl

without_is : (ids : List ℤ) (rows : List Row) → without_all rows ids ≡ filter (λ r. not (list_any (λ id. has_rowid id r) ids)) rows
without_is [] rows = sym (filter_whole (λ r. true) rows (λ r h. refl))
without_is (id ∷ ids) rows =
    without_is ids (without_rowid id rows) ∙ filter_twice (λ r. not (has_rowid id r)) (λ r. not (list_any (λ i. has_rowid i r) ids)) rows
    ∙ (λ d. filter (λ r. neither (has_rowid id r) (list_any (λ i. has_rowid i r) ids) d) rows)

any_map : {X Y : Type 0} (p : Y → Bool) (f : X → Y) (xs : List X) → list_any p (map f xs) ≡ list_any (λ x. p (f x)) xs
any_map p f [] = refl
any_map p f (x ∷ xs) = ap (λ b. p (f x) || b) (any_map p f xs)

abbrev hits : Row → Row → Bool
hits params x = list_all (holds (params ∷ x ∷ [])) delete_query.filter

hits_is : (to : ℤ) (m l j n k i : ℕ) (old : List ℕ)
    → hits (Int (pos n) ∷ Int (pos k) ∷ Int (pos i) ∷ []) (stored to m l j old) ≡ has_key n k i (stored to m l j old)
hits_is to m l j n k i old = λ d. equal_int m n d && (equal_int l k d && (and_true _ ∙ equal_int j i) d)

hits_entry : (n k i : ℕ) (x : Row) → IsEntry x → hits (Int (pos n) ∷ Int (pos k) ∷ Int (pos i) ∷ []) x ≡ has_key n k i x
hits_entry n k i x e = subst (λ y. hits (Int (pos n) ∷ Int (pos k) ∷ Int (pos i) ∷ []) y ≡ has_key n k i y) (sym e.is)
    (hits_is e.at e.number e.kind e.id n k i e.body)

-- the rowid of an entry finds it
finds_itself : (x : Row) → IsEntry x → has_rowid (id_in (rowid x)) x ≡ true
finds_itself x e = subst (λ (y : Row). has_rowid (id_in (rowid y)) y ≡ true) (sym e.is) (own_rowid e.at e.number e.kind e.id e.body)

-- the rowids that are found are those of the key
gone_is : (n k i : ℕ) (rows : List Row) (r : Row) → IsKeyed rows → Has rows r
    → list_any (λ x. has_rowid (id_in (rowid x)) r) (filter (hits (Int (pos n) ∷ Int (pos k) ∷ Int (pos i) ∷ [])) rows) ≡ has_key n k i r
gone_is n k i rows r keyed held =
    let p = hits (Int (pos n) ∷ Int (pos k) ∷ Int (pos i) ∷ []) in
    bool_same _ (has_key n k i r)
    (λ yes.
    let x = some_has (λ (y : Row). has_rowid (id_in (rowid y)) r) (filter p rows) yes in
    let there = has_filtered p rows x.0 x.1 in
    let e = keyed.entries x.0 there.0 in
    let same : x.0 ≡ r = tied_same rows x.0 r keyed.ordered there.0 held (both_at (id_in (rowid x.0)) x.0 r (finds_itself x.0 e) x.2) in
    subst (λ (y : Row). has_key n k i y ≡ true) same (sym (hits_entry n k i x.0 e) ∙ there.1))
    (λ yes. some_from (λ (y : Row). has_rowid (id_in (rowid y)) r) (filter p rows) r
    (has_kept p rows r held (hits_entry n k i r (keyed.entries r held) ∙ yes)) (finds_itself r (keyed.entries r held)))

found_are : (db : Trees) (n k i : ℕ) (out : List Row) → IsAnswer delete_query (overlay db []) (Int (pos n) ∷ Int (pos k) ∷ Int (pos i) ∷ []) out
    → (r : Row)
    → list_any (λ id. has_rowid id r) (ids_of out) ≡ list_any (λ (x : Row). has_rowid (id_in (rowid x)) r)
    (filter (hits (Int (pos n) ∷ Int (pos k) ∷ Int (pos i) ∷ [])) (db 0))
found_are db n k i out answer r =
    let params : Row = Int (pos n) ∷ Int (pos k) ∷ Int (pos i) ∷ [] in
    let test = λ (o : Output). has_rowid (id_in (rowid o.1)) r in
    let staged : answer.staged ≡ map (λ x. params ∷ x ∷ []) (filter (hits params) (db 0)) =
    answer.grouped ∙ flat_is (hits params) (λ x. params ∷ x ∷ []) (db 0) in
    let kept : answer.kept ≡ map (output delete_query) (map (λ x. params ∷ x ∷ []) (filter (hits params) (db 0))) =
    answer.distinct ∙ ap (map (output delete_query)) staged in
    ap (λ (l : List Row). list_any (λ id. has_rowid id r) (ids_of l)) answer.shown
    ∙ any_map (λ id. has_rowid id r) (λ (x : Row). id_in (rowid x)) (map (λ (o : Output). o.1) answer.ordered)
    ∙ any_map (λ (x : Row). has_rowid (id_in (rowid x)) r) (λ (o : Output). o.1) answer.ordered
    ∙ sym (list_any-IsPermutation test answer.kept answer.ordered answer.same)
    ∙ ap (list_any test) kept
    ∙ any_map test (output delete_query) (map (λ x. params ∷ x ∷ []) (filter (hits params) (db 0)))
    ∙ any_map (λ (e : List Row). test (output delete_query e)) (λ x. params ∷ x ∷ []) (filter (hits params) (db 0))

-- the deletion: no row of the key, and the others are as they were
pub deletes_key : (old new : State) (n k i : ℕ) (count : ℕ) → old.now.schema ≡ record_schema → IsKeyed (old.now.trees 0)
    → Executes delete_text (Int (pos n) ∷ Int (pos k) ∷ Int (pos i) ∷ []) old new (Ok count) → (new.now.schema ≡ record_schema) ×
    (new.now.trees 0 ≡ others n k i (old.now.trees 0))
deletes_key old new n k i count has keyed h =
    let rows = old.now.trees 0 in
    let done = deletes old new (Int (pos n) ∷ Int (pos k) ∷ Int (pos i) ∷ []) count has h in
    let out = done.1.0 in (
      done.0,
      done.1.2 ∙ without_is (ids_of out) rows
          ∙ filter_same (λ r. not (list_any (λ id. has_rowid id r) (ids_of out))) (λ r. not (has_key n k i r)) rows
          (λ r held. ap not (found_are old.now.trees n k i out done.1.1 r ∙ gone_is n k i rows r keyed held)),
    )
