-- What the text of the upsert makes of the table.
use Rattle.std.specs.List.{list_all}
use Rattle.std.proofs.Common.{◌≡◌, inl, inr, ℕ, ℤ, pos, negsuc, Bool, true, false, cond, not, ◌&&◌, ◌||◌, List, [], ◌∷◌, ◌++◌, map, flat_map, filter, Option, Some, None, Ordering, Less, Equal, Greater, Ok, refl, sym, ap, subst, ◌∙◌, eqb, is_eq, int_cmp, arith, IsPermutation}
use Rattle.std.proofs.lemmas.{Bool.{and_parts, and_from, not-true, false_from_ne_true, Decides.{nat_tests}}, Cmp.{tied_itself, tied_back}}
use Rattle.std.proofs.lemmas.Int.{ints}
use Rattle.sqlite.specs.{Table.{Table}, Collation.TheVariants.{Binary}, Kind.TheVariants.{Integer}, Command.TheVariants.{InsertOr}}
use Rattle.sqlite.specs.{Command.{Command}, Source.TheVariants.{Values}, Listing.{understood}, Term.{Term, col, lit, op2}}
use Rattle.sqlite.specs.{Query.{Query, Output, inner, end, IsAnswer, output, page}, Program.{overlay}, Tree.{Trees}, Order.{Row, value_cmp}}
use Rattle.sqlite.specs.{Cast.{cast, cast_row}, Edit.{Edit, edit_of, edited, left_by, with_rowid, next_rowid, is_taken, are_fresh}}
use Rattle.sqlite.specs.Rowids.TheVariants.{Chosen, Given}
use Rattle.sqlite.specs.Rows.{Written, Task, nothing, count_of, Puts, Updates, Clears, Resolves, Upserts, Judged, Tries, TriesEach, InsertsOr}
use Rattle.sqlite.specs.{Does.{Tally, Does}, Effect.{Database}, State.{State, Executes, mode_of}}
use Rattle.sqlite.specs.declared.types.Value.TheVariants.{Null, Int, Blob}
use Rattle.sqlite.proofs.Callers.{IsPlain, command_of, statement_of, runs_as, one_step, one_permutation}
use Rattle.sqlite_schema.specs.{Rules.{equal}, declared.command.{Conflict.TheVariants.{Abort}, Upsert.{Upsert}}}
use Rattle.sqlite_schema.specs.declared.{program.Program.{Program}, schema.Keys.TheVariants.{Enforced}}
use Rattle.sqlite_tied.specs.Compute.{everything}
use Rattle.sqlite_sql.specs.{Ops.{unary, binary, is_true, from_truth}, Term.{holds}, declared.ops.BinaryOp.TheVariants.{Compare}}
use Rattle.sqlite_sql.specs.declared.ops.CompareOp.TheVariants.{Eq}
use Rattle.sqlite_rules.specs.{Keys.{AreConflicts, conflicts}, Lists.{Has}, Calls.{ids_of}, declared.error.Refusal.{Refusal}}
use Rattle.sqlite_rules.proofs.{ListLemmas.{all_has}, PlaceLemmas.{tied_same}}
use Rattle.sqlite_value.{specs.Keys.{first_key}, proofs.OrderLemmas.{value_cmp-Int, value_cmp_total}}
use Rattle.sqlite_trees.specs.Tree.{IsTable, rowid, has_rowid, put_row, without_rowid}
use Rattle.rm_keeper_sql.specs.{Tables.{record_table, record_schema}, Texts.{upsert_text}}
use Rattle.rm_keeper_sql.{specs.Entries.{stored, IsEntry, has_key, others, IsKeyed, Upserted}, proofs.Reading.{went, same_value}}

-- the table as the schema has it
abbrev pub table : Table
table = record record_table { tree = 0 }

abbrev upsert_terms : List Term
upsert_terms = lit Null ∷ col 0 0 ∷ col 0 1 ∷ col 0 2 ∷ col 0 3 ∷ []

-- the row that is there, with the new body
abbrev pub update_query : Query
update_query = record {
  from = inner 0 end;
  filter = op2 (Compare Eq Binary) (col 1 0) (col 0 4) ∷ [];
  group = None;
  project = col 1 0 ∷ col 1 0 ∷ col 1 1 ∷ col 1 2 ∷ col 1 3 ∷ col 0 9 ∷ [];
  distinct = false;
  collations = [];
  order = [];
  limit = lit (Int (negsuc 0));
  offset = lit (Int (pos 0));
}

abbrev update : Program
update = record { lets = []; body = update_query }

abbrev pub clause : Upsert
clause = record { target = Some (1 ∷ 2 ∷ 3 ∷ []); update = Some update }

abbrev upsert_command : Command
upsert_command = InsertOr 0 Abort (Values upsert_terms 5) (clause ∷ [])

pub upsert_is : command_of (understood record_schema upsert_text) ≡ upsert_command
unfolding understood everything
upsert_is = refl

pub upsert_plain : IsPlain (understood record_schema upsert_text)
unfolding understood everything
upsert_plain = (refl, refl)

-- ---- values

either : {A : Type 0} (b : Bool) (x : A) → cond b x x ≡ x
either true x = refl
either false x = refl

cast_null : cast Integer Null ≡ Null
unfolding unary
cast_null = either _ Null

cast_int : (z : ℤ) → cast Integer (Int z) ≡ Int z
unfolding unary
cast_int z = either _ (Int z)

cast_stored : (at : ℤ) (n k i : ℕ) (body : List ℕ) → cast_row table (stored at n k i body) ≡ stored at n k i body
cast_stored at n k i body = rw (cast_int at, cast_int (pos n), cast_int (pos k), cast_int (pos i))

numbered_is : (rows : List Row) (n k i : ℕ) (body : List ℕ)
    → with_rowid Chosen rows (cast_row table (Null ∷ Int (pos n) ∷ Int (pos k) ∷ Int (pos i) ∷ Blob body ∷ [])) ≡ stored (next_rowid rows) n k i body
numbered_is rows n k i body = rw (cast_null, cast_int (pos n), cast_int (pos k), cast_int (pos i))

tested : (b : Bool) → is_true (from_truth (Some b)) ≡ b
tested true = refl
tested false = refl

same_int : (m n : ℕ) → is_eq (int_cmp (pos m) (pos n)) ≡ eqb m n
same_int m n = grind (arith, ints, nat_tests)

pub equal_int : (m n : ℕ) → equal Binary (Int (pos m)) (Int (pos n)) ≡ eqb m n
unfolding binary
equal_int m n = tested _ ∙ ap is_eq (value_cmp-Int (pos m) (pos n)) ∙ same_int m n

equal_rowid : (a b : ℤ) → equal Binary (Int a) (Int b) ≡ is_eq (value_cmp (Int a) (Int b))
unfolding binary
equal_rowid a b = tested _

or_false : (b : Bool) → (b || false) ≡ b
or_false true = refl
or_false false = refl

pub and_true : (b : Bool) → (b && true) ≡ b
and_true true = refl
and_true false = refl

-- a row meets the key of the new one where it has it
abbrev Meets : Row → Row → Bool
Meets new row = conflicts (Some (1 ∷ 2 ∷ 3 ∷ [])) record_schema.indexes table new row

meets_is : (at to : ℤ) (m l j n k i : ℕ) (old body : List ℕ) → Meets (stored at n k i body) (stored to m l j old) ≡ has_key n k i (stored to m l j old)
unfolding first_key
meets_is at to m l j n k i old body = or_false _ ∙ (λ d. equal_int m n d && (equal_int l k d && (and_true _ ∙ equal_int j i) d))

meets_entry : (at : ℤ) (n k i : ℕ) (body : List ℕ) (r : Row) → IsEntry r → Meets (stored at n k i body) r ≡ has_key n k i r
meets_entry at n k i body r e = subst (λ x. Meets (stored at n k i body) x ≡ has_key n k i x) (sym e.is)
    (meets_is at e.at e.number e.kind e.id n k i e.body body)

pub same_number : (m n : ℕ) → eqb m n ≡ true → m ≡ n
same_number m n h = grind (arith, nat_tests)

pub own_number : (n : ℕ) → eqb n n ≡ true
own_number n = grind (arith, nat_tests)

pub own_key : (a : ℤ) (n k i : ℕ) (body : List ℕ) → has_key n k i (stored a n k i body) ≡ true
own_key a n k i body = and_from _ _ (own_number n) (and_from _ _ (own_number k) (own_number i))

-- a row that has the key has these numbers
pub keyed_is : (n k i : ℕ) (r : Row) (e : IsEntry r) → has_key n k i r ≡ true → r ≡ stored e.at n k i e.body
keyed_is n k i r e h =
    let parts = and_parts _ _ (subst (λ x. has_key n k i x ≡ true) e.is h) in
    let more = and_parts _ _ parts.1 in
    e.is ∙ (λ d. stored e.at (same_number e.number n parts.0 d) (same_number e.kind k more.0 d) (same_number e.id i more.1 d) e.body)

-- ---- lists

pub filter_same : {X : Type 0} (p q : X → Bool) (xs : List X) → ((x : X) → Has xs x → p x ≡ q x) → filter p xs ≡ filter q xs
filter_same p q [] each = refl
filter_same p q (x ∷ xs) each = λ d. cond (each x (inl refl) d) (x ∷ filter_same p q xs (λ y h. each y (inr h)) d)
    (filter_same p q xs (λ y h. each y (inr h)) d)

pub filter_whole : {X : Type 0} (p : X → Bool) (xs : List X) → ((x : X) → Has xs x → p x ≡ true) → filter p xs ≡ xs
filter_whole p [] each = refl
filter_whole p (x ∷ xs) each = rw (each x (inl refl)) (ap (λ l. x ∷ l) (filter_whole p xs (λ y h. each y (inr h))))

pub filter_none : {X : Type 0} (p : X → Bool) (xs : List X) → ((x : X) → Has xs x → p x ≡ false) → filter p xs ≡ []
filter_none p [] each = refl
filter_none p (x ∷ xs) each = rw (each x (inl refl)) (filter_none p xs (λ y h. each y (inr h)))

pub bool_same : (b c : Bool) → (b ≡ true → c ≡ true) → (c ≡ true → b ≡ true) → b ≡ c
bool_same true true f g = refl
bool_same true false f g = sym (f refl)
bool_same false true f g = g refl
bool_same false false f g = refl

pub flat_is : {X Y : Type 0} (p : X → Bool) (f : X → Y) (xs : List X) → flat_map (λ x. cond (p x) (f x ∷ []) []) xs ≡ map f (filter p xs)
flat_is p f [] = refl
flat_is p f (x ∷ xs) =
    elim (p x) as (λ b. (cond b (f x ∷ []) [] ++ flat_map (λ y. cond (p y) (f y ∷ []) []) xs) ≡ map f (cond b (x ∷ filter p xs) (filter p xs)))
    [ true ↦ ap (λ l. f x ∷ l) (flat_is p f xs) | false ↦ flat_is p f xs ]

tied_to : (o : Ordering) → is_eq o ≡ true → o ≡ Equal
tied_to Less h = absurd cc
tied_to Equal h = refl
tied_to Greater h = absurd cc

pub both_at : (a : ℤ) (x y : Row) → has_rowid a x ≡ true → has_rowid a y ≡ true → value_cmp (rowid x) (rowid y) ≡ Equal
both_at a x y p q = value_cmp_total.congr (rowid x) (Int a) (rowid y) (tied_to _ p) ∙ tied_back value_cmp_total (rowid y) (Int a) (tied_to _ q)

apart_from : (a : ℤ) (x y : Row) → value_cmp (rowid x) (rowid y) ≡ Less → has_rowid a x ≡ true → has_rowid a y ≡ true → ⊥
apart_from a x y less p q = let tie = both_at a x y p q in cc

-- one row has a rowid
pub one_at : (rows : List Row) (a : ℤ) (r : Row) → IsTable rows → Has rows r → has_rowid a r ≡ true → filter (has_rowid a) rows ≡ r ∷ []
one_at [] a r up h is = absurd h
one_at (x ∷ xs) a r up (inl same) is =
    let here : has_rowid a x ≡ true = subst (λ (z : Row). has_rowid a z ≡ true) same is in
    let none : filter (has_rowid a) xs ≡ [] = filter_none (has_rowid a) xs
    (λ y h. false_from_ne_true _ (λ that. apart_from a x y (all_has _ xs y up.0 h) here that)) in
    rw here (λ d. sym same d ∷ none d)
one_at (x ∷ xs) a r up (inr later) is =
    let other : has_rowid a x ≡ false = false_from_ne_true _ (λ that. apart_from a x r (all_has _ xs r up.0 later) that is) in
    rw other (one_at xs a r up.1 later is)

pub own_rowid : (a : ℤ) (n k i : ℕ) (body : List ℕ) → has_rowid a (stored a n k i body) ≡ true
own_rowid a n k i body = ap is_eq (tied_itself value_cmp_total (Int a))

-- ---- the row that the update finds

abbrev params_of : ℕ → ℕ → ℕ → List ℕ → Row
params_of n k i body = Int (pos n) ∷ Int (pos k) ∷ Int (pos i) ∷ Blob body ∷ []

-- what the update reads: the parameters, the rowid that is there, and the row that is not inserted
abbrev given_of : ℤ → ℤ → ℕ → ℕ → ℕ → List ℕ → Row
given_of at a n k i body = Int (pos n) ∷ Int (pos k) ∷ Int (pos i) ∷ Blob body ∷ Int a ∷ stored at n k i body

abbrev hits : Row → Row → Bool
hits given x = list_all (holds (given ∷ x ∷ [])) update_query.filter

hits_is : (at a b : ℤ) (n k i m l j : ℕ) (body old : List ℕ) → hits (given_of at a n k i body) (stored b m l j old) ≡ has_rowid a (stored b m l j old)
hits_is at a b n k i m l j body old = and_true _ ∙ equal_rowid b a

hits_entry : (at a : ℤ) (n k i : ℕ) (body : List ℕ) (x : Row) → IsEntry x → hits (given_of at a n k i body) x ≡ has_rowid a x
hits_entry at a n k i body x e = subst (λ y. hits (given_of at a n k i body) y ≡ has_rowid a y) (sym e.is)
    (hits_is at a e.at n k i e.number e.kind e.id body e.body)

found_one : (db : Trees) (at a : ℤ) (n k i : ℕ) (old body : List ℕ) (out : List Row) → IsKeyed (db 0) → Has (db 0) (stored a n k i old)
    → IsAnswer update_query (overlay db []) (given_of at a n k i body) out → out ≡ (Int a ∷ stored a n k i body) ∷ []
found_one db at a n k i old body out keyed there answer =
    let given = given_of at a n k i body in
    let only : filter (hits given) (db 0) ≡ stored a n k i old ∷ [] = filter_same (hits given) (has_rowid a) (db 0)
    (λ x h. hits_entry at a n k i body x (keyed.entries x h)) ∙ one_at (db 0) a _ keyed.ordered there (own_rowid a n k i old) in
    let staged : answer.staged ≡ (given ∷ stored a n k i old ∷ []) ∷ [] =
    answer.grouped ∙ flat_is (hits given) (λ x. given ∷ x ∷ []) (db 0) ∙ ap (map (λ x. given ∷ x ∷ [])) only in
    let o : Output = ([], Int a ∷ stored a n k i body) in
    let kept : answer.kept ≡ o ∷ [] = answer.distinct ∙ ap (map (output update_query)) staged in
    let ordered = one_permutation o answer.ordered (subst (λ (l : List Output). IsPermutation l answer.ordered) kept answer.same) in
    answer.shown ∙ ap (λ (xs : List Output). page update_query given (map (λ (p : Output). p.1) xs)) ordered

-- ---- the parts of the statement

free_of : (rows : List Row) (x : Row) → are_fresh rows (x ∷ []) ≡ true → is_taken rows x ≡ false
free_of rows x fresh = not-true _ (and_parts _ _ fresh).0

abbrev task_of : Option ℕ → Row → Task
task_of limit params = record { limit = limit; keys = Enforced; schema = record_schema; table = table; params = params }

-- what an edit of the table gave
abbrev Edits : Trees → Edit → Written → Type 0
Edits db edit one = (one.trees 0 ≡ edited db edit) × (are_fresh (left_by db edit) edit.news ≡ true)

puts : (limit : Option ℕ) (params new : Row) (db : Trees) (one : Written) → Puts (task_of limit params) new db (Ok one)
    → Edits db (edit_of db table [] Given 0 (new ∷ [])) one
puts limit params new db one h =
    let w = went h in
    let step = one_step record_schema Enforced db w.0 (edit_of db table [] Given 0 (new ∷ [])) refl w.1 in
    (ap (λ (it : Written). it.trees 0) (same_value w.2) ∙ step.rows, step.fresh)

updates : (limit : Option ℕ) (params given : Row) (db : Trees) (one : Written) → Updates (task_of limit params) update given db (Ok one)
    → (out : List Row) × IsAnswer update_query (overlay db []) given out × Edits db (edit_of db table (ids_of out) Given 1 out) one
updates limit params given db one h =
    let read = went h in
    let w = went read.2 in
    let step = one_step record_schema Enforced db w.0 (edit_of db table (ids_of read.0) Given 1 read.0) refl w.1 in
    (read.0, read.1.answer Null, (ap (λ (it : Written). it.trees 0) (same_value w.2) ∙ step.rows, step.fresh))

cleared : (task : Task) (new : Row) (db : Trees) (found : List Row) (one : Written) → Clears task Abort new db found (Ok one) → Puts task new db (Ok one)
cleared task new db [] one h = h
cleared task new db (x ∷ more) one h = h

module _ (limit : Option ℕ) (db : Trees) (n k i : ℕ) (body : List ℕ) (keyed : IsKeyed (db 0)) (one : Written) where
  abbrev task : Task
  task = task_of limit (params_of n k i body)

  abbrev new_row : Row
  new_row = stored (next_rowid (db 0)) n k i body

  abbrev Made : Type 0
  Made = Upserted n k i body (db 0) (one.trees 0)

  -- no row has the key
  added : AreConflicts (Some (1 ∷ 2 ∷ 3 ∷ [])) record_schema.indexes table (db 0) new_row [] → Puts task new_row db (Ok one) → Made
  added none h =
      let made = puts limit (params_of n k i body) new_row db one h in
      let cast = cast_stored (next_rowid (db 0)) n k i body in
      let whole : others n k i (db 0) ≡ db 0 = filter_whole (λ r. not (has_key n k i r)) (db 0) (λ r there.
      ap not (false_from_ne_true _ (λ yes. none.complete r there (meets_entry (next_rowid (db 0)) n k i body r (keyed.entries r there) ∙ yes)))) in
      record {
        at = next_rowid (db 0);
        free = subst (λ (rows : List Row). is_taken rows new_row ≡ false) (sym whole)
            (free_of (db 0) new_row (subst (λ (x : Row). are_fresh (db 0) (x ∷ []) ≡ true) cast made.1));
        is = made.0 ∙ (λ d. put_row (cast d) (sym whole d));
      }

  -- this row has it
  changed : (r : Row) → Has (db 0) r → has_key n k i r ≡ true → (there : Row) → there ≡ rowid r ∷ [] → Resolves task new_row db there (Some update) (Ok one)
      → Made
  changed r held key there id h =
      let e = keyed.entries r held in
      let a = e.at in
      let is = keyed_is n k i r e key in
      let at_home = subst (Has (db 0)) is held in
      let u = updates limit (params_of n k i body) (given_of (next_rowid (db 0)) a n k i body) db one
      (subst (λ (t : Row). Resolves task new_row db t (Some update) (Ok one)) (id ∙ ap (λ (x : Row). rowid x ∷ []) is) h) in
      let out = found_one db (next_rowid (db 0)) a n k i e.body body u.0 keyed at_home u.1 in
      let cast = cast_stored a n k i body in
      let made = subst (λ (o : List Row). Edits db (edit_of db table (ids_of o) Given 1 o) one) out u.2 in
      let same : without_rowid a (db 0) ≡ others n k i (db 0) = filter_same (λ x. not (has_rowid a x)) (λ x. not (has_key n k i x)) (db 0)
      (λ x h′. ap not (bool_same (has_rowid a x) (has_key n k i x)
      (λ yes. subst (λ (y : Row). has_key n k i y ≡ true) (sym (tied_same (db 0) x (stored a n k i e.body) keyed.ordered h′ at_home
      (both_at a x (stored a n k i e.body) yes (own_rowid a n k i e.body)))) (own_key a n k i e.body))
      (λ yes. subst (λ (y : Row). has_rowid a y ≡ true) (sym (keyed.apart n k i x (stored a n k i e.body) h′ at_home yes (own_key a n k i e.body)))
      (own_rowid a n k i e.body)))) in
      record {
        at = a;
        free = subst (λ (rows : List Row). is_taken rows (stored a n k i body) ≡ false) same
            (free_of (without_rowid a (db 0)) (stored a n k i body) (subst (λ (x : Row). are_fresh (without_rowid a (db 0)) (x ∷ []) ≡ true) cast made.1));
        is = made.0 ∙ (λ d. put_row (cast d) (same d));
      }

  met : (found : List Row) → AreConflicts (Some (1 ∷ 2 ∷ 3 ∷ [])) record_schema.indexes table (db 0) new_row found
      → Rattle.sqlite.specs.Rows.Meets task (Upserts task Abort new_row db []) new_row db clause found (Ok one) → Made
  met [] none h = added none (cleared task new_row db h.0 one h.2)
  met (there ∷ more) some h =
      let r = some.sound there (inl refl) in
      changed r.0 r.1 (sym (meets_entry (next_rowid (db 0)) n k i body r.0 (keyed.entries r.0 r.1)) ∙ r.2) there r.3 h

  judged : (verdict : Option Refusal) → Judged task Abort (clause ∷ []) new_row db verdict (Ok one) → Made
  judged None h = met h.0 h.1 h.2
  judged (Some why) h = absurd (let e = h in cc)

  tried : Tries task Abort (clause ∷ []) new_row db (Ok one) → Made
  tried (inl refused) = absurd (let e = refused.1 in cc)
  tried (inr h) = judged h.0 h.2

inserted : (limit : Option ℕ) (db : Trees) (n k i : ℕ) (body : List ℕ) (w : Written) → IsKeyed (db 0)
    → InsertsOr (task_of limit (params_of n k i body)) Abort (clause ∷ []) (Values upsert_terms 5) db (Ok w) → Upserted n k i body (db 0) (w.trees 0)
inserted limit db n k i body w keyed h =
    let task = task_of limit (params_of n k i body) in
    let given = went h in
    let counter = went given.2 in
    let all = went counter.2 in
    let counted = went all.2 in
    let rows : given.0 ≡ (Null ∷ params_of n k i body) ∷ [] = given.1.1 in
    let each = went (subst (λ (rs : List Row). TriesEach task Abort (clause ∷ []) rs (count_of counter.0) (nothing db) (Ok all.0)) rows all.1) in
    let trees : w.trees ≡ each.0.trees = ap (λ (it : Written). it.trees) (same_value counted.2) ∙ same_value counted.1 ∙ ap (λ (p : Written × ℤ). p.0.trees)
    (same_value each.2) in
    let made = tried limit db n k i body keyed each.0 (subst (λ (x : Row). Tries task Abort (clause ∷ []) x db (Ok each.0))
    (numbered_is (db 0) n k i body) each.1) in
    subst (Upserted n k i body (db 0)) (sym (ap (λ (t : Trees). t 0) trees)) made

-- the upsert: the row of the key has the new bytes, and the others are as they were
pub upserts : (old new : State) (n k i : ℕ) (body : List ℕ) (count : ℕ) → old.now.schema ≡ record_schema → IsKeyed (old.now.trees 0)
    → Executes upsert_text (Int (pos n) ∷ Int (pos k) ∷ Int (pos i) ∷ Blob body ∷ []) old new (Ok count) → (new.now.schema ≡ record_schema)
    × Upserted n k i body (old.now.trees 0) (new.now.trees 0)
upserts old new n k i body count has keyed h =
    let params = params_of n k i body in
    let w = runs_as upsert_text params old new record_schema has upsert_command upsert_is upsert_plain count h in
    let text = statement_of upsert_text (understood record_schema upsert_text) in
    let done = went (subst (λ s. Does old.step_limit (mode_of old) params (record old.now { schema = s }) text None upsert_command (Ok (w.tally, new.now)))
    has w.changed) in
    let now = ap (λ (p : Tally × Database). p.1) (same_value (went (went done.2).2).2) in
    let made = inserted old.step_limit old.now.trees n k i body done.0 keyed done.1 in
    (ap (λ (d : Database). d.schema) now, subst (Upserted n k i body (old.now.trees 0)) (sym (ap (λ (d : Database). d.trees 0) now)) made)
