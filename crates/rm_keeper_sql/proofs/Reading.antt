-- What the texts of the making, the selection and the deletion are read as.
use Rattle.std.proofs.Common.{◌≡◌, ◌⊎◌, inl, inr, ℕ, pos, negsuc, List, [], ◌∷◌, codes, None, Ok, Err, Result, refl, sym, ap, subst, ◌∙◌, false}
use Rattle.sqlite.specs.{Collation.TheVariants.{Binary}, Command.TheVariants.{Delete, Select, CreateTable}, Compile.{table_defined_by}}
use Rattle.sqlite.specs.{Change.{created, next_tree}, Listing.{understood, reads_listing}, Term.{col, lit, op2}}
use Rattle.sqlite.specs.{Query.{Query, inner, end, IsAnswer}, Program.{overlay}, Tree.{Trees}, Order.{Row}}
use Rattle.sqlite.specs.{Does.{Tally, Does, lacks_sequence}, Effect.{Database}, State.{State, Writes, Executes, Shown, mode_of}}
use Rattle.sqlite.specs.{Rows.{Written}, Edit.{without_all}, declared.types.Value.TheVariants.{Null, Int}}
use Rattle.sqlite.proofs.Callers.{IsPlain, command_of, statement_of, runs_as, reads_as, one_step}
use Rattle.sqlite_tied.specs.Compute.{everything}
use Rattle.sqlite_sql.specs.declared.ops.{BinaryOp.TheVariants.{Compare}, CompareOp.TheVariants.{Eq}}
use Rattle.rm_keeper_sql.specs.{Tables.{no_schema, record_table, record_schema}, Texts.{create_text, select_text, delete_text}}
use Rattle.sqlite_rules.specs.Calls.{ids_of}

create_is : (command_of (understood no_schema create_text) ≡ CreateTable) × (statement_of create_text (understood no_schema create_text) ≡ create_text)
unfolding understood everything
create_is = (refl, refl)

table_is : table_defined_by create_text ≡ Ok record_table
unfolding understood everything
table_is = refl

create_plain : IsPlain (understood no_schema create_text)
unfolding understood everything
create_plain = (refl, refl)

pub went : {B E R : Type 0} {b : B} {Stops : E → Type 0} → ((stop : E) × Stops stop × (Ok b ≡ Err stop)) ⊎ R → R
went (inl stopped) = absurd (let e = stopped.2 in cc)
went (inr on) = on

pub same_value : {B E : Type 0} {a b : B} → ◌≡◌ {A = Result B E} (Ok a) (Ok b) → a ≡ b
same_value e = cc

-- the first make: an empty table
pub creates : (old new : State) (count : ℕ) → old.now.schema ≡ no_schema → Executes create_text [] old new (Ok count)
    → (new.now.schema ≡ record_schema) × (new.now.trees 0 ≡ [])
creates old new count has h =
    let w = subst (λ t. Writes old new None CreateTable t [] count) create_is.1
    (runs_as create_text [] old new no_schema has CreateTable create_is.0 create_plain count h) in
    let all = went w.changed in
    let first = went all.1 in
    let made = first.1 in
    let both : Ok made.table ≡ Ok record_table = sym made.defined ∙ table_is in
    let same : made.table ≡ record_table = cc in
    let schema : first.0.schema ≡ record_schema = made.is ∙ ap (λ s. created s made.table) has ∙ ap (created no_schema) same in
    let plain : lacks_sequence first.0.schema ≡ false = ap lacks_sequence schema in
    let now : new.now ≡ first.0 = ap (λ (p : Tally × Database). p.1) (same_value all.2) ∙ same_value (rw plain at first.2) in
    (ap (λ (d : Database). d.schema) now ∙ schema, ap (λ (d : Database). d.trees 0) now ∙ subst (λ s. first.0.trees (next_tree s) ≡ []) has made.empty)

-- the rows of one number, by kind and id
abbrev pub query : Query
query = record {
  from = inner 0 end;
  filter = op2 (Compare Eq Binary) (col 1 1) (col 0 0) ∷ [];
  group = None;
  project = col 1 2 ∷ col 1 3 ∷ col 1 4 ∷ [];
  distinct = false;
  collations = [];
  order = (col 1 2, record { collation = Binary; descending = false }) ∷ (col 1 3, record { collation = Binary; descending = false }) ∷ [];
  limit = lit (Int (negsuc 0));
  offset = lit (Int (pos 0));
}

select_is : (command_of (understood record_schema select_text) ≡ Select (record { lets = []; body = query }) (codes "kind" ∷ codes "id" ∷ codes "body" ∷ [])) × (reads_listing record_schema select_text ≡ false)
unfolding understood everything
select_is = (refl, refl)

select_plain : IsPlain (understood record_schema select_text)
unfolding understood everything
select_plain = (refl, refl)

-- what the selection reads of the rows
pub answers : (old new : State) (params : Row) (rows : List Row) → old.now.schema ≡ record_schema → Shown select_text params old new rows
    → IsAnswer query (overlay old.now.trees []) params rows
answers old new params rows has h =
    (reads_as select_text params old new record_schema has (Select (record { lets = []; body = query }) (codes "kind" ∷ codes "id" ∷ codes "body" ∷ [])) select_is.0 select_plain select_is.1 rows h).answer Null

-- the rowids of the rows that have the key
abbrev pub delete_query : Query
delete_query = record {
  from = inner 0 end;
  filter = op2 (Compare Eq Binary) (col 1 1) (col 0 0) ∷ op2 (Compare Eq Binary) (col 1 2) (col 0 1) ∷ op2 (Compare Eq Binary) (col 1 3) (col 0 2) ∷ [];
  group = None;
  project = col 1 0 ∷ [];
  distinct = false;
  collations = [];
  order = [];
  limit = lit (Int (negsuc 0));
  offset = lit (Int (pos 0));
}

delete_is : command_of (understood record_schema delete_text) ≡ Delete 0 (record { lets = []; body = delete_query })
unfolding understood everything
delete_is = refl

delete_plain : IsPlain (understood record_schema delete_text)
unfolding understood everything
delete_plain = (refl, refl)

-- the table without the rows that the query found
pub deletes : (old new : State) (params : Row) (count : ℕ) → old.now.schema ≡ record_schema → Executes delete_text params old new (Ok count)
    → (new.now.schema ≡ record_schema) × ((rows : List Row) × IsAnswer delete_query (overlay old.now.trees []) params rows ×
    (new.now.trees 0 ≡ without_all (old.now.trees 0) (ids_of rows)))
deletes old new params count has h =
    let db = old.now.trees in
    let command = Delete 0 (record { lets = []; body = delete_query }) in
    let w = runs_as delete_text params old new record_schema has command delete_is delete_plain count h in
    let text = statement_of delete_text (understood record_schema delete_text) in
    let done = went (subst (λ s. Does old.step_limit (mode_of old) params (record old.now { schema = s }) text None command (Ok (w.tally, new.now))) has
    w.changed) in
    let now = ap (λ (p : Tally × Database). p.1) (same_value (went (went done.2).2).2) in
    let given = went done.1 in
    let written = went given.2 in
    let trees : done.0.trees ≡ written.0 = ap (λ (it : Written). it.trees) (same_value written.2) in
    let rows = (one_step record_schema _ db written.0 _ refl written.1).rows in
    (ap (λ (d : Database). d.schema) now, (given.0, given.1.answer Null, ap (λ (d : Database). d.trees 0) now ∙ ap (λ (t : Trees). t 0) trees ∙ rows))
