-- What a keeper that tells its table knows after a call.
use Rattle.std.proofs.Common.{◌≡◌, ◌≢◌, ℕ, List, [], ◌∷◌, ◌++◌, sym, ap, subst, ◌∙◌, append_assoc, append-nil, IsTrue, Result, Ok, Err, IfOk, IsPermutation}
use Rattle.std.proofs.{Math.Logic.{∥∥₁_map}, lemmas.Bool.{ne_eqb}}
use Rattle.sqlite_trees.specs.declared.store.Store.{Ghosts}
use Rattle.sqlite.specs.Held.{Held, state}
use Rattle.rm_catalog.specs.{contracts.record.Record.{the_row}, Edits.{after_edits}, Keys.{Ascends}, declared.record.Record.{Record}}
use Rattle.rm_catalog.{specs.declared.record.Edit.{Edit}, proofs.Ascending.{ascends_nil, ascends_after_all}}
use Rattle.rm_keeper_sql.specs.{Shelves.{numbered, edits_at, records_at}, Table.{Holds, Takes, Reads}, Known.{Known}}
use Rattle.rm_keeper_sql.proofs.{Permuted.{permuted}, Telling.{records_own, records_other}}

-- what is added to a log that was this one
pub added_to : (old was new more : List (ℕ × Edit)) → was ≡ old → new ≡ was ++ more → new ≡ old ++ more
added_to old was new more same is = is ∙ ap (λ (l : List (ℕ × Edit)). l ++ more) same

-- the records of a number after edits of it
pub records_many : (n : ℕ) (edits : List Edit) (es : List (ℕ × Edit)) → records_at n (es ++ numbered n edits) ≡ after_edits edits (records_at n es)
records_many n [] es = ap (records_at n) (append-nil es)
records_many n (e ∷ more) es =
    ap (records_at n) (sym (append_assoc es ((n, e) ∷ []) (numbered n more))) ∙ records_many n more (es ++ (n, e) ∷ [])
    ∙ ap (after_edits more) (records_own n e es)

-- those of each other number stay
pub records_others : (n m : ℕ) (edits : List Edit) (es : List (ℕ × Edit)) → m ≢ n → records_at m (es ++ numbered n edits) ≡ records_at m es
records_others n m [] es apart = ap (records_at m) (append-nil es)
records_others n m (e ∷ more) es apart =
    ap (records_at m) (sym (append_assoc es ((n, e) ∷ []) (numbered n more))) ∙ records_others n m more (es ++ (n, e) ∷ []) apart
    ∙ records_other m n e es (ne_eqb n m (λ same. apart (sym same)))

-- the records after edits ascend
pub told_ascends : {T E : Type 0} (n : ℕ) (es : List (ℕ × Edit)) (r : Result T E) → IfOk r (λ _. Ascends (records_at n es))
told_ascends n es (Ok x) = ascends_after_all (edits_at n es) [] ascends_nil
told_ascends n es (Err e) = tt

module _ {S : Type 0} (g : Ghosts S) (es : List (ℕ × Edit)) (old new : Held S) where
  pub known_applied : (n : ℕ) (edits : List Edit) → Takes n edits (state g old).committed (state g new).committed
      → (IsTrue (state g new).is_open → IsTrue (state g old).is_open) → ∥ Known g es old ∥₁ → ∥ Known g (es ++ numbered n edits) new ∥₁
  known_applied n edits takes shuts t = ∥∥₁_map t (λ (known : Known g es old) is_open. takes es (known (shuts is_open)))

  pub known_kept : (IsTrue (state g new).is_open → (state g new).committed ≡ (state g old).committed)
      → (IsTrue (state g new).is_open → IsTrue (state g old).is_open) → ∥ Known g es old ∥₁ → ∥ Known g es new ∥₁
  known_kept same shuts t = ∥∥₁_map t (λ (known : Known g es old) is_open. subst (Holds es) (sym (same is_open)) (known (shuts is_open)))

  pub told_read : {E : Type 0} (n : ℕ) (r : Result (List Record) E) → IfOk r (λ rs. IsTrue (state g old).is_open × Reads n rs (state g old).committed)
      → ∥ Known g es old ∥₁ → IfOk r (λ rs. IsPermutation (records_at n es) rs)
  told_read n (Ok rs) h known = permuted the_row.coded (records_at n es) rs (∥∥₁_map known (λ (k : Known g es old). h.1 es (k h.0)))
  told_read n (Err e) h known = tt
