-- What a status tells of how a task ended.
use Rattle.std.specs.Prelude.{IfErr, OnOk}
use Rattle.std.proofs.Common.{◌≡◌, ◌∙◌, inl, inr, ℕ, List, [], ◌∷◌, Option, Some, Result, Ok, Err, Contains, lit<, refl, ap, sym, subst}
use Rattle.rm_base.specs.Outside.{Rose}
use Rattle.rm_catalog.specs.declared.record.Record.{Record}
use Rattle.rm_lang_words.specs.{Standby.{StandbySaid}, declared.standby.StandbyTask.{StandbyTask}}
use Rattle.rm_tool_opening.{specs.Opens.{AreValid}, proofs.Source.{none-bad, told-valid}}
use Rattle.rm_tool_ends.{specs.{Ended.{Counts, RoseFor, status_of}, declared.ended.Ended.{Ended}}, proofs.Statuses.{ended-at, of_status}}
use Rattle.rm_tool_ends.specs.declared.ended.Ended.TheVariants as ended
use Rattle.rm_tool_standby.specs.{Asked.{Sides}, Ended.{Finishes, Leaves}}

module _ {A : Type 0} (task : StandbyTask) (a b : Sides) (before now : Option (List ℕ)) (rs : List Record) (kept : a.records ≡ Some rs) where
  -- the database's records are not valid
  pub of-bad : (r : Result A Ended) → OnOk r (Finishes task a b before now) → IfErr r (Leaves task a b before now) → ¬ AreValid rs → Contains (9 ∷ 4 ∷ 6 ∷ 7 ∷ []) (status_of r)
  of-bad (Ok y) done left bad = absurd (bad (told-valid rs kept done.comes.source.valid))
  of-bad (Err ended.Refused) done left bad = absurd (bad (told-valid rs kept left.1.refuses.source.valid))
  of-bad (Err ended.BadRecord) done left bad = (0, lit< tt, refl)
  of-bad (Err ended.Sink) done left bad = (1, lit< tt, refl)
  of-bad (Err ended.Store) done left bad = absurd (bad (told-valid rs kept left.0))
  of-bad (Err ended.Keeper) done left bad = (2, lit< tt, refl)
  of-bad (Err ended.NoMemory) done left bad = (3, lit< tt, refl)

  -- they are, and no count rose
  pub of-none : (r : Result A Ended) (c d : Counts) → IfErr r (Leaves task a b before now) → IfErr r (RoseFor c d) → AreValid rs → ¬ Rose c.sink d.sink → ¬ Rose c.from d.from → ¬ Rose c.to d.to
      → ¬ Rose c.records d.records → Contains (0 ∷ 1 ∷ 7 ∷ []) (status_of r)
  of-none (Ok y) c d left rose valid sink from to records = (0, lit< tt, refl)
  of-none (Err ended.Refused) c d left rose valid sink from to records = (1, lit< tt, refl)
  of-none (Err ended.BadRecord) c d left rose valid sink from to records = absurd (none-bad rs kept valid left.1)
  of-none (Err ended.Sink) c d left rose valid sink from to records = absurd (sink rose)
  of-none (Err ended.Store) c d left rose valid sink from to records = elim rose [
    | inl one ↦ absurd (from one)
    | inr other ↦ absurd (to other)
  ]
  of-none (Err ended.Keeper) c d left rose valid sink from to records = absurd (records rose)
  of-none (Err ended.NoMemory) c d left rose valid sink from to records = (2, lit< tt, refl)

-- the words that were read say one task
pub one-task : (o : Option StandbySaid) (y x : StandbySaid) → o ≡ Some y → o ≡ Some x → y.task ≡ x.task
one-task o y x read is = let both : Some y ≡ Some x = sym read ∙ is in let same : y ≡ x = cc in ap (λ (z : StandbySaid). z.task) same

-- what is left of the task that was read is left of the one that is said
pub leaves-at : {A : Type 0} (y x : StandbyTask) (a b : Sides) (before now : Option (List ℕ)) (r : Result A Ended) (k n : ℕ) (e : Ended) → y ≡ x → IfErr r (Leaves y a b before now) → k ≡ status_of r
    → of_status n ≡ Some e → k ≡ n → Leaves x a b before now e
leaves-at y x a b before now r k n e same left is at status =
    subst (λ z. Leaves z a b before now e) same (ended-at (Leaves y a b before now) r n e at (sym is ∙ status) left)

not-done : (A : Type 0) (e : Ended) → ¬ (status_of {A = A} (Err e) ≡ 0)
not-done A ended.Refused is = absurd (cc)
not-done A ended.BadRecord is = absurd (cc)
not-done A ended.Sink is = absurd (cc)
not-done A ended.Store is = absurd (cc)
not-done A ended.Keeper is = absurd (cc)
not-done A ended.NoMemory is = absurd (cc)

-- and what was done of it was done of that
pub done-at : (A : Type 0) (y x : StandbyTask) (a b : Sides) (before now : Option (List ℕ)) (r : Result A Ended) (k : ℕ) → y ≡ x → OnOk r (Finishes y a b before now) → k ≡ status_of r → k ≡ 0
    → Finishes x a b before now
done-at A y x a b before now (Ok v) k same done is none = subst (λ z. Finishes z a b before now) same done
done-at A y x a b before now (Err e) k same done is none = absurd (not-done A e (sym is ∙ none))
