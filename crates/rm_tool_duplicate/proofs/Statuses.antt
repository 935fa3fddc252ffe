-- What a status tells of how a duplicate ended.
use Rattle.std.specs.Prelude.{IfErr, OnOk}
use Rattle.std.proofs.Common.{◌≡◌, inl, inr, ℕ, List, [], ◌∷◌, Option, Some, Result, Ok, Err, Contains, lit<, refl, sym, subst, ◌∙◌}
use Rattle.rm_catalog.specs.declared.record.Record.{Record}
use Rattle.rm_lang_words.specs.Duplicate.{DuplicateSaid}
use Rattle.rm_base.specs.{Outside.{Rose}, Store.{Held}}
use Rattle.rm_shelf.specs.Shelved.{Shelved}
use Rattle.rm_tool_opening.{specs.Opens.{AreValid}, proofs.Source.{none-bad, told-valid}}
use Rattle.rm_tool_duplicate.specs.{Asked.{Sides, sides}, Ended.{Finishes, Leaves}}
use Rattle.rm_tool_ends.{specs.{Ended.{Counts, RoseFor, status_of}, declared.ended.Ended.{Ended}}, proofs.Statuses.{ended-at, of_status}}
use Rattle.rm_tool_ends.specs.declared.ended.Ended.TheVariants as ended

module _ {A : Type 0} (x : DuplicateSaid) (a b : Sides) (before now : Option (List ℕ)) (rs : List Record) (kept : a.source ≡ Some rs) where
  -- the source's records are not valid
  pub of-bad : (r : Result A Ended) → OnOk r (Finishes x a b before now) → IfErr r (Leaves x a b before now) → ¬ AreValid rs → Contains (9 ∷ 4 ∷ 6 ∷ 7 ∷ []) (status_of r)
  of-bad (Ok y) done left bad = absurd (bad (told-valid rs kept done.is.makes.source.valid))
  of-bad (Err ended.Refused) done left bad = absurd (bad (told-valid rs kept left.1.refuses.source.valid))
  of-bad (Err ended.BadRecord) done left bad = (0, lit< tt, refl)
  of-bad (Err ended.Sink) done left bad = (1, lit< tt, refl)
  of-bad (Err ended.Store) done left bad = absurd (bad (told-valid rs kept left.0))
  of-bad (Err ended.Keeper) done left bad = (2, lit< tt, refl)
  of-bad (Err ended.NoMemory) done left bad = (3, lit< tt, refl)

  -- they are, and no count rose
  pub of-none : (r : Result A Ended) (c d : Counts) → IfErr r (Leaves x a b before now) → IfErr r (RoseFor c d) → AreValid rs → ¬ Rose c.sink d.sink → ¬ Rose c.from d.from → ¬ Rose c.to d.to → ¬ Rose c.records d.records
      → Contains (0 ∷ 1 ∷ 7 ∷ []) (status_of r)
  of-none (Ok y) c d left rose valid sink from to shelf = (0, lit< tt, refl)
  of-none (Err ended.Refused) c d left rose valid sink from to shelf = (1, lit< tt, refl)
  of-none (Err ended.BadRecord) c d left rose valid sink from to shelf = absurd (none-bad rs kept valid left.1)
  of-none (Err ended.Sink) c d left rose valid sink from to shelf = absurd (sink rose)
  of-none (Err ended.Store) c d left rose valid sink from to shelf = elim rose [
    | inl one ↦ absurd (from one)
    | inr other ↦ absurd (to other)
  ]
  of-none (Err ended.Keeper) c d left rose valid sink from to shelf = absurd (shelf rose)
  of-none (Err ended.NoMemory) c d left rose valid sink from to shelf = (2, lit< tt, refl)

-- The words that were read say one thing

pub one-said : (o : Option DuplicateSaid) (y x : DuplicateSaid) → o ≡ Some y → o ≡ Some x → y ≡ x
one-said o y x read is = let both : Some y ≡ Some x = sym read ∙ is in cc

module _ {A : Type 0} (y x : DuplicateSaid) (same : y ≡ x) (from from_now to to_now : Option Held) (shelf shelf_now : Option Shelved) (before now : Option (List ℕ)) (r : Result A Ended)
    (left : IfErr r (Leaves y (sides y from to shelf) (sides y from_now to_now shelf_now) before now)) (k : ℕ) (is : k ≡ status_of r) where
  -- what is left of what was read is left of what is said
  pub leaves-at : (n : ℕ) (e : Ended) → of_status n ≡ Some e → k ≡ n → Leaves x (sides x from to shelf) (sides x from_now to_now shelf_now) before now e
  leaves-at n e at status =
      subst (λ z. Leaves z (sides z from to shelf) (sides z from_now to_now shelf_now) before now e) same
      (ended-at (Leaves y (sides y from to shelf) (sides y from_now to_now shelf_now) before now) r n e at (sym is ∙ status) left)
