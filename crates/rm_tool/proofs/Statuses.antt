-- What the status of a run tells of how it ended.
use Rattle.std.specs.Prelude.{IfErr, IfOk, OnOk, IsErrOf}
use Rattle.std.proofs.Common.{◌≡◌, ◌∙◌, ◌==◌, inl, inr, ℕ, Bool, true, false, List, [], ◌∷◌, Option, Some, None, Result, Ok, Err, Contains, if◌then◌else◌, lit<, refl, ap, sym, subst}
use Rattle.rm_base.specs.{Outside.{Rose}, Store.{Held}}
use Rattle.rm_catalog.specs.declared.record.Record.{Record}
use Rattle.rm_tool_opening.{specs.{Opens.{AreValid}, Opening.{TellsValid}}, proofs.Source.{none-bad, told-valid}}
use Rattle.rm_tool.specs.{Early.{Faults, Leaves, RoseFor, status_for, status_of}, Run.{Watch}, Session.{IsDone, IsEarly, NoneRan}}
use Rattle.rm_tool.specs.{Words.{accepts}, declared.early.Early.{Early}}
use Rattle.rm_tool.specs.declared.early.Early.TheVariants as early

-- how a run ended that has this status
abbrev pub of_status : ℕ → Option Early
of_status n =
    if n == 2 then Some early.Words
    else if n == 3 then Some early.Source
    else if n == 4 then Some early.Sink
    else if n == 5 then Some early.Store
    else if n == 6 then Some early.Keeper
    else if n == 7 then Some early.NoMemory
    else if n == 8 then Some early.TooLong
    else if n == 9 then Some early.BadRecord
    else None

-- how it ended early
abbrev early_in : Result Bool Early → Option Early
early_in (Ok refused) = None
early_in (Err e) = Some e

told : (r : Result Bool Early) → early_in r ≡ of_status (status_of r)
told (Ok true) = refl
told (Ok false) = refl
told (Err early.Words) = refl
told (Err early.Source) = refl
told (Err early.Sink) = refl
told (Err early.Store) = refl
told (Err early.Keeper) = refl
told (Err early.NoMemory) = refl
told (Err early.TooLong) = refl
told (Err early.BadRecord) = refl

by-end : (P : Early → Type 0) (r : Result Bool Early) (e : Early) → early_in r ≡ Some e → IfErr r P → P e
by-end P (Ok refused) e is left = absurd (cc)
by-end P (Err f) e is left = let same : f ≡ e = cc in subst P same left

-- it ended as its status says
pub ended-at : (P : Early → Type 0) (r : Result Bool Early) (k n : ℕ) (e : Early) → k ≡ status_of r → of_status n ≡ Some e → k ≡ n → IfErr r P → P e
ended-at P r k n e is at status left = by-end P r e (told r ∙ ap of_status (sym is ∙ status) ∙ at) left

as-long : (r : Result Bool Early) → early_in r ≡ Some early.TooLong → r ≡ Err early.TooLong
as-long (Ok refused) how = absurd (cc)
as-long (Err e) how = let same : e ≡ early.TooLong = cc in ap Err same

-- it ended at a script that is too long
pub long-at : (r : Result Bool Early) (k : ℕ) → k ≡ status_of r → k ≡ 8 → IsErrOf r early.TooLong
long-at r k is status = as-long r (told r ∙ ap of_status (sym is ∙ status))

-- 0 and 1 are of a run that was done
early-status : (e : Early) → ¬ IsDone (status_for e)
early-status early.Words d = elim d [ inl zero ↦ absurd (cc) | inr one ↦ absurd (cc) ]
early-status early.Source d = elim d [ inl zero ↦ absurd (cc) | inr one ↦ absurd (cc) ]
early-status early.Sink d = elim d [ inl zero ↦ absurd (cc) | inr one ↦ absurd (cc) ]
early-status early.Store d = elim d [ inl zero ↦ absurd (cc) | inr one ↦ absurd (cc) ]
early-status early.Keeper d = elim d [ inl zero ↦ absurd (cc) | inr one ↦ absurd (cc) ]
early-status early.NoMemory d = elim d [ inl zero ↦ absurd (cc) | inr one ↦ absurd (cc) ]
early-status early.TooLong d = elim d [ inl zero ↦ absurd (cc) | inr one ↦ absurd (cc) ]
early-status early.BadRecord d = elim d [ inl zero ↦ absurd (cc) | inr one ↦ absurd (cc) ]

-- what is so of a run that was done, by its status
pub done-at : (P : ℕ → Type 0) (r : Result Bool Early) (k : ℕ) → k ≡ status_of r → IsDone k → IfOk r (λ refused. P (status_of r)) → P k
done-at P (Ok refused) k is done so = subst P (sym is) so
done-at P (Err e) k is done so = absurd (early-status e (subst IsDone is done))

pub done-on : (P : Type 0) (r : Result Bool Early) (k : ℕ) → k ≡ status_of r → IsDone k → OnOk r P → P
done-on P (Ok refused) k is done so = so
done-on P (Err e) k is done so = absurd (early-status e (subst IsDone is done))

-- there is no other status
pub has-status : (r : Result Bool Early) → Contains (0 ∷ 1 ∷ 2 ∷ 3 ∷ 4 ∷ 5 ∷ 6 ∷ 7 ∷ 8 ∷ 9 ∷ []) (status_of r)
has-status (Ok false) = (0, lit< tt, refl)
has-status (Ok true) = (1, lit< tt, refl)
has-status (Err early.Words) = (2, lit< tt, refl)
has-status (Err early.Source) = (3, lit< tt, refl)
has-status (Err early.Sink) = (4, lit< tt, refl)
has-status (Err early.Store) = (5, lit< tt, refl)
has-status (Err early.Keeper) = (6, lit< tt, refl)
has-status (Err early.NoMemory) = (7, lit< tt, refl)
has-status (Err early.TooLong) = (8, lit< tt, refl)
has-status (Err early.BadRecord) = (9, lit< tt, refl)

module _ (words : List (List ℕ)) (left rest : Option (List ℕ)) (clock later : Watch) (before now : Option (List ℕ)) (held : Option Held) (kept : Option (List Record)) (held' : Option Held) (kept' : Option (List Record)) where
  -- 2, 3, 8 and 9 are of a run of which no statement was reached
  none-ran : (e : Early) → IsEarly (status_for e) → Leaves words left rest clock later before now held kept held' kept' e → NoneRan clock later held kept held' kept'
  none-ran early.Words at is = is.2
  none-ran early.Source at is = is.1
  none-ran early.TooLong at is = is.2
  none-ran early.BadRecord at is = is.2
  none-ran early.Sink at is = elim at [ inl two ↦ absurd (cc) | inr (inl three) ↦ absurd (cc) | inr (inr (inl eight)) ↦ absurd (cc) | inr (inr (inr nine)) ↦ absurd (cc) ]
  none-ran early.Store at is = elim at [ inl two ↦ absurd (cc) | inr (inl three) ↦ absurd (cc) | inr (inr (inl eight)) ↦ absurd (cc) | inr (inr (inr nine)) ↦ absurd (cc) ]
  none-ran early.Keeper at is = elim at [ inl two ↦ absurd (cc) | inr (inl three) ↦ absurd (cc) | inr (inr (inl eight)) ↦ absurd (cc) | inr (inr (inr nine)) ↦ absurd (cc) ]
  none-ran early.NoMemory at is = elim at [ inl two ↦ absurd (cc) | inr (inl three) ↦ absurd (cc) | inr (inr (inl eight)) ↦ absurd (cc) | inr (inr (inr nine)) ↦ absurd (cc) ]

  pub none-ran-at : (r : Result Bool Early) (k : ℕ) → k ≡ status_of r → IsEarly k → IfErr r (Leaves words left rest clock later before now held kept held' kept') → NoneRan clock later held kept held' kept'
  none-ran-at (Ok false) k is at so = elim at [ inl two ↦ absurd (cc) | inr (inl three) ↦ absurd (cc) | inr (inr (inl eight)) ↦ absurd (cc) | inr (inr (inr nine)) ↦ absurd (cc) ]
  none-ran-at (Ok true) k is at so = elim at [ inl two ↦ absurd (cc) | inr (inl three) ↦ absurd (cc) | inr (inr (inl eight)) ↦ absurd (cc) | inr (inr (inr nine)) ↦ absurd (cc) ]
  none-ran-at (Err e) k is at so = none-ran e (subst IsEarly is at) so

  module _ (rs : List Record) (is : kept ≡ Some rs) (accepted : accepts words ≡ true) where
    -- the keeper's records are not valid
    pub of-bad : (r : Result Bool Early) → OnOk r (TellsValid kept) → IfErr r (Leaves words left rest clock later before now held kept held' kept') → ¬ IsErrOf r early.TooLong → ¬ AreValid rs → Contains (9 ∷ 4 ∷ 3 ∷ 6 ∷ 7 ∷ []) (status_of r)
    of-bad (Ok refused) valid so few bad = absurd (bad (told-valid rs is valid))
    of-bad (Err early.Words) valid so few bad = let unread = so.0 in absurd (cc)
    of-bad (Err early.Source) valid so few bad = (2, lit< tt, refl)
    of-bad (Err early.Sink) valid so few bad = (1, lit< tt, refl)
    of-bad (Err early.Store) valid so few bad = absurd (bad (told-valid rs is so.0))
    of-bad (Err early.Keeper) valid so few bad = (3, lit< tt, refl)
    of-bad (Err early.NoMemory) valid so few bad = (4, lit< tt, refl)
    of-bad (Err early.TooLong) valid so few bad = absurd (few refl)
    of-bad (Err early.BadRecord) valid so few bad = (0, lit< tt, refl)

    -- they are, and no count rose
    pub of-none : (r : Result Bool Early) (a b : Faults) → IfErr r (Leaves words left rest clock later before now held kept held' kept') → IfErr r (RoseFor a b) → ¬ IsErrOf r early.TooLong → AreValid rs
        → ¬ Rose a.source b.source → ¬ Rose a.sink b.sink → ¬ Rose a.store b.store → ¬ Rose a.keeper b.keeper → Contains (0 ∷ 1 ∷ 7 ∷ []) (status_of r)
    of-none (Ok false) a b so rose few valid source sink store keeper = (0, lit< tt, refl)
    of-none (Ok true) a b so rose few valid source sink store keeper = (1, lit< tt, refl)
    of-none (Err early.Words) a b so rose few valid source sink store keeper = let unread = so.0 in absurd (cc)
    of-none (Err early.Source) a b so rose few valid source sink store keeper = absurd (source rose)
    of-none (Err early.Sink) a b so rose few valid source sink store keeper = absurd (sink rose)
    of-none (Err early.Store) a b so rose few valid source sink store keeper = absurd (store rose)
    of-none (Err early.Keeper) a b so rose few valid source sink store keeper = absurd (keeper rose)
    of-none (Err early.NoMemory) a b so rose few valid source sink store keeper = (2, lit< tt, refl)
    of-none (Err early.TooLong) a b so rose few valid source sink store keeper = absurd (few refl)
    of-none (Err early.BadRecord) a b so rose few valid source sink store keeper = absurd (none-bad rs is valid so.1)
