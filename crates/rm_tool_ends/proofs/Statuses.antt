-- What a status tells of how a call ended.
use Rattle.std.specs.Prelude.{IfErr}
use Rattle.std.proofs.Common.{◌≡◌, ◌==◌, ℕ, zero, suc, arith, [], ◌∷◌, Option, Some, None, Result, Ok, Err, Contains, if◌then◌else◌, lit<, refl, ap, subst, ◌∙◌}
use Rattle.rm_tool_ends.specs.{Ended.{status_of}, declared.ended.Ended.{Ended}}
use Rattle.rm_tool_ends.specs.declared.ended.Ended.TheVariants as ended

-- how it ended that has this status
abbrev pub of_status : ℕ → Option Ended
of_status n =
    if n == 1 then Some ended.Refused
    else if n == 4 then Some ended.Sink
    else if n == 5 then Some ended.Store
    else if n == 6 then Some ended.Keeper
    else if n == 7 then Some ended.NoMemory
    else if n == 9 then Some ended.BadRecord
    else None

-- how it ended
abbrev ended_in : {A : Type 0} → Result A Ended → Option Ended
ended_in (Ok x) = None
ended_in (Err e) = Some e

told : {A : Type 0} (r : Result A Ended) → ended_in r ≡ of_status (status_of r)
told (Ok x) = refl
told (Err ended.Refused) = refl
told (Err ended.BadRecord) = refl
told (Err ended.Sink) = refl
told (Err ended.Store) = refl
told (Err ended.Keeper) = refl
told (Err ended.NoMemory) = refl

by-end : {A : Type 0} (P : Ended → Type 0) (r : Result A Ended) (e : Ended) → ended_in r ≡ Some e → IfErr r P → P e
by-end P (Ok x) e is left = absurd (cc)
by-end P (Err f) e is left = let same : f ≡ e = cc in subst P same left

-- it ended as its status says
pub ended-at : {A : Type 0} (P : Ended → Type 0) (r : Result A Ended) (n : ℕ) (e : Ended) → of_status n ≡ Some e → status_of r ≡ n → IfErr r P → P e
ended-at P r n e at is left = by-end P r e (told r ∙ ap of_status is ∙ at) left

pub has-status : {A : Type 0} (r : Result A Ended) → Contains (0 ∷ 1 ∷ 2 ∷ 4 ∷ 5 ∷ 6 ∷ 7 ∷ 9 ∷ []) (status_of r)
has-status (Ok x) = (0, lit< tt, refl)
has-status (Err ended.Refused) = (1, lit< tt, refl)
has-status (Err ended.BadRecord) = (7, lit< tt, refl)
has-status (Err ended.Sink) = (3, lit< tt, refl)
has-status (Err ended.Store) = (4, lit< tt, refl)
has-status (Err ended.Keeper) = (5, lit< tt, refl)
has-status (Err ended.NoMemory) = (6, lit< tt, refl)

-- the status of words that are refused, or of the sink's fault
pub words-status : (k : ℕ) → Contains (2 ∷ 4 ∷ []) k → Contains (0 ∷ 1 ∷ 2 ∷ 4 ∷ 5 ∷ 6 ∷ 7 ∷ 9 ∷ []) k
words-status k (zero, inside, is) = (2, lit< tt, is)
words-status k (suc zero, inside, is) = (3, lit< tt, is)
words-status k (suc (suc j), inside, is) = absurd (omega (arith, inside))
