-- The datafiles that a backup takes.
use Rattle.std.proofs.Common.{◌≡◌, ◌<◌, ◌+◌, ◌-◌, ℕ, suc, List, [], ◌∷◌, Some, None, Bool, true, false, cond, refl, subst, arith, All, find, is_none, slice_get, slice_index_or}
use Rattle.std.proofs.lemmas.{Bool.{and_parts}, List.Elements.{All-nil, All-cons}}
use Rattle.rm_base.proofs.Conditions.{not-none, unless}
use Rattle.rm_blocks.specs.File.{File}
use Rattle.rm_lang_statement.specs.declared.command.BackupForm.{BackupForm}
use Rattle.rm_history.specs.{World.{exists}, declared.world.Datafile.{Datafile}}
use Rattle.rm_machine.specs.{Backup.{asks_for, is_taken, lost_taken, taken, taken_from}, State.{ledger, world, current_of, now_of, placed}}
use Rattle.rm_machine.specs.declared.state.State.{State}

-- the datafile of this number is there, and on the current path
record IsHere (s : State) (f : ℕ) : Type 0 where
  some : 0 < f
  datafile : Datafile
  is : slice_get (ledger s).files (f - 1) ≡ Some datafile
  here : exists (world s) (current_of s) (now_of s) datafile ≡ true

here-by : (s : State) (b : BackupForm) (f : ℕ) (d : Datafile) (rest : List ℕ) (t : Bool) → is_taken s b f d ≡ t → 0 < f → slice_get (ledger s).files (f - 1) ≡ Some d → All (IsHere s) rest → All (IsHere s) (cond t (f ∷ rest) rest)
here-by s b f d rest true is some at all = All-cons (IsHere s) f rest (record { some = some; datafile = d; is = at; here = (and_parts (exists (world s) (current_of s) (now_of s) d) (asks_for b f) is).0 }) all
here-by s b f d rest false is some at all = all

here-from : (s : State) (b : BackupForm) (f : ℕ) (ds : List Datafile) → 0 < f → ((k : ℕ) (d : Datafile) → slice_get ds k ≡ Some d → slice_get (ledger s).files (f - 1 + k) ≡ Some d) → All (IsHere s) (taken_from s b f ds)
here-from s b f [] some at = All-nil (IsHere s)
here-from s b f (d ∷ ds) some at =
    let first : f - 1 + 0 ≡ f - 1 = omega arith in
    here-by s b f d (taken_from s b (f + 1) ds) (is_taken s b f d) refl some
    (subst (λ k. slice_get (ledger s).files k ≡ Some d) first (at 0 d refl))
    (here-from s b (f + 1) ds (omega arith) (λ k e is.
    let next : f - 1 + suc k ≡ f + 1 - 1 + k = omega (arith, some) in
    subst (λ n. slice_get (ledger s).files n ≡ Some e) next (at (suc k) e is)))

here-all : (s : State) (b : BackupForm) → All (IsHere s) (taken s b)
here-all s b = here-from s b 1 (ledger s).files (omega arith) (λ k d is.
    let same : k ≡ 1 - 1 + k = omega arith in
    subst (λ n. slice_get (ledger s).files n ≡ Some d) same is)

none-found : {X : Type 0} (test : X → Bool) (xs : List X) → find test xs ≡ None → All (λ x. test x ≡ false) xs
none-found test [] is = All-nil (λ x. test x ≡ false)
none-found test (x ∷ xs) is =
    let both = unless (test x) x (find test xs) is in
    All-cons (λ y. test y ≡ false) x xs both.0 (none-found test xs both.1)

-- the datafile of this number is on the current path, and stands in place
pub record IsTaken (s : State) (f : ℕ) : Type 0 where
  pub some : 0 < f
  pub datafile : Datafile
  pub is : slice_get (ledger s).files (f - 1) ≡ Some datafile
  pub here : exists (world s) (current_of s) (now_of s) datafile ≡ true
  pub file : File
  pub stands : placed s f ≡ Some file

-- so does each that is backed up, where none of them is lost
pub taken-all : (s : State) (b : BackupForm) → lost_taken s b ≡ None → All (IsTaken s) (taken s b)
taken-all s b none k d inside =
    let f : ℕ = slice_index_or (taken s b) k d in
    let at = here-all s b k d inside in
    let file = not-none (placed s f) (none-found (λ n. is_none (placed s n)) (taken s b) none k d inside) in
    record { some = at.some; datafile = at.datafile; is = at.is; here = at.here; file = file.0; stands = file.1 }
