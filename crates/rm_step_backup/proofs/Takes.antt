-- Whether a backup takes the datafile of a number.
use Rattle.std.specs.{List.{list_any}, Option.{option_and_then, option_map_or}}
use Rattle.std.proofs.Common.{◌≡◌, ◌<◌, ◌+◌, ◌-◌, ◌∙◌, ◌==◌, ◌&&◌, ◌||◌, ℕ, zero, suc, List, [], ◌∷◌, Option, Some, None, Bool, true, false, cond, refl, ap, sym, arith, slice_get}
use Rattle.std.proofs.lemmas.Bool.{eq-eqb, ne_eqb}
use Rattle.rm_history.specs.{World.{exists, file_of}, declared.world.Datafile.{Datafile}}
use Rattle.rm_lang_statement.specs.declared.command.BackupForm.{BackupForm}
use Rattle.rm_machine.specs.{Backup.{asks_for, is_taken, taken, taken_from}, State.{current_of, ledger, now_of, on_path, world}}
use Rattle.rm_machine.specs.declared.state.State.{State}

-- the first of them is another one, or it is this one
other-first : (t : Bool) (f n : ℕ) (rest : List ℕ) → (f == n) ≡ false → list_any (λ g. g == n) (cond t (f ∷ rest) rest) ≡ list_any (λ g. g == n) rest
other-first true f n rest other = ap (λ b. b || list_any (λ g. g == n) rest) other
other-first false f n rest other = refl

this-first : (t : Bool) (f n : ℕ) (rest : List ℕ) → (f == n) ≡ true → list_any (λ g. g == n) rest ≡ false → list_any (λ g. g == n) (cond t (f ∷ rest) rest) ≡ t
this-first true f n rest same none = ap (λ b. b || list_any (λ g. g == n) rest) same
this-first false f n rest same none = none

-- of the datafiles from f on, it takes none of a lower number
takes-none : (s : State) (b : BackupForm) (f : ℕ) (ds : List Datafile) (n : ℕ) → n < f → list_any (λ g. g == n) (taken_from s b f ds) ≡ false
takes-none s b f [] n below = refl
takes-none s b f (d ∷ ds) n below =
    other-first (is_taken s b f d) f n (taken_from s b (f + 1) ds) (ne_eqb f n (λ e. omega (arith, below, e))) ∙ takes-none s b (f + 1) ds n (omega (arith, below))

takes-from : (s : State) (b : BackupForm) (f : ℕ) (ds : List Datafile) (n m : ℕ) → n ≡ f + m → list_any (λ g. g == n) (taken_from s b f ds) ≡ option_map_or (is_taken s b n) (slice_get ds m) false
takes-from s b f [] n m is = refl
takes-from s b f (d ∷ ds) n zero is =
    let same : f ≡ n = omega (arith, is) in
    this-first (is_taken s b f d) f n (taken_from s b (f + 1) ds) (eq-eqb f n same) (takes-none s b (f + 1) ds n (omega (arith, is))) ∙ ap (λ k. is_taken s b k d) same
takes-from s b f (d ∷ ds) n (suc m) is =
    other-first (is_taken s b f d) f n (taken_from s b (f + 1) ds) (ne_eqb f n (λ e. omega (arith, is, e))) ∙ takes-from s b (f + 1) ds n m (omega (arith, is))

both-by : (here asked : Bool) (d : Datafile) → (here && asked) ≡ option_map_or (λ (e : Datafile). asked) (cond here (Some d) None) false
both-by true asked d = refl
both-by false asked d = refl

-- it takes one of the current path that it asks for
pub takes-is : (s : State) (b : BackupForm) (n : ℕ) → list_any (λ f. f == n) (taken s b) ≡ option_map_or (λ (d : Datafile). asks_for b n) (on_path s n) false
takes-is s b zero = takes-none s b 1 (ledger s).files 0 (omega arith)
takes-is s b (suc m) =
    let some : (suc m == 0) ≡ false = ne_eqb (suc m) 0 (λ e. omega (arith, e)) in
    let back : suc m - 1 ≡ m = omega arith in
    let file : file_of (world s) (suc m) ≡ slice_get (ledger s).files m = ap (λ t. cond t None (slice_get (ledger s).files (suc m - 1))) some ∙ ap (slice_get (ledger s).files) back in
    takes-from s b 1 (ledger s).files (suc m) m (omega arith)
    ∙ by (slice_get (ledger s).files m)
    ∙ ap (λ (o : Option Datafile). option_map_or (λ (d : Datafile). asks_for b (suc m)) (option_and_then (λ d. cond (exists (world s) (current_of s) (now_of s) d) (Some d) None) o) false) (sym file)
  where
    by : (o : Option Datafile) → option_map_or (is_taken s b (suc m)) o false ≡ option_map_or (λ (d : Datafile). asks_for b (suc m)) (option_and_then (λ d. cond (exists (world s) (current_of s) (now_of s) d) (Some d) None) o) false
    by None = refl
    by (Some d) = both-by (exists (world s) (current_of s) (now_of s) d) (asks_for b (suc m)) d
