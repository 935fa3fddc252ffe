-- The datafiles that a backup takes: they ascend, are 64 at most, and have no more blocks than all datafiles together.
use Rattle.std.proofs.Common.{◌≡◌, ◌<◌, ◌≤◌, ◌+◌, ◌-◌, ℕ, suc, List, [], ◌∷◌, Some, Bool, true, false, cond, refl, subst, arith, length, sum_by, slice_get, All, AllPairs}
use Rattle.std.proofs.lemmas.List.{Elements.{All-cons, All-nil, All-weaker}, Kept.{AllPairs-cons}, Sums.{sum_by-cons}}
use Rattle.rm_history.specs.{World.{blocks_of}, declared.world.Datafile.{Datafile}}
use Rattle.rm_lang_statement.specs.declared.command.BackupForm.{BackupForm}
use Rattle.rm_machine.specs.{Backup.{is_taken, taken, taken_from}, Sound.{IsSound}, State.{ledger, world}, declared.state.State.{State}}
use Rattle.rm_machine.proofs.PiecesRead.{blocks-by}

-- their number
few-by : (t : Bool) (f n : ℕ) (rest : List ℕ) → length rest ≤ n → length (cond t (f ∷ rest) rest) ≤ suc n
few-by true f n rest few = omega (arith, few)
few-by false f n rest few = omega (arith, few)

few-from : (s : State) (b : BackupForm) (f : ℕ) (ds : List Datafile) → length (taken_from s b f ds) ≤ length ds
few-from s b f [] = omega arith
few-from s b f (d ∷ ds) = few-by (is_taken s b f d) f (length ds) (taken_from s b (f + 1) ds) (few-from s b (f + 1) ds)

pub taken-few : (s : State) (b : BackupForm) → IsSound s → length (taken s b) ≤ 64
taken-few s b sound = omega (arith, few-from s b 1 (ledger s).files, sound.catalog.ledger.datafiles.few)

-- their order
low-by : (t : Bool) (f : ℕ) (rest : List ℕ) → All (λ g. f + 1 ≤ g) rest → All (λ g. f ≤ g) (cond t (f ∷ rest) rest)
low-by true f rest low = All-cons (λ g. f ≤ g) f rest (omega arith) (All-weaker (λ g. f + 1 ≤ g) (λ g. f ≤ g) (λ g is. omega (arith, is)) rest low)
low-by false f rest low = All-weaker (λ g. f + 1 ≤ g) (λ g. f ≤ g) (λ g is. omega (arith, is)) rest low

low-from : (s : State) (b : BackupForm) (f : ℕ) (ds : List Datafile) → All (λ g. f ≤ g) (taken_from s b f ds)
low-from s b f [] = All-nil (λ g. f ≤ g)
low-from s b f (d ∷ ds) = low-by (is_taken s b f d) f (taken_from s b (f + 1) ds) (low-from s b (f + 1) ds)

rise-by : (t : Bool) (f : ℕ) (rest : List ℕ) → All (λ g. f + 1 ≤ g) rest → AllPairs (λ m n. m < n) rest → AllPairs (λ m n. m < n) (cond t (f ∷ rest) rest)
rise-by true f rest low rise = AllPairs-cons (λ m n. m < n) f rest (All-weaker (λ g. f + 1 ≤ g) (λ g. f < g) (λ g is. omega (arith, is)) rest low) rise
rise-by false f rest low rise = rise

rise-from : (s : State) (b : BackupForm) (f : ℕ) (ds : List Datafile) → AllPairs (λ m n. m < n) (taken_from s b f ds)
rise-from s b f [] = λ i k d less inside. absurd (omega (arith, inside))
rise-from s b f (d ∷ ds) = rise-by (is_taken s b f d) f (taken_from s b (f + 1) ds) (low-from s b (f + 1) ds) (rise-from s b (f + 1) ds)

pub taken-rise : (s : State) (b : BackupForm) → AllPairs (λ m n. m < n) (taken s b)
taken-rise s b = rise-from s b 1 (ledger s).files

-- their blocks
blocks-taken : (s : State) (f m n : ℕ) (t : Bool) (rest : List ℕ) → blocks_of (world s) f ≡ m → sum_by (blocks_of (world s)) rest ≤ n → sum_by (blocks_of (world s)) (cond t (f ∷ rest) rest) ≤ m + n
blocks-taken s f m n true rest is few = omega (arith, sum_by-cons (blocks_of (world s)) f rest, is, few)
blocks-taken s f m n false rest is few = omega (arith, few)

blocks-from : (s : State) (b : BackupForm) (f : ℕ) (ds : List Datafile) → 0 < f → ((k : ℕ) (d : Datafile) → slice_get ds k ≡ Some d → slice_get (ledger s).files (f - 1 + k) ≡ Some d)
    → sum_by (blocks_of (world s)) (taken_from s b f ds) ≤ sum_by (λ (d : Datafile). d.blocks) ds
blocks-from s b f [] some at = omega arith
blocks-from s b f (d ∷ ds) some at =
    let first : f - 1 + 0 ≡ f - 1 = omega arith in
    let blocks = blocks-by s f d some (subst (λ k. slice_get (ledger s).files k ≡ Some d) first (at 0 d refl)) in
    let rest = blocks-from s b (f + 1) ds (omega arith) (λ k e is.
    let next : f - 1 + suc k ≡ f + 1 - 1 + k = omega (arith, some) in
    subst (λ n. slice_get (ledger s).files n ≡ Some e) next (at (suc k) e is)) in
    omega (arith, blocks-taken s f d.blocks (sum_by (λ (x : Datafile). x.blocks) ds) (is_taken s b f d) (taken_from s b (f + 1) ds) blocks rest, sum_by-cons (λ (x : Datafile). x.blocks) d ds)

pub taken-blocks : (s : State) (b : BackupForm) → IsSound s → sum_by (blocks_of (world s)) (taken s b) ≤ 131072
taken-blocks s b sound =
    let all = blocks-from s b 1 (ledger s).files (omega arith) (λ k d is.
    let same : k ≡ 1 - 1 + k = omega arith in
    subst (λ n. slice_get (ledger s).files n ≡ Some d) same is) in
    omega (arith, all, sound.catalog.ledger.datafiles.room)
