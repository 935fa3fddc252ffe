-- The datafiles that a backup takes, one after another.
use Rattle.std.proofs.Common.{◌≡◌, ◌<◌, ◌≤◌, ◌+◌, ◌∙◌, ℕ, zero, suc, List, [], ◌∷◌, Some, Bool, true, false, cond, refl, ap, arith, length, get_or, drop, find, is_none, sum_by}
use Rattle.std.proofs.lemmas.{List.{Elements.{All-get_or}, Sums.{sum_by-cons}}, Option.{slice_get-get_or}}
use Rattle.rm_lang_statement.specs.declared.command.BackupForm.{BackupForm}
use Rattle.rm_history.specs.{World.{blocks_of}, declared.world.Datafile.{Datafile}}
use Rattle.rm_catalog_typed.specs.LedgerFacts.{IsCreated}
use Rattle.rm_machine.specs.{Backup.{is_taken, taken_from}, Sound.{IsSound}, State.{ledger, placed, tree, world}}
use Rattle.rm_machine.{specs.declared.state.State.{State}, proofs.Numbers.{blocks-at}}

-- those from the datafile at place k on
taken-at : (s : State) (b : BackupForm) (f : ℕ) (ds : List Datafile) (k : ℕ) (d : Datafile) (t : Bool) → k < length ds → is_taken s b f (get_or ds k d) ≡ t → taken_from s b f (drop k ds) ≡ cond t (f ∷ taken_from s b (f + 1) (drop (suc k) ds)) (taken_from s b (f + 1) (drop (suc k) ds))
taken-at s b f [] k d t inside is = absurd (omega (arith, inside))
taken-at s b f (e ∷ ds) zero d t inside is = ap (λ x. cond x (f ∷ taken_from s b (f + 1) ds) (taken_from s b (f + 1) ds)) is
taken-at s b f (e ∷ ds) (suc k) d t inside is = taken-at s b f ds k d t (omega (arith, inside)) is

pub taken-next : (s : State) (b : BackupForm) (f : ℕ) (ds : List Datafile) (k : ℕ) (d : Datafile) (t : Bool) → k < length ds → is_taken s b f (get_or ds k d) ≡ t → taken_from s b f (drop k ds) ≡ cond t (f ∷ taken_from s b (f + 1) (drop (k + 1) ds)) (taken_from s b (f + 1) (drop (k + 1) ds))
taken-next s b f ds k d t inside is =
    let e : suc k ≡ k + 1 = omega arith in
    taken-at s b f ds k d t inside is ∙ ap (λ n. cond t (f ∷ taken_from s b (f + 1) (drop n ds)) (taken_from s b (f + 1) (drop n ds))) e

-- one that is not lost, or is not taken, is passed over
pub lost-next : (s : State) (b : BackupForm) (k : ℕ) (d : Datafile) (t : Bool) → k < length (ledger s).files → is_taken s b (k + 1) (get_or (ledger s).files k d) ≡ t → (t ≡ true → is_none (placed s (k + 1)) ≡ false)
    → find (λ f. is_none (placed s f)) (taken_from s b (k + 1) (drop k (ledger s).files)) ≡ find (λ f. is_none (placed s f)) (taken_from s b (k + 1 + 1) (drop (k + 1) (ledger s).files))
lost-next s b k d t inside is found = ap (find lost) (taken-next s b (k + 1) (ledger s).files k d t inside is) ∙ by t found
  where
    lost : ℕ → Bool
    lost f = is_none (placed s f)

    rest : List ℕ
    rest = taken_from s b (k + 1 + 1) (drop (k + 1) (ledger s).files)

    by : (t : Bool) → (t ≡ true → lost (k + 1) ≡ false) → find lost (cond t ((k + 1) ∷ rest) rest) ≡ find lost rest
    by true found = ap (λ x. cond x (Some (k + 1)) (find lost rest)) (found refl)
    by false found = refl

-- What they have

abbrev pub no_datafile : Datafile
no_datafile = record { inc = 0; creation = 0; blocks = 0 }

-- the blocks of the datafile at place k
blocks-here : (s : State) (k : ℕ) (d : Datafile) → k < length (ledger s).files → blocks_of (world s) (k + 1) ≡ (get_or (ledger s).files k d).blocks
blocks-here s k d inside =
    let number : k + 1 ≡ 1 + k = omega arith in
    ap (blocks_of (world s)) number ∙ blocks-at (world s) k (get_or (ledger s).files k d) (slice_get-get_or (ledger s).files k d inside)

-- the sum of their blocks, one datafile on
pub blocks-next : (s : State) (b : BackupForm) (k : ℕ) (d : Datafile) (t : Bool) → k < length (ledger s).files → is_taken s b (k + 1) (get_or (ledger s).files k d) ≡ t
    → sum_by (blocks_of (world s)) (taken_from s b (k + 1) (drop k (ledger s).files)) ≡ cond t (get_or (ledger s).files k d).blocks 0 + sum_by (blocks_of (world s)) (taken_from s b (k + 1 + 1) (drop (k + 1) (ledger s).files))
blocks-next s b k d t inside is = ap (sum_by (blocks_of (world s))) (taken-next s b (k + 1) (ledger s).files k d t inside is) ∙ by t
  where
    rest : List ℕ
    rest = taken_from s b (k + 1 + 1) (drop (k + 1) (ledger s).files)

    by : (t : Bool) → sum_by (blocks_of (world s)) (cond t ((k + 1) ∷ rest) rest) ≡ cond t (get_or (ledger s).files k d).blocks 0 + sum_by (blocks_of (world s)) rest
    by true = sum_by-cons (blocks_of (world s)) (k + 1) rest ∙ ap (λ n. n + sum_by (blocks_of (world s)) rest) (blocks-here s k d inside)
    by false = omega arith

-- each datafile has 65,536 blocks at most
pub blocks-few : (s : State) (k : ℕ) (d : Datafile) → IsSound s → k < length (ledger s).files → (get_or (ledger s).files k d).blocks ≤ 65536
blocks-few s k d sound inside = (All-get_or (IsCreated (tree s)) (ledger s).files k d inside sound.catalog.ledger.datafiles.each).blocks.1
