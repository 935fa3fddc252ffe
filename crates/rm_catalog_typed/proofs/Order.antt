-- The records of a ledger ascend strictly by place.
use Rattle.std.{specs.Prelude.{Contains, Some}, proofs.Common.{◌≡◌, ℕ, suc, ◌+◌, ◌≤◌, List, [], ◌∷◌, ◌++◌, length, map, refl, ap, arith}}
use Rattle.std.proofs.lemmas.List.{length-append}
use Rattle.rm_catalog.specs.{Keys.{place, place_of, at, InOrder}, declared.record.Record.{Record}}
use Rattle.rm_catalog.proofs.{Running.{Runs, rises-found, rises-order, runs-join, runs-lower, runs-objects, runs-rise}, Unique.{Rises}}
use Rattle.rm_catalog.specs.declared.record.Record.TheVariants as kind
use Rattle.rm_catalog_typed.specs.Ledger.{Ledger, front_records, back_records, ledger_records, numbered, incarnation_record, datafile_record, mark_record, switch_record}
use Rattle.rm_catalog_typed.specs.LedgerFacts.{IsLedger}

-- things that are numbered from n on run from the place of n on
pub runs-numbered : {A : Type 0} (make : ℕ → A → Record) (of n : ℕ) (xs : List A) → ((k : ℕ) (x : A) → place_of (make k x) ≡ place of k) → n + length xs ≤ 4294967295 → Runs (place of n) (place (of + 1) 0) (numbered make n xs)
unfolding Runs
runs-numbered make of n [] is few = omega arith
runs-numbered make of n (x ∷ xs) is few =
    let here : place_of (make n x) ≡ place of n = is n x in
    let later = runs-numbered make of (n + 1) xs is (omega arith) in
    (omega arith, runs-lower (place_of (make n x) + 1) (place of (n + 1)) (place (of + 1) 0) (numbered make (n + 1) xs) (omega arith) later)

pub length-numbered : {A : Type 0} (make : ℕ → A → Record) (n : ℕ) (xs : List A) → length (numbered make n xs) ≡ length xs
length-numbered make n [] = refl
length-numbered make n (x ∷ xs) = ap suc (length-numbered make (n + 1) xs)

-- the records of a ledger, kind by kind
abbrev pub incarnations_of : Ledger → List Record
incarnations_of l = numbered incarnation_record 1 l.tree

abbrev pub datafiles_of : Ledger → List Record
datafiles_of l = numbered datafile_record 1 l.files

abbrev pub logs_of : Ledger → List Record
logs_of l = map kind.Log l.logs

abbrev pub pieces_of : Ledger → List Record
pieces_of l = map kind.Piece l.pieces

abbrev pub marks_of : Ledger → List Record
marks_of l = numbered mark_record 1 l.marks

abbrev pub sets_of : Ledger → List Record
sets_of l = map kind.Set l.sets

abbrev pub switch_records : Ledger → List Record
switch_records l = numbered switch_record 1 l.switches

-- a ledger has at least as many records as marks, and as switches
pub marks-few : (l : Ledger) → length l.marks ≤ length (ledger_records l)
marks-few l =
    let front = incarnations_of l ++ datafiles_of l ++ logs_of l ++ pieces_of l in
    let all = length-append (front ++ marks_of l) (back_records l) in
    let both = length-append front (marks_of l) in
    let marks = length-numbered mark_record 1 l.marks in
    omega arith

pub switches-few : (l : Ledger) → length l.switches ≤ length (ledger_records l)
switches-few l =
    let all = length-append (front_records l) (back_records l) in
    let both = length-append (sets_of l) (switch_records l) in
    let switches = length-numbered switch_record 1 l.switches in
    omega arith

-- the records of each kind run on, below the first place of the next kind
pub incarnations-run : (l : Ledger) → IsLedger l → Runs (place 2 1) (place 3 0) (incarnations_of l)
incarnations-run l is = let few = is.incarnations.few in runs-numbered incarnation_record 2 1 l.tree (λ k n. refl) (omega arith)

pub datafiles-run : (l : Ledger) → IsLedger l → Runs (place 3 1) (place 4 0) (datafiles_of l)
datafiles-run l is = let few = is.datafiles.few in runs-numbered datafile_record 3 1 l.files (λ k d. refl) (omega arith)

pub logs-run : (l : Ledger) → IsLedger l → Runs (place 4 1) (place 5 0) (logs_of l)
logs-run l is =
    let next = is.base.next_id.1 in
    runs-objects kind.Log (λ e. e.id) 4 1 l.logs (λ e. refl) (λ k d lt. let e = is.ids.logs k d lt in let high = e.1 in (e.0, omega arith)) is.ids.logs_ascend

pub pieces-run : (l : Ledger) → IsLedger l → Runs (place 5 1) (place 6 0) (pieces_of l)
pieces-run l is =
    let next = is.base.next_id.1 in
    runs-objects kind.Piece (λ p. p.id) 5 1 l.pieces (λ p. refl) (λ k d lt. let e = is.ids.pieces k d lt in let high = e.1 in (e.0, omega arith)) is.ids.pieces_ascend

pub marks-run : (l : Ledger) → IsLedger l → Runs (place 6 1) (place 7 0) (marks_of l)
marks-run l is = let most = marks-few l in let few = is.few in runs-numbered mark_record 6 1 l.marks (λ k m. refl) (omega arith)

pub sets-run : (l : Ledger) → IsLedger l → Runs (place 9 1) (place 10 0) (sets_of l)
sets-run l is =
    let next = is.base.next_id.1 in
    runs-objects kind.Set (λ e. e.id) 9 1 l.sets (λ e. refl) (λ k d lt. let e = is.ids.sets k d lt in let high = e.1 in (e.0, omega arith)) is.ids.sets_ascend

pub switches-run : (l : Ledger) → IsLedger l → Runs (place 10 1) (place 11 0) (switch_records l)
switches-run l is = let most = switches-few l in let few = is.few in runs-numbered switch_record 10 1 l.switches (λ k x. refl) (omega arith)

-- the records of a ledger run on, kind by kind, below the places of a saved site, and behind them
pub front-run : (l : Ledger) → IsLedger l → Runs (place 1 0) (place 7 0) (front_records l)
unfolding Runs
front-run l is =
    let two = runs-join (place 3 0) (place 2 1) (place 3 1) (place 4 0) (incarnations_of l) (datafiles_of l) (omega arith) (incarnations-run l is) (datafiles-run l is) in
    let three = runs-join (place 4 0) (place 2 1) (place 4 1) (place 5 0) (incarnations_of l ++ datafiles_of l) (logs_of l) (omega arith) two (logs-run l is) in
    let four = runs-join (place 5 0) (place 2 1) (place 5 1) (place 6 0) (incarnations_of l ++ datafiles_of l ++ logs_of l) (pieces_of l) (omega arith) three (pieces-run l is) in
    let five = runs-join (place 6 0) (place 2 1) (place 6 1) (place 7 0) (incarnations_of l ++ datafiles_of l ++ logs_of l ++ pieces_of l) (marks_of l) (omega arith) four (marks-run l is) in
    (omega arith, runs-lower (place 1 0 + 1) (place 2 1) (place 7 0) (incarnations_of l ++ datafiles_of l ++ logs_of l ++ pieces_of l ++ marks_of l) (omega arith) five)

pub back-run : (l : Ledger) → IsLedger l → Runs (place 9 1) (place 11 0) (back_records l)
back-run l is = runs-join (place 10 0) (place 9 1) (place 10 1) (place 11 0) (sets_of l) (switch_records l) (omega arith) (sets-run l is) (switches-run l is)

records-run : (l : Ledger) → IsLedger l → Runs (place 1 0) (place 11 0) (ledger_records l)
records-run l is = runs-join (place 7 0) (place 1 0) (place 9 1) (place 11 0) (front_records l) (back_records l) (omega arith) (front-run l is) (back-run l is)

pub records-rise : (l : Ledger) → IsLedger l → Rises (place 1 0) (ledger_records l)
records-rise l is = runs-rise (place 1 0) (place 11 0) (ledger_records l) (records-run l is)

-- the records of a ledger are in order
pub records-order : (l : Ledger) → IsLedger l → InOrder (ledger_records l)
records-order l is = rises-order (place 1 0) (ledger_records l) (records-rise l is)

-- a record of a ledger is found at its place
pub record-found : (l : Ledger) (r : Record) → IsLedger l → Contains (ledger_records l) r → at (place_of r) (ledger_records l) ≡ Some r
record-found l r is has = rises-found (place 1 0) (ledger_records l) r (records-rise l is) has
