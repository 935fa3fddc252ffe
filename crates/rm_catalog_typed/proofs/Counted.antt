-- Counts and sums over the records of a ledger.
use Rattle.std.specs.{Prelude.{Contains, IsTrue, count_by, sum_by}, List.{list_any}}
use Rattle.std.proofs.Common.{◌≡◌, ◌∙◌, ℕ, zero, suc, ◌+◌, ◌<◌, ◌≤◌, Bool, true, false, cond, leb, List, [], ◌∷◌, ◌++◌, length, map, slice_get, Some, refl, ap, sym, arith, eq-eqb, le-ltb}
use Rattle.std.proofs.lemmas.{Option.{slice_get-get_or}, List.{Folds.{list_any_at}, Sums.{sum_by-cons, sum_by-append, count_by-le-length}}}
use Rattle.rm_base.specs.declared.block.Mark.{Mark}
use Rattle.rm_history.specs.declared.world.Datafile.{Datafile}
use Rattle.rm_catalog.specs.{Keys.{place, place_of}, Facts.{is_mark_of, blocks_to}, Rules.{IsOnce, IsAmongFirst, lasts_below}}
use Rattle.rm_catalog.{specs.declared.record.Record.{Record}, proofs.{Found.{differ}, Counts.{alike, alike_count}}}
use Rattle.rm_catalog.proofs.Unique.{Rises, all_above}
use Rattle.rm_catalog.specs.declared.record.Record.TheVariants as kind
use Rattle.rm_catalog_typed.specs.Ledger.{Ledger, front_records, back_records, ledger_records, numbered, incarnation_record, datafile_record, mark_record, switch_record}
use Rattle.rm_catalog_typed.specs.LedgerFacts.{IsLedger, HasMark}
use Rattle.rm_catalog_typed.proofs.Order.{records-rise, incarnations_of, datafiles_of, logs_of, pieces_of, marks_of, sets_of, switch_records}
use Rattle.rm_catalog_typed.proofs.Lookups.{own-has}

-- records that rise from above a place have none at it
none-below : (low p : ℕ) (rs : List Record) → p < low → Rises low rs → alike p rs ≡ 0
unfolding Rises alike
none-below low p [] lt up = refl
none-below low p (r ∷ rs) lt up =
    let first = up.0 in
    ap (λ (b : Bool). cond b (1 + alike p rs) (alike p rs)) (differ (place_of r) p (λ e. omega arith)) ∙ none-below (place_of r + 1) p rs (omega arith) up.1

-- where records rise, each stands alone at its place
pub rises-once : (low : ℕ) (rs : List Record) (x : Record) → Rises low rs → Contains rs x → alike (place_of x) rs ≡ 1
unfolding Rises alike
rises-once low [] x up has = absurd (let lt = has.1 in omega arith)
rises-once low (r ∷ rs) x up (zero, lt, is) =
    let same : place_of r ≡ place_of x = ap place_of is in
    let none = none-below (place_of r + 1) (place_of x) rs (omega arith) up.1 in
    ap (λ (b : Bool). cond b (1 + alike (place_of x) rs) (alike (place_of x) rs)) (eq-eqb (place_of r) (place_of x) same) ∙ (let e : 1 + alike (place_of x) rs ≡ 1 = omega arith in e)
rises-once low (r ∷ rs) x up (suc k, lt, is) =
    let has : Contains rs x = (k, omega arith, is) in
    let over = all_above (place_of r + 1) rs up.1 x has in
    ap (λ (b : Bool). cond b (1 + alike (place_of x) rs) (alike (place_of x) rs)) (differ (place_of r) (place_of x) (λ e. omega arith)) ∙ rises-once (place_of r + 1) rs x up.1 has

pub record-once : (l : Ledger) (r : Record) → IsLedger l → Contains (ledger_records l) r → IsOnce (place_of r) (ledger_records l)
record-once l r is has = record {
  once = sym (alike_count (place_of r) (ledger_records l)) ∙ rises-once (place 1 0) (ledger_records l) r (records-rise l is) has;
}

-- where an item fails a test, fewer than all pass it
count-short : {X : Type 0} (p : X → Bool) (xs : List X) (x : X) → Contains xs x → p x ≡ false → count_by p xs < length xs
count-short p [] x has fails = absurd (let lt = has.1 in omega arith)
count-short p (y ∷ ys) x (zero, lt, is) fails =
    let none = none-counted (p y) (ap p is ∙ fails) in
    let split = sum_by-cons (λ z. cond (p z) 1 0) y ys in
    let few = count_by-le-length p ys in
    omega arith
  where
    none-counted : (b : Bool) → b ≡ false → cond b 1 0 ≤ 0
    none-counted true e = absurd cc
    none-counted false e = omega arith
count-short p (y ∷ ys) x (suc k, lt, is) fails =
    let one = at-most-one (p y) in
    let split = sum_by-cons (λ z. cond (p z) 1 0) y ys in
    let few = count-short p ys x (k, omega arith, is) fails in
    omega arith
  where
    at-most-one : (b : Bool) → cond b 1 0 ≤ 1
    at-most-one true = omega arith
    at-most-one false = omega arith

pub record-few : (l : Ledger) (r : Record) → IsLedger l → Contains (ledger_records l) r → IsAmongFirst r (ledger_records l)
record-few l r is has = record {
  few = λ lasting.
      let fails : lasts_below (place_of r) r ≡ false = rw (lasting, le-ltb (place_of r) (place_of r) (omega arith)) in
      let short = count-short (lasts_below (place_of r)) (ledger_records l) r has fails in
      let most = is.few in
      omega arith;
}

-- no record but a datafile's has blocks
sum-none : {X : Type 0} (f : ℕ) (make : ℕ → X → Record) (n : ℕ) (xs : List X) → ((k : ℕ) (x : X) → blocks_to f (make k x) ≡ 0) → sum_by (blocks_to f) (numbered make n xs) ≡ 0
sum-none f make n [] none = refl
sum-none f make n (x ∷ xs) none =
    let here = none n x in
    let later = sum-none f make (n + 1) xs none in
    let split = sum_by-cons (blocks_to f) (make n x) (numbered make (n + 1) xs) in
    omega arith

pub sum-none-map : {X : Type 0} (f : ℕ) (make : X → Record) (xs : List X) → ((x : X) → blocks_to f (make x) ≡ 0) → sum_by (blocks_to f) (map make xs) ≡ 0
sum-none-map f make [] none = refl
sum-none-map f make (x ∷ xs) none =
    let here = none x in
    let later = sum-none-map f make xs none in
    let split = sum_by-cons (blocks_to f) (make x) (map make xs) in
    omega arith

sum-files : (f n : ℕ) (ds : List Datafile) → sum_by (blocks_to f) (numbered datafile_record n ds) ≤ sum_by (λ d. d.blocks) ds
sum-files f n [] = omega arith
sum-files f n (d ∷ ds) =
    let here = at-most (leb n f) d.blocks in
    let later = sum-files f (n + 1) ds in
    let split = sum_by-cons (blocks_to f) (datafile_record n d) (numbered datafile_record (n + 1) ds) in
    let parts = sum_by-cons (λ (e : Datafile). e.blocks) d ds in
    omega arith
  where
    at-most : (b : Bool) (m : ℕ) → cond b m 0 ≤ m
    at-most true m = omega arith
    at-most false m = omega arith

-- the records count no blocks but those of the datafiles
pub blocks-few : (l : Ledger) (f : ℕ) → sum_by (blocks_to f) (ledger_records l) ≤ sum_by (λ d. d.blocks) l.files
blocks-few l f =
    let first = sum_by-cons (blocks_to f) (kind.Base l.base) (incarnations_of l ++ datafiles_of l ++ logs_of l ++ pieces_of l ++ marks_of l) in
    let seven = sum_by-append (blocks_to f) (front_records l) (back_records l) in
    let six = sum_by-append (blocks_to f) (sets_of l) (switch_records l) in
    let five = sum_by-append (blocks_to f) (incarnations_of l ++ datafiles_of l ++ logs_of l ++ pieces_of l) (marks_of l) in
    let four = sum_by-append (blocks_to f) (incarnations_of l ++ datafiles_of l ++ logs_of l) (pieces_of l) in
    let three = sum_by-append (blocks_to f) (incarnations_of l ++ datafiles_of l) (logs_of l) in
    let two = sum_by-append (blocks_to f) (incarnations_of l) (datafiles_of l) in
    let tree = sum-none f incarnation_record 1 l.tree (λ k n. refl) in
    let files = sum-files f 1 l.files in
    let logs = sum-none-map f kind.Log l.logs (λ e. refl) in
    let pieces = sum-none-map f kind.Piece l.pieces (λ p. refl) in
    let marks = sum-none f mark_record 1 l.marks (λ k m. refl) in
    let sets = sum-none-map f kind.Set l.sets (λ e. refl) in
    let switches = sum-none f switch_record 1 l.switches (λ k x. refl) in
    omega arith

-- where an incarnation has a mark, a record says so
pub marked : (l : Ledger) (i : ℕ) → HasMark l.marks i → IsTrue (list_any (is_mark_of i) (ledger_records l))
marked l i h =
    let m = h.0 in
    let k = h.1.0 in
    let at_k : slice_get l.marks k ≡ Some m = slice_get-get_or l.marks k m h.1.1 ∙ ap (λ (x : Mark). Some x) h.1.2 in
    let has = own-has l (mark_record (1 + k) m) (record { index = k; item = m; there = at_k; is = refl }) in
    list_any_at (is_mark_of i) (ledger_records l) has.0 (mark_record (1 + k) m) has.1 (ap (is_mark_of i) has.2 ∙ eq-eqb m.inc i h.2)
