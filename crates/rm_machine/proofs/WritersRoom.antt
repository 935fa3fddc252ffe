-- What writes that were not refused have for their writers.
use Rattle.std.specs.{List.{filter_map}, Option.{option_map_or}}
use Rattle.std.proofs.Common.{◌≡◌, ◌<◌, ◌≤◌, ◌+◌, ◌-◌, ◌∙◌, ◌==◌, ℕ, zero, suc, List, [], ◌∷◌, Option, Some, None, Bool, true, false, cond, nat_le, refl, ap, sym, subst, arith, filter, find, length, All, Contains, IsSome, slice_get}
use Rattle.std.proofs.lemmas.{Bool.{eq-eqb, eqb-true, ne_eqb, Decides.{nat_tests}}, List.{length-map}}
use Rattle.std.proofs.lemmas.List.Elements.{All-cons, All-contains, All-filter, All-map, All-nil, All-weaker}
use Rattle.rm_base.{specs.{Numbers.{last_scn}, declared.block.Row.{Row}}, proofs.{Lists.{filter_from}, Members.{in-front}}}
use Rattle.rm_base.proofs.Slots.{get-index, index-get}
use Rattle.rm_blocks.specs.File.{File}
use Rattle.rm_channel.specs.{Room.{AreThreads, CanWrite, HasBlock, HaveRoom}, declared.jobs.WriteJob.{WriteJob}}
use Rattle.rm_history.specs.declared.world.Datafile.{Datafile}
use Rattle.rm_catalog_typed.proofs.Lookups.{item-at}
use Rattle.rm_live.specs.{Parts.{row_at}, Ruled.{one_if, total}}
use Rattle.rm_redo.specs.Online.{IsThread, thread_records as log_records}
use Rattle.rm_lang_statement.specs.declared.command.WriteForm.{WriteForm}
use Rattle.rm_machine.specs.{Asked.{FitsNumbers, by_thread, lists_from, write_job}, Events.{opening, standing_in}}
use Rattle.rm_machine.specs.{Sound.{IsPlaced, IsSound}, State.{ledger, now_of, tree, placed}, declared.state.State.{State}}
use Rattle.rm_machine.proofs.{BackupAccepted.{CanBeWritten}, ByThread.{lists-many}, Numbers.{numbered}, Places.{counted-open, placed-is}}

-- The datafiles that stand in place

-- what stands at a place is found by its number
found-at : (f : ℕ) (place : List (Option File)) (n k : ℕ) (x : File) → f ≡ n + k → ((j : ℕ) (y : File) → slice_get place j ≡ Some (Some y) → y.file ≡ n + j) → slice_get place k ≡ Some (Some x)
    → find (λ (y : File). y.file == f) (filter_map (λ o. o) place) ≡ Some x
found-at f [] n k x number home is = absurd (cc)
found-at f (None ∷ place) n zero x number home is = absurd (let e : Some None ≡ Some (Some x) = is in cc)
found-at f (None ∷ place) n (suc k) x number home is =
    found-at f place (suc n) k x (omega (arith, number)) (λ j y at. omega (arith, home (suc j) y at)) is
found-at f (Some y ∷ place) n zero x number home is =
    let same : Some y ≡ Some x = (let e : Some (Some y) ≡ Some (Some x) = is in cc) in
    ap (λ t. cond t (Some y) (find (λ (z : File). z.file == f) (filter_map (λ o. o) place))) (eq-eqb y.file f (omega (arith, home 0 y refl, number))) ∙ same
found-at f (Some y ∷ place) n (suc k) x number home is =
    ap (λ t. cond t (Some y) (find (λ (z : File). z.file == f) (filter_map (λ o. o) place))) (ne_eqb y.file f (λ e. omega (arith, home 0 y refl, number, e)))
    ∙ found-at f place (suc n) k x (omega (arith, number)) (λ j z at. omega (arith, home (suc j) z at)) is

pub file-found : (s : State) (f : ℕ) (x : File) → IsSound s → 0 < f → placed s f ≡ Some x → find (λ (y : File). y.file == f) (standing_in s) ≡ Some x
file-found s f x sound some is =
    found-at f s.instance.place 1 (f - 1) x (omega (arith, some))
    (λ j y at. omega (arith, (placed-is s j y sound.place (index-get s.instance.place j y at)).file))
    (get-index s.instance.place (f - 1) x is)

-- a datafile of the database in place has as many rows as it has blocks
pub rows-many : (s : State) (f : ℕ) (d : Datafile) (x : File) → IsSound s → s.instance.is_open ≡ true → slice_get (ledger s).files (f - 1) ≡ Some d → placed s f ≡ Some x → length x.rows ≡ d.blocks
rows-many s f d x sound opened known is =
    (subst (IsPlaced (tree s) (f - 1) d) (counted-open s x opened) (sound.place.each (f - 1) d x known (get-index s.instance.place (f - 1) x is))).blocks

-- a block of it is found there
pub row-found : (s : State) (f b : ℕ) (x : File) → IsSound s → 0 < f → placed s f ≡ Some x → b < length x.rows → IsSome (row_at (standing_in s) f b)
row-found s f b x sound some is inside =
    let row = item-at x.rows b inside in
    let at : row_at (standing_in s) f b ≡ Some row.0 = ap (λ o. option_map_or (λ (y : File). slice_get y.rows b) o None) (file-found s f x sound some is) ∙ row.1 in
    subst (λ (o : Option Row). IsSome o) (sym at) refl

-- A write

number-fits : (s : State) (w : WriteForm) → IsSound s → CanBeWritten s w → FitsNumbers w
number-fits s w sound can =
    let n = numbered s w.file can.datafile sound can.is in
    (omega (arith, n.most), omega (arith, can.block, n.blocks))

block-found : (s : State) (w : WriteForm) → IsSound s → s.instance.is_open ≡ true → CanBeWritten s w → HasBlock (standing_in s) (write_job w)
block-found s w sound opened can =
    let n = numbered s w.file can.datafile sound can.is in
    row-found s w.file w.block can.file sound n.some can.stands (omega (arith, rows-many s w.file can.datafile can.file sound opened n.is can.stands, can.block))

-- The lists of the threads

-- what is true of each write is true of each list
lists-all : (P : WriteJob → Type 0) (t n : ℕ) (ws : List WriteForm) → All (λ w. P (write_job w)) ws → All (λ js. All P js) (lists_from t n ws)
lists-all P t zero ws all = All-nil (λ js. All P js)
lists-all P t (suc n) ws all =
    All-cons (λ js. All P js) (by_thread t ws) (lists_from (suc t) n ws)
    (All-map P write_job (filter (λ (w : WriteForm). w.thread == t) ws) (All-filter (λ (w : WriteForm). w.thread == t) (λ w. P (write_job w)) ws all))
    (lists-all P (suc t) n ws all)

-- without a write no list has one
pub no-writes : (t n : ℕ) → total length (lists_from t n []) ≡ 0
no-writes t zero = refl
no-writes t (suc n) = let rest = no-writes (suc t) n in omega (arith, rest)

-- a write of a thread's list is by the thread
first-in : (ws : List WriteForm) → 0 < length ws → (w : WriteForm) × Contains ws w
first-in [] some = absurd (omega (arith, some))
first-in (w ∷ ws) some = (w, in-front w ws)

by-one : (t : ℕ) (ws : List WriteForm) → 0 < length (by_thread t ws) → (w : WriteForm) × Contains ws w × (w.thread ≡ t)
by-one t ws some =
    let many = length-map (filter (λ (w : WriteForm). w.thread == t) ws) write_job in
    let w = first-in (filter (λ (w : WriteForm). w.thread == t) ws) (omega (arith, many, some)) in
    let from = filter_from (λ (w : WriteForm). w.thread == t) ws w.0 w.1 in
    (w.0, from.0, eqb-true w.0.thread t from.1)

threads-from : (s : State) (ws : List WriteForm) (t n : ℕ) → IsSound s → s.instance.is_open ≡ true → All (CanBeWritten s) ws → AreThreads s.instance.logs t (lists_from t n ws)
threads-from s ws t zero sound opened can = tt
threads-from s ws t (suc n) sound opened can = (
  λ some.
      let w = by-one t ws some in
      let there : IsThread s.instance.logs t = subst (IsThread s.instance.logs) w.2 (All-contains (CanBeWritten s) ws w.0 can w.1).thread in
      (there, λ lost. let clash : true ≡ false = sym lost ∙ (sound.in_open opened).found t there in absurd (cc)),
  threads-from s ws (suc t) n sound opened can,
)

-- the log of each thread has room for the thread's writes
abbrev pub LogsHave : State → List WriteForm → Type 0
LogsHave s ws = (t : ℕ) → 0 < t → t ≤ 4 → length (log_records s.instance.logs t) + length (by_thread t ws) ≤ 65536

room-from : (s : State) (ws : List WriteForm) (t n : ℕ) → LogsHave s ws → 0 < t → t + n ≤ 5 → HaveRoom s.instance.logs t (lists_from t n ws)
room-from s ws t zero logs low high = tt
room-from s ws t (suc n) logs low high = (logs t low (omega (arith, high)), room-from s ws (suc t) n logs (omega arith) (omega (arith, high)))

-- how many writes are by thread t or a later one
abbrev from_thread : ℕ → List WriteForm → ℕ
from_thread t ws = length (filter (λ (w : WriteForm). nat_le t w.thread) ws)

one-more : (p : WriteForm → Bool) (w : WriteForm) (ws : List WriteForm) → length (filter p (w ∷ ws)) ≡ one_if (p w) + length (filter p ws)
one-more p w ws = by (p w)
  where
    by : (t : Bool) → length (cond t (w ∷ filter p ws) (filter p ws)) ≡ one_if t + length (filter p ws)
    by true = omega arith
    by false = omega arith

-- one write is by one thread
once : (u t : ℕ) → one_if (u == t) + one_if (nat_le (suc t) u) ≤ one_if (nat_le t u)
once u t = grind (arith, nat_tests)

by-or-from : (t : ℕ) (ws : List WriteForm) → length (filter (λ (w : WriteForm). w.thread == t) ws) + from_thread (suc t) ws ≤ from_thread t ws
by-or-from t [] = omega arith
by-or-from t (w ∷ ws) =
    let rest = by-or-from t ws in
    let a = one-more (λ (w : WriteForm). w.thread == t) w ws in
    let b = one-more (λ (w : WriteForm). nat_le (suc t) w.thread) w ws in
    let c = one-more (λ (w : WriteForm). nat_le t w.thread) w ws in
    omega (arith, rest, a, b, c, once w.thread t)

total-from : (t n : ℕ) (ws : List WriteForm) → total length (lists_from t n ws) ≤ from_thread t ws
total-from t zero ws = omega arith
total-from t (suc n) ws =
    let first : length (by_thread t ws) ≡ length (filter (λ (w : WriteForm). w.thread == t) ws) = length-map (filter (λ (w : WriteForm). w.thread == t) ws) write_job in
    omega (arith, total-from (suc t) n ws, by-or-from t ws, first)

kept-few : (p : WriteForm → Bool) (ws : List WriteForm) → length (filter p ws) ≤ length ws
kept-few p [] = omega arith
kept-few p (w ∷ ws) = by (p w) (kept-few p ws)
  where
    by : (t : Bool) → length (filter p ws) ≤ length ws → length (cond t (w ∷ filter p ws) (filter p ws)) ≤ suc (length ws)
    by true rest = omega (arith, rest)
    by false rest = omega (arith, rest)

-- The lists of all threads of an open database
module _ (s : State) (ws : List WriteForm) (sound : IsSound s) where
  abbrev writers : List (List WriteJob)
  writers = lists_from 1 4 ws

  pub four-writers : length writers ≡ 4
  four-writers = lists-many 1 4 ws

  pub fits-numbers : All (CanBeWritten s) ws → All FitsNumbers ws
  fits-numbers can = All-weaker (CanBeWritten s) FitsNumbers (λ w is. number-fits s w sound is) ws can

  pub room-threads : s.instance.is_open ≡ true → All (CanBeWritten s) ws → AreThreads (opening s).logs 1 writers
  room-threads opened can = threads-from s ws 1 4 sound opened can

  pub room-writes : s.instance.is_open ≡ true → All (CanBeWritten s) ws → LogsHave s ws → now_of s + length ws ≤ last_scn → CanWrite (opening s) writers
  room-writes opened can logs scns = record {
    blocks = lists-all (HasBlock (standing_in s)) 1 4 ws
        (All-weaker (CanBeWritten s) (λ w. HasBlock (standing_in s) (write_job w)) (λ w is. block-found s w sound opened is) ws can);
    logs = room-from s ws 1 4 logs (omega arith) (omega arith);
    scns =
        let few = kept-few (λ (w : WriteForm). nat_le 1 w.thread) ws in
        omega (arith, total-from 1 4 ws, few, scns);
  }
