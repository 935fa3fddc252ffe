-- How often calls of a list pass a test.
use Rattle.std.proofs.Common.{◌≡◌, ◌≢◌, ℕ, suc, ◌+◌, ◌<◌, ◌≤◌, Bool, false, Option, Some, None, IsSome, is_none, List, [], ◌∷◌, ◌++◌, length, map, All, refl, sym, ap, ◌∙◌, subst, arith}
use mathlib.Core.Logic.{dite}
use native.Mathlib.Decide.{ℕ_discrete}
use Rattle.std.proofs.lemmas.List.Elements.{All-head, All-tail}
use Rattle.rm_base.specs.declared.block.Row.{Row}
use Rattle.rm_redo.specs.{Logs.{Logs}, Online.{IsThread, thread_records}}
use Rattle.rm_live.specs.{Parts.{Parts, row_at}, History.{fold_of}, Ruled.{one_if, total}, declared.history.Call.{Call}}
use Rattle.rm_live.{specs.declared.history.{Call.TheVariants.{Mend, Read, Write}, Event.{Event}}, proofs.Sound.{fold-thread}}
use Rattle.rm_channel.specs.{Jobs.{Deed, Span, reads, reads_of, writes, writes_of}, Made.{deed, is_by, AreBegun}}
use Rattle.rm_channel.specs.{Room.{AreThreads, CanWrite, HasBlock, HaveRoom}, declared.jobs.WriteJob.{WriteJob}}
use Rattle.rm_channel.proofs.{Mine.{total-append}, Rooms.{HasRoom, by-self, by-other, count, is_lost, is_write, off-by}}

abbrev ones : (Call → Bool) → Call → ℕ
ones f c = one_if (f c)

-- a test that no other call passes
abbrev IsOfWrites : (Call → Bool) → Type 0
IsOfWrites f = (c : Call) → is_write c ≡ false → f c ≡ false

-- none of the calls is a write
abbrev pub NoWrites : List Call → Type 0
NoWrites others = total (ones is_write) others ≡ 0

no-reads : (g : ℕ) (bs : List ℕ) → NoWrites (reads g bs)
no-reads g [] = refl
no-reads g (b ∷ bs) = let h = no-reads g bs in omega arith

pub no-reads_of : (ss : List Span) → NoWrites (reads_of ss)
no-reads_of [] = refl
no-reads_of (s ∷ ss) =
    let a = total-append (ones is_write) (reads s.file s.blocks) (reads_of ss) in
    let b = no-reads s.file s.blocks in
    let h = no-reads_of ss in
    omega arith

none-pass : (f : Call → Bool) (others : List Call) → IsOfWrites f → NoWrites others → total (ones f) others ≡ 0
none-pass f [] off none = refl
none-pass f (c ∷ others) off none =
    let e = ap one_if (off c (off-by (is_write c) (let k : one_if (is_write c) ≡ 0 = omega arith in k))) in
    let h = none-pass f others off (omega arith) in
    omega arith

total-deeds : (g : Call → ℕ) (es : List Event) → total (λ (d : Deed). g d.0) (map deed es) ≡ total (λ (e : Event). g e.call) es
total-deeds g [] = refl
total-deeds g (e ∷ es) = ap (λ (n : ℕ). g e.call + n) (total-deeds g es)

-- no more events pass it than writes of the lists, beside other calls
at-most : (f : Call → Bool) (others : List Call) (t : ℕ) (writers : List (List WriteJob)) (es : List Event) → NoWrites others → IsOfWrites f → AreBegun (others ++ writes_of t writers) (map deed es)
    → count f es ≤ total (ones f) (writes_of t writers)
at-most f others t writers es none off begun =
    let a = begun.none_twice (ones f) in
    let b = total-deeds (ones f) es in
    let d = total-append (ones f) others (writes_of t writers) in
    let e = none-pass f others off none in
    omega arith

lost-writes : (p : Parts) → IsOfWrites (is_lost p)
lost-writes p (Read f b) off = refl
lost-writes p (Write t f b content) off = absurd (cc off)
lost-writes p (Mend f row) off = refl

by-writes : (u : ℕ) → IsOfWrites (is_by u)
by-writes u (Read f b) off = refl
by-writes u (Write t f b content) off = absurd (cc off)
by-writes u (Mend f row) off = refl

-- all are writes
all-writes : (t : ℕ) (ws : List WriteJob) → total (ones is_write) (writes t ws) ≡ length ws
all-writes t [] = refl
all-writes t (w ∷ ws) = let h = all-writes t ws in omega arith

all-writes_of : (t : ℕ) (writers : List (List WriteJob)) → total (ones is_write) (writes_of t writers) ≡ total length writers
all-writes_of t [] = refl
all-writes_of t (ws ∷ writers) =
    let a = total-append (ones is_write) (writes t ws) (writes_of (suc t) writers) in
    let b = all-writes t ws in
    let h = all-writes_of (suc t) writers in
    omega arith

-- none is of a block that is not there
found-some : (o : Option Row) → IsSome o → one_if (is_none o) ≡ 0
found-some None there = absurd (cc there)
found-some (Some row) there = refl

none-lost : (p : Parts) (t : ℕ) (ws : List WriteJob) → All (HasBlock p.files) ws → total (ones (is_lost p)) (writes t ws) ≡ 0
none-lost p t [] all = refl
none-lost p t (w ∷ ws) all =
    let a = found-some (row_at p.files w.file w.block) (All-head (HasBlock p.files) w ws all) in
    let h = none-lost p t ws (All-tail (HasBlock p.files) w ws all) in
    omega arith

none-lost_of : (p : Parts) (t : ℕ) (writers : List (List WriteJob)) → All (λ (ws : List WriteJob). All (HasBlock p.files) ws) writers → total (ones (is_lost p)) (writes_of t writers) ≡ 0
none-lost_of p t [] all = refl
none-lost_of p t (ws ∷ writers) all =
    let a = total-append (ones (is_lost p)) (writes t ws) (writes_of (suc t) writers) in
    let b = none-lost p t ws (All-head (λ (ws : List WriteJob). All (HasBlock p.files) ws) ws writers all) in
    let h = none-lost_of p (suc t) writers (All-tail (λ (ws : List WriteJob). All (HasBlock p.files) ws) ws writers all) in
    omega arith

-- a list is of one thread
by-none : (u t : ℕ) (ws : List WriteJob) → u ≢ t → total (ones (is_by u)) (writes t ws) ≡ 0
by-none u t [] ne = refl
by-none u t (w ∷ ws) ne = let e = by-other u t ne in let h = by-none u t ws ne in omega arith

by-all : (t : ℕ) (ws : List WriteJob) → total (ones (is_by t)) (writes t ws) ≡ length ws
by-all t [] = refl
by-all t (w ∷ ws) = let e = by-self t in let h = by-all t ws in omega arith

by-before : (u t : ℕ) (writers : List (List WriteJob)) → u < t → total (ones (is_by u)) (writes_of t writers) ≡ 0
by-before u t [] lt = refl
by-before u t (ws ∷ writers) lt =
    let a = total-append (ones (is_by u)) (writes t ws) (writes_of (suc t) writers) in
    let b = by-none u t ws (λ e. omega arith) in
    let h = by-before u (suc t) writers (omega arith) in
    omega arith

-- a thread that writes is there, and its log has room
thread-room : (o now : Logs) (t u : ℕ) (writers : List (List WriteJob)) → AreThreads o t writers → HaveRoom now t writers → 0 < total (ones (is_by u)) (writes_of t writers)
    → IsThread o u × (length (thread_records now u) + total (ones (is_by u)) (writes_of t writers) ≤ 65536)
thread-room o now t u [] threads room pos = absurd (omega arith)
thread-room o now t u (ws ∷ writers) threads room pos =
    let sum = total-append (ones (is_by u)) (writes t ws) (writes_of (suc t) writers) in
    dite (ℕ_discrete u t)
    (λ (same : u ≡ t).
    let here : total (ones (is_by u)) (writes t ws) ≡ length ws = ap (λ (n : ℕ). total (ones (is_by n)) (writes t ws)) same ∙ by-all t ws in
    let none = by-before u (suc t) writers (omega arith) in
    let log = ap (λ (n : ℕ). length (thread_records now n)) same in
    let fits = room.0 in
    (subst (IsThread o) (sym same) (threads.0 (omega arith)).0, omega arith))
    (λ (ne : u ≢ t).
    let here = by-none u t ws ne in
    let h = thread-room o now (suc t) u writers threads.1 room.1 (omega arith) in
    let fits = h.1 in
    (h.0, omega arith))

-- so there is room for the events
pub has-room : (o : Parts) (seen : List Event) (others : List Call) (writers : List (List WriteJob)) (es : List Event) → NoWrites others → AreThreads o.logs 1 writers → CanWrite (fold_of o seen) writers
    → AreBegun (others ++ writes_of 1 writers) (map deed es) → HasRoom (fold_of o seen) es
has-room o seen others writers es none threads can begun =
    let p : Parts = fold_of o seen in record {
      blocks = let a = at-most (is_lost p) others 1 writers es none (lost-writes p) begun in let b = none-lost_of p 1 writers can.blocks in omega arith;
      threads = λ t pos. let a = at-most (is_by t) others 1 writers es none (by-writes t) begun in fold-thread o seen t (thread-room o.logs p.logs 1 t writers threads can.logs (omega arith)).0;
      logs = λ t pos. let a = at-most (is_by t) others 1 writers es none (by-writes t) begun in let h = (thread-room o.logs p.logs 1 t writers threads can.logs (omega arith)).1 in omega arith;
      scns = let a = at-most is_write others 1 writers es none (λ c off. off) begun in let b = all-writes_of 1 writers in let d = can.scns in omega arith;
    }
