-- One turn of each worker's loop, and its end.
use mathlib.Core.List.{map-append}
use Rattle.std.specs.{Option.{option_map}, Result.{result_ok}, Global.{Global}}
use Rattle.std.proofs.Common.{◌≡◌, ℕ, ◌+◌, ◌<◌, Option, Some, None, Result, Vec, List, [], ◌∷◌, ◌++◌, length, map, take, drop, get_or, sym, ap, ◌∙◌, subst, arith, append-nil, append_assoc, length-append, take-append-drop, IsErr, Ok, Err}
use Rattle.std.proofs.lemmas.List.{length-map, take_more}
use Rattle.rm_base.specs.declared.block.Row.{Row}
use Rattle.rm_live.specs.{Passes.{Standing, IsLater}, declared.history.{Call.{Call}, Event.{Event}, LiveFault.{LiveFault}}}
use Rattle.rm_channel.specs.Jobs.{Deed, Span, AreRows, blocks_in, found, found_of, lists, reads, reads_of, wanted_blocks, writes, wrote}
use Rattle.rm_channel.specs.{Made.{Did, DidMore, Worked}, Sections.{between, section, sections, cut}, declared.jobs.CopyJob.{CopyJob}}
use Rattle.rm_channel.specs.declared.jobs.WriteJob.{WriteJob}
use Rattle.rm_channel.proofs.Spans.{found_of-append, reads_of-append, calls-found, calls-found_of}
use Rattle.rm_channel.proofs.{Steps.{did-then, worked-all, worked-some}, Writes.{calls-wrote}}

-- without an answer nothing is told of it
pub worked-err : {T E : Type 0} (p : Standing) (seen : List Event) (calls : List Call) (f : T → List Deed) (r : Result T E) → IsErr r → Worked p seen calls None → Worked p seen calls (option_map f (result_ok r))
worked-err p seen calls f (Ok x) err work = absurd (cc err)
worked-err p seen calls f (Err e) err work = work

-- Deeds of jobs with their answers, where those of two lists stand one behind the other.
abbrev Join : {J A : Type 0} → (List J → List A → List Deed) → Type 0
Join {J} {A} deeds = (js ks : List J) (xs ys : List A) → length js ≡ length xs → deeds (js ++ ks) (xs ++ ys) ≡ deeds js xs ++ deeds ks ys

-- how many there are behind it
pub more-length : {A : Type 0} (p : Standing) (seen : List Event) (deeds : List A → List Deed) (n : ℕ) (old new : List A) → DidMore p seen deeds n old new → length new ≡ length old + n
more-length p seen deeds n old new m =
    let count = m.count in
    let e = length-append old m.more in
    ap length m.is ∙ omega arith

-- one more of a run
pub more-done : {J A : Type 0} (deeds : List J → List A → List Deed) → Join deeds → (p q : Standing) (seen : List Event) (n : ℕ) (js : List J) (j : J) (old xs ys : List A) (a : A) → length js ≡ n → IsLater p q
    → DidMore p q.seen (deeds js) n old xs → Did q seen (deeds (j ∷ []) (a ∷ [])) → ys ≡ xs ++ a ∷ [] → DidMore p seen (deeds (js ++ j ∷ [])) (n + 1) old ys
more-done {J} {A} deeds join p q seen n js j old xs ys a long later m one is =
    let count = m.count in record {
      more = m.more ++ a ∷ [];
      count = let e = length-append m.more (a ∷ []) in omega arith;
      is = is ∙ ap (λ (l : List A). l ++ a ∷ []) m.is ∙ append_assoc old m.more (a ∷ []);
      did = subst (Did p seen) (sym (join js (j ∷ []) m.more (a ∷ []) (omega arith))) (did-then p q seen (deeds js m.more) (deeds (j ∷ []) (a ∷ [])) later m.did one);
    }

-- a run behind the others
pub did-run : {J A : Type 0} (deeds : List J → List A → List Deed) → Join deeds → (p q : Standing) (seen : List Event) (n : ℕ) (js run : List J) (xs ys : List A) → IsLater p q → Did p q.seen (deeds js xs)
    → length xs ≡ length js → DidMore q seen (deeds run) n xs ys → Did p seen (deeds (js ++ run) ys)
did-run deeds join p q seen n js run xs ys later did long m =
    subst (Did p seen) (sym (ap (deeds (js ++ run)) m.is ∙ join js run xs m.more (sym long))) (did-then p q seen (deeds js xs) (deeds run m.more) later did m.did)

-- all blocks of a section
pub worked-blocks : (p : Standing) (seen : List Event) (f : ℕ) (bs : List ℕ) (rows : List Row) → Did p seen (found f bs rows) → length rows ≡ length bs → Worked p seen (reads f bs) (Some (found f bs rows))
worked-blocks p seen f bs rows did is = worked-all p seen (reads f bs) (found f bs rows) did (calls-found f bs rows is)

lengths : (c k l : ℕ) (jobs : List CopyJob) (rows : List (List Row)) → AreRows rows (sections c k l jobs) → length (sections c k l jobs) ≡ length rows
lengths c k l jobs rows fit = sym (length-map (sections c k l jobs) (λ (s : Span). length s.blocks)) ∙ sym (ap length fit) ∙ length-map rows length

-- the sections of one job more
pub sections-more : (c k l : ℕ) (jobs : List CopyJob) (j : CopyJob) → sections c k l (jobs ++ j ∷ []) ≡ sections c k l jobs ++ section c k l j ∷ []
sections-more c k l jobs j = map-append (section c k l) jobs (j ∷ [])

pub rows-more : (c k l : ℕ) (jobs : List CopyJob) (j : CopyJob) (rows : List (List Row)) (r : List Row) → AreRows rows (sections c k l jobs) → length r ≡ length (section c k l j).blocks
    → AreRows (rows ++ r ∷ []) (sections c k l (jobs ++ j ∷ []))
rows-more c k l jobs j rows r fit here =
    map-append length rows (r ∷ []) ∙ (λ i. fit i ++ here i ∷ []) ∙ sym (map-append (λ (s : Span). length s.blocks) (sections c k l jobs) (section c k l j ∷ []))
    ∙ ap (map (λ (s : Span). length s.blocks)) (sym (sections-more c k l jobs j))

found-more : (c k l : ℕ) (jobs : List CopyJob) (j : CopyJob) (rows : List (List Row)) (r : List Row) → AreRows rows (sections c k l jobs)
    → found_of (sections c k l (jobs ++ j ∷ [])) (rows ++ r ∷ []) ≡ found_of (sections c k l jobs) rows ++ found j.file (section c k l j).blocks r
found-more c k l jobs j rows r fit =
    ap (λ (ss : List Span). found_of ss (rows ++ r ∷ [])) (sections-more c k l jobs j)
    ∙ found_of-append (sections c k l jobs) (section c k l j ∷ []) rows (r ∷ []) (lengths c k l jobs rows fit)
    ∙ ap (λ (ds : List Deed). found_of (sections c k l jobs) rows ++ ds) (append-nil (found j.file (section c k l j).blocks r))

-- where the code cuts the wanted blocks of a job
pub section-is : (c k l : ℕ) (j : CopyJob) (blocks from to : ℕ) → blocks ≡ blocks_in j.wanted → from ≡ cut blocks k c → to ≡ cut blocks l c → between from to (wanted_blocks j.wanted) ≡ (section c k l j).blocks
section-is c k l j blocks from to all first last =
    let at : (n m : ℕ) → n ≡ cut blocks m c → n ≡ cut (blocks_in j.wanted) m c = λ n m is. is ∙ ap (λ (x : ℕ). cut x m c) all in
    λ i. between (at from k first i) (at to l last i) (wanted_blocks j.wanted)

-- one section more
pub did-section : (p q : Standing) (seen : List Event) (c k l : ℕ) (jobs : List CopyJob) (j : CopyJob) (bs : List ℕ) (rows : List (List Row)) (r : List Row) → bs ≡ (section c k l j).blocks → IsLater p q
    → AreRows rows (sections c k l jobs) → Did p q.seen (found_of (sections c k l jobs) rows) → Worked q seen (reads j.file bs) (Some (found j.file bs r))
    → Did p seen (found_of (sections c k l (jobs ++ j ∷ [])) (rows ++ r ∷ []))
did-section p q seen c k l jobs j bs rows r is later fit did work =
    let new : List Deed = found j.file bs r in
    subst (Did p seen) (ap (λ (b : List ℕ). found_of (sections c k l jobs) rows ++ found j.file b r) is ∙ sym (found-more c k l jobs j rows r fit))
    (did-then p q seen (found_of (sections c k l jobs) rows) new later did (subst (Did q seen) (sym work.3) work.1))

-- no memory for one section
pub worked-sections : (p q : Standing) (seen : List Event) (c k l : ℕ) (before after : List CopyJob) (j : CopyJob) (bs : List ℕ) (rows : List (List Row)) (told : Option (List Deed)) → bs ≡ (section c k l j).blocks → IsLater p q
    → AreRows rows (sections c k l before) → Did p q.seen (found_of (sections c k l before) rows) → Worked q seen (reads j.file bs) told
    → Worked p seen (reads_of (sections c k l (before ++ j ∷ after))) None
worked-sections p q seen c k l before after j bs rows told is later fit did work =
    worked-some p q seen (found_of (sections c k l before) rows) (reads j.file bs) (reads_of (sections c k l after)) _ told later did work
    (ap reads_of (map-append (section c k l) before (j ∷ after)) ∙ reads_of-append (sections c k l before) (section c k l j ∷ sections c k l after)
    ∙ (λ i. sym (calls-found_of (sections c k l before) rows fit) i ++ (reads j.file (sym is i) ++ reads_of (sections c k l after))))

pub worked-writes : (p : Standing) (seen : List Event) (t : ℕ) (jobs : List WriteJob) (rs : List (Result ℕ LiveFault)) → Did p seen (wrote t jobs rs) → length rs ≡ length jobs → Worked p seen (writes t jobs) (Some (wrote t jobs rs))
worked-writes p seen t jobs rs did is = worked-all p seen (writes t jobs) (wrote t jobs rs) did (calls-wrote t jobs rs (sym is))

-- one list more
pub lists-more : {X : Type 0} (all all' : List (Vec X Global)) (v : Vec X Global) → all' ≡ all ++ v ∷ [] → lists all' ≡ lists all ++ v.items ∷ []
lists-more all all' v is = ap lists is ∙ map-append (λ v. v.items) all (v ∷ [])

-- nothing is left of a list
pub all-done : {X : Type 0} (done left all : List X) → length left ≡ 0 → done ++ left ≡ all → done ≡ all
all-done done [] all none is = sym (append-nil done) ∙ is
all-done done (x ∷ left) all none is = absurd (omega arith)

-- a list in three parts
pub take-drop : {X : Type 0} (xs : List X) (k : ℕ) (d : X) → k < length xs → take k xs ++ get_or xs k d ∷ drop (k + 1) xs ≡ xs
take-drop xs k d lt =
    sym (append_assoc (take k xs) (get_or xs k d ∷ []) (drop (k + 1) xs)) ∙ ap (λ l. l ++ drop (k + 1) xs) (sym (take_more xs k d lt)) ∙ take-append-drop (k + 1) xs
