-- Mends beside lists of writes.
use mathlib.Core.List.{map-append}
use Rattle.std.specs.{Global.{Global}, Option.{option_map}, Result.{result_ok}}
use Rattle.std.proofs.Common.{◌≡◌, ◌∙◌, ◌+◌, ◌-◌, ◌/◌, ◌<◌, ◌≤◌, ◌==◌, ℕ, zero, suc, false, Option, Some, Result, Ok, Err, IfOk, IfSome, List, [], ◌++◌, All, Vec, filter, length, map, refl, ap, subst, sym, append-nil, append_assoc, arith, length-append}
use Rattle.atomic_table.specs.Seated.{TableId}
use Rattle.rm_live.specs.{History.{fold_of}, Passes.{IsOnly, Standing}, Ruled.{total}, declared.history.{Call.{Call}, Event.{Event}}}
use Rattle.rm_live.specs.declared.history.LiveFault.{LiveFault}
use Rattle.rm_channel.specs.{Jobs.{Deed, AreAsLong, lists, writes_of, wrote_of}, Made.{AreThese, Did, call, deed, is_by}}
use Rattle.rm_channel.specs.{Room.{AreThreads, CanWrite}, Runs.{HasWritten}, declared.jobs.WriteJob.{WriteJob}}
use Rattle.rm_channel.proofs.{Copied.{as_answers, long-answers, ran-alone}, Halves.{calls-apart}}
use Rattle.rm_channel.proofs.Runs.{AreHalves, SameCalls, both_told, ran-as, ran-both, ran-worked, these-self}
use Rattle.rm_channel.proofs.{Split.{threads-back, threads-front}, Steps.{worked-all}, Writes.{writes_of-append, wrote_of-append}}
use Rattle.rm_repair.specs.{Mended.{CanGo, HasBlock, HasMended, HasMendedBeside, mended, mends, told_of}, declared.jobs.MendJob.{MendJob}}
use Rattle.rm_repair.proofs.{Mends.{calls-mended, no-writes, none-by}, Rows.{jobs-there, rows-behind}}

abbrev Lists : Type 0
Lists = Vec (Vec (Result ℕ LiveFault) Global) Global

-- what a pass with other numbers can do
pub can-front : (p q : Standing) (at : TableId) (t : ℕ) (v w : List (List WriteJob)) → CanGo p at 1 t (v ++ w) → q ≡ record p { numbers = q.numbers } → 1 + length v ≤ length q.numbers → CanGo q at 1 t v
can-front p q at t v w can is room =
    let sum = length-append v w in
    subst (λ (x : Standing). CanGo x at 1 t v) (sym is) record { home = can.home; numbers = room; few = (can.few.0, (let a = can.few.1 in omega arith)); logs = threads-front p.opening.logs t v w can.logs }

pub can-back : (p q : Standing) (at : TableId) (t : ℕ) (v w : List (List WriteJob)) → CanGo p at 1 t (v ++ w) → q ≡ record p { numbers = q.numbers } → length w ≤ length q.numbers → CanGo q at 0 (t + length v) w
can-back p q at t v w can is room =
    let sum = length-append v w in
    subst (λ (x : Standing). CanGo x at 0 (t + length v) w) (sym is) record {
      home = can.home;
      numbers = omega arith;
      few = ((let a = can.few.0 in omega arith), (let a = can.few.1 in omega arith));
      logs = threads-back p.opening.logs t v w can.logs;
    }

-- half of the lists stand in front, and half of the numbers are kept
pub some-by : (n : ℕ) → (n == 0) ≡ false → 0 < n
some-by zero is = absurd (cc is)
some-by (suc n) is = omega arith

pub front-room : (n w f : ℕ) → 1 + w ≤ n → f ≡ w / 2 → 1 + f ≤ n - n / 2
front-room n w f room half = omega arith

pub back-room : (n w f b : ℕ) → 1 + w ≤ n → f ≡ w / 2 → f + b ≡ w → b ≤ n - (n - n / 2)
back-room n w f b room half sum = omega arith

-- without lists
pub beside-none : {E : Type 0} (p : Standing) (seen : List Event) (jobs : List MendJob) (t : ℕ) (v : Lists) → v.items ≡ [] → Did p seen (mended jobs) → HasMendedBeside {E = E} p seen jobs t [] (Ok v)
beside-none p seen jobs t v none did =
    let deeds : List Deed = mended jobs ++ [] in record {
      ran = ran-worked p seen (mends jobs ++ []) (Some deeds)
          (worked-all p seen (mends jobs ++ []) deeds (subst (Did p seen) (sym (append-nil (mended jobs))) did)
          (ap (map call) (append-nil (mended jobs)) ∙ calls-mended jobs ∙ sym (append-nil (mends jobs))));
      answers = ap (λ (l : List (Vec (Result ℕ LiveFault) Global)). map length (lists l)) none;
    }

-- the answers of both
abbrev IsGathered : {E : Type 0} → Result Lists E → Result Lists E → Result Lists E → Type 0
IsGathered front back r = IfOk r (λ v. (x : Lists) × (y : Lists) × (front ≡ Ok x) × (back ≡ Ok y) × (v.items ≡ x.items ++ y.items))

calls-both : (jobs : List MendJob) (t : ℕ) (v w : List (List WriteJob)) → (mends jobs ++ writes_of t v) ++ writes_of (t + length v) w ≡ mends jobs ++ writes_of t (v ++ w)
calls-both jobs t v w = append_assoc (mends jobs) (writes_of t v) (writes_of (t + length v) w) ∙ ap (λ (cs : List Call). mends jobs ++ cs) (sym (writes_of-append t v w))

-- the mends and the first lists, beside the others
pub beside-both : {E : Type 0} (p p1 p2 q1 q2 s : Standing) (jobs : List MendJob) (t : ℕ) (v w : List (List WriteJob)) (r1 r2 r : Result Lists E) → AreHalves p p1 p2 q1 q2 s → HasMendedBeside p1 q1.seen jobs t v r1
    → HasWritten p2 q2.seen (t + length v) w r2 → IsGathered r1 r2 r → HasMendedBeside p s.seen jobs t (v ++ w) r
beside-both {E = E} p p1 p2 q1 q2 s jobs t v w r1 r2 r halves a b got =
    record {
      ran = ran-as p s.seen c c' (both_told (told_of jobs t v r1) (told2 r2)) (told_of jobs t (v ++ w) r) same (lead r got)
          (ran-both p p1 p2 q1 q2 s (mends jobs ++ writes_of t v) (writes_of (t + length v) w) (told_of jobs t v r1) (told2 r2) halves
          (calls-apart (mends jobs) [] t v w (λ u. none-by jobs u) (λ u. refl)) a.ran b.ran);
      answers = answers_of r got;
    }
  where
    c : List Call
    c = (mends jobs ++ writes_of t v) ++ writes_of (t + length v) w

    c' : List Call
    c' = mends jobs ++ writes_of t (v ++ w)

    told2 : Result Lists E → Option (List Deed)
    told2 r = option_map (λ x. wrote_of (t + length v) w (lists x.items)) (result_ok r)

    same : SameCalls c c'
    same = let e = calls-both jobs t v w in record { counts = λ g. ap (total g) e; order = λ u. ap (filter (is_by u)) e }

    both : (x y : Lists) (l : List (Vec (Result ℕ LiveFault) Global)) → l ≡ x.items ++ y.items → lists l ≡ lists x.items ++ lists y.items
    both x y l is = ap lists is ∙ map-append (λ (a : Vec (Result ℕ LiveFault) Global). a.items) x.items y.items

    lead : (r : Result Lists E) → IsGathered r1 r2 r → (ds' : List Deed) → told_of jobs t (v ++ w) r ≡ Some ds' → (ds : List Deed) × (both_told (told_of jobs t v r1) (told2 r2) ≡ Some ds) × AreThese ds' ds
    lead (Err e) got ds' is = absurd (cc is)
    lead (Ok d) got ds' is =
        let x : Lists = got.0 in
        let y : Lists = got.1 in
        let long : AreAsLong (lists x.items) v = subst (λ (o : Result Lists E). IfOk o (λ d. AreAsLong (lists d.items) v)) got.2 a.answers in
        let here : mended jobs ++ wrote_of t (v ++ w) (lists d.items) ≡ ds' = cc is in
        let split : (mended jobs ++ wrote_of t v (lists x.items)) ++ wrote_of (t + length v) w (lists y.items) ≡ mended jobs ++ wrote_of t (v ++ w) (lists d.items) =
        append_assoc (mended jobs) (wrote_of t v (lists x.items)) (wrote_of (t + length v) w (lists y.items))
        ∙ ap (λ (ds : List Deed). mended jobs ++ ds) (sym (wrote_of-append t v w (lists x.items) (lists y.items) long) ∙ ap (wrote_of t (v ++ w)) (sym (both x y d.items got.4))) in (
          ds',
          (λ i. both_told (told_of jobs t v (got.2 i)) (told2 (got.3 i))) ∙ ap Some (split ∙ here),
          these-self ds',
        )

    answers_of : (r : Result Lists E) → IsGathered r1 r2 r → IfOk r (λ d. AreAsLong (lists d.items) (v ++ w))
    answers_of (Err e) got = tt
    answers_of (Ok d) got =
        let x : Lists = got.0 in
        let y : Lists = got.1 in
        let long : AreAsLong (lists x.items) v = subst (λ (o : Result Lists E). IfOk o (λ d. AreAsLong (lists d.items) v)) got.2 a.answers in
        let long' : AreAsLong (lists y.items) w = subst (λ (o : Result Lists E). IfOk o (λ d. AreAsLong (lists d.items) w)) got.3 b.answers in
        ap (map length) (both x y d.items got.4) ∙ map-append length (lists x.items) (lists y.items) ∙ (λ i. long i ++ long' i) ∙ sym (map-append length v w)

-- the SCNs of all writes
abbrev AreTaken : {E : Type 0} → Result Lists E → Result (Vec (Vec ℕ Global) Global) E → Type 0
AreTaken answers r = IfOk r (λ v. (x : Lists) × (answers ≡ Ok x) × (lists x.items ≡ as_answers (lists v.items)))

pub taken : {E : Type 0} (answers : Result Lists E) (x : Lists) (l : List (Vec (Result ℕ LiveFault) Global)) (r : Result (Vec (Vec ℕ Global) Global) E) → answers ≡ Ok x → l ≡ x.items → IfOk r (λ v. lists l ≡ as_answers (lists v.items)) → AreTaken answers r
taken answers x l (Err e) is same got = tt
taken answers x l (Ok v) is same got = (x, is, ap lists (sym same) ∙ got)

-- all of them, by the only pass
pub all-mended : {E : Type 0} (p : Standing) (seen : List Event) (jobs : List MendJob) (writers : List (List WriteJob)) (answers : Result Lists E) (r : Result (Vec (Vec ℕ Global) Global) E) → IsOnly p → AreThreads p.opening.logs 1 writers
    → CanWrite (fold_of p.opening p.seen) writers → All (HasBlock p.opening.files) jobs → HasMendedBeside p seen jobs 1 writers answers → AreTaken answers r → HasMended p seen jobs writers r
all-mended {E = E} p seen jobs writers answers r only threads can there run got =
    let alone = ran-alone p seen (mends jobs) writers (told_of jobs 1 writers answers) (no-writes jobs) only threads can run.ran in record {
      rest = alone.rest;
      is = alone.is;
      legal = alone.legal;
      begun = alone.begun;
      made = made_by (map deed alone.rest) r got alone.made;
      scns = scns_by r got;
      accepted = alone.accepted;
      rows = λ es more cut. rows-behind (fold_of p.opening p.seen) jobs writers alone.rest es more alone.legal alone.begun (jobs-there p.opening p.seen jobs there) cut;
    }
  where
    made_by : (es : List Deed) (r : Result (Vec (Vec ℕ Global) Global) E) → AreTaken answers r → IfSome (told_of jobs 1 writers answers) (λ told. AreThese told es)
        → IfOk r (λ v. AreThese (mended jobs ++ wrote_of 1 writers (as_answers (lists v.items))) es)
    made_by es (Err e) got told = tt
    made_by es (Ok v) got told =
        let here : AreThese (mended jobs ++ wrote_of 1 writers (lists got.0.items)) es = subst (λ (o : Result Lists E). IfSome (told_of jobs 1 writers o) (λ told. AreThese told es)) got.1 told in
        subst (λ (l : List (List (Result ℕ LiveFault))). AreThese (mended jobs ++ wrote_of 1 writers l) es) got.2 here

    scns_by : (r : Result (Vec (Vec ℕ Global) Global) E) → AreTaken answers r → IfOk r (λ v. AreAsLong (lists v.items) writers)
    scns_by (Err e) got = tt
    scns_by (Ok v) got =
        let here : AreAsLong (lists got.0.items) writers = subst (λ (o : Result Lists E). IfOk o (λ d. AreAsLong (lists d.items) writers)) got.1 run.answers in
        sym (long-answers (lists v.items)) ∙ sym (ap (map length) got.2) ∙ here
