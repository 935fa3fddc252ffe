-- Calls of the only pass: all events are its own, and no write is refused. So is a whole copy.
use Rattle.std.proofs.Common.{◌≡◌, ℕ, ◌<◌, IfSome, Option, Result, Ok, Err, IfOk, List, [], ◌∷◌, ◌++◌, All, false, length, map, refl, sym, ap, ◌∙◌, subst}
use Rattle.std.proofs.lemmas.List.{length-map}
use Rattle.rm_base.specs.declared.block.Row.{Row}
use Rattle.rm_live.specs.{History.{IsLegal, fold_of}, Passes.{Standing, IsOnly}, declared.history.{Call.{Call}, Event.{Event}}}
use Rattle.rm_live.specs.declared.history.LiveFault.{LiveFault}
use Rattle.rm_channel.specs.Jobs.{Deed, Span, AreAsLong, AreRows, blocks_in, deeds_of, lists, reads_of, whole, writes_of}
use Rattle.rm_channel.specs.{Made.{deed, AreBegun, AreThese, Ran}, Room.{AreThreads, CanWrite}}
use Rattle.rm_channel.specs.{Runs.{HasCopied, HasRun, IsWork, is_refused, told_of, work_told}, Sections.{sections}}
use Rattle.rm_channel.specs.declared.{jobs.{CopyJob.{CopyJob}, Work.{Work}, WriteJob.{WriteJob}}, working.Done.{Done}}
use Rattle.rm_channel.proofs.{Counts.{NoWrites, has-room, no-reads_of}, Mine.{mine-all}, Rooms.{accepted}, Whole.{whole-sections}}

-- SCNs, as answers
abbrev pub as_answers : List (List ℕ) → List (List (Result ℕ LiveFault))
as_answers xs = map (map Ok) xs

abbrev as_answer : ℕ → Result ℕ LiveFault
as_answer n = Ok n

pub long-answers : (xs : List (List ℕ)) → map length (as_answers xs) ≡ map length xs
long-answers [] = refl
long-answers (x ∷ xs) = λ i. length-map x as_answer i ∷ long-answers xs i

-- what calls of the only pass leave, writes among them for which there is room
pub record RanAlone (p : Standing) (seen : List Event) (calls : List Call) (told : Option (List Deed)) : Type 0 where
  pub rest : List Event
  pub is : seen ≡ p.seen ++ rest
  pub legal : IsLegal (fold_of p.opening p.seen) rest
  pub begun : AreBegun calls (map deed rest)
  pub made : IfSome told (λ ds. AreThese ds (map deed rest))
  pub accepted : All (λ e. is_refused e.answer ≡ false) rest

pub ran-alone : (p : Standing) (seen : List Event) (others : List Call) (writers : List (List WriteJob)) (told : Option (List Deed)) → NoWrites others → IsOnly p → AreThreads p.opening.logs 1 writers
    → CanWrite (fold_of p.opening p.seen) writers → Ran p seen (others ++ writes_of 1 writers) told → RanAlone p seen (others ++ writes_of 1 writers) told
ran-alone p seen others writers told none only threads can ran =
    let mine = mine-all p.numbers p.passes ran.rest only ran.below in
    let begun = subst (AreBegun (others ++ writes_of 1 writers)) mine ran.begun in record {
      rest = ran.rest;
      is = ran.is;
      legal = ran.legal;
      begun = begun;
      made = subst (λ (ds : List Deed). IfSome told (λ t. AreThese t ds)) mine ran.told;
      accepted = accepted (fold_of p.opening p.seen) ran.rest (has-room p.opening p.seen others writers ran.rest none threads can begun) ran.legal;
    }

pub copied : {E : Type 0} (p : Standing) (seen : List Event) (c : ℕ) (jobs : List CopyJob) (writers : List (List WriteJob)) (done : Result Done E) (r : Result Work E) → 0 < c → IsOnly p → AreThreads p.opening.logs 1 writers
    → CanWrite (fold_of p.opening p.seen) writers → HasRun p seen (sections c 0 c jobs) 1 writers done → IsWork jobs done r → HasCopied p seen jobs writers r
copied {E = E} p seen c jobs writers done r pos only threads can sections_run work =
    let run = subst (λ (ss : List Span). HasRun p seen ss 1 writers done) (whole-sections c jobs pos) sections_run in
    let alone = ran-alone p seen (reads_of all) writers (told_of all 1 writers done) (no-reads_of all) only threads can run.ran in record {
      rest = alone.rest;
      is = alone.is;
      legal = alone.legal;
      begun = alone.begun;
      made = made_by (map deed alone.rest) r work alone.made;
      rows = rows_by r work run.rows;
      reads = reads_by r work;
      scns = scns_by r work run.answers;
      accepted = alone.accepted;
    }
  where
    all : List Span
    all = map whole jobs

    made_by : (es : List Deed) (r : Result Work E) → IsWork jobs done r → IfSome (told_of all 1 writers done) (λ told. AreThese told es) → IfOk r (λ w. AreThese (work_told jobs writers w) es)
    made_by es (Err e) work told = tt
    made_by es (Ok w) work told =
        let d : Done = work.0 in
        let here : AreThese (deeds_of all (lists d.rows.items) 1 writers (lists d.answers.items)) es = subst (λ (o : Result Done E). IfSome (told_of all 1 writers o) (λ told. AreThese told es)) work.1 told in
        subst (λ (ds : List Deed). AreThese ds es) (λ i. deeds_of all (sym work.2 i) 1 writers (work.4 i)) here

    rows_by : (r : Result Work E) → IsWork jobs done r → IfOk done (λ d. AreRows (lists d.rows.items) all) → IfOk r (λ w. AreRows (lists w.rows.items) all)
    rows_by (Err e) work fit = tt
    rows_by (Ok w) work fit =
        let here : AreRows (lists work.0.rows.items) all = subst (λ (o : Result Done E). IfOk o (λ d. AreRows (lists d.rows.items) all)) work.1 fit in
        subst (λ (rows : List (List Row)). AreRows rows all) (sym work.2) here

    reads_by : (r : Result Work E) → IsWork jobs done r → IfOk r (λ w. w.reads.items ≡ map (λ j. blocks_in j.wanted) jobs)
    reads_by (Err e) work = tt
    reads_by (Ok w) work = work.3

    scns_by : (r : Result Work E) → IsWork jobs done r → IfOk done (λ d. AreAsLong (lists d.answers.items) writers) → IfOk r (λ w. AreAsLong (lists w.scns.items) writers)
    scns_by (Err e) work long = tt
    scns_by (Ok w) work long =
        let here : AreAsLong (lists work.0.answers.items) writers = subst (λ (o : Result Done E). IfOk o (λ d. AreAsLong (lists d.answers.items) writers)) work.1 long in
        sym (long-answers (lists w.scns.items)) ∙ sym (ap (map length) work.4) ∙ here
