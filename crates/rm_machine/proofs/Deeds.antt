-- What the list of all answers says of the events: each is a read, or a write that was asked for; and what the reads found.
use Rattle.std.proofs.Common.{◌≡◌, ◌≤◌, ◌∙◌, ◌++◌, ◌==◌, ◌&&◌, inl, inr, ℕ, zero, suc, List, [], ◌∷◌, Some, None, Ok, Bool, true, false, refl, ap, subst, arith, length, map, filter, Contains, get_or, slice_get}
use Rattle.std.proofs.lemmas.Bool.{and_from, and_parts, cases_Bool, eq-eqb, eqb-true}
use Rattle.std.proofs.lemmas.List.Elements.{Contains-append_cases, Contains-append_left, Contains-append_right}
use Rattle.rm_base.{specs.declared.block.Row.{Row}, proofs.Lists.{filter_from, filter_to, map_from}}
use Rattle.rm_base.proofs.Members.{behind, first-or-rest, in-front, none-in}
use Rattle.rm_channel.specs.{Jobs.{AreRows, Deed, Span, deeds_of, found, found_of, wrote, wrote_of}, Made.{AreThese, deed, did_by}}
use Rattle.rm_channel.specs.declared.jobs.WriteJob.{WriteJob}
use Rattle.rm_live.specs.{Ruled.{one_if, total}, declared.history.{Answer.{Answer, TheVariants.{Found, Mended, Wrote}}, Call.{Call}}}
use Rattle.rm_live.specs.declared.history.{Call.TheVariants.{Mend, Read, Write}, Event.{Event}}
use Rattle.rm_live.proofs.Mends.{row-itself, row-same, same_row}
use Rattle.rm_lang_statement.specs.declared.command.WriteForm.{WriteForm}
use Rattle.rm_machine.specs.{Asked.{blocks_read, by_thread, lists_from, span_of, write_job}, Events.{write_form}, declared.job.Job.{Job}}
use Rattle.rm_machine.{specs.declared.state.State.{State}, proofs.Walk.{AreAsked, IsAsked, reading}}

-- Writes

abbrev Asked : List WriteForm → Deed → Type 0
Asked ws d = IsAsked ws d.0 d.1

-- a read is asked for
read-asked : (ws : List WriteForm) (f : ℕ) (bs : List ℕ) (rs : List Row) (d : Deed) → Contains (found f bs rs) d → Asked ws d
read-asked ws f [] rs d has = absurd (none-in d has)
read-asked ws f (b ∷ bs) [] d has = absurd (none-in d has)
read-asked ws f (b ∷ bs) (r ∷ rs) d has = elim (first-or-rest (Read f b, Found (Some r)) (found f bs rs) d has) [
  | inl same ↦ subst (Asked ws) same tt
  | inr rest ↦ read-asked ws f bs rs d rest
]

reads-asked : (ws : List WriteForm) (spans : List Span) (rows : List (List Row)) (d : Deed) → Contains (found_of spans rows) d → Asked ws d
reads-asked ws [] rows d has = absurd (none-in d has)
reads-asked ws (s ∷ ss) [] d has = absurd (none-in d has)
reads-asked ws (s ∷ ss) (rs ∷ rows) d has = elim (Contains-append_cases (found s.file s.blocks rs) (found_of ss rows) d has) [
  | inl first ↦ read-asked ws s.file s.blocks rs d first
  | inr rest ↦ reads-asked ws ss rows d rest
]

-- a write of a list, which took an SCN, is one of these
write-asked : (ws : List WriteForm) (t : ℕ) (jobs : List WriteJob) (scns : List ℕ) → ((j : WriteJob) → Contains jobs j → Contains ws (write_form t j.file j.block j.content)) → (d : Deed) → Contains (wrote t jobs (map Ok scns)) d → Asked ws d
write-asked ws t [] scns all d has = absurd (none-in d has)
write-asked ws t (j ∷ js) [] all d has = absurd (none-in d has)
write-asked ws t (j ∷ js) (scn ∷ scns) all d has = elim (first-or-rest (Write t j.file j.block j.content, Wrote (Ok scn)) (wrote t js (map Ok scns)) d has) [
  | inl same ↦ subst (Asked ws) same (all j (in-front j js))
  | inr rest ↦ write-asked ws t js scns (λ k is. all k (behind j js k is)) d rest
]

-- the list of a thread has its writes
of-thread : (ws : List WriteForm) (t : ℕ) (j : WriteJob) → Contains (by_thread t ws) j → Contains ws (write_form t j.file j.block j.content)
of-thread ws t j has =
    let from = map_from write_job (filter (λ (w : WriteForm). w.thread == t) ws) j has in
    let both = filter_from (λ (w : WriteForm). w.thread == t) ws from.item from.held in
    subst (λ (k : WriteJob). Contains ws (write_form t k.file k.block k.content)) from.is
    (subst (λ n. Contains ws (write_form n from.item.file from.item.block from.item.content)) (eqb-true from.item.thread t both.1) both.0)

pub writes-asked : (ws : List WriteForm) (t n : ℕ) (scns : List (List ℕ)) (d : Deed) → Contains (wrote_of t (lists_from t n ws) (map (map Ok) scns)) d → Asked ws d
writes-asked ws t zero scns d has = absurd (none-in d has)
writes-asked ws t (suc n) [] d has = absurd (none-in d has)
writes-asked ws t (suc n) (one ∷ scns) d has = elim (Contains-append_cases (wrote t (by_thread t ws) (map Ok one)) (wrote_of (suc t) (lists_from (suc t) n ws) (map (map Ok) scns)) d has) [
  | inl first ↦ write-asked ws t (by_thread t ws) one (λ j is. of-thread ws t j is) d first
  | inr rest ↦ writes-asked ws (suc t) n scns d rest
]

deeds-asked : (ws : List WriteForm) (n : ℕ) (spans : List Span) (rows : List (List Row)) (scns : List (List ℕ)) (d : Deed) → Contains (deeds_of spans rows 1 (lists_from 1 n ws) (map (map Ok) scns)) d → Asked ws d
deeds-asked ws n spans rows scns d has = elim (Contains-append_cases (found_of spans rows) (wrote_of 1 (lists_from 1 n ws) (map (map Ok) scns)) d has) [
  | inl first ↦ reads-asked ws spans rows d first
  | inr rest ↦ writes-asked ws 1 n scns d rest
]

-- what a list has is counted, and what is counted it has
pub counted : (p : Deed → Bool) (ds : List Deed) (d : Deed) → Contains ds d → p d ≡ true → 1 ≤ total (λ x. one_if (p x)) ds
counted p [] d has is = absurd (none-in d has)
counted p (x ∷ xs) d has is = elim (first-or-rest x xs d has) [
  | inl same ↦ let one : one_if (p x) ≡ 1 = ap one_if (ap p same ∙ is) in omega (arith, one)
  | inr rest ↦ let more = counted p xs d rest is in omega (arith, more)
]

pub had : (p : Deed → Bool) (ds : List Deed) → 1 ≤ total (λ x. one_if (p x)) ds → (d : Deed) × Contains ds d × (p d ≡ true)
had p [] some = absurd (omega (arith, some))
had p (x ∷ xs) some = elim (cases_Bool (p x)) [
  | inl is ↦ (x, in-front x xs, is)
  | inr not ↦
      let none : one_if (p x) ≡ 0 = ap one_if not in
      let rest = had p xs (omega (arith, some, none)) in
      (rest.0, behind x xs rest.0 rest.1, rest.2)
]

-- no row is mended
abbrev is_mend : Deed → Bool
is_mend (Read f b, answer) = false
is_mend (Write t f b content, answer) = false
is_mend (Mend f row, answer) = true

never-mend : (ws : List WriteForm) (d : Deed) → Asked ws d → is_mend d ≡ true → ⊥
never-mend ws (Read f b, answer) asked is = absurd (cc is)
never-mend ws (Write t f b content, answer) asked is = absurd (cc is)
never-mend ws (Mend f row, answer) asked is = asked

-- the writes among the events are among the deeds, in the order of their threads
these-asked : (ws : List WriteForm) (xs ys : List Deed) → AreThese xs ys → ((d : Deed) → Contains xs d → Asked ws d) → (d : Deed) → Contains ys d → Asked ws d
these-asked ws xs ys these all (Read f b, answer) has = tt
these-asked ws xs ys these all (Write t f b content, answer) has =
    let d : Deed = (Write t f b content, answer) in
    let mine = subst (λ (zs : List Deed). Contains zs d) (these.in_order t) (filter_to (did_by t) ys d has (eq-eqb t t refl)) in
    all d (filter_from (did_by t) xs d mine).0
these-asked ws xs ys these all (Mend f row, answer) has =
    let same = these.each_once (λ d. one_if (is_mend d)) in
    let it = had is_mend xs (omega (arith, counted is_mend ys (Mend f row, answer) has refl, same)) in
    absurd (never-mend ws it.0 (all it.0 it.1) it.2)

asked-all : (ws : List WriteForm) (es : List Event) → ((d : Deed) → Contains (map deed es) d → Asked ws d) → AreAsked ws es
asked-all ws [] all = tt
asked-all ws (e ∷ es) all = (all (deed e) (in-front (deed e) (map deed es)), asked-all ws es (λ d has. all d (behind (deed e) (map deed es) d has)))

pub are-asked : (ws : List WriteForm) (n : ℕ) (spans : List Span) (rows : List (List Row)) (scns : List (List ℕ)) (es : List Event)
    → AreThese (deeds_of spans rows 1 (lists_from 1 n ws) (map (map Ok) scns)) (map deed es) → AreAsked ws es
are-asked ws n spans rows scns es these = asked-all ws es (these-asked ws _ (map deed es) these (deeds-asked ws n spans rows scns))

-- Reads

abbrev is_read : ℕ → ℕ → Call → Bool
is_read f b (Read g c) = (g == f) && (c == b)
is_read f b (Write t g c content) = false
is_read f b (Mend g row) = false

abbrev has_found : Row → Answer → Bool
has_found r (Found (Some q)) = same_row q r
has_found r (Found None) = false
has_found r (Wrote w) = false
has_found r (Mended made) = false

abbrev is_reading : ℕ → ℕ → Row → Deed → Bool
is_reading f b r d = is_read f b d.0 && has_found r d.1

reading-is : (f b : ℕ) (r : Row) (d : Deed) → is_reading f b r d ≡ true → d ≡ reading f b r
reading-is f b r (Read g c, Found (Some q)) is =
    let both = and_parts (is_read f b (Read g c)) (same_row q r) is in
    let at = and_parts (g == f) (c == b) both.0 in
    let one : g ≡ f = eqb-true g f at.0 in
    let two : c ≡ b = eqb-true c b at.1 in
    let three : q ≡ r = row-same q r both.1 in
    cc
reading-is f b r (Read g c, Found None) is = let both = and_parts (is_read f b (Read g c)) false is in absurd (let no = both.1 in cc)
reading-is f b r (Read g c, Wrote w) is = let both = and_parts (is_read f b (Read g c)) false is in absurd (let no = both.1 in cc)
reading-is f b r (Read g c, Mended made) is = let both = and_parts (is_read f b (Read g c)) false is in absurd (let no = both.1 in cc)
reading-is f b r (Write t g c content, answer) is = absurd (cc)
reading-is f b r (Mend g row, answer) is = absurd (cc)

reading-itself : (f b : ℕ) (r : Row) → is_reading f b r (reading f b r) ≡ true
reading-itself f b r =
    and_from ((f == f) && (b == b)) (same_row r r) (and_from (f == f) (b == b) (eq-eqb f f refl) (eq-eqb b b refl)) (row-itself r)

these-read : (xs ys : List Deed) (f b : ℕ) (r : Row) → AreThese xs ys → Contains xs (reading f b r) → Contains ys (reading f b r)
these-read xs ys f b r these has =
    let same = these.each_once (λ d. one_if (is_reading f b r d)) in
    let it = had (is_reading f b r) ys (omega (arith, counted (is_reading f b r) xs (reading f b r) has (reading-itself f b r), same)) in
    subst (Contains ys) (reading-is f b r it.0 it.2) it.1

-- the rows of a datafile of which these blocks are read
found-in : (f : ℕ) (bs : List ℕ) (rs : List Row) (k : ℕ) (r : Row) → length rs ≡ length bs → slice_get rs k ≡ Some r → Contains (found f bs rs) (reading f (get_or bs k 0) r)
found-in f bs [] k r many is = absurd (cc)
found-in f [] (q ∷ rs) k r many is = absurd (omega (arith, many))
found-in f (b ∷ bs) (q ∷ rs) zero r many is =
    let same : q ≡ r = cc in
    subst (λ (x : Row). Contains (found f (b ∷ bs) (q ∷ rs)) (reading f b x)) same (in-front (reading f b q) (found f bs rs))
found-in f (b ∷ bs) (q ∷ rs) (suc k) r many is = behind (reading f b q) (found f bs rs) (reading f (get_or bs k 0) r) (found-in f bs rs k r (omega (arith, many)) is)

-- of each datafile and its rows
abbrev pub AllOf : (Job → List Row → Type 0) → List Job → List (List Row) → Type 0
AllOf P [] rows = Unit {0}
AllOf P (j ∷ js) [] = Unit {0}
AllOf P (j ∷ js) (rs ∷ rows) = P j rs × AllOf P js rows

pub all-of : (P Q : Job → List Row → Type 0) → ((j : Job) (rs : List Row) → P j rs → Q j rs) → (js : List Job) (rows : List (List Row)) → AllOf P js rows → AllOf Q js rows
all-of P Q on [] rows all = tt
all-of P Q on (j ∷ js) [] all = tt
all-of P Q on (j ∷ js) (rs ∷ rows) all = (on j rs all.0, all-of P Q on js rows all.1)

-- one row was read of each block that was to be read, in their order
pub record WereRead (s : State) (ds : List Deed) (j : Job) (rs : List Row) : Type 0 where
  pub many : length rs ≡ length (blocks_read s j)
  pub each : (k : ℕ) (r : Row) → slice_get rs k ≡ Some r → Contains ds (reading j.file (get_or (blocks_read s j) k 0) r)

rows-read : (s : State) (ds : List Deed) (js : List Job) (rows : List (List Row)) → AreRows rows (map (span_of s) js) → ((d : Deed) → Contains (found_of (map (span_of s) js) rows) d → Contains ds d) → AllOf (WereRead s ds) js rows
rows-read s ds [] rows are all = tt
rows-read s ds (j ∷ js) [] are all = tt
rows-read s ds (j ∷ js) (rs ∷ rows) are all =
    let first : length rs ≡ length (blocks_read s j) = cc in
    let rest : AreRows rows (map (span_of s) js) = cc in
    let reads = found j.file (blocks_read s j) rs in
    let others = found_of (map (span_of s) js) rows in (
      record {
        many = first;
        each = λ k r is.
            let n : ℕ = get_or (blocks_read s j) k 0 in
            all (reading j.file n r) (Contains-append_left reads others (reading j.file n r) (found-in j.file (blocks_read s j) rs k r first is));
      },
      rows-read s ds js rows rest (λ d has. all d (Contains-append_right reads others d has)),
    )

pub are-read : (s : State) (writers : List (List WriteJob)) (js : List Job) (rows : List (List Row)) (scns : List (List ℕ)) (es : List Event) → AreRows rows (map (span_of s) js)
    → AreThese (deeds_of (map (span_of s) js) rows 1 writers (map (map Ok) scns)) (map deed es) → AllOf (WereRead s (map deed es)) js rows
are-read s writers js rows scns es are these =
    let reads = found_of (map (span_of s) js) rows in
    let writes = wrote_of 1 writers (map (map Ok) scns) in
    all-of (WereRead s reads) (WereRead s (map deed es))
    (λ j rs was. record {
      many = was.many;
      each = λ k r is.
          let n : ℕ = get_or (blocks_read s j) k 0 in
          these-read (reads ++ writes) (map deed es) j.file n r these (Contains-append_left reads writes (reading j.file n r) (was.each k r is));
    })
    js rows (rows-read s reads js rows are (λ d has. has))
