-- The rows behind mends and writes.
use Rattle.std.specs.List.{list_any}
use Rattle.std.proofs.Common.{◌≡◌, ◌∙◌, ◌⊎◌, ◌==◌, ◌&&◌, ◌||◌, ◌+◌, ◌≤◌, inl, inr, ℕ, suc, Bool, true, false, Option, Some, None, Ok, Err, IsSome, is_some, List, [], ◌∷◌, ◌++◌, All, Contains, cond, find, map, refl, ap, subst, sym, arith}
use Rattle.std.proofs.lemmas.{Bool.{and_from, and_parts, cases_Bool, eq-eqb, eqb-true, or_parts}, List.Elements.{All-contains, All-weaker}}
use Rattle.rm_base.{specs.declared.block.Row.{Row}, proofs.{Members.{behind, in-front}, Slots.{get-set_other, get-set_same}}}
use Rattle.rm_blocks.specs.File.{File, put}
use Rattle.rm_live.specs.{History.{IsLegal, IsRight, after, fold_of}, Parts.{Parts, row_at, with_put}, Ruled.{one_if, total}}
use Rattle.rm_live.specs.Touched.{is_mend_of, is_mended, is_touched, is_write_of}
use Rattle.rm_live.specs.declared.history.{Answer.{Answer, TheVariants.{Found, Mended, Wrote}}, Call.{Call}}
use Rattle.rm_live.specs.declared.history.{Call.TheVariants.{Mend, Read, Write}, Event.{Event}}
use Rattle.rm_live.proofs.Mends.{mends-itself, mends-same, mends_by}
use Rattle.rm_channel.specs.{Jobs.{Deed, writes, writes_of}, Made.{AreBegun, deed}, declared.jobs.WriteJob.{WriteJob}}
use Rattle.rm_channel.proofs.{Mine.{total-append}, Rooms.{off-by}, Steps.{fold-append, legal-behind}, There.{at_file, there-after, there-fold}}
use Rattle.rm_repair.specs.Mended.{HasBlock, RowsAreBehind, is_named, mends}
use Rattle.rm_repair.specs.declared.jobs.MendJob.{MendJob}

-- One row

other-by : (x : File) (xs : List File) (g : ℕ) (row : Row) (f b : ℕ) (is_g is_f : Bool) → (x.file == g) ≡ is_g → (x.file == f) ≡ is_f → ((g == f) && (row.block == b)) ≡ false → row_at (with_put xs g row) f b ≡ row_at xs f b
    → row_at (cond is_g (put x row ∷ xs) (x ∷ with_put xs g row)) f b ≡ row_at (x ∷ xs) f b
other-by x xs g row f b true true one two other ih =
    let same : g ≡ f = sym (eqb-true x.file g one) ∙ eqb-true x.file f two in
    rw two (get-set_other x.rows row.block b row (λ e. let clash : true ≡ false = sym (and_from (g == f) (row.block == b) (eq-eqb g f same) (eq-eqb row.block b (sym e))) ∙ other in absurd (cc clash)))
other-by x xs g row f b true false one two other ih = rw two refl
other-by x xs g row f b false true one two other ih = rw two refl
other-by x xs g row f b false false one two other ih = rw two ih

row-other : (files : List File) (g : ℕ) (row : Row) (f b : ℕ) → ((g == f) && (row.block == b)) ≡ false → row_at (with_put files g row) f b ≡ row_at files f b
row-other [] g row f b other = refl
row-other (x ∷ xs) g row f b other = other-by x xs g row f b (x.file == g) (x.file == f) refl refl other (row-other xs g row f b other)

same-by : (x : File) (xs : List File) (f : ℕ) (row : Row) (is_f : Bool) → (x.file == f) ≡ is_f → (IsSome (row_at xs f row.block) → row_at (with_put xs f row) f row.block ≡ Some row)
    → IsSome (at_file (cond is_f (Some x) (find (λ (y : File). y.file == f) xs)) row.block) → row_at (cond is_f (put x row ∷ xs) (x ∷ with_put xs f row)) f row.block ≡ Some row
same-by x xs f row true is ih there = rw is (get-set_same x.rows row.block row there)
same-by x xs f row false is ih there = rw is (ih there)

row-same : (files : List File) (f : ℕ) (row : Row) → IsSome (row_at files f row.block) → row_at (with_put files f row) f row.block ≡ Some row
row-same [] f row there = absurd (cc there)
row-same (x ∷ xs) f row there = same-by x xs f row (x.file == f) refl (row-same xs f row) there

-- One event

after-other : (p : Parts) (c : Call) (a : Answer) (f b : ℕ) → (is_mend_of f b c || is_write_of f b c) ≡ false → row_at (after p c a).files f b ≡ row_at p.files f b
after-other p (Read g c) a f b other = refl
after-other p (Write t g c content) (Found row) f b other = refl
after-other p (Write t g c content) (Mended made) f b other = refl
after-other p (Write t g c content) (Wrote (Ok scn)) f b other = row-other p.files g (record { block = c; version = scn; content = content }) f b other
after-other p (Write t g c content) (Wrote (Err fault)) f b other = refl
after-other p (Mend g row) (Found found) f b other = refl
after-other p (Mend g row) (Wrote w) f b other = refl
after-other p (Mend g row) (Mended true) f b other = row-other p.files g row f b (or_parts ((g == f) && (row.block == b)) false other).0
after-other p (Mend g row) (Mended false) f b other = refl

some-is : (o : Option Row) → IsSome o → is_some o ≡ true
some-is None there = absurd (cc there)
some-is (Some row) there = refl

after-mend : (p : Parts) (f : ℕ) (row : Row) (a : Answer) → IsRight p (Mend f row) a → IsSome (row_at p.files f row.block) → row_at (after p (Mend f row) a).files f row.block ≡ Some row
after-mend p f row (Found found) right there = absurd right
after-mend p f row (Wrote w) right there = absurd right
after-mend p f row (Mended true) right there = row-same p.files f row there
after-mend p f row (Mended false) right there = let clash : false ≡ true = right.0 ∙ some-is (row_at p.files f row.block) there in absurd (cc clash)

-- Events that touch no row of the block

fold-other : (p : Parts) (es : List Event) (f b : ℕ) → is_touched es f b ≡ false → row_at (fold_of p es).files f b ≡ row_at p.files f b
fold-other p [] f b none = refl
fold-other p (e ∷ es) f b none =
    let both = or_parts (is_mend_of f b e.call || is_write_of f b e.call) (is_touched es f b) none in
    fold-other (after p e.call e.answer) es f b both.1 ∙ after-other p e.call e.answer f b both.0

fold-last : (p : Parts) (front : List Event) (e : Event) (back : List Event) (f : ℕ) (row : Row) → IsLegal p (front ++ e ∷ back) → IsSome (row_at p.files f row.block) → e.call ≡ Mend f row → is_touched back f row.block ≡ false
    → row_at (fold_of p (front ++ e ∷ back)).files f row.block ≡ Some row
fold-last p front e back f row legal there is none =
    let q : Parts = fold_of p front in
    ap (λ (o : Parts). row_at o.files f row.block) (fold-append p front (e ∷ back))
    ∙ fold-other (after q e.call e.answer) back f row.block none
    ∙ subst (λ (c : Call). IsRight q c e.answer → row_at (after q c e.answer).files f row.block ≡ Some row) (sym is)
    (λ right. after-mend q f row e.answer right (there-fold p front f row.block there))
    (legal-behind p front (e ∷ back) legal).0

-- Each mend is a job's

abbrev IsJob : List MendJob → ℕ → Row → Type 0
IsJob jobs f row = (j : MendJob) × Contains jobs j × (j.file ≡ f) × (j.row ≡ row)

job-by : (jobs : List MendJob) (f : ℕ) (row : Row) → 1 ≤ total (λ c. one_if (mends_by f row c)) (mends jobs) → IsJob jobs f row
job-by [] f row some = absurd (omega (arith, some))
job-by (j ∷ jobs) f row some = elim (cases_Bool (mends_by f row (Mend j.file j.row))) [
  | inl is ↦ let same = mends-same f row j.file j.row is in (j, in-front j jobs, same.0, same.1)
  | inr not ↦
      let none : one_if (mends_by f row (Mend j.file j.row)) ≡ 0 = ap one_if not in
      let rest = job-by jobs f row (omega (arith, some, none)) in
      (rest.0, behind j jobs rest.0 rest.1, rest.2, rest.3)
]

-- no more events pass a test than calls
abbrev AreOf : List Call → List Event → Type 0
AreOf calls es = (g : Call → Bool) → total (λ (e : Event). one_if (g e.call)) es ≤ total (λ c. one_if (g c)) calls

deeds-total : (g : Call → Bool) (es : List Event) → total (λ (d : Deed). one_if (g d.0)) (map deed es) ≡ total (λ (e : Event). one_if (g e.call)) es
deeds-total g [] = refl
deeds-total g (e ∷ es) = ap (λ (n : ℕ). one_if (g e.call) + n) (deeds-total g es)

of-front : (calls : List Call) (es more : List Event) → AreBegun calls (map deed (es ++ more)) → AreOf calls es
of-front calls es more begun g =
    let le = begun.none_twice (λ c. one_if (g c)) in
    let same = deeds-total g (es ++ more) in
    let sum = total-append (λ (e : Event). one_if (g e.call)) es more in
    omega arith

abbrev IsDue : List MendJob → Call → Type 0
IsDue jobs (Read f b) = Unit {0}
IsDue jobs (Write t f b content) = Unit {0}
IsDue jobs (Mend f row) = IsJob jobs f row

abbrev AreDue : List MendJob → List Event → Type 0
AreDue jobs [] = Unit {0}
AreDue jobs (e ∷ es) = IsDue jobs e.call × AreDue jobs es

-- no write passes a test that is of mends
writes-none : (g : Call → Bool) → ((t : ℕ) (w : WriteJob) → g (Write t w.file w.block w.content) ≡ false) → (t : ℕ) (ws : List WriteJob) → total (λ c. one_if (g c)) (writes t ws) ≡ 0
writes-none g off t [] = refl
writes-none g off t (w ∷ ws) = let none = ap one_if (off t w) in let rest = writes-none g off t ws in omega arith

lists-none : (g : Call → Bool) → ((t : ℕ) (w : WriteJob) → g (Write t w.file w.block w.content) ≡ false) → (t : ℕ) (writers : List (List WriteJob)) → total (λ c. one_if (g c)) (writes_of t writers) ≡ 0
lists-none g off t [] = refl
lists-none g off t (ws ∷ writers) =
    let sum = total-append (λ c. one_if (g c)) (writes t ws) (writes_of (suc t) writers) in
    let one = writes-none g off t ws in
    let rest = lists-none g off (suc t) writers in
    omega arith

module _ (jobs : List MendJob) (writers : List (List WriteJob)) where
  abbrev calls : List Call
  calls = mends jobs ++ writes_of 1 writers

  due-one : (c : Call) → ((g : Call → Bool) → one_if (g c) ≤ total (λ d. one_if (g d)) calls) → IsDue jobs c
  due-one (Read f b) few = tt
  due-one (Write t f b content) few = tt
  due-one (Mend f row) few =
      let g = mends_by f row in
      let one : one_if (g (Mend f row)) ≡ 1 = ap one_if (mends-itself f row) in
      let le = few g in
      let sum = total-append (λ (c : Call). one_if (g c)) (mends jobs) (writes_of 1 writers) in
      let none = lists-none g (λ t w. refl) 1 writers in
      job-by jobs f row (omega (arith, one, le, sum, none))

  are-due : (es : List Event) → AreOf calls es → AreDue jobs es
  are-due [] few = tt
  are-due (e ∷ es) few = (due-one e.call (λ g. let le = few g in omega (arith, le)), are-due es (λ g. let le = few g in omega (arith, le)))

-- No event writes a block that no write names

unnamed : (f b t : ℕ) (ws : List WriteJob) → list_any (λ (w : WriteJob). (w.file == f) && (w.block == b)) ws ≡ false → total (λ c. one_if (is_write_of f b c)) (writes t ws) ≡ 0
unnamed f b t [] none = refl
unnamed f b t (w ∷ ws) none =
    let both = or_parts ((w.file == f) && (w.block == b)) _ none in
    let one = ap one_if both.0 in
    let rest = unnamed f b t ws both.1 in
    omega arith

unnamed_of : (f b t : ℕ) (writers : List (List WriteJob)) → is_named writers f b ≡ false → total (λ c. one_if (is_write_of f b c)) (writes_of t writers) ≡ 0
unnamed_of f b t [] none = refl
unnamed_of f b t (ws ∷ writers) none =
    let both = or_parts (list_any (λ (w : WriteJob). (w.file == f) && (w.block == b)) ws) (is_named writers f b) none in
    let sum = total-append (λ c. one_if (is_write_of f b c)) (writes t ws) (writes_of (suc t) writers) in
    let one = unnamed f b t ws both.0 in
    let rest = unnamed_of f b (suc t) writers both.1 in
    omega arith

mends-unwritten : (f b : ℕ) (jobs : List MendJob) → total (λ c. one_if (is_write_of f b c)) (mends jobs) ≡ 0
mends-unwritten f b [] = refl
mends-unwritten f b (j ∷ jobs) = let rest = mends-unwritten f b jobs in omega arith

abbrev is_written : List Event → ℕ → ℕ → Bool
is_written es f b = list_any (λ (e : Event). is_write_of f b e.call) es

none-passes : (g : Call → Bool) (es : List Event) → total (λ (e : Event). one_if (g e.call)) es ≡ 0 → list_any (λ (e : Event). g e.call) es ≡ false
none-passes g [] none = refl
none-passes g (e ∷ es) none =
    let off : g e.call ≡ false = off-by (g e.call) (omega (arith, none)) in
    ap (λ t. t || list_any (λ (x : Event). g x.call) es) off ∙ none-passes g es (omega (arith, none))

unwritten : (jobs : List MendJob) (writers : List (List WriteJob)) (es : List Event) (f b : ℕ) → AreOf (mends jobs ++ writes_of 1 writers) es → is_named writers f b ≡ false → is_written es f b ≡ false
unwritten jobs writers es f b few none =
    let le = few (is_write_of f b) in
    let sum = total-append (λ c. one_if (is_write_of f b c)) (mends jobs) (writes_of 1 writers) in
    let one = mends-unwritten f b jobs in
    let rest = unnamed_of f b 1 writers none in
    none-passes (is_write_of f b) es (omega (arith, le, sum, one, rest))

-- Events of jobs

-- it is the row of a job of the block
abbrev IsOfJob : List MendJob → ℕ → ℕ → Option Row → Type 0
IsOfJob jobs f b o = (j : MendJob) × Contains jobs j × (j.file ≡ f) × (j.row.block ≡ b) × (o ≡ Some j.row)

-- the block of each job is there
abbrev AreThere : List MendJob → Parts → Type 0
AreThere jobs p = (j : MendJob) → Contains jobs j → IsSome (row_at p.files j.file j.row.block)

job-there : (jobs : List MendJob) (p : Parts) (f : ℕ) (row : Row) → AreThere jobs p → IsJob jobs f row → IsSome (row_at p.files f row.block)
job-there jobs p f row there job = coe 0 1 (i. IsSome (row_at p.files (job.2 i) (job.3 i).block)) (there job.0 job.1)

after-mended : (jobs : List MendJob) (p : Parts) (c : Call) (a : Answer) (f b : ℕ) → IsRight p c a → IsDue jobs c → AreThere jobs p → is_mend_of f b c ≡ true → IsOfJob jobs f b (row_at (after p c a).files f b)
after-mended jobs p (Read g c) a f b right due there is = absurd (cc is)
after-mended jobs p (Write t g c content) a f b right due there is = absurd (cc is)
after-mended jobs p (Mend g row) a f b right due there is =
    let both = and_parts (g == f) (row.block == b) is in
    let file : g ≡ f = eqb-true g f both.0 in
    let block : row.block ≡ b = eqb-true row.block b both.1 in
    let put_in = after-mend p g row a right (job-there jobs p g row there due) in (
      due.0,
      due.1,
      due.2 ∙ file,
      ap (λ (r : Row). r.block) due.3 ∙ block,
      coe 0 1 (i. row_at (after p (Mend g row) a).files (file i) (block i) ≡ Some row) put_in ∙ ap Some (sym due.3),
    )

fold-mended : (jobs : List MendJob) (p : Parts) (es : List Event) (f b : ℕ) → IsLegal p es → AreDue jobs es → AreThere jobs p → is_written es f b ≡ false → (is_mended es f b ≡ true) ⊎ IsOfJob jobs f b (row_at p.files f b)
    → IsOfJob jobs f b (row_at (fold_of p es).files f b)
fold-mended jobs p [] f b legal due there none (inl is) = absurd (cc is)
fold-mended jobs p [] f b legal due there none (inr of) = of
fold-mended jobs p (e ∷ es) f b legal due there none so_far =
    let q : Parts = after p e.call e.answer in
    let both = or_parts (is_write_of f b e.call) (is_written es f b) none in
    fold-mended jobs q es f b legal.1 due.1 (λ j has. there-after p e.call e.answer j.file j.row.block (there j has)) both.1
    (elim (cases_Bool (is_mend_of f b e.call)) [
      | inl is ↦ inr (after-mended jobs p e.call e.answer f b legal.0 due.0 there is)
      | inr not ↦
          let other : (is_mend_of f b e.call || is_write_of f b e.call) ≡ false = (λ i. not i || both.0 i) in
          elim so_far [
            | inl is ↦ inl (sym (ap (λ t. t || is_mended es f b) not) ∙ is)
            | inr of ↦ inr (subst (IsOfJob jobs f b) (sym (after-other p e.call e.answer f b other)) of)
          ]
    ])

-- The whole

due-at : (front : List Event) (e : Event) (back : List Event) (jobs : List MendJob) → AreDue jobs (front ++ e ∷ back) → IsDue jobs e.call
due-at [] e back jobs due = due.0
due-at (x ∷ front) e back jobs due = due-at front e back jobs due.1

legal-front : (p : Parts) (es more : List Event) → IsLegal p (es ++ more) → IsLegal p es
legal-front p [] more legal = tt
legal-front p (e ∷ es) more legal = (legal.0, legal-front (after p e.call e.answer) es more legal.1)

-- a job finds its block behind other events
pub jobs-there : (p : Parts) (seen : List Event) (jobs : List MendJob) → All (HasBlock p.files) jobs → All (HasBlock (fold_of p seen).files) jobs
jobs-there p seen jobs all = All-weaker (HasBlock p.files) (HasBlock (fold_of p seen).files) (λ j there. there-fold p seen j.file j.row.block there) jobs all

pub rows-behind : (p : Parts) (jobs : List MendJob) (writers : List (List WriteJob)) (rest es more : List Event) → IsLegal p rest → AreBegun (mends jobs ++ writes_of 1 writers) (map deed rest) → All (HasBlock p.files) jobs → rest ≡ es ++ more
    → RowsAreBehind p jobs writers es
rows-behind p jobs writers rest es more legal begun all cut =
    record {
      mended = λ f b is none. fold-mended jobs p es f b legal' due there (unwritten jobs writers es f b few none) (inl is);
      last = λ f row front back e at is none.
          let job : IsJob jobs f row = subst (IsDue jobs) is (due-at front e back jobs (subst (AreDue jobs) at due)) in
          subst (λ (xs : List Event). row_at (fold_of p xs).files f row.block ≡ Some row) (sym at)
          (fold-last p front e back f row (subst (IsLegal p) at legal') (job-there jobs p f row there job) is none);
      alone = λ f b none. fold-other p es f b none;
    }
  where
    legal' : IsLegal p es
    legal' = legal-front p es more (subst (IsLegal p) cut legal)

    few : AreOf (mends jobs ++ writes_of 1 writers) es
    few = of-front (mends jobs ++ writes_of 1 writers) es more (subst (λ (xs : List Event). AreBegun (mends jobs ++ writes_of 1 writers) (map deed xs)) cut begun)

    due : AreDue jobs es
    due = are-due jobs writers es few

    there : AreThere jobs p
    there j has = All-contains (HasBlock p.files) jobs j all has
