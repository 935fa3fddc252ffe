-- The jobs that mend blocks, and their lines.
use Rattle.std.proofs.Common.{◌≡◌, ◌++◌, ℕ, suc, List, [], ◌∷◌, true, refl, sym, subst, map, All, IsSome}
use Rattle.std.proofs.lemmas.List.Elements.{All-append, All-cons, All-filter, All-head, All-nil, All-tail, All-weaker}
use Rattle.rm_base.specs.declared.block.{BlockId.{BlockId}, Row.{Row}}
use Rattle.rm_evidence.specs.{Known.{FitsTree, known_of}, declared.evidence.Evidence.{Evidence}}
use Rattle.rm_lang_statement.specs.declared.command.RepairForm.{RepairForm}
use Rattle.rm_live.specs.{Parts.{row_at}, declared.history.{Answer.TheVariants.{Mended}, Call.TheVariants.{Mend}}}
use Rattle.rm_repair.specs.{Jobs.{AreMendJobs}, Mended.{HasBlock, IsOlder, mended}, declared.jobs.MendJob.{MendJob}}
use Rattle.rm_report.specs.{Reply.{IsPlain}, declared.line.Line.{Line, TheVariants.{ThreadScn}}}
use Rattle.rm_report.specs.declared.line.Line.TheVariants as line
use Rattle.rm_machine.specs.{BackupOutcome.{write_lines}, BlockRecover.{asks_for, blocks_mended, mend_lines, mends_of}, Damage.{IsInPlace}}
use Rattle.rm_machine.specs.{Events.{opening, standing_in}, Sound.{IsSound}, State.{current_of, now_of, tree, world}}
use Rattle.rm_machine.{specs.declared.state.State.{State}, proofs.ToldRows.{CanStand, IsTargetNow, in-place-target, told-stand}}
use Rattle.rm_machine.proofs.WritersRoom.{row-found}
use Rattle.rm_step_repair.specs.Told.{mended_line}

abbrev pub rows_of : List MendJob → List Row
rows_of jobs = map (λ j. j.row) jobs

abbrev SameFiles : List BlockId → List MendJob → Type 0
SameFiles xs jobs = map (λ j. j.file) jobs ≡ map (λ x. x.file) xs

first-same : (j : MendJob) (jobs : List MendJob) (x : BlockId) (xs : List BlockId) → SameFiles (x ∷ xs) (j ∷ jobs) → (j.file ≡ x.file) × SameFiles xs jobs
first-same j jobs x xs same = (let e : j.file ∷ map (λ k. k.file) jobs ≡ x.file ∷ map (λ y. y.file) xs = same in cc, let e : j.file ∷ map (λ k. k.file) jobs ≡ x.file ∷ map (λ y. y.file) xs = same in cc)

none-same : (j : MendJob) (jobs : List MendJob) → SameFiles [] (j ∷ jobs) → ⊥
none-same j jobs same = absurd (let e : j.file ∷ map (λ k. k.file) jobs ≡ [] = same in cc)

-- their mends and lines are those of the blocks
pub mended-is : (xs : List BlockId) (jobs : List MendJob) → SameFiles xs jobs → mended jobs ≡ mends_of xs (rows_of jobs)
mended-is [] [] same = refl
mended-is [] (j ∷ jobs) same = absurd (none-same j jobs same)
mended-is (x ∷ xs) [] same = refl
mended-is (x ∷ xs) (j ∷ jobs) same =
    let both = first-same j jobs x xs same in
    λ i. (Mend (both.0 i) j.row, Mended true) ∷ mended-is xs jobs both.1 i

pub lines-are : (xs : List BlockId) (jobs : List MendJob) → SameFiles xs jobs → map mended_line jobs ≡ mend_lines xs (rows_of jobs)
lines-are [] [] same = refl
lines-are [] (j ∷ jobs) same = absurd (none-same j jobs same)
lines-are (x ∷ xs) [] same = refl
lines-are (x ∷ xs) (j ∷ jobs) same =
    let both = first-same j jobs x xs same in
    λ i. line.Mended (both.0 i) j.row.block j.row.version ∷ lines-are xs jobs both.1 i

-- no line of the reply tells a moment
mends-dated : (jobs : List MendJob) → All IsPlain (map mended_line jobs)
mends-dated [] = All-nil IsPlain
mends-dated (j ∷ jobs) = All-cons IsPlain (mended_line j) (map mended_line jobs) tt (mends-dated jobs)

thread-dated : (t : ℕ) (scns : List ℕ) → All IsPlain (map (ThreadScn t) scns)
thread-dated t [] = All-nil IsPlain
thread-dated t (scn ∷ scns) = All-cons IsPlain (ThreadScn t scn) (map (ThreadScn t) scns) tt (thread-dated t scns)

writes-dated : (t : ℕ) (lists : List (List ℕ)) → All IsPlain (write_lines t lists)
writes-dated t [] = All-nil IsPlain
writes-dated t (scns ∷ rest) = All-append IsPlain (map (ThreadScn t) scns) (write_lines (suc t) rest) (thread-dated t scns) (writes-dated (suc t) rest)

pub all-dated : (first : List Line) (jobs : List MendJob) (scns : List (List ℕ)) (lines : List Line) → All IsPlain first → lines ≡ first ++ map mended_line jobs ++ write_lines 1 scns → All IsPlain lines
all-dated first jobs scns lines dated is =
    subst (All IsPlain) (sym is) (All-append IsPlain (first ++ map mended_line jobs) (write_lines 1 scns) (All-append IsPlain first (map mended_line jobs) dated (mends-dated jobs)) (writes-dated 1 scns))

module _ (s : State) (sound : IsSound s) (opened : s.instance.is_open ≡ true) where
  -- the blocks that are mended stand in place, and exist at `now`
  pub mended-stand : (form : RepairForm) → All (IsInPlace s) (blocks_mended s form)
  mended-stand form = All-filter (asks_for form) (IsInPlace s) s.instance.damaged sound.damaged.each

  pub in-place-targets : (xs : List BlockId) → All (IsInPlace s) xs → All (IsTargetNow s) xs
  in-place-targets xs all = All-weaker (IsInPlace s) (IsTargetNow s) (λ x is. in-place-target s x sound opened is) xs all

  -- so each job finds its block, and puts there what is older than `now`
  job-there : (x : BlockId) (j : MendJob) → IsInPlace s x → j.file ≡ x.file → j.row.block ≡ x.block → HasBlock (opening s).files j
  job-there x j is file block =
      coe 1 0 (i. IsSome (row_at (standing_in s) (file i) (block i))) (row-found s x.file x.block is.file sound is.some is.is is.block)

  module _ (e : Evidence) (fits : FitsTree (tree s) e) where
    pub jobs-there : (xs : List BlockId) (jobs : List MendJob) → All (IsInPlace s) xs → AreMendJobs (world s) (known_of e) (current_of s) (now_of s) xs jobs → All (HasBlock (opening s).files) jobs
    jobs-there [] [] all are = All-nil (HasBlock (opening s).files)
    jobs-there [] (j ∷ jobs) all are = absurd are.rows
    jobs-there (x ∷ xs) [] all are = absurd are.rows
    jobs-there (x ∷ xs) (j ∷ jobs) all are =
        let both = first-same j jobs x xs are.files in
        All-cons (HasBlock (opening s).files) j jobs (job-there x j (All-head (IsInPlace s) x xs all) both.0 are.rows.0.block)
        (jobs-there xs jobs (All-tail (IsInPlace s) x xs all) (record { files = both.1; rows = are.rows.1 }))

    pub rows-stand : (xs : List BlockId) (jobs : List MendJob) → All (IsInPlace s) xs → AreMendJobs (world s) (known_of e) (current_of s) (now_of s) xs jobs → All (CanStand s) (rows_of jobs)
    rows-stand xs jobs all are = told-stand s e sound fits xs (rows_of jobs) (in-place-targets xs all) are.rows

    pub jobs-older : (jobs : List MendJob) → All (CanStand s) (rows_of jobs) → All (IsOlder (now_of s)) jobs
    jobs-older [] all = All-nil (IsOlder (now_of s))
    jobs-older (j ∷ jobs) all = All-cons (IsOlder (now_of s)) j jobs (All-head (CanStand s) j.row (rows_of jobs) all).below (jobs-older jobs (All-tail (CanStand s) j.row (rows_of jobs) all))
