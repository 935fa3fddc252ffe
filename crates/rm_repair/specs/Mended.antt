-- Mends of blocks, while others write.
use Rattle.std.specs.Prelude.{◌≡◌, ◌≤◌, ◌<◌, ◌+◌, ◌==◌, ◌&&◌, ℕ, Bool, Option, Some, Result, Ok, IfOk, IsSome, List, [], ◌∷◌, ◌++◌, All, Contains, Vec, length, map, true, false}
use Rattle.std.specs.{Global.{Global}, List.{list_any}, Option.{option_map}, Result.{result_ok}}
use Rattle.atomic_table.specs.Seated.{TableId}
use Rattle.rm_base.specs.declared.block.Row.{Row}
use Rattle.rm_blocks.specs.File.{File}
use Rattle.rm_live.specs.{History.{IsLegal, fold_of}, Parts.{Parts, row_at}, Passes.{Standing}, Touched.{is_mended, is_touched}}
use Rattle.rm_live.specs.declared.history.{Answer.TheVariants.{Mended}, Call.{Call, TheVariants.{Mend}}, Event.{Event}}
use Rattle.rm_live.specs.declared.history.LiveFault.{LiveFault}
use Rattle.rm_channel.specs.{Jobs.{Deed, AreAsLong, lists, writes_of, wrote_of}, Made.{AreBegun, AreThese, Ran, deed}, Room.{AreThreads}}
use Rattle.rm_channel.specs.{Runs.{is_refused}, declared.jobs.WriteJob.{WriteJob}}
use Rattle.rm_repair.specs.declared.jobs.MendJob.{MendJob}

-- a mend by each job
abbrev pub mends : List MendJob → List Call
mends [] = []
mends (j ∷ jobs) = Mend j.file j.row ∷ mends jobs

-- each of which was made
abbrev pub mended : List MendJob → List Deed
mended [] = []
mended (j ∷ jobs) = (Mend j.file j.row, Mended true) ∷ mended jobs

-- the block of the job is there
abbrev pub HasBlock : List File → MendJob → Type 0
HasBlock files j = IsSome (row_at files j.file j.row.block)

-- its row was written below s
abbrev pub IsOlder : ℕ → MendJob → Type 0
IsOlder s j = j.row.version < s

-- What lists of writes need, the first by thread t: the pass is of this home, and has a number for each of them and for so many others.
-- They are at most four.
pub record CanGo (p : Standing) (at : TableId) (others t : ℕ) (writers : List (List WriteJob)) : Type 0 where
  pub home : p.home ≡ at
  pub numbers : others + length writers ≤ length p.numbers
  pub few : (1 ≤ t) × (t + length writers ≤ 5)
  pub logs : AreThreads p.opening.logs t writers

-- the mends and the writes with their answers, if all were made
abbrev pub told_of : {E : Type 0} → List MendJob → ℕ → List (List WriteJob) → Result (Vec (Vec (Result ℕ LiveFault) Global) Global) E → Option (List Deed)
told_of jobs t writers r = option_map (λ v. mended jobs ++ wrote_of t writers (lists v.items)) (result_ok r)

-- the workers made these mends and these writes, the first list by thread t
pub record HasMendedBeside {E : Type 0} (p : Standing) (seen : List Event) (jobs : List MendJob) (t : ℕ) (writers : List (List WriteJob)) (r : Result (Vec (Vec (Result ℕ LiveFault) Global) Global) E) : Type 0 where
  pub ran : Ran p seen (mends jobs ++ writes_of t writers) (told_of jobs t writers r)
  pub answers : IfOk r (λ v. AreAsLong (lists v.items) writers)

-- one of the lists has a write of it
abbrev pub is_named : List (List WriteJob) → ℕ → ℕ → Bool
is_named writers f b = list_any (λ ws. list_any (λ w. (w.file == f) && (w.block == b)) ws) writers

-- From the database p, behind these events: a block that was mended and that no write names has the row of a job of it. Each block that
-- was mended has the row of its last mend, until it is written. A block that was neither mended nor written has the row that it had.
pub record RowsAreBehind (p : Parts) (jobs : List MendJob) (writers : List (List WriteJob)) (es : List Event) : Type 0 where
  pub mended : (f b : ℕ) → is_mended es f b ≡ true → is_named writers f b ≡ false
      → (j : MendJob) × Contains jobs j × (j.file ≡ f) × (j.row.block ≡ b) × (row_at (fold_of p es).files f b ≡ Some j.row)
  pub last : (f : ℕ) (row : Row) (front back : List Event) (e : Event) → es ≡ front ++ e ∷ back → e.call ≡ Mend f row → is_touched back f row.block ≡ false
      → row_at (fold_of p es).files f row.block ≡ Some row
  pub alone : (f b : ℕ) → is_touched es f b ≡ false → row_at (fold_of p es).files f b ≡ row_at p.files f b

-- The events past the old list are exactly one mend by each job and one write of each write, each thread's in their order, and each mend
-- found its block. The SCNs are those of the writes. After want of memory they are some of these, none twice. No write is refused, save
-- for want of memory. Behind each front of the events, so at each turn, the rows are as the mends and the writes make them.
pub record HasMended {E : Type 0} (p : Standing) (seen : List Event) (jobs : List MendJob) (writers : List (List WriteJob)) (r : Result (Vec (Vec ℕ Global) Global) E) : Type 0 where
  pub rest : List Event
  pub is : seen ≡ p.seen ++ rest
  pub legal : IsLegal (fold_of p.opening p.seen) rest
  pub begun : AreBegun (mends jobs ++ writes_of 1 writers) (map deed rest)
  pub made : IfOk r (λ v. AreThese (mended jobs ++ wrote_of 1 writers (map (map Ok) (lists v.items))) (map deed rest))
  pub scns : IfOk r (λ v. AreAsLong (lists v.items) writers)
  pub accepted : All (λ e. is_refused e.answer ≡ false) rest
  pub rows : (es more : List Event) → rest ≡ es ++ more → RowsAreBehind (fold_of p.opening p.seen) jobs writers es
