-- Rows of blocks, run after run.
use mathlib.Core.List.{map-append}
use Rattle.std.proofs.Common.{◌≡◌, ◌∙◌, ◌==◌, ◌+◌, ◌≤◌, ℕ, suc, Bool, true, false, cond, List, [], ◌∷◌, ◌++◌, All, length, map, slice_index_or, take, refl, ap, subst, sym, append_assoc, arith, eqb-true}
use Rattle.std.proofs.lemmas.List.Elements.{All-append, All-cons, All-head, All-map, All-nil, All-tail}
use Rattle.rm_base.{specs.declared.block.{BlockId.{BlockId}, Part.{Part}, Row.{Row}}, proofs.Lists.{all_zip_join}}
use Rattle.rm_history.specs.{Evidence.{Evidence}, FirstGap.{IsDetermined, IsTarget}, declared.world.World.{World}}
use Rattle.rm_plan.specs.{Blocks.{AreToldRows, IsToldRow}, Chosen.{IsFaultOf, id_of, row_of}, Plan.{IsFileTarget}, declared.plan.PlanFault.{PlanFault}}
use Rattle.rm_plan.proofs.Chosen.{told-determined}
use Rattle.rm_plan.specs.declared.plan.PlanFault.TheVariants as fault
use Rattle.rm_repair.specs.{Jobs.{AreMendJobs, job_of, run_length}, declared.jobs.MendJob.{MendJob}}

-- the blocks of a run are of the datafile
run-step : (f : ℕ) (x : BlockId) (xs : List BlockId) (b : Bool) → (x.file == f) ≡ b → All (λ y. y.file ≡ f) (take (run_length f xs) xs) → All (λ y. y.file ≡ f) (take (cond b (1 + run_length f xs) 0) (x ∷ xs))
run-step f x xs false is all = All-nil (λ (y : BlockId). y.file ≡ f)
run-step f x xs true is all =
    let next : suc (run_length f xs) ≡ 1 + run_length f xs = omega arith in
    subst (λ n. All (λ y. y.file ≡ f) (take n (x ∷ xs))) next (All-cons (λ (y : BlockId). y.file ≡ f) x (take (run_length f xs) xs) (eqb-true x.file f is) all)

pub run-files : (f : ℕ) (xs : List BlockId) → All (λ y. y.file ≡ f) (take (run_length f xs) xs)
run-files f [] = All-nil (λ (y : BlockId). y.file ≡ f)
run-files f (x ∷ xs) = run-step f x xs (x.file == f) refl (run-files f xs)

-- no more than there are
pub run-within : (f : ℕ) (xs : List BlockId) → run_length f xs ≤ length xs
run-within f [] = omega arith
run-within f (x ∷ xs) = by (x.file == f) (run-within f xs)
  where
    by : (b : Bool) → run_length f xs ≤ length xs → cond b (1 + run_length f xs) 0 ≤ suc (length xs)
    by false h = omega arith
    by true h = omega arith

pub run-is : (f : ℕ) (run : List BlockId) → All (λ x. x.file ≡ f) run → map (id_of f) (map (λ x. x.block) run) ≡ run
run-is f [] of = refl
run-is f (x ∷ run) of =
    let same : f ≡ x.file = sym (All-head (λ (y : BlockId). y.file ≡ f) x run of) in
    λ k. record { file = same k; block = x.block } ∷ run-is f run (All-tail (λ (y : BlockId). y.file ≡ f) x run of) k

rows-of : (f : ℕ) (parts : List Part) → map (λ (j : MendJob). j.row) (map (job_of f) parts) ≡ map row_of parts
rows-of f [] = refl
rows-of f (p ∷ parts) = ap (λ (rows : List Row). row_of p ∷ rows) (rows-of f parts)

-- a part of a list of all
pub All-behind : {X : Type 0} (P : X → Type 0) (xs ys : List X) → All P (xs ++ ys) → All P ys
All-behind P [] ys all = all
All-behind P (x ∷ xs) ys all = All-behind P xs ys (All-tail P x (xs ++ ys) all)

module _ (w : World) (e : Evidence) (i s : ℕ) where
  files-of : (f : ℕ) (run : List BlockId) (parts : List Part) → All (λ x. x.file ≡ f) run → AreToldRows w e i s run (map row_of parts) → map (λ (j : MendJob). j.file) (map (job_of f) parts) ≡ map (λ (x : BlockId). x.file) run
  files-of f [] [] of are = refl
  files-of f [] (p ∷ parts) of are = absurd are
  files-of f (x ∷ run) [] of are = absurd are
  files-of f (x ∷ run) (p ∷ parts) of are =
      let same : f ≡ x.file = sym (All-head (λ (y : BlockId). y.file ≡ f) x run of) in
      λ k. same k ∷ files-of f run parts (All-tail (λ (y : BlockId). y.file ≡ f) x run of) are.1 k

  pub no-jobs : AreMendJobs w e i s [] []
  no-jobs = record { files = refl; rows = tt }

  -- one run more
  pub jobs-more : (f : ℕ) (done run : List BlockId) (jobs more : List MendJob) (parts : List Part) → All (λ x. x.file ≡ f) run → AreMendJobs w e i s done jobs → AreToldRows w e i s run (map row_of parts) → more ≡ jobs ++ map (job_of f) parts
      → AreMendJobs w e i s (done ++ run) more
  jobs-more f done run jobs more parts of are told is = subst (λ (js : List MendJob). AreMendJobs w e i s (done ++ run) js) (sym is) record {
    files = map-append (λ (j : MendJob). j.file) jobs (map (job_of f) parts) ∙ (λ k. are.files k ++ files-of f run parts of told k) ∙ sym (map-append (λ (x : BlockId). x.file) done run);
    rows = subst (λ (rows : List Row). AreToldRows w e i s (done ++ run) rows) (sym (map-append (λ (j : MendJob). j.row) jobs (map (job_of f) parts) ∙ ap (λ (rows : List Row). map (λ (j : MendJob). j.row) jobs ++ rows) (rows-of f parts)))
        (all_zip_join (IsToldRow w e i s) done run (map (λ (j : MendJob). j.row) jobs) (map row_of parts) are.rows told);
  }

  -- the fault of a run is that of all
  pub fault-behind : (done run rest all : List BlockId) (jobs : List MendJob) (x : PlanFault) → done ++ (run ++ rest) ≡ all → AreMendJobs w e i s done jobs → IsFaultOf w e i s run x → IsFaultOf w e i s all x
  fault-behind done run rest all jobs fault.NoMemory whole are names = tt
  fault-behind done run rest all jobs (fault.Gap gap) whole are names = record {
    told = done ++ names.told;
    block = names.block;
    rest = names.rest ++ rest;
    is = sym whole ∙ ap (λ (xs : List BlockId). done ++ (xs ++ rest)) names.is ∙ ap (λ (xs : List BlockId). done ++ xs) (append_assoc names.told (names.block ∷ names.rest) rest) ∙ sym (append_assoc done names.told (names.block ∷ (names.rest ++ rest)));
    determined = All-append (λ (y : BlockId). IsDetermined w e i s y.file y.block) done names.told (told-determined w e i s done (map (λ (j : MendJob). j.row) jobs) are.rows) names.determined;
    names = names.names;
  }

-- the datafile of a block that is there
pub file-target : (w : World) (i s f b : ℕ) → IsTarget w i s f b → IsFileTarget w i s f
file-target w i s f b target = record { there = target.there; datafile = target.datafile; is = target.is; exists = target.exists }

-- the blocks of a run by their numbers
pub run-targets : (w : World) (i s f : ℕ) (run : List BlockId) → All (λ x. IsTarget w i s x.file x.block) run → All (λ x. x.file ≡ f) run → All (λ b. IsTarget w i s f b) (map (λ (x : BlockId). x.block) run)
run-targets w i s f run there of =
    All-map (λ (b : ℕ). IsTarget w i s f b) (λ (x : BlockId). x.block) run (λ k d lt. subst (λ (g : ℕ). IsTarget w i s g (slice_index_or run k d).block) (of k d lt) (there k d lt))
