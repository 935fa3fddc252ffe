use Rattle.std.proofs.Common.{◌≡◌, ◌∙◌, ◌++◌, ◌≤◌, ◌<◌, ℕ, List, [], All, ap, append_assoc, get_or, length, refl, subst, sym, take, rules}
use Rattle.std.proofs.lemmas.List.Elements.{All-get_or, All-take}
use Rattle.rm_base.specs.declared.block.BlockId.{BlockId}
use Rattle.rm_evidence.specs.{Known.{known_of}, Database.{world_of}}
use Rattle.rm_history.specs.{FirstGap.{IsTarget}, declared.world.World.{World}}
use Rattle.rm_plan.{specs.Chosen.{IsFaultOf}, proofs.Faults.{handed_on}}
use Rattle.rm_repair.specs.{Jobs.{AreMendJobs}, declared.jobs.MendJob.{MendJob}}
use Rattle.rm_repair.proofs.{Least.{least_fault}, Told.{All-behind, fault-behind, file-target, jobs-more, no-jobs, run-files, run-within}}
use Rattle.rm_repair.proofs.jobs.mend_jobs.Goals as goal

abbrev no_id : BlockId
no_id = record { file = 0; block = 0 }

-- each block is there
abbrev Target : World → ℕ → ℕ → BlockId → Type 0
Target w i s x = IsTarget w i s x.file x.block

left-there : (w : World) (i s : ℕ) (done left blocks : List BlockId) → done ++ left ≡ blocks → All (Target w i s) blocks → All (Target w i s) left
left-there w i s done left blocks whole all = All-behind (Target w i s) done left (subst (All (Target w i s)) (sym whole) all)

first-there : (w : World) (i s : ℕ) (done left blocks : List BlockId) → done ++ left ≡ blocks → All (Target w i s) blocks → 0 < length left → Target w i s (get_or left 0 no_id)
first-there w i s done left blocks whole all some = All-get_or (Target w i s) left 0 no_id some (left-there w i s done left blocks whole all)

pub runs-init : goal.runs-init
runs-init c =
    let w = world_of c.args.catalog.now in
    let e = known_of c.args.evidence.now in
    ([], refl, subst (λ (js : List MendJob). AreMendJobs w e c.args.i c.args.s [] js) (sym c.new-jobs.ensures.items) (no-jobs w e c.args.i c.args.s))

pub split_at-requires : goal.split_at-requires
split_at-requires c = subst (λ n. n ≤ length c.runs.left.now) (sym c.run_of.ensures) (run-within _ c.runs.left.now)

pub add_run-requires-clause-target : goal.add_run-requires-clause-target
add_run-requires-clause-target c =
    let i = c.runs.invariant in
    let w = world_of c.args.catalog.now in
    let x : BlockId = get_or c.runs.left.now 0 no_id in
    file-target w c.args.i c.args.s x.file x.block (first-there w c.args.i c.args.s i.0 c.runs.left.now c.args.blocks.now i.1 c.requires.there (search rules))

pub add_run-requires-clause-there : goal.add_run-requires-clause-there
add_run-requires-clause-there c =
    let i = c.runs.invariant in
    let w = world_of c.args.catalog.now in
    subst (All (Target w c.args.i c.args.s)) (sym c.split_at.ensures.front) (All-take (Target w c.args.i c.args.s) c.run_of.result c.runs.left.now (left-there w c.args.i c.args.s i.0 c.runs.left.now c.args.blocks.now i.1 c.requires.there))

pub add_run-requires-clause-of : goal.add_run-requires-clause-of
add_run-requires-clause-of c =
    let f : ℕ = (get_or c.runs.left.now 0 no_id).file in
    subst (All (λ (x : BlockId). x.file ≡ f)) (sym (c.split_at.ensures.front ∙ ap (λ (n : ℕ). take n c.runs.left.now) c.run_of.ensures)) (run-files f c.runs.left.now)

pub returns-in_err-add_run-clause-gap : goal.returns-in_err-add_run-clause-gap
returns-in_err-add_run-clause-gap c =
    let i = c.runs.invariant in
    let w = world_of c.args.catalog.now in
    let e = known_of c.args.evidence.now in
    let fault = c.in_err-add_run.field-0.0 in
    let run : List BlockId = c.split_at.result.0.now in
    let rest : List BlockId = c.split_at.result.1.now in
    let parts : run ++ rest ≡ c.runs.left.now = search rules in
    handed_on c.from_residual.result fault c.from_residual.ensures.1 (IsFaultOf w e c.args.i c.args.s c.args.blocks.now)
    (fault-behind w e c.args.i c.args.s i.0 run rest c.args.blocks.now c.runs.jobs.items fault (ap (λ (l : List BlockId). i.0 ++ l) parts ∙ i.1) i.2 c.in_err-add_run.ensures.gap)

pub returns-in_err-add_run-clause-least : goal.returns-in_err-add_run-clause-least
returns-in_err-add_run-clause-least c =
    least_fault c.from_residual.result (world_of c.args.catalog.now) (known_of c.args.evidence.now) c.args.i c.args.s c.args.blocks.now (returns-in_err-add_run-clause-gap c)

pub runs-preserved : goal.runs-preserved
runs-preserved c =
    let i = c.runs.invariant in
    let w = world_of c.args.catalog.now in
    let e = known_of c.args.evidence.now in
    let f : ℕ = (get_or c.runs.left.now 0 no_id).file in
    let run : List BlockId = c.split_at.result.0.now in
    let rest : List BlockId = c.split_at.result.1.now in
    let parts : run ++ rest ≡ c.runs.left.now = search rules in
    let adds = c.in_ok-add_run.ensures.adds in
    let of : All (λ (x : BlockId). x.file ≡ f) run = subst (All (λ (x : BlockId). x.file ≡ f)) (sym (c.split_at.ensures.front ∙ ap (λ (n : ℕ). take n c.runs.left.now) c.run_of.ensures)) (run-files f c.runs.left.now) in (
      i.0 ++ run,
      append_assoc i.0 run rest ∙ ap (λ (l : List BlockId). i.0 ++ l) parts ∙ i.1,
      jobs-more w e c.args.i c.args.s f i.0 run c.runs.jobs.items c.add_run.new.jobs.items adds.0 of i.2 adds.2 adds.1,
    )
