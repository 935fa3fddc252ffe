use Rattle.std.proofs.{Common.{◌≡◌, ◌∙◌, List, arith, map, sym, ap, subst}, lemmas.List.{length-map}}
use Rattle.rm_blocks.specs.File.{File}
use Rattle.rm_evidence.specs.{Known.{known_of}, Database.{world_of}}
use Rattle.rm_apply.specs.{Applying.{applied}, Told.{AreFilesAt}, declared.plans.Plan.{Plan}}
use Rattle.rm_apply.proofs.{Numbers.{few-targets, number, unnamed}, Rows.{files-at}}
use Rattle.rm_apply.proofs.recovering.recover_files.Goals as goal

pub plans-requires-clause-numbers : goal.plans-requires-clause-numbers
plans-requires-clause-numbers g c κs within = unnamed (world_of c.args.catalog.now) c.args.i c.args.s c.in_ok-targets.targets c.as_slice.result.now c.as_slice.ensures c.in_ok-targets.ensures.numbers

pub returns-clause-files : goal.returns-clause-files
returns-clause-files g c =
    let w = world_of c.args.catalog.now in
    let e = known_of c.args.evidence.now in
    let plans = c.in_ok-plans.plans in
    let is : c.from_vec.result ≡ map (applied c.args.i c.args.s) plans = c.from_vec.ensures ∙ c.apply_all.ensures ∙ ap (λ (ps : List Plan). map (applied c.args.i c.args.s) ps) c.into_vec-plans.ensures in
    subst (λ (files : List File). AreFilesAt w e c.args.i c.args.s files) (sym is)
    (files-at w e c.args.i c.args.s (map number c.as_slice.result.now) plans c.in_ok-plans.ensures.plans
    (unnamed w c.args.i c.args.s c.in_ok-targets.targets c.as_slice.result.now c.as_slice.ensures c.in_ok-targets.ensures.numbers))

pub returns-clause-few : goal.returns-clause-few
returns-clause-few g c =
    let files = returns-clause-files g c in
    let few = few-targets c.args.catalog.now c.args.i c.args.s (map (λ (x : File). x.file) c.from_vec.result) c.records.ensures.catalog files.numbers in
    let same = length-map c.from_vec.result (λ (x : File). x.file) in
    omega (arith, few, same)
