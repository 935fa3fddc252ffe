use Rattle.std.{specs.Option.{option_map}, proofs.{Common.{◌≡◌, ◌∙◌, ℕ, List, ap, map, refl, rules, sym, arith}, lemmas.List.{length-map}}}
use Rattle.rm_apply.{specs.Files.{AreExactly}, proofs.Numbers.{few-targets, number, unnamed}}
use Rattle.rm_base.specs.declared.refusal.Refusal.TheVariants.{Rm13}
use Rattle.rm_evidence.specs.Database.{world_of}
use Rattle.rm_plan.specs.Plan.{IsFileTarget}
use Rattle.rm_tool_duplicate.{specs.Refused.{files_at, first_taken, is_among}, proofs.{Counting.{counted}, Reasons.{names-taken}}}
use Rattle.rm_tool_duplicate.proofs.refusing.name_refusal.Goals as goal

pub overflow_cast-len : goal.overflow_cast-len
overflow_cast-len g c =
    let files = c.in_ok-files.files in
    let rs = c.args.records.now in
    let few = few-targets rs c.args.i c.args.s (map number files) c.records.ensures.catalog (unnamed (world_of rs) c.args.i c.args.s files files refl c.in_ok-files.ensures.numbers) in
    let many = length-map files number in
    let is = c.len.ensures in
    search rules

pub first_taken-requires : goal.first_taken-requires
first_taken-requires g c =
    let files = c.in_ok-files.files in
    let rs = c.args.records.now in
    let few = few-targets rs c.args.i c.args.s (map number files) c.records.ensures.catalog (unnamed (world_of rs) c.args.i c.args.s files files refl c.in_ok-files.ensures.numbers) in
    let many = length-map files number in
    let is = c.len.ensures in
    record { few = omega (arith, few, many, is) }

pub returns-in-Some-clause-reason : goal.returns-in-Some-clause-reason
returns-in-Some-clause-reason g c =
    let files = c.in_ok-files.files in
    let rs = c.args.records.now in
    let names = c.in_ok-names.names in
    let w = world_of rs in
    let exact : AreExactly (IsFileTarget w c.args.i c.args.s) (map number files) = unnamed w c.args.i c.args.s files files refl c.in_ok-files.ensures.numbers in
    let many : c.len.result ≡ files_at w c.args.i c.args.s = c.len.ensures ∙ sym (length-map files number) ∙ counted w c.args.i c.args.s c.requires.there (map number files) exact in
    record {
      is_taken = is_among names;
      names = names-taken (g.E.Store.held c.args.to.now) names c.in_ok-names.ensures.exact;
      is = ap (option_map Rm13) (sym c.in-Some.is ∙ c.in_ok-taken.ensures ∙ ap (λ (xs : List (List ℕ)). first_taken (is_among xs) 1 c.len.result) c.as_slice.ensures ∙ ap (first_taken (is_among names) 1) many);
    }

pub returns-clause-reason : goal.returns-clause-reason
returns-clause-reason g c =
    let files = c.in_ok-files.files in
    let rs = c.args.records.now in
    let names = c.in_ok-names.names in
    let w = world_of rs in
    let exact : AreExactly (IsFileTarget w c.args.i c.args.s) (map number files) = unnamed w c.args.i c.args.s files files refl c.in_ok-files.ensures.numbers in
    let many : c.len.result ≡ files_at w c.args.i c.args.s = c.len.ensures ∙ sym (length-map files number) ∙ counted w c.args.i c.args.s c.requires.there (map number files) exact in
    record {
      is_taken = is_among names;
      names = names-taken (g.E.Store.held c.args.to.now) names c.in_ok-names.ensures.exact;
      is = ap (option_map Rm13) (sym c.in-None.is ∙ c.in_ok-taken.ensures ∙ ap (λ (xs : List (List ℕ)). first_taken (is_among xs) 1 c.len.result) c.as_slice.ensures ∙ ap (first_taken (is_among names) 1) many);
    }
