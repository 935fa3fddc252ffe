use Rattle.std.proofs.{Common.{◌≡◌, ◌∙◌, map, rules, sym}, lemmas.Slice.Zip.{either_empty_from_Zip}}
use Rattle.rm_verify.{specs.Told.{with_bad}, proofs.Skipping.{ended}}
use Rattle.rm_verify.proofs.validating.add_bad.Goals as goal

pub returns : goal.returns
returns c =
    let left = c.loop-id.id-iterator in
    let first : c.into_iter-id-iterator.result.a.rest.now ≡ c.args.rows.now = search rules in
    let second : c.into_iter-id-iterator.result.b.rest.now ≡ c.args.told.now = search rules in
    record {
      bad = sym (ended (λ x. x.0) left.a.rest.now left.b.rest.now c.loop-id.list (either_empty_from_Zip left c.next.new.self c.next.result c.in-None.is c.next.ensures.steps)) ∙ c.loop-id.invariant
          ∙ (λ i. with_bad c.args.list.now (map (λ x. x.0) (first i)) (second i));
    }
