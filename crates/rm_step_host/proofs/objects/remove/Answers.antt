use Rattle.std.proofs.Common.{rules, ◌∙◌, ◌++◌, ◌∷◌, [], ℕ, List, ap}
use Rattle.rm_step_host.proofs.Handing.{remove-hands, some-there}
use Rattle.rm_step_host.proofs.objects.remove.Goals as goal

pub returns-clause-hands : goal.returns-clause-hands
returns-clause-hands g c =
    let held = g.D.Store.held c.args.store.now in
    let name = c.args.name.now in
    let there = some-there held c.as_str.result.now name c.in_ok-get.field-0 c.as_str.ensures c.in_ok-get.ensures.found (search rules) in
    remove-hands held c.args.state.now name there.0 _ there.1
    c.in_ok-handed.ensures.lines c.in_ok-handed.ensures.objects
    (c.in_ok-push.ensures.ok ∙ ap (λ (ns : List (List ℕ)). ns ++ c.in_ok-copied.field-0 ∷ []) c.in_ok-handed.ensures.removes ∙ ap (λ (n : List ℕ). n ∷ []) c.in_ok-copied.ensures)
