use Rattle.std.proofs.Common.{◌≡◌, ◌<◌, ◌∙◌, ◌∷◌, [], List, ℕ, Some, IfSome, ap, subst}
use Rattle.rm_base.specs.Store.{Held}
use Rattle.rm_step_host.proofs.Handing.{cut-hands, named}
use Rattle.rm_step_host.proofs.objects.cut.Goals as goal

pub returns-clause-hands : goal.returns-clause-hands
returns-clause-hands g c =
    let held = g.D.Store.held c.args.store.now in
    let name = c.args.name.now in
    let bytes = c.in-Some.bytes in
    let there = named held c.as_str.result.now name (Some bytes) c.as_str.ensures (subst (λ o. IfSome held (λ (h : Held). h c.as_str.result.now ≡ o)) c.in-Some.is c.in_ok-bytes.ensures.found) in
    cut-hands held c.args.state.now name bytes c.in_ok-put.field-0 there c.args.to (subst (λ n. c.args.to < n) c.len.ensures c.if-to-len.false)
    c.in_ok-put.ensures.lines (c.in_ok-put.ensures.objects ∙ ap (λ (ys : List ℕ). record { name = name; bytes = ys } ∷ []) c.first-bytes.ensures) c.in_ok-put.ensures.removes
