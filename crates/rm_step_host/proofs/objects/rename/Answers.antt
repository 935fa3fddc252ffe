use Rattle.std.proofs.Common.{rules, ◌≡◌, ◌∙◌, ◌++◌, ◌∷◌, [], ℕ, List, Option, Some, IfSome, ap, subst}
use Rattle.rm_base.specs.Store.{Held}
use Rattle.rm_step_host.proofs.Handing.{named, none-there, rename-hands}
use Rattle.rm_step_host.proofs.objects.rename.Goals as goal

pub returns-clause-hands : goal.returns-clause-hands
returns-clause-hands g c =
    let held = g.D.Store.held c.args.store.now in
    let old = c.args.old.now in
    let new = c.args.new_name.now in
    let bytes = c.in-Some.bytes in
    let there = named held c.as_str.result.now old (Some bytes) c.as_str.ensures (subst (λ o. IfSome held (λ (h : Held). h c.as_str.result.now ≡ o)) c.in-Some.is c.in_ok-bytes.ensures.found) in
    let free = none-there held c.as_str-2.result.now new c.in_ok-get.field-0 c.as_str-2.ensures (subst (λ (o : Option Held). IfSome o (λ h. h c.as_str-2.result.now ≡ c.in_ok-get.field-0)) c.in_ok-bytes.ensures.same c.in_ok-get.ensures.found) (search rules) in
    rename-hands held c.args.state.now old bytes _ there new free
    c.in_ok-handed.ensures.lines c.in_ok-handed.ensures.objects
    (c.in_ok-push.ensures.ok ∙ ap (λ (ns : List (List ℕ)). ns ++ c.in_ok-copied.field-0 ∷ []) c.in_ok-handed.ensures.removes ∙ ap (λ (n : List ℕ). n ∷ []) c.in_ok-copied.ensures)
