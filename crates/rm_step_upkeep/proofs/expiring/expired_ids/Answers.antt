use Rattle.std.proofs.Common.{rules, ◌≡◌, ◌∙◌, ℕ, List, ap, map, subst, sym}
use Rattle.rm_apply.specs.Files.{AreExactly}
use Rattle.rm_machine.specs.Upkeep.{IsExpired}
use Rattle.rm_step_upkeep.{specs.Expired.{Alone}, proofs.Listed.{exactly}}
use Rattle.rm_step_upkeep.proofs.expiring.expired_ids.Goals as goal

pub returns : goal.returns
returns c =
    let list = c.in_ok-list.list in
    let mapped : c.in_ok-collect.field-0.items ≡ map (λ (x : ℕ × Alone). x.0) c.as_slice.result.now = search rules in
    let numbers = mapped ∙ ap (λ (xs : List (ℕ × Alone)). map (λ x. x.0) xs) c.as_slice.ensures in
    subst (AreExactly (IsExpired c.args.catalog.now c.args.class)) (sym numbers) (exactly c.args.catalog.now c.args.class list c.in_ok-list.ensures)
