use Rattle.std.proofs.{Common.{◌∙◌, ◌≡◌, Option, true, subst, sym}, lemmas.Option.{IfSome_then}}
use Rattle.rm_piece.specs.declared.set.Set.{Set}
use Rattle.rm_standby_store.specs.Names.{IsBelow, SpellsSet}
use Rattle.rm_standby_store.proofs.Found.{no-number, not-above, no-set, other-set, found-above, whatever}
use Rattle.rm_standby_store.proofs.finding.better.Goals as goal

pub returns-in_default-clause-among : goal.returns-in_default-clause-among
returns-in_default-clause-among g c =
    whatever _ _ (λ held. no-number held c.args.name.now c.args.best (λ k of. c.in_default.not-Some k ((c.standby_number.ensures k).1 of)))

pub returns-then-not-is_below-clause-among : goal.returns-then-not-is_below-clause-among
returns-then-not-is_below-clause-among g c =
    let of = (c.standby_number.ensures c.in-Some.number).0 c.in-Some.is in
    whatever _ _ (λ held. not-above held c.args.name.now c.in-Some.number c.args.best of (λ below.
    let above : c.is_below.result ≡ true = c.is_below.ensures.1 below in absurd cc))

pub returns-in_default-2-clause-among : goal.returns-in_default-2-clause-among
returns-in_default-2-clause-among g c =
    IfSome_then _ c.in_ok-set.ensures.found (λ held spells.
    no-set held c.args.name.now c.args.best (subst (λ (o : Option Set). SpellsSet held c.args.name.now o) c.in_default-2.is spells))

pub returns-then-not-is_standby-clause-among : goal.returns-then-not-is_standby-clause-among
returns-then-not-is_standby-clause-among g c =
    IfSome_then _ c.in_ok-set.ensures.found (λ held spells.
    other-set held c.args.name.now c.args.best c.in-Some-2.set (subst (λ (o : Option Set). SpellsSet held c.args.name.now o) c.in-Some-2.is spells)
    (sym c.is_standby.ensures.is ∙ c.if-not-is_standby.true))

pub returns-clause-among : goal.returns-clause-among
returns-clause-among g c =
    let of = (c.standby_number.ensures c.in-Some.number).0 c.in-Some.is in
    let below : IsBelow c.args.best c.in-Some.number = c.is_below.ensures.0 c.if-not-is_below.false in
    IfSome_then _ c.in_ok-set.ensures.found (λ held spells.
    found-above held c.args.name.now c.in-Some.number c.args.best c.in-Some-2.set of below (subst (λ (o : Option Set). SpellsSet held c.args.name.now o) c.in-Some-2.is spells)
    (sym c.is_standby.ensures.is ∙ c.if-not-is_standby.false))
