use Rattle.std.proofs.Common.{◌≡◌, ◌∙◌, false, true, ap, refl, sym}
use Rattle.rm_machine_laws.specs.Holds.{View}
use Rattle.rm_site.proofs.Ending.{ends-none, ends-same, ends-saved, ends-unapplied, err-then, nothing-saves, ok-then, state-saves, state-stops, unapplied-saves, unsaved-saves}
use Rattle.rm_site.proofs.site.Site.save.Goals as goal

pub returns-in_default-clause-saved : goal.returns-in_default-clause-saved
returns-in_default-clause-saved g c =
    nothing-saves (g.D.Store.held c.args.store.now) (g.C.Keeper.kept c.args.keeper.now) c.args.self.now (sym (ap (λ (v : View). v.state) c.self.view_is) ∙ sym c.replace.ensures.value ∙ c.in_default.is)

pub returns-then-not-self-clause-saved : goal.returns-then-not-self-clause-saved
returns-then-not-self-clause-saved g c =
    unapplied-saves (g.D.Store.held c.args.store.now) (g.C.Keeper.kept c.args.keeper.now) c.args.self.now (sym (ap (λ (v : View). v.applied) c.self.view_is) ∙ c.if-not-self.true)

pub returns-then-not-can_save-clause-saved : goal.returns-then-not-can_save-clause-saved
returns-then-not-can_save-clause-saved g c =
    unsaved-saves (g.D.Store.held c.args.store.now) (g.C.Keeper.kept c.args.keeper.now) c.args.self.now c.in-Some.state
    (sym (ap (λ (v : View). v.state) c.self.view_is) ∙ sym c.replace.ensures.value ∙ c.in-Some.is) (c.can_save.ensures.otherwise c.if-not-can_save.true) (sym (ap (λ (v : View). v.applied) c.self.view_is) ∙ c.if-not-self.false)

pub returns-clause-saved : goal.returns-clause-saved
returns-clause-saved g c =
    ok-then c.save_state.result
    (state-saves (g.D.Store.held c.args.store.now) (g.C.Keeper.kept c.args.keeper.now) c.args.self.now c.in-Some.state (g.D.Store.held c.save_state.new.store) (g.C.Keeper.kept c.save_state.new.keeper)
    (sym (ap (λ (v : View). v.state) c.self.view_is) ∙ sym c.replace.ensures.value ∙ c.in-Some.is) (sym (ap (λ (v : View). v.applied) c.self.view_is) ∙ c.if-not-self.false))
    c.save_state.ensures.saved

pub returns-clause-stopped : goal.returns-clause-stopped
returns-clause-stopped g c =
    err-then c.save_state.result
    (state-stops (g.D.Store.held c.args.store.now) (g.C.Keeper.kept c.args.keeper.now) c.args.self.now c.in-Some.state (g.D.Store.held c.save_state.new.store) (g.C.Keeper.kept c.save_state.new.keeper)
    (sym (ap (λ (v : View). v.state) c.self.view_is) ∙ sym c.replace.ensures.value ∙ c.in-Some.is) (sym (ap (λ (v : View). v.applied) c.self.view_is) ∙ c.if-not-self.false))
    c.save_state.ensures.stopped

pub returns-clause-unapplied : goal.returns-clause-unapplied
returns-clause-unapplied g c = λ none.
    let both : false ≡ true = sym none ∙ sym (ap (λ (v : View). v.applied) c.self.view_is) ∙ c.if-not-self.false in
    absurd (cc)

pub returns-in_default-clause-ends : goal.returns-in_default-clause-ends
returns-in_default-clause-ends g c =
    ends-none (g.D.Store.held c.args.store.now) (g.C.Keeper.kept c.args.keeper.now) c.args.self.now.state c.args.self.now.applied
    (sym (ap (λ (v : View). v.state) c.self.view_is) ∙ sym c.replace.ensures.value ∙ c.in_default.is)

pub returns-then-not-self-clause-ends : goal.returns-then-not-self-clause-ends
returns-then-not-self-clause-ends g c =
    ends-unapplied (g.D.Store.held c.args.store.now) (g.C.Keeper.kept c.args.keeper.now) c.args.self.now.state c.args.self.now.applied (sym (ap (λ (v : View). v.applied) c.self.view_is) ∙ c.if-not-self.true)

pub returns-then-not-can_save-clause-ends : goal.returns-then-not-can_save-clause-ends
returns-then-not-can_save-clause-ends g c =
    ends-same (g.D.Store.held c.args.store.now) (g.C.Keeper.kept c.args.keeper.now) c.args.self.now.state c.args.self.now.applied c.in-Some.state
    (sym (ap (λ (v : View). v.state) c.self.view_is) ∙ sym c.replace.ensures.value ∙ c.in-Some.is) (sym (ap (λ (v : View). v.applied) c.self.view_is) ∙ c.if-not-self.false) _ _
    (c.can_save.ensures.otherwise c.if-not-can_save.true) (refl, refl)

pub returns-clause-ends : goal.returns-clause-ends
returns-clause-ends g c =
    ok-then c.save_state.result
    (ends-saved (g.D.Store.held c.args.store.now) (g.C.Keeper.kept c.args.keeper.now) c.args.self.now.state c.args.self.now.applied c.in-Some.state
    (sym (ap (λ (v : View). v.state) c.self.view_is) ∙ sym c.replace.ensures.value ∙ c.in-Some.is) (sym (ap (λ (v : View). v.applied) c.self.view_is) ∙ c.if-not-self.false)
    (g.D.Store.held c.save_state.new.store) (g.C.Keeper.kept c.save_state.new.keeper) (c.can_save.ensures.unsaved c.if-not-can_save.false) (c.can_save.ensures.ids c.if-not-can_save.false))
    c.save_state.ensures.puts
