use Rattle.std.proofs.Common.{◌≡◌, ◌∷◌, [], ◌∙◌, List, Some, None, Bool, cond, ap, sym}
use Rattle.rm_base.specs.declared.block.Change.{Change}
use Rattle.rm_history.{specs.State.{concerns, later}, proofs.States.{latest-on, latest-on-none, latest-on-append}}
use Rattle.rm_history.proofs.world.World.state.Goals as goal

pub loop-change-init : goal.loop-change-init
loop-change-init c =
    let p : Change → Bool = concerns c.args.self.now c.args.i c.args.s c.args.file c.args.block in
    let all : c.into_iter-change-iterator.result.iter.rest.now ≡ c.args.history.now =
    ap (λ r. r.iter.rest.now) c.into_iter-change-iterator.ensures.into_iter_gives ∙ ap (λ i. i.rest.now) c.rev-change-items.ensures.source ∙ c.iter.ensures.rest in
    ap (λ (xs : List Change). latest-on p xs None) all ∙ latest-on-none p c.args.history.now

pub loop-change-preserved-then-concerns : goal.loop-change-preserved-then-concerns
loop-change-preserved-then-concerns c =
    let p : Change → Bool = concerns c.args.self.now c.args.i c.args.s c.args.file c.args.block in
    let rest : List Change = c.next.new.self.iter.rest.now in
    let change : Change = c.in-Some.change.now in
    ap (λ o. latest-on p rest (Some o)) c.later.ensures
    ∙ ap (λ b. latest-on p rest (cond b (Some (later change c.loop-change.last)) c.loop-change.last)) c.if-concerns.ensures
    ∙ sym (latest-on-append p rest (change ∷ []) c.loop-change.last)
    ∙ ap (λ (xs : List Change). latest-on p xs c.loop-change.last) (sym c.in-Some.ensures.steps)
    ∙ c.loop-change.invariant

pub loop-change-preserved : goal.loop-change-preserved
loop-change-preserved c =
    let p : Change → Bool = concerns c.args.self.now c.args.i c.args.s c.args.file c.args.block in
    let rest : List Change = c.next.new.self.iter.rest.now in
    let change : Change = c.in-Some.change.now in
    ap (λ b. latest-on p rest (cond b (Some (later change c.loop-change.last)) c.loop-change.last)) c.if-concerns.ensures
    ∙ sym (latest-on-append p rest (change ∷ []) c.loop-change.last)
    ∙ ap (λ (xs : List Change). latest-on p xs c.loop-change.last) (sym c.in-Some.ensures.steps)
    ∙ c.loop-change.invariant
