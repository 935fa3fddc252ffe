use Rattle.std.{specs.Prelude.{IsSome}, proofs.Common.{◌∙◌, ℕ, List, Option, Some, ap, subst}}
use Rattle.rm_base.specs.Store.{Both, HasNow, SameBut}
use Rattle.rm_tool_standby.specs.{Kept.{IsGone, OthersAre, Stops}, declared.keeping.Change.{Change}}
use Rattle.rm_tool_standby.proofs.Replacing.{always-err, replaced, stopped-remove}
use Rattle.rm_tool_standby.proofs.keeping.replace.Goals as goal

pub returns-in_err-remove_old-clause-stopped : goal.returns-in_err-remove_old-clause-stopped
returns-in_err-remove_old-clause-stopped g c found new left is =
    let held = g.E.Store.held in
    let name = c.as_str.ensures ∙ ap (λ (x : Change). x.name) is in
    let bytes = c.as_slice.ensures ∙ ap (λ (x : Change). x.bytes) is in
    let old = ap (λ (x : Change). x.old) is in
    always-err (Stops found new (held c.args.to.now) (held c.remove_old.new.to)) c.from_residual-in_err-remove_old.result
    (stopped-remove found new left (held c.args.to.now) (held c.put.new.self) (held c.remove_old.new.to)
    (coe 0 1 (i. Both (HasNow (name i) (Some (bytes i))) (held c.args.to.now) (held c.put.new.self)) c.in_ok-put.ensures.stands)
    (subst (λ (n : List ℕ). Both (SameBut n) (held c.args.to.now) (held c.put.new.self)) name c.put.ensures.others)
    (subst (λ (o : Option (List ℕ)). IsSome o) old c.in_err-remove_old.ensures.some)
    (subst (λ (o : Option (List ℕ)). Both (OthersAre o) (held c.put.new.self) (held c.remove_old.new.to)) old c.remove_old.ensures.others))

pub returns-clause-replaced : goal.returns-clause-replaced
returns-clause-replaced g c found new left is =
    let held = g.E.Store.held in
    let name = c.as_str.ensures ∙ ap (λ (x : Change). x.name) is in
    let bytes = c.as_slice.ensures ∙ ap (λ (x : Change). x.bytes) is in
    let old = ap (λ (x : Change). x.old) is in
    replaced found new left (held c.args.to.now) (held c.put.new.self) (held c.remove_old.new.to)
    (coe 0 1 (i. Both (HasNow (name i) (Some (bytes i))) (held c.args.to.now) (held c.put.new.self)) c.in_ok-put.ensures.stands)
    (subst (λ (n : List ℕ). Both (SameBut n) (held c.args.to.now) (held c.put.new.self)) name c.put.ensures.others)
    (subst (λ (o : Option (List ℕ)). Both (IsGone o) (held c.put.new.self) (held c.remove_old.new.to)) old c.in_ok-remove_old.ensures.gone)
    (subst (λ (o : Option (List ℕ)). Both (OthersAre o) (held c.put.new.self) (held c.remove_old.new.to)) old c.remove_old.ensures.others)
