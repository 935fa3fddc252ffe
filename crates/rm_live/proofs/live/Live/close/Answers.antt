use Rattle.std.proofs.Common.{length, ap, sym, ◌∙◌}
use Rattle.rm_live.{specs.{History.{fold_of}, Passes.{Standing}}, proofs.Edges.{closes}}
use Rattle.rm_live.proofs.live.Live.close.Goals as goal

pub returns : goal.returns
returns c =
    let is = c.pass.view_is in
    let v = c.pass.inside.place.me.0 in
    let rest = c.pass.invariant in
    let all = ap (λ (x : Standing). length x.numbers) is ∙ c.requires.only ∙ sym (ap (λ (x : Standing). x.passes) is) in
    closes _ _ c.pass.inside.place.id v c.take-database.result rest.still rest.some all c.close_with-closed.ensures.values.2 c.take-database.ensures.value
    ∙ ap (λ (x : Standing). fold_of x.opening x.seen) is
