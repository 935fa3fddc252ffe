use Rattle.std.proofs.Common.{◌≤◌, length, ap, sym, ◌∙◌, arith, subst}
use Rattle.rm_live.{specs.Passes.{Standing}, proofs.Seats.{splits}}
use Rattle.rm_live.proofs.live.Live.split.Goals as goal

pub split_seat-place-requires : goal.split_seat-place-requires
split_seat-place-requires c =
    let is = c.pass.view_is in
    let shape = c.self.invariant in
    let rest = c.pass.invariant in (
      ap (λ (x : Standing). x.home) is ∙ c.requires.home ∙ sym c.self.view_is,
      omega (arith, shape.0),
      splits _ c.pass.inside.place.me.0 rest.idle rest.still (subst (λ (x : Standing). 2 ≤ length x.numbers) (sym is) c.requires.room),
    )
