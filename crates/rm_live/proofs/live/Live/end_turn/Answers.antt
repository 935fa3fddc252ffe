use Rattle.std.proofs.Common.{◌∙◌, sym, arith}
use Rattle.rm_live.proofs.Steps.{ends_as}
use Rattle.rm_live.proofs.live.Live.end_turn.Goals as goal

pub fetch_add-requires : goal.fetch_add-requires
fetch_add-requires g c =
    let shape = c.self.invariant in
    (c.requires.home ∙ sym c.self.view_is, omega (arith, shape.0), ends_as _ _ c.args.place.now.me c.args.call c.args.answer g.E.Told.event c.requires.event c.requires.turn)
