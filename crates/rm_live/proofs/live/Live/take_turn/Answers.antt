use Rattle.std.proofs.Common.{ap, ◌∙◌, arith, sym}
use mathlib.Core.Option.{none}
use Rattle.atomic_table.specs.Table.{step}
use Rattle.rm_live.{specs.Ruled.{Sat}, proofs.Steps.{draws, looks, turned}}
use Rattle.rm_live.proofs.live.Live.take_turn.Goals as goal

pub fetch_add-ticket-requires : goal.fetch_add-ticket-requires
fetch_add-ticket-requires g c =
    let rest = c.requires.rest in
    let shape = c.self.invariant in
    (c.requires.home ∙ sym c.self.view_is, omega (arith, shape.0), draws _ _ c.args.place.now.me.0 c.args.place.now.me.1 rest.idle rest.still rest.some)

pub load-requires : goal.load-requires
load-requires g c =
    let i = c.loop.invariant in
    let shape = c.self.invariant in
    (i.0 ∙ c.requires.home ∙ sym c.self.view_is, omega (arith, shape.0), looks _ _ c.loop.place.me.0 c.loop.place.me.1 (ap (λ (m : Sat). m.0.waits) i.2.2) (ap (λ (m : Sat). m.0.turn) i.2.2 ∙ c.requires.rest.still))

pub returns-then-load-ticket-clause-turn : goal.returns-then-load-ticket-clause-turn
returns-then-load-ticket-clause-turn g c =
    let i = c.loop.invariant in
    turned (step c.self.inside.table.shared.table_id.slots 1 0 0 none) c.args.place.now.me c.loop.place.me c.load.new.seat.me i.2.0 c.load.result c.requires.rest.carries i.2.2 (c.if-load-ticket.true ∙ i.2.1) c.load.ensures.2
