use Rattle.std.proofs.Common.{◌<◌, ℕ, List, length, ap, sym, ◌∙◌, arith, subst}
use Rattle.rm_live.{specs.{Passes.{Standing}, Ruled.{Sat}}, proofs.Seats.{joins, meets, more}}
use Rattle.rm_live.proofs.live.Live.join.Goals as goal

pub join_seat-requires : goal.join_seat-requires
join_seat-requires c =
    let shape = c.self.invariant in
    let mine = c.pass.invariant in
    let theirs = c.other.invariant in (
      ap (λ (x : Standing). x.home) c.pass.view_is ∙ c.requires.home ∙ sym c.self.view_is,
      ap (λ (x : Standing). x.home) c.other.view_is ∙ c.requires.other ∙ sym c.self.view_is,
      theirs.carries,
      omega (arith, shape.0),
      joins _ c.pass.inside.place.me.0 _ c.other.inside.place.me.0 mine.idle mine.still mine.some theirs.idle theirs.still,
    )

pub load-requires : goal.load-requires
load-requires c =
    let shape = c.self.invariant in
    let mine = c.pass.invariant in
    let now = c.join_seat.ensures in (
      now.0 ∙ ap (λ (x : Standing). x.home) c.pass.view_is ∙ c.requires.home ∙ sym c.self.view_is,
      omega (arith, shape.0),
      meets _ _ c.join_seat.new.seat.me.0 c.join_seat.new.seat.me.1 (ap (λ (m : Sat). m.0.waits) now.2 ∙ mine.idle) (ap (λ (m : Sat). m.0.turn) now.2 ∙ mine.still)
          (subst (λ (ns : List ℕ). 0 < length ns) (sym (ap (λ (m : Sat). m.0.numbers) now.2)) (more _ _ mine.some)),
    )
