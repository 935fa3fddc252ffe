use Rattle.std.proofs.Common.{◌≡◌, ℕ, ◌%◌, []}
use Rattle.rm_live.specs.Ruled.{big, drew}
use Rattle.rm_live.proofs.live.Live.take_turn.Given as goal

abbrev pub invariant-loop : goal.invariant-loop
invariant-loop g l =
    (l.place.table_id ≡ l.fn.place.table_id) × (l.place.id ≡ l.fn.place.id)
    × ((t : ℕ) × (l.ticket ≡ t % big) × (l.place.me ≡ (drew l.fn.place.me.0 t, [])))
