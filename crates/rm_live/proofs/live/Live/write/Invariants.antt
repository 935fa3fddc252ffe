use Rattle.rm_live.specs.Passes.{event_of}
use Rattle.rm_live.proofs.live.Live.write.Given as goal

abbrev pub ghosts-end_turn : goal.ghosts-end_turn
ghosts-end_turn g a = record { event = event_of a.place.now.me a.call a.answer }
