-- Mends and writes of a running database.
use Rattle.std.specs.Prelude.{ℕ, ◌≡◌, ◌++◌, Ok, List, map}
use Rattle.rm_channel.specs.{Jobs.{AreAsLong, wrote_of}, Made.{AreThese, deed}, declared.jobs.WriteJob.{WriteJob}}
use Rattle.rm_live.specs.{History.{IsLegal, fold_of}, Parts.{Parts}, declared.history.Event.{Event}}
use Rattle.rm_machine.specs.{Events.{after_events, opening}, declared.state.State.{State}}
use Rattle.rm_repair.specs.{Mended.{mended}, declared.jobs.MendJob.{MendJob}}

-- There is a legal list of events over a live database: one mend by each job, and one write of each that was asked for, which took the SCN
-- that is told. The other database is the one that they leave.
pub record HasGone (p : Parts) (jobs : List MendJob) (writers : List (List WriteJob)) (q : Parts) (scns : List (List ℕ)) : Type 0 where
  pub events : List Event
  pub legal : IsLegal p events
  pub these : AreThese (mended jobs ++ wrote_of 1 writers (map (map Ok) scns)) (map deed events)
  pub each : AreAsLong scns writers
  pub left : q ≡ fold_of p events

-- There is such a list over the database of a state, which had these writers. The other state is the one that it leaves.
pub record HasRepaired (s : State) (jobs : List MendJob) (writers : List (List WriteJob)) (t : State) (scns : List (List ℕ)) : Type 0 where
  pub events : List Event
  pub legal : IsLegal (opening s) events
  pub these : AreThese (mended jobs ++ wrote_of 1 writers (map (map Ok) scns)) (map deed events)
  pub each : AreAsLong scns writers
  pub left : t ≡ after_events s events
