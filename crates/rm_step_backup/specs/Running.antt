-- What a BACKUP's channels and writers made of the running database.
use Rattle.std.specs.Prelude.{◌≡◌, List, map}
use Rattle.rm_channel.specs.{Jobs.{AreAsLong, AreRows, lists, whole}, Made.{AreThese, deed}, Runs.{work_told}}
use Rattle.rm_channel.specs.declared.jobs.{CopyJob.{CopyJob}, Work.{Work}, WriteJob.{WriteJob}}
use Rattle.rm_live.specs.{History.{IsLegal, fold_of}, Parts.{Parts}, declared.history.Event.{Event}}
use Rattle.rm_machine.specs.{Events.{after_events, opening}, declared.state.State.{State}}

-- There is a legal list of events over the database at its start, which are the reads and writes that were asked for, with the answers that
-- the work has. The state is the one that they leave.
pub record HasRunLive (s : State) (jobs : List CopyJob) (writers : List (List WriteJob)) (t : State) (w : Work) : Type 0 where
  pub events : List Event
  pub legal : IsLegal (opening s) events
  pub these : AreThese (work_told jobs writers w) (map deed events)
  pub rows : AreRows (lists w.rows.items) (map whole jobs)
  pub scns : AreAsLong (lists w.scns.items) writers
  pub state : t ≡ after_events s events

-- There is a legal list of events over a live database, which are the reads and writes that were asked for, with the answers that the
-- work has. The other database is the one that they leave.
pub record HasGone (p : Parts) (jobs : List CopyJob) (writers : List (List WriteJob)) (q : Parts) (w : Work) : Type 0 where
  pub events : List Event
  pub legal : IsLegal p events
  pub these : AreThese (work_told jobs writers w) (map deed events)
  pub rows : AreRows (lists w.rows.items) (map whole jobs)
  pub scns : AreAsLong (lists w.scns.items) writers
  pub left : q ≡ fold_of p events
