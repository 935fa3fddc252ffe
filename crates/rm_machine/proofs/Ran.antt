-- What events of the running database left can be put back: writes that were asked for, beside calls that write nothing.
use Rattle.std.proofs.Common.{◌≡◌, ◌≤◌, ◌++◌, ℕ, List, Result, arith, length, map}
use Rattle.rm_channel.{specs.{Jobs.{Deed, wrote_of}, Made.{AreThese, deed}, declared.jobs.WriteJob.{WriteJob}}, proofs.Mine.{total-append}}
use Rattle.rm_live.specs.{History.{IsLegal, fold_of}, Ruled.{total}, Parts.{Parts}, declared.history.{Event.{Event}, LiveFault.{LiveFault}}}
use Rattle.rm_machine.specs.{Events.{opening}, Running.{CanFollow, HasRun, IsTakenOut, count_writes}, Sound.{IsSound}}
use Rattle.rm_machine.{specs.declared.state.State.{State}, proofs.Ended.{is_once, once-events, once-wrote_of}}

module _ (s : State) (writers : List (List WriteJob)) (sound : IsSound s) (follow : CanFollow s writers) (others : List Deed) (quiet : total is_once others ≡ 0) (answers : List (List (Result ℕ LiveFault)))
    (events : List Event) (these : AreThese (others ++ wrote_of 1 writers answers) (map deed events)) where
  -- no more writes were made than were asked for
  few-writes : count_writes events ≤ total length writers
  few-writes =
      let both = total-append is_once others (wrote_of 1 writers answers) in
      omega (arith, these.each_once is_once, once-events events, both, quiet, once-wrote_of 1 writers answers)

  pub has-run : IsLegal (opening s) events → (q : Parts) → q ≡ fold_of (opening s) events → (t : State) → IsTakenOut s t → HasRun s events t q
  has-run legal q left t out = record {
    sound = sound;
    opened = follow.opened;
    marked = λ some. follow.marked (omega (arith, some, few-writes));
    legal = legal;
    left = left;
    out = out;
  }
