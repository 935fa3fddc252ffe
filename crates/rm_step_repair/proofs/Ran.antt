-- What mends and writes made of the running database can be put back.
use Rattle.std.proofs.Common.{◌≡◌, ℕ, List, [], ◌∷◌, Ok, refl, arith, map}
use Rattle.rm_channel.specs.declared.jobs.WriteJob.{WriteJob}
use Rattle.rm_live.specs.{Ruled.{total}, Parts.{Parts}}
use Rattle.rm_machine.specs.{Events.{after_events, opening}, Running.{CanFollow, HasRun, IsTakenOut}, Sound.{IsSound}}
use Rattle.rm_machine.{specs.declared.state.State.{State}, proofs.{Ended.{is_once}, Ran.{has-run as ran}}}
use Rattle.rm_repair.specs.{Mended.{mended}, declared.jobs.MendJob.{MendJob}}
use Rattle.rm_step_repair.specs.Gone.{HasGone, HasRepaired}

-- no mend is a write
once-mended : (jobs : List MendJob) → total is_once (mended jobs) ≡ 0
once-mended [] = refl
once-mended (j ∷ jobs) = let more = once-mended jobs in omega (arith, more)

-- the database that they left is one that the state can have back, and then the state is the one that their events leave
module _ (s : State) (jobs : List MendJob) (writers : List (List WriteJob)) (sound : IsSound s) (follow : CanFollow s writers) (q : Parts) (scns : List (List ℕ)) (gone : HasGone (opening s) jobs writers q scns) where
  pub has-run : (t : State) → IsTakenOut s t → HasRun s gone.events t q
  has-run = ran s writers sound follow (mended jobs) (once-mended jobs) (map (map Ok) scns) gone.events gone.these gone.legal q gone.left

  pub has-repaired : (u : State) → u ≡ after_events s gone.events → HasRepaired s jobs writers u scns
  has-repaired u is = record { events = gone.events; legal = gone.legal; these = gone.these; each = gone.each; left = is }
