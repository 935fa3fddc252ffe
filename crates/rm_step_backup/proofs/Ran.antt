-- What a BACKUP's channels and writers made of the running database can be put back.
use Rattle.std.proofs.Common.{◌≡◌, ℕ, List, [], ◌∷◌, Ok, refl, arith, map}
use Rattle.rm_base.specs.declared.block.Row.{Row}
use Rattle.rm_channel.specs.{Jobs.{Span, found, found_of, lists, whole}, declared.jobs.{CopyJob.{CopyJob}, Work.{Work}}}
use Rattle.rm_channel.{specs.declared.jobs.WriteJob.{WriteJob}, proofs.Mine.{total-append}}
use Rattle.rm_live.specs.{Ruled.{total}, Parts.{Parts}}
use Rattle.rm_machine.specs.{Events.{after_events, opening}, Running.{CanFollow, HasRun, IsTakenOut}, Sound.{IsSound}}
use Rattle.rm_machine.{specs.declared.state.State.{State}, proofs.{Ended.{is_once}, Ran.{has-run as ran}}}
use Rattle.rm_step_backup.specs.Running.{HasGone, HasRunLive}

once-found : (f : ℕ) (bs : List ℕ) (rows : List Row) → total is_once (found f bs rows) ≡ 0
once-found f [] rows = refl
once-found f (b ∷ bs) [] = refl
once-found f (b ∷ bs) (r ∷ rows) = let more = once-found f bs rows in omega (arith, more)

once-found_of : (spans : List Span) (rows : List (List Row)) → total is_once (found_of spans rows) ≡ 0
once-found_of [] rows = refl
once-found_of (s ∷ ss) [] = refl
once-found_of (s ∷ ss) (rs ∷ rows) =
    omega (arith, total-append is_once (found s.file s.blocks rs) (found_of ss rows), once-found s.file s.blocks rs, once-found_of ss rows)

-- the database that they left is one that the state can have back, and then the state is the one that their events leave
module _ (s : State) (jobs : List CopyJob) (writers : List (List WriteJob)) (sound : IsSound s) (follow : CanFollow s writers) (q : Parts) (w : Work) (gone : HasGone (opening s) jobs writers q w) where
  pub has-run : (t : State) → IsTakenOut s t → HasRun s gone.events t q
  has-run =
      ran s writers sound follow (found_of (map whole jobs) (lists w.rows.items)) (once-found_of (map whole jobs) (lists w.rows.items)) (map (map Ok) (lists w.scns.items)) gone.events gone.these
      gone.legal q gone.left

  pub has-run-live : (u : State) → u ≡ after_events s gone.events → HasRunLive s jobs writers u w
  has-run-live u is = record { events = gone.events; legal = gone.legal; these = gone.these; rows = gone.rows; scns = gone.scns; state = is }
