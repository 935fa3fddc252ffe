-- What BLOCKRECOVER hands out.
use Rattle.std.specs.{Global.{Global}, Prelude.{IfOk, IfSome, Vec}}
use Rattle.std.proofs.Common.{◌≡◌, ◌≤◌, ◌∙◌, ◌++◌, inr, ℕ, List, [], Option, Some, None, Result, Ok, refl, ap, sym, subst, arith, length, map, All}
use Rattle.std.proofs.lemmas.{List.{length-map}, Option.{same_Some}}
use Rattle.rm_base.specs.{Store.{Held}, declared.{block.BlockId.{BlockId}, refusal.Refusal.{Refusal}}}
use Rattle.rm_channel.specs.{Jobs.{Deed, lists, wrote_of}, Made.{AreThese, deed}}
use Rattle.rm_evidence.specs.{Known.{known_of}, declared.evidence.Evidence.{Evidence}}
use Rattle.rm_lang_statement.specs.declared.command.{Command.TheVariants.{BlockRecover}, RepairForm.{RepairForm}}
use Rattle.rm_repair.specs.{Mended.{HasBlock, IsOlder}, declared.jobs.MendJob.{MendJob}}
use Rattle.rm_machine.specs.{Asked.{asked, writers_in}, BackupOutcome.{write_lines}}
use Rattle.rm_machine.specs.BlockRecover.{blocks_mended, mend_lines, mends_of, repair_begun, without_mended}
use Rattle.rm_machine.specs.{BlockRecoverRefusal.{repair_refusal}, Effect.{no_effect}, Events.{after_events, changes_of, opening}}
use Rattle.rm_machine.specs.{Hands.{Hands}, Recovery.{IsAtHand, skipped_lines}, Sound.{IsSound}, Step.{IsStatement}, State.{now_of}}
use Rattle.rm_machine.{specs.declared.{handed.Handed.{Handed}, state.State.{State}}, proofs.Handing.{hands-by}}
use Rattle.rm_machine.proofs.{RepairAccepted.{CanRepair, can-repair}, Repaired.{repaired-sound}, ToldRows.{CanStand}}
use Rattle.rm_machine.proofs.WritersRoom.{four-writers}
use Rattle.rm_step_repair.specs.{Gone.{HasRepaired}, Told.{IsTold, mended_line}, declared.telling.Told.{Told}}
use Rattle.rm_step_repair.proofs.Mends.{jobs-older, jobs-there, lines-are, mended-is, mended-stand, rows-stand, rows_of}

-- what is at hand where the store tells
told-hand : (held : Option Held) (s : State) (e : Evidence) → IfSome held (λ h. IsAtHand s h e) → (objects : Held) → held ≡ Some objects → IsAtHand s objects e
told-hand None s e is objects tells = absurd (cc)
told-hand (Some h) s e is objects tells = subst (λ (k : Held). IsAtHand s k e) (same_Some h objects tells) is

-- what is handed out where all blocks are told
module _ (held : Option Held) (s : State) (form : RepairForm) (sound : IsSound s) (accepted : repair_refusal s form ≡ None) (slice : List BlockId) (same : slice ≡ blocks_mended s form) (x : Result Told Refusal) (t : Told) (is : x ≡ Ok t) (tells : IfOk x (IsTold held s slice)) where
  abbrev xs : List BlockId
  xs = blocks_mended s form

  abbrev jobs : List MendJob
  jobs = t.jobs.items

  can : CanRepair s form
  can = can-repair s form sound accepted

  told : IsTold held s xs t
  told = subst (λ (y : Result Told Refusal). IfOk y (IsTold held s xs)) is (subst (λ ys. IfOk x (IsTold held s ys)) same tells)

  stand : All (CanStand s) (rows_of jobs)
  stand = rows-stand s sound can.opened told.evidence told.fits xs jobs (mended-stand s sound can.opened form) told.are

  pub run-there : All (HasBlock (opening s).files) jobs
  run-there = jobs-there s sound can.opened told.evidence told.fits xs jobs (mended-stand s sound can.opened form) told.are

  pub run-older : All (IsOlder (now_of s)) jobs
  run-older = jobs-older s sound can.opened told.evidence told.fits jobs stand

  module _ (well : IsStatement (BlockRecover form)) (q : State) (scns : List (List ℕ)) (ran : HasRepaired (repair_begun s form) jobs (writers_in s form.during) q scns) where
    these : AreThese (mends_of xs (rows_of jobs) ++ wrote_of 1 (writers_in s form.during) (map (map Ok) scns)) (map deed ran.events)
    these = subst (λ (ds : List Deed). AreThese (ds ++ wrote_of 1 (writers_in s form.during) (map (map Ok) scns)) (map deed ran.events)) (mended-is xs jobs told.are.files) ran.these

    left-is : (u : State) → u ≡ without_mended q form → u ≡ without_mended (after_events (repair_begun s form) ran.events) form
    left-is u left = left ∙ ap (λ p. without_mended p form) ran.left

    pub left-sound : (u : State) → u ≡ without_mended q form → IsSound u
    left-sound u left = subst IsSound (sym (left-is u left)) (repaired-sound s form well.1 sound can (known_of told.evidence) (rows_of jobs) told.are.rows stand scns ran.events ran.legal these)

    -- the SCNs are told of no more than four threads
    pub few-told : (vs : List (Vec ℕ Global)) → lists vs ≡ scns → length vs ≤ 4
    few-told vs alike =
        let each = ap (λ (ns : List ℕ). length ns) ran.each in
        omega (arith, length-map vs (λ v. v.items), ap (λ (ns : List (List ℕ)). length ns) alike, length-map scns length, length-map (writers_in s form.during) length, each, four-writers s (asked form.during) sound)

    pub repair-hands : (y : Handed) (u : State) → u ≡ without_mended q form → y.lines ≡ skipped_lines t.skipped ++ map mended_line jobs ++ write_lines 1 scns → y.objects ≡ [] → y.removes ≡ [] → Hands held s (BlockRecover form) y u
    repair-hands y u left said puts removes =
        hands-by held s (BlockRecover form) y u (skipped_lines told.evidence.skipped ++ mend_lines xs (rows_of jobs) ++ write_lines 1 scns) (record no_effect { changes = changes_of (repair_begun s form) ran.events })
        (without_mended (after_events (repair_begun s form) ran.events) form)
        (λ objects here. record {
          evidence = told.evidence;
          at_hand = told-hand held s told.evidence told.at_hand objects here;
          comes = inr (record {
            rows = rows_of jobs;
            told = told.are.rows;
            scns = scns;
            each = ran.each;
            events = ran.events;
            legal = ran.legal;
            these = these;
            is = refl;
          });
        })
        (said ∙ (λ i. skipped_lines (told.misses i) ++ lines-are xs jobs told.are.files i ++ write_lines 1 scns)) puts removes (left-is u left)
