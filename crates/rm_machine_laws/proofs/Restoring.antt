-- RESTORE leads on: each datafile comes to stand in place as a backup has it, or as it was created.
use Rattle.std.proofs.Common.{◌≡◌, ◌++◌, inl, inr, ℕ, List, Option, Some, None, false}
use Rattle.rm_base.{specs.{Store.{Held}, declared.block.Change.{Change}}, proofs.Conditions.{unless}}
use Rattle.rm_apply.proofs.Agreeing.{restored-agrees}
use Rattle.rm_report.specs.declared.line.Line.{Line}
use Rattle.rm_lang_statement.specs.declared.command.{Command.TheVariants.{Restore}, Until.{Until}}
use Rattle.rm_machine.specs.{Effect.{Effect, LeavesObjects, Made, done}, Machine.{DigestsTellFor, IsBorneOut}, Recover.{recover_target}}
use Rattle.rm_machine.specs.{Recovery.{put_over}, Restore.{RestoresTo, restore_refusal, restored}, Sound.{IsSound}}
use Rattle.rm_machine.{specs.{State.{current_of, ledger, world}, declared.state.State.{State}}, proofs.Placing.{over-cases, over-length}}
use Rattle.rm_machine.proofs.Restoring.{are-restored, sound-restored}
use Rattle.rm_machine_laws.proofs.{Agreeing.{evidence-agrees}, Exchanging.{fits-exchanged}, Leading.{LeadsOnBy, StaysBy}}
use Rattle.rm_machine_laws.proofs.Quiet.{quiet-on, quiet-stays}

-- where it was not refused the database is mounted
can-restore : (s : State) (file : Option ℕ) (until : Option Until) → restore_refusal s file until ≡ None → s.instance.is_open ≡ false
can-restore s file until none = (unless s.instance.is_open _ _ none).0

restore-by : (o file : Option ℕ) (s : State) (h : List Change) (objects : Held) (made : List Made) (touched : List (List ℕ)) (said : List Line) (e : Effect) (t : State) (after : Held)
    → IsBorneOut s h objects made touched → DigestsTellFor objects made touched (ledger s) → s.instance.is_open ≡ false
    → RestoresTo s objects file o (done said e t) → LeavesObjects e objects after → IsBorneOut t (h ++ e.changes) after (made ++ e.made) touched
restore-by None file s h objects made touched said e t after borne tell closed does effect = absurd does
restore-by (Some at) file s h objects made touched said e t after borne tell closed does effect =
    let w = world s in
    let files = does.back.files in
    let agrees = evidence-agrees s h objects made touched borne tell does.restores.evidence does.restores.is.at_hand in
    let are = are-restored s (Some objects) (current_of s) at file does.back does.origins borne.state does.restores in
    quiet-on (restored s files) h objects made touched _ said e t after does.is effect (record {
      state = sound-restored s (Some objects) (current_of s) at file does.back does.origins borne.state does.restores closed;
      keeps = fits-exchanged s None (put_over files s.instance.place) borne.state closed (over-length files s.instance.place) h borne.keeps
          (λ k d x datafile is. elim (over-cases files s.instance.place k x is) [
            | inr old ↦ inl old
            | inl new ↦ inr (restored-agrees w does.restores.evidence (current_of s) at h borne.keeps.history agrees does.restores.numbers files does.origins x are new.0)
          ])
          (λ n point. absurd (let clash : None ≡ Some n = point in cc));
      artefacts = borne.artefacts;
      records = record { logs = borne.records.logs; pieces = borne.records.pieces; sets = borne.records.sets };
    })

pub restore-on : (file : Option ℕ) (until : Option Until) → LeadsOnBy (Restore file until)
restore-on file until s h objects made touched said e t after well borne tell none does effect =
    restore-by (recover_target s until) file s h objects made touched said e t after borne tell (can-restore s file until none) does effect

restore-stays-by : (o file : Option ℕ) (s : State) (objects : Held) (said : List Line) (e : Effect) (t : State) → IsSound s → s.catalog.saved ≡ None → s.instance.is_open ≡ false
    → RestoresTo s objects file o (done said e t) → IsSound t × (t.catalog.saved ≡ None)
restore-stays-by None file s objects said e t sound unsaved closed does = absurd does
restore-stays-by (Some at) file s objects said e t sound unsaved closed does =
    quiet-stays (restored s does.back.files) _ said e t does.is (sound-restored s (Some objects) (current_of s) at file does.back does.origins sound does.restores closed) unsaved

pub restore-stays : (file : Option ℕ) (until : Option Until) → StaysBy (Restore file until)
restore-stays file until s objects said e t well sound unsaved none does = restore-stays-by (recover_target s until) file s objects said e t sound unsaved (can-restore s file until none) does
