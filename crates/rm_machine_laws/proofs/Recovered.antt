-- RECOVER DATABASE leads on, and its test tells: what is determined is what the history made.
use Rattle.std.proofs.Common.{◌≡◌, ◌≤◌, ◌+◌, ◌∙◌, ◌++◌, inl, inr, ℕ, List, Option, Some, None, true, refl, ap, sym, subst, arith, slice_get}
use Rattle.std.proofs.lemmas.List.Elements.{All-contains}
use Rattle.rm_base.specs.{Store.{Held}, declared.block.{Change.{Change}, Row.{Row}}}
use Rattle.rm_blocks.specs.File.{File, base_of}
use Rattle.rm_lang_statement.specs.declared.command.{Command.TheVariants.{Recover, RecoverTest}, Until.{Until}}
use Rattle.rm_evidence.specs.{Known.{FitsTree, known_of}, declared.evidence.Evidence.{Evidence}}
use Rattle.rm_apply.specs.Told.{AreFilesAt}
use Rattle.rm_history.specs.{Agrees.{BaseAgrees}, State.{state}, World.{exists}, declared.world.Datafile.{Datafile}}
use Rattle.rm_history.specs.Evidence as known
use Rattle.rm_report.specs.declared.line.Line.{Line}
use Rattle.rm_machine.specs.{Effect.{Effect, LeavesObjects, Made, done, told}, Machine.{DigestsTellFor, HistoryFits, IsBorneOut, RowsAre}}
use Rattle.rm_machine.specs.Recover.{BringsTo, RecoversTo, recovered, recover_refusal, recover_target}
use Rattle.rm_machine.specs.{RecoverTest.{TellsTo, TestsTo, test_target, tested}, Recovery.{put_over}, Sound.{IsSound}}
use Rattle.rm_machine.{specs.{State.{ledger, tree, world, current_of}, declared.state.State.{State}}, proofs.Placing.{over-length}}
use Rattle.rm_machine.proofs.Recovering.{CameBack, CanRecover, can-recover, comes, sound-recovered, stands}
use Rattle.rm_machine.proofs.Told.{tells-files, tells-fits}
use Rattle.rm_machine_laws.proofs.{Agreeing.{evidence-agrees}, Exchanging.{fits-exchanged}, Leading.{LeadsOnBy, StaysBy, TellsOnBy}}
use Rattle.rm_machine_laws.proofs.{Quiet.{quiet-on, quiet-stays}, Told.{files-made, told-states}}

module _ (s : State) (h : List Change) (e : Evidence) (at : ℕ) (files : List File) (sound : IsSound s) (keeps : HistoryFits s h) (fits : FitsTree (tree s) e) (can : CanRecover s at)
    (agrees : known.Agrees (world s) h (known_of e)) (told : AreFilesAt (world s) (known_of e) (current_of s) at files) where
  -- what came back has the states at the target
  states-back : (k : ℕ) (d : Datafile) (x : File) → CameBack s (known_of e) at k d x → RowsAre (world s) h (current_of s) at x
  states-back k d x back = told-states (world s) (known_of e) (current_of s) at h keeps.history agrees (1 + k) x back.target back.told

  -- so it agrees
  agrees-back : (k : ℕ) (d : Datafile) (x : File) → CameBack s (known_of e) at k d x → BaseAgrees (world s) h (base_of x)
  agrees-back k d x back r row = record {
    position = at;
    after = subst (λ n. n ≤ at) (sym back.told.checkpoint) (omega arith);
    is = subst (λ i. state (world s) h i at x.file r.block ≡ r) (sym back.told.inc)
        (sym (All-contains (λ (y : Row). y ≡ state (world s) h (current_of s) at x.file y.block) x.rows r (states-back k d x back) row));
  }

  -- a datafile that exists at the target has the states there
  states-after : (k : ℕ) (d : Datafile) (x : File) → slice_get (ledger s).files k ≡ Some d → exists (world s) (current_of s) at d ≡ true → slice_get (put_over files s.instance.place) k ≡ Some (Some x) → RowsAre (world s) h (current_of s) at x
  states-after k d x file here is =
      let new = comes s e at files sound fits can told k d file here in
      let same : new.0 ≡ x = (let one : Some (Some new.0) ≡ Some (Some x) = sym new.2 ∙ is in cc) in
      subst (RowsAre (world s) h (current_of s) at) same (states-back k d new.0 new.1)

  pub fits-recovered : HistoryFits (recovered s at files) h
  fits-recovered = fits-exchanged s (Some at) (put_over files s.instance.place) sound can.closed (over-length files s.instance.place) h keeps
      (λ k d x file is. elim (stands s e at files sound fits can told k d x file is) [
        | inl old ↦ inl old
        | inr back ↦ inr (agrees-back k d x back)
      ])
      (λ n point k d x file here is.
      let same : at ≡ n = (let one : Some at ≡ Some n = point in cc) in
      subst (λ m. RowsAre (world s) h (current_of s) m x) same (states-after k d x file (subst (λ m. exists (world s) (current_of s) m d ≡ true) (sym same) here) is))

-- RECOVER DATABASE: what comes to stand in place is what the history made, and what stands after it is borne out
recover-by : (o : Option ℕ) (until : Option Until) (s : State) (h : List Change) (objects : Held) (made : List Made) (touched : List (List ℕ)) (said : List Line) (e : Effect) (t : State) (after : Held)
    → recover_target s until ≡ o → IsBorneOut s h objects made touched → DigestsTellFor objects made touched (ledger s) → recover_refusal s until ≡ None
    → RecoversTo s objects o (done said e t) → LeavesObjects e objects after
    → IsBorneOut t (h ++ e.changes) after (made ++ e.made) touched × BringsTo h s o t
recover-by None until s h objects made touched said e t after is borne tell none does effect = absurd does
recover-by (Some at) until s h objects made touched said e t after is borne tell none (inl found) effect = absurd (let clash = found.is in cc)
recover-by (Some at) until s h objects made touched said e t after is borne tell none (inr all) effect =
    let can = can-recover s until at is none in
    let evidence = all.tells.evidence in
    let agrees = evidence-agrees s h objects made touched borne tell evidence all.tells.is.at_hand in
    let fits = tells-fits s (Some objects) (current_of s) at all.back all.tells in
    let told = tells-files s (Some objects) (current_of s) at all.back all.tells in
    let new : State = recovered s at all.back.files in
    let stands_new : IsBorneOut new h objects made touched = record {
      state = sound-recovered s evidence at all.back.files borne.state fits can told;
      keeps = fits-recovered s h evidence at all.back.files borne.state borne.keeps fits can agrees told;
      artefacts = borne.artefacts;
      records = record { logs = borne.records.logs; pieces = borne.records.pieces; sets = borne.records.sets };
    } in
    let is_state : new ≡ t = (let one = all.is in cc) in (
      quiet-on new h objects made touched _ said e t after all.is effect stands_new,
      (all.back.files, files-made (world s) (known_of evidence) (current_of s) at h borne.keeps.history agrees all.back.files told, ap (λ (x : State). x.instance.place) (sym is_state)),
    )

pub recover-on : (until : Option Until) → LeadsOnBy (Recover until)
recover-on until s h objects made touched said e t after well borne tell none does effect =
    recover-by (recover_target s until) until s h objects made touched said e t after refl borne tell none does effect

stays-by : (o : Option ℕ) (until : Option Until) (s : State) (objects : Held) (said : List Line) (e : Effect) (t : State)
    → recover_target s until ≡ o → IsSound s → s.catalog.saved ≡ None → recover_refusal s until ≡ None → RecoversTo s objects o (done said e t) → IsSound t × (t.catalog.saved ≡ None)
stays-by None until s objects said e t is sound unsaved none does = absurd does
stays-by (Some at) until s objects said e t is sound unsaved none (inl found) = absurd (let clash = found.is in cc)
stays-by (Some at) until s objects said e t is sound unsaved none (inr all) =
    quiet-stays (recovered s at all.back.files) _ said e t all.is
    (sound-recovered s all.tells.evidence at all.back.files sound (tells-fits s (Some objects) (current_of s) at all.back all.tells) (can-recover s until at is none) (tells-files s (Some objects) (current_of s) at all.back all.tells)) unsaved

pub recover-stays : (until : Option Until) → StaysBy (Recover until)
recover-stays until s objects said e t well sound unsaved none does = stays-by (recover_target s until) until s objects said e t refl sound unsaved none does

-- RECOVER DATABASE TEST

-- the lines are those of what the history made
test-by : (o : Option ℕ) (i : ℕ) (s : State) (h : List Change) (objects : Held) (made : List Made) (touched : List (List ℕ)) (lines : List Line)
    → IsBorneOut s h objects made touched → DigestsTellFor objects made touched (ledger s) → TestsTo s objects i o (told lines) → TellsTo h s i o lines
test-by None i s h objects made touched lines borne tell does = does
test-by (Some at) i s h objects made touched lines borne tell (inl found) = absurd (let clash = found.is in cc)
test-by (Some at) i s h objects made touched lines borne tell (inr all) =
    let agrees = evidence-agrees s h objects made touched borne tell all.tells.evidence all.tells.is.at_hand in
    record {
      skipped = all.back.skipped;
      files = all.back.files;
      made = files-made (world s) (known_of all.tells.evidence) i at h borne.keeps.history agrees all.back.files (tells-files s (Some objects) i at all.back all.tells);
      are = (let one = all.is in cc);
    }

pub test-tells : (until : Option Until) (inc : Option ℕ) → TellsOnBy (RecoverTest until inc)
test-tells until inc s h objects made touched lines well borne tell none does = test-by (test_target s until inc) (tested s inc) s h objects made touched lines borne tell does
