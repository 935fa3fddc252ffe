-- BLOCKRECOVER: what stands at the end of its events is sound.
use Rattle.std.proofs.Common.{◌≡◌, ◌∙◌, ◌==◌, ◌&&◌, not, inl, inr, ℕ, List, [], ◌∷◌, None, true, false, refl, ap, sym, subst, arith, length, map, All, Contains}
use Rattle.std.proofs.lemmas.{Bool.{and_from, eq-eqb}, List.Elements.{All-contains, All-weaker}}
use Rattle.rm_base.{specs.declared.block.{BlockId.{BlockId}, Row.{Row}}, proofs.Lists.{any_to, filter_from, find_none}}
use Rattle.rm_base.proofs.Members.{behind, first-or-rest, in-front, none-in}
use Rattle.rm_channel.specs.Made.{AreThese, deed}
use Rattle.rm_history.specs.{Evidence.{Evidence}, World.{exists, file_of}}
use Rattle.rm_lang_statement.specs.declared.command.{BackupForm.{BackupForm}, RepairForm.{RepairForm}, WriteForm.{WriteForm}}
use Rattle.rm_live.specs.{History.{IsLegal}, declared.history.Event.{Event}}
use Rattle.rm_plan.specs.Blocks.{AreToldRows}
use Rattle.rm_redo.specs.{Logs.{Logs}, Online.{IsThread}}
use Rattle.rm_machine.specs.{Asked.{asked}, BlockRecover.{asks_for, blocks_mended, repair_begun, without_mended}}
use Rattle.rm_machine.specs.{Damage.{IsInPlace, has_block}, Events.{after_events, opening}, Sound.{IsSound}}
use Rattle.rm_machine.{specs.{State.{current_of, now_of, placed, world}, declared.state.State.{State}}, proofs.BackingUp.{during-marks}}
use Rattle.rm_machine.proofs.{BackupAccepted.{CanBeWritten}, BackupMarks.{marked-same, sound-marked}}
use Rattle.rm_machine.proofs.{Mending.{AreDue, CanMend, IsPatch, Patch, can-events}, Putting.{sound-fewer}, RepairAccepted.{CanRepair}}
use Rattle.rm_machine.proofs.{Repairs.{IsOfBlock, are-due, patch-told, patches, wanted}, ToldRows.{CanStand}, Walk.{CanGoOn, events-same}}

-- a BACKUP of the same writes: the mark before them is the same
abbrev pub marking : RepairForm → BackupForm
marking form = record { copy = false; level = None; cumulative = false; merge_tag = None; files = None; files_per_set = None; tag = None; keep = false; during = form.during }

-- each of the rows is one of these
patch-row : (xs : List BlockId) (rows : List Row) (m : Patch) → Contains (patches xs rows) m → Contains rows m.1
patch-row [] rows m has = absurd (none-in m has)
patch-row (x ∷ xs) [] m has = absurd (none-in m has)
patch-row (x ∷ xs) (r ∷ rows) m has = elim (first-or-rest (x.file, r) (patches xs rows) m has) [
  | inl same ↦ subst (λ (n : Patch). Contains (r ∷ rows) n.1) same (in-front r rows)
  | inr rest ↦ behind r rows m.1 (patch-row xs rows m rest)
]

module _ (s : State) (form : RepairForm) (contents : All (λ (w : WriteForm). length w.content.0 ≡ 64) (asked form.during)) (sound : IsSound s) (can : CanRepair s form) (e : Evidence) (rows : List Row)
    (told : AreToldRows (world s) e (current_of s) (now_of s) (blocks_mended s form) rows) (stand : All (CanStand s) rows) (scns : List (List ℕ)) (events : List Event) (legal : IsLegal (opening (repair_begun s form)) events)
    (these : AreThese (wanted (blocks_mended s form) rows 4 (asked form.during) scns) (map deed events)) where
  abbrev pub ws : List WriteForm
  ws = asked form.during

  abbrev pub xs : List BlockId
  xs = blocks_mended s form

  abbrev pub ms : List Patch
  ms = patches xs rows

  abbrev pub b : BackupForm
  b = marking form

  abbrev pub u : State
  u = repair_begun s form

  abbrev pub t : State
  t = after_events u events

  pub goes-on : CanGoOn u ws
  goes-on = record {
    sound = sound-marked s b can.records sound;
    opened = marked-same (λ (q : State). q.instance.is_open) s b refl ∙ can.opened;
    unmarked = λ w has. during-marks s form.during w has;
    writes = All-weaker (CanBeWritten s) (CanBeWritten u) (λ w it. record {
      thread = subst (λ (logs : Logs). IsThread logs w.thread) (sym (marked-same (λ (q : State). q.instance.logs) s b refl)) it.thread;
      datafile = it.datafile;
      is = marked-same (λ (q : State). file_of (world q) w.file) s b refl ∙ it.is;
      here = marked-same (λ (q : State). exists (world q) (current_of q) (now_of q) it.datafile) s b refl ∙ it.here;
      block = it.block;
      file = it.file;
      stands = marked-same (λ (q : State). placed q w.file) s b refl ∙ it.stands;
    }) ws can.writes;
    contents = contents;
  }

  pub of-block : (m : Patch) → Contains ms m → IsOfBlock (world s) e (current_of s) (now_of s) xs m
  of-block m has = patch-told (world s) e (current_of s) (now_of s) xs rows told m has

  pub listed : (x : BlockId) → Contains xs x → Contains s.instance.damaged x × (asks_for form x ≡ true)
  listed x has = filter_from (asks_for form) s.instance.damaged x has

  patch-is : (m : Patch) → Contains ms m → IsPatch u m
  patch-is m has =
      let it = of-block m has in
      let place = All-contains (IsInPlace s) s.instance.damaged it.block sound.damaged.each (listed it.block it.has).0 in
      let some = place.some in
      let inside = place.block in
      record {
        some = omega (arith, some, it.file);
        file = place.file;
        is = marked-same (λ (q : State). placed q m.0) s b refl ∙ ap (placed s) it.file ∙ place.is;
        block = omega (arith, inside, it.told.block);
        row = (All-contains (CanStand s) rows m.1 stand (patch-row xs rows m has)).placed;
      }

  -- no write names a block that is mended
  pub can-mend : CanMend u ws ms
  can-mend = record {
    on = goes-on;
    apart = λ w m has is file block.
        let it = of-block m is in
        let x : BlockId = it.block in
        let same : ((x.file == w.file) && (x.block == w.block)) ≡ true = and_from (x.file == w.file) (x.block == w.block) (eq-eqb x.file w.file (sym it.file ∙ file)) (eq-eqb x.block w.block (sym it.told.block ∙ block)) in
        absurd (find_none (λ (v : WriteForm). has_block s.instance.damaged v.file v.block) ws w can.clean has
        (any_to (λ (y : BlockId). (y.file == w.file) && (y.block == w.block)) s.instance.damaged x (listed x it.has).0 same));
    patches = patch-is;
  }

  pub due : AreDue ws ms events
  due = are-due xs rows 4 ws scns events these

  pub can-end : CanMend t ws ms
  can-end = can-events ws ms events u can-mend legal due

  pub repaired-sound : IsSound (without_mended t form)
  repaired-sound = sound-fewer t (λ x. not (asks_for form x)) can-end.on.sound

  pub repaired-unsaved : (without_mended t form).catalog.saved ≡ s.catalog.saved
  repaired-unsaved = events-same (λ (q : State). q.catalog.saved) (λ q w. refl) (λ q f row. refl) events u ∙ marked-same (λ (q : State). q.catalog.saved) s b refl

  pub damaged-end : t.instance.damaged ≡ s.instance.damaged
  damaged-end = events-same (λ (q : State). q.instance.damaged) (λ q w. refl) (λ q f row. refl) events u ∙ marked-same (λ (q : State). q.instance.damaged) s b refl
