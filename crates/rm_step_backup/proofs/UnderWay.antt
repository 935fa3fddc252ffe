-- A BACKUP under way: some objects are recorded, and the rest lead on from there.
use Rattle.std.proofs.{Common.{◌≡◌, ◌∙◌, ◌++◌, ℕ, List, [], ◌∷◌, refl, ap, sym, subst, append_assoc}, lemmas.List.{append-nil}}
use Rattle.rm_catalog.specs.declared.record.Edit.{Edit}
use Rattle.rm_commit.specs.declared.commit.Object.{Object}
use Rattle.rm_report.specs.declared.line.Line.{Line}
use Rattle.rm_catalog_typed.{specs.Changes.{EditsFollow}, proofs.Changed.{follows-then}}
use Rattle.rm_lang_statement.specs.declared.command.BackupForm.{BackupForm}
use Rattle.rm_machine.specs.MadeObjects.{CanRecord, Packed, after_object, after_objects, lines_of, object_lines, object_put, objects_put}
use Rattle.rm_machine.specs.{Sound.{IsSound}, declared.{handed.Handed.{Handed}, state.State.{State}}}
use Rattle.rm_machine.proofs.Recording.{Stays, can-next, next-sound, next-stays}
use Rattle.rm_step_backup.specs.Recorded.{HasRecorded}

-- from the state s on all of these objects but the rest are recorded: the state is t
pub record IsUnderWay (s : State) (b : BackupForm) (tag : List ℕ) (xs rest : List Packed) (before after : List Edit) (first now : Handed) (t : State) : Type 0 where
  pub sound : IsSound t
  pub can : CanRecord t b tag rest
  pub stays : Stays s t
  pub state : after_objects t b tag rest ≡ after_objects s b tag xs
  pub edits : EditsFollow before after s.catalog t.catalog
  pub lines : now.lines ++ object_lines t b tag rest ≡ first.lines ++ object_lines s b tag xs
  pub objects : now.objects ++ objects_put t b tag rest ≡ first.objects ++ objects_put s b tag xs
  pub removes : now.removes ≡ first.removes

module _ (s : State) (b : BackupForm) (tag : List ℕ) (xs : List Packed) (before : List Edit) (first : Handed) where
  -- none is recorded at first
  pub way-start : IsSound s → CanRecord s b tag xs → IsUnderWay s b tag xs xs before before first first s
  way-start sound can = record {
    sound = sound;
    can = can;
    stays = record { dbid = refl; current = refl; files = refl; saved = refl };
    state = refl;
    edits = record { lead = λ rs from. from };
    lines = refl;
    objects = refl;
    removes = refl;
  }

  -- the next one
  pub way-on : (t : State) (x : Packed) (rest : List Packed) (mid : List Edit) (y : Handed) → IsUnderWay s b tag xs (x ∷ rest) before mid first y t → (q : State) (after : List Edit) (z : Handed) → q ≡ after_object t b tag x
      → EditsFollow mid after t.catalog q.catalog → z.lines ≡ y.lines ++ lines_of t x → z.objects ≡ y.objects ++ object_put t x ∷ [] → z.removes ≡ y.removes → IsUnderWay s b tag xs rest before after first z q
  way-on t x rest mid y way q after z is follow lines objects removes =
      let p : State = after_object t b tag x in
      let one = next-stays b tag t x in
      subst (λ u. IsUnderWay s b tag xs rest before after first z u) (sym is) (record {
        sound = next-sound b tag t x rest way.sound way.can;
        can = can-next b tag t x rest way.can;
        stays = record { dbid = one.dbid ∙ way.stays.dbid; current = one.current ∙ way.stays.current; files = one.files ∙ way.stays.files; saved = one.saved ∙ way.stays.saved };
        state = way.state;
        edits = follows-then before mid after s.catalog t.catalog p.catalog way.edits (subst (λ (u : State). EditsFollow mid after t.catalog u.catalog) is follow);
        lines = ap (λ (ls : List Line). ls ++ object_lines p b tag rest) lines ∙ append_assoc y.lines (lines_of t x) (object_lines p b tag rest) ∙ way.lines;
        objects = ap (λ (os : List Object). os ++ objects_put p b tag rest) objects ∙ append_assoc y.objects (object_put t x ∷ []) (objects_put p b tag rest) ∙ way.objects;
        removes = removes ∙ way.removes;
      })

  -- all are recorded where none is left
  pub way-end : (t : State) (rest : List Packed) (mid : List Edit) (y : Handed) → rest ≡ [] → IsUnderWay s b tag xs rest before mid first y t → HasRecorded s b tag xs before mid first y t
  way-end t rest mid y none way =
      let done = subst (λ (os : List Packed). IsUnderWay s b tag xs os before mid first y t) none way in
      record {
        state = done.state;
        edits = done.edits;
        lines = sym (append-nil y.lines) ∙ done.lines;
        objects = sym (append-nil y.objects) ∙ done.objects;
        removes = done.removes;
      }
