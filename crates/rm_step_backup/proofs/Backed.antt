-- A BACKUP that was done comes to what the machine says.
use Rattle.std.specs.{Global.{Global}, Prelude.{Vec}}
use Rattle.std.proofs.Common.{◌≡◌, ◌<◌, ◌≤◌, ◌∙◌, ◌++◌, ℕ, List, [], ◌∷◌, Option, None, Ok, refl, ap, sym, subst, arith, length, map, Contains}
use Rattle.std.proofs.lemmas.List.{length-map}
use Rattle.rm_base.{specs.{Store.{Held}, declared.block.Row.{Row}}, proofs.Members.{in-front}}
use Rattle.rm_catalog.specs.{Objects.{IsTag}, declared.record.Edit.{Edit}}
use Rattle.rm_channel.specs.{Jobs.{AreRows, Span, deeds_of, lists, whole}, Made.{AreThese, deed}, declared.jobs.CopyJob.{CopyJob}}
use Rattle.rm_channel.specs.declared.jobs.Work.{Work}
use Rattle.rm_live.specs.Ruled.{total}
use Rattle.rm_report.specs.declared.line.Line.{Line}
use Rattle.rm_lang_statement.specs.declared.command.{BackupForm.{BackupForm}, Command.TheVariants.{Backup}, WriteForm.{WriteForm}}
use Rattle.rm_machine.specs.{Asked.{lists_from, span_of, writers_of, writes_in}, Backup.{AreJobs, IsTagBy, named_tag, or_nothing}}
use Rattle.rm_machine.specs.{BackupOutcome.{at_end, begun, effect_of, write_lines}, Effect.{done}, Hands.{Hands}}
use Rattle.rm_machine.specs.{MadeObjects.{CanRecord, Packed, after_objects, object_lines, objects_put, packed}, Sound.{IsSound}}
use Rattle.rm_machine.specs.{Step.{IsStatement, refusal_of}, State.{ledger, now_of}, Running.{CanFollow}, declared.handed.Handed.{Handed}}
use Rattle.rm_machine.{specs.declared.{job.Job.{Job}, state.State.{State}}, proofs.Tags.{tag-fits}}
use Rattle.rm_machine.proofs.BackingUp.{can-record, during-marks, end-sound, packed-at_end, per_set-some, sound-begun}
use Rattle.rm_machine.proofs.{BackupAccepted.{CanBackUp, can-back_up}, BackupMarks.{marked-same}, WritersRoom.{four-writers, no-writes}}
use Rattle.rm_step_backup.specs.{Recorded.{HasRecorded}, Running.{HasRunLive}}

-- Before the first event

-- one that has a write is of some
first-write : (ws : List WriteForm) (n : ℕ) → 0 < total length (lists_from 1 n ws) → (w : WriteForm) × Contains ws w
first-write [] n some = let none = no-writes 1 n in absurd (omega (arith, some, none))
first-write (w ∷ ws) n some = (w, in-front w ws)

pub can-follow : (s : State) (b : BackupForm) → CanBackUp s b → CanFollow (begun s b) (writers_of s b)
can-follow s b can = record {
  opened = marked-same (λ (q : State). q.instance.is_open) s b refl ∙ can.opened;
  marked = λ some. let it = first-write (writes_in b) 4 some in during-marks s b.during it.0 it.1;
}

pub begun-sound : (s : State) (b : BackupForm) → IsSound s → CanBackUp s b → IsSound (begun s b)
begun-sound s b sound can = sound-begun s b (omega (arith, can.records)) sound

-- the copies of these jobs are made, and the writes of the DURING
abbrev pub HasWorked : State → BackupForm → List Job → State → Work → Type 0
HasWorked s b jobs t w = (copies : List CopyJob) × (map whole copies ≡ map (span_of (begun s b)) jobs) × HasRunLive (begun s b) copies (writers_of s b) t w

-- Behind the last event
module _ (s : State) (b : BackupForm) (sound : IsSound s) (well : IsStatement (Backup b)) (accepted : refusal_of s (Backup b) ≡ None) (tag : List ℕ) (by : IsTagBy (named_tag b) (ledger s).base.moment tag)
    (jobs : List Job) (are : AreJobs s b jobs) (t : State) (w : Work) (worked : HasWorked s b jobs t w) where
  abbrev ran : HasRunLive (begun s b) worked.0 (writers_of s b) t w
  ran = worked.2

  can : CanBackUp s b
  can = can-back_up s b sound accepted

  pub tagged : IsTag tag
  tagged = tag-fits b (ledger s).base.moment tag well.0 by

  abbrev rows : List (List Row)
  rows = lists w.rows.items

  whole-rows : AreRows rows (map (span_of (begun s b)) jobs)
  whole-rows = subst (AreRows rows) worked.1 ran.rows

  these : AreThese (deeds_of (map (span_of (begun s b)) jobs) rows 1 (writers_of s b) (map (map Ok) (lists w.scns.items))) (map deed ran.events)
  these = coe 0 1 (i. AreThese (deeds_of (worked.1 i) rows 1 (writers_of s b) (map (map Ok) (lists w.scns.items))) (map deed ran.events)) ran.these

  pub ran-sound : IsSound t
  ran-sound = subst IsSound (sym ran.state) (end-sound s b well.1 sound can tag tagged jobs are rows whole-rows (lists w.scns.items) ran.events ran.legal these)

  pub rows-many : length w.rows.items ≡ length jobs
  rows-many =
      sym (length-map w.rows.items (λ v. v.items)) ∙ sym (length-map rows length)
      ∙ ap (λ (ns : List ℕ). length ns) whole-rows ∙ length-map (map (span_of (begun s b)) jobs) (λ (p : Span). length p.blocks) ∙ length-map jobs (span_of (begun s b))

  -- the objects are those of the records at the start
  same-objects : packed (ledger t) b (now_of s) jobs rows ≡ packed (ledger s) b (now_of s) jobs rows
  same-objects = ap (λ (q : State). packed (ledger q) b (now_of s) jobs rows) ran.state ∙ packed-at_end s b ran.events (now_of s) jobs rows

  pub ran-record : CanRecord t b tag (packed (ledger t) b (now_of s) jobs rows)
  ran-record =
      coe 1 0 (i. CanRecord (ran.state i) b tag (same-objects i))
      (can-record s b well.1 sound can tag tagged jobs are rows whole-rows (lists w.scns.items) ran.events ran.legal these (per_set-some b well.0))

  pub few-told : (told : List (Vec ℕ Global)) → told ≡ w.scns.items → length told ≤ 4
  few-told told same =
      let long = length-map (lists w.scns.items) length in
      let each = length-map (writers_of s b) length in
      let alike = ap (λ (ns : List ℕ). length ns) ran.scns in
      omega (arith, length-map w.scns.items (λ v. v.items), long, each, alike, four-writers s (writes_in b) sound, ap (λ (vs : List (Vec ℕ Global)). length vs) same)

  -- it comes to what the machine says
  pub hands : (ys : List Packed) → ys ≡ packed (ledger t) b (now_of s) jobs rows → (q : State) (first x : Handed) (before after : List Edit) → HasRecorded t b tag ys before after first x q → first.lines ≡ [] → first.objects ≡ [] → first.removes ≡ []
      → (lines said : List Line) → lines ≡ or_nothing x.lines → (told_scns : List (Vec ℕ Global)) → told_scns ≡ w.scns.items → said ≡ lines ++ write_lines 1 (lists told_scns) → (held : Option Held) → Hands held s (Backup b) (record x { lines = said }) q
  hands ys same q first x before after made no_lines no_objects no_removes lines said none told_scns scns all held =
      let xs : List Packed = packed (ledger s) b (now_of s) jobs rows in
      let end : State = at_end s b ran.events in
      let is : ys ≡ xs = same ∙ same-objects in
      let state_is : q ≡ after_objects end b tag xs = made.state ∙ (λ i. after_objects (ran.state i) b tag (is i)) in
      let told_is : x.lines ≡ object_lines end b tag xs = made.lines ∙ (λ i. no_lines i ++ object_lines (ran.state i) b tag (is i)) in
      let said_is : said ≡ or_nothing (object_lines end b tag xs) ++ write_lines 1 (lists w.scns.items) = all ∙ (λ i. (none ∙ ap or_nothing told_is) i ++ write_lines 1 (lists (scns i))) in
      record {
        effect = effect_of s b tag ran.events xs;
        comes = λ store tells. record {
          tag = tag;
          tagged = by;
          jobs = jobs;
          are = are;
          rows = rows;
          whole = whole-rows;
          scns = lists w.scns.items;
          each = ran.scns;
          events = ran.events;
          legal = ran.legal;
          these = these;
          is = λ i. done (said_is i) (effect_of s b tag ran.events xs) (state_is i);
        };
        puts = made.objects ∙ (λ i. no_objects i ++ objects_put (ran.state i) b tag (is i));
        removes = made.removes ∙ no_removes;
      }
