-- A WRITE leaves a sound state: one SCN further, its change is in its row and in the log of its thread.
use Rattle.std.specs.Option.{option_map}
use Rattle.std.proofs.Common.{◌≡◌, ◌<◌, ◌≤◌, ◌+◌, ◌-◌, ◌∙◌, ◌⊎◌, inl, inr, ℕ, List, Option, Some, None, false, refl, ap, sym, subst, arith, length, All, Contains, slice_get, slice_set}
use Rattle.std.proofs.lemmas.{Bool.{cases_eq}, List.{length-set, Elements.{All-contains, All-contains_itself, All-set, All-weaker}}}
use Rattle.std.proofs.lemmas.Option.{slice_get_within}
use Rattle.rm_base.{specs.declared.block.{Change.{Change}, Row.{Row}}, proofs.Slots.{all-get, get-index, get-set}}
use Rattle.rm_blocks.{specs.File.{File, standing, written}, proofs.Rows.{in_order-set}}
use Rattle.rm_lang_statement.specs.declared.command.WriteForm.{WriteForm}
use Rattle.rm_history.specs.{Tree.{IsThere, end_of, reset_of}, declared.{tree.Incarnation.{Incarnation}, world.Datafile.{Datafile}}}
use Rattle.rm_history.proofs.{Highs.{high-above, high-bound}, Worlds.{file-there}}
use Rattle.rm_catalog_typed.specs.{LedgerFacts.{IsCreated}, Ledger.{Ledger}, Switches.{is_enabled_in}}
use Rattle.rm_redo.specs.{LogFormat.{IsLogRecord}, Online.{IsThread, record_of}, declared.online.LogRecord.{LogRecord}}
use Rattle.rm_redo.proofs.Logs.{around-with_change, first_of-with_change, inc-with_change, is_lost-with_change, thread_records-with_change, thread_records-with_change_other, sequence_of-with_change}
use Rattle.rm_redo.proofs.FurtherLogs.{IsPushed, log-further}
use Rattle.rm_track.specs.Bitmaps.{mark_at}
use Rattle.rm_machine.specs.Sound.{IsOnline, IsPlaced, IsPlacedRow, IsSound}
use Rattle.rm_machine.specs.{State.{current_of, is_lost, ledger, now_of, online, placed, redo_end, world}, Tracked.{with_tracker}}
use Rattle.rm_machine.specs.{Write.{change_of, with_write}, Events.{with_placed_row}, declared.state.State.{State}}
use Rattle.rm_machine.proofs.{Further.{further, keeps-further, now-further, redo-now, sound-further}, Places.{counted-open}}
use Rattle.rm_machine.proofs.{Threads.{gone-with_change, thread-before}, Tracked.{tracked-marked, tracked-same}, Writes.{Accepted}}
use Rattle.rm_machine.proofs.Damaged.{damaged-put, damaged-same}

module _ (s : State) (w : WriteForm) (sound : IsSound s) (a : Accepted s w) (full : length w.content.0 ≡ 64) where
  abbrev l : Ledger
  l = s.catalog.ledger

  abbrev i : ℕ
  i = current_of s

  abbrev now : ℕ
  now = now_of s

  abbrev c : Change
  c = change_of s w

  -- the database one SCN further, and then with the change
  abbrev p : State
  p = further s

  abbrev q : State
  q = with_write s w

  abbrev tree : List Incarnation
  tree = q.catalog.ledger.tree

  wide : IsSound p
  wide = sound-further s sound a.on

  end : now_of p ≡ now + 1
  end = now-further s sound a.on

  -- What is in place

  abbrev new : Row
  new = record { block = w.block; version = now; content = w.content }

  new-is : IsPlacedRow new
  new-is =
      let range = sound.catalog.ledger.incarnations.ranges i sound.catalog.ledger.current in
      record { version = omega (arith, range.0, range.1); content = full }

  placed-written : (k : ℕ) (d : Datafile) (x : File) → IsPlaced tree k d (standing x i (now_of p)) → IsPlaced tree k d (standing (written x w.block now w.content) i (now_of p))
  placed-written k d x is =
      let high = is.high in
      let low : All (λ r. r.version < now_of p) x.rows =
      All-weaker (Contains x.rows) (λ r. r.version < now_of p) (λ r has. let above = high-above (now_of p) x.rows r has in omega (arith, above, high)) x.rows (All-contains_itself x.rows) in
      let all : All (λ r. r.version < now_of p) (slice_set x.rows w.block new) = All-set (λ r. r.version < now_of p) x.rows w.block new (omega (arith, end)) low in
      record {
        file = is.file;
        blocks = length-set x.rows w.block new ∙ is.blocks;
        order = in_order-set x.rows new is.order;
        rows = All-set IsPlacedRow x.rows w.block new new-is is.rows;
        there = is.there;
        checkpoint = is.checkpoint;
        high = high-bound (now_of p) (now_of p) (slice_set x.rows w.block new) (omega arith) (λ r has. All-contains (λ r. r.version < now_of p) (slice_set x.rows w.block new) r all has);
      }

  written-by : (o : Option File) (x : File) → option_map (λ y. written y w.block now w.content) o ≡ Some x → (y : File) × (o ≡ Some y) × (written y w.block now w.content ≡ x)
  written-by None x e = absurd (cc)
  written-by (Some y) x e = (y, refl, (let f : Some (written y w.block now w.content) ≡ Some x = e in cc))

  open-place : (k : ℕ) (d : Datafile) (x : File) → slice_get l.files k ≡ Some d → slice_get s.instance.place k ≡ Some (Some x) → IsPlaced tree k d (standing x i (now_of p))
  open-place k d x file held = subst (IsPlaced tree k d) (counted-open p x a.on.opened) (wide.place.each k d x file held)

  place-after : (k : ℕ) (d : Datafile) (x : File) → slice_get l.files k ≡ Some d → slice_get q.instance.place k ≡ Some (Some x) → IsPlaced tree k d (standing x i (now_of p))
  place-after k d x file held =
      let put : Option File = option_map (λ y. written y w.block now w.content) (placed s w.file) in
      elim (get-set s.instance.place (w.file - 1) k put (Some x) held) [
        | inl one ↦
            let by = written-by (placed s w.file) x one.1 in
            let old : slice_get s.instance.place k ≡ Some (Some by.0) = ap (slice_get s.instance.place) one.0 ∙ get-index s.instance.place (w.file - 1) by.0 by.1 in
            subst (λ y. IsPlaced tree k d (standing y i (now_of p))) by.2 (placed-written k d by.0 (open-place k d by.0 file old))
        | inr other ↦ open-place k d x file other.1
      ]

  -- The online logs

  redo-after : redo_end q ≡ now + 1
  redo-after = ap (end_of tree) (inc-with_change s.instance.logs c ∙ (sound.in_open a.on.opened).inc) ∙ end

  record-is : IsLogRecord (online q w.thread).first (redo_end q) (record_of c)
  record-is =
      let file = file-there (world s) w.file a.datafile a.is in
      let made = all-get (IsCreated l.tree) l.files (w.file - 1) a.datafile file.1 sound.catalog.ledger.datafiles.each in
      let begun = (sound.logs.each w.thread a.thread ((sound.in_open a.on.opened).found w.thread a.thread)).valid.range.1 in
      record {
        scn = (omega (arith, begun, first_of-with_change s.instance.logs c w.thread, redo-now s sound a.on), omega (arith, redo-after));
        file = (file.0, omega (arith, slice_get_within l.files (w.file - 1) a.datafile file.1, sound.catalog.ledger.datafiles.few));
        block = omega (arith, a.block, made.blocks.1);
        content = full;
      }

  log-after : (t : ℕ) → IsThread s.instance.logs t → is_lost s.instance.logs t ≡ false → IsOnline tree (online q t)
  log-after t is found =
      let was = sound.logs.each t is found in
      let around = around-with_change s.instance.logs c in
      let old = redo-now s sound a.on in
      let next = redo-after in
      let inc : (online q t).inc ≡ s.instance.logs.inc = inc-with_change s.instance.logs c in
      let reset = (keeps-further s sound a.on).reset s.instance.logs.inc sound.logs.there in
      let first = first_of-with_change s.instance.logs c t in
      let records : ((online q t).records ≡ (online s t).records) ⊎ ((r : LogRecord) × IsPushed (online s t) (online q t) r) = elim (cases_eq t w.thread) [
        | inl same ↦ inr (
          record_of c,
          subst (λ u. IsPushed (online s u) (online q u) (record_of c)) (sym same) (record {
            records = thread_records-with_change s.instance.logs c a.thread;
            room = a.room;
            after = omega (arith, old);
            is = record-is;
          }),
        )
        | inr other ↦ inl (thread_records-with_change_other s.instance.logs c t a.thread.0 is.0 other)
      ] in
      record {
        valid = log-further (online s t) (online q t) was.valid around.dbid inc refl (sequence_of-with_change s.instance.logs c t) first (omega (arith, old, next)) (let below = a.on.below in omega (arith, next, below)) records;
        begun = subst (λ j. reset_of tree j ≤ (online q t).first) (sym inc) (omega (arith, reset, first, was.begun));
      }

  pub sound-write : IsSound q
  sound-write =
      let around = around-with_change s.instance.logs c in
      let opened = sound.in_open a.on.opened in
      record {
        catalog = wide.catalog;
        dbid = sound.dbid;
        place = record {
          many = length-set s.instance.place (w.file - 1) _ ∙ sound.place.many;
          each = λ k d x file held. subst (IsPlaced tree k d) (sym (counted-open q x a.on.opened)) (place-after k d x file held);
        };
        logs = record {
          dbid = around.dbid ∙ sound.logs.dbid;
          there = subst (IsThere tree) (sym around.inc) wide.logs.there;
          four = around.threads ∙ sound.logs.four;
          threads = λ t low high. around.there t ∙ wide.logs.threads t low high ∙ sym (ap (λ j. is_enabled_in (ledger q) j (end_of tree j) t) around.inc);
          gone = gone-with_change s.instance.logs c a.thread sound.logs.gone;
          each = λ t is found. log-after t (thread-before s.instance.logs q.instance.logs t around is) (sym (is_lost-with_change s.instance.logs c t) ∙ found);
        };
        damaged = damaged-same (with_placed_row p w.file new) q (damaged-put p w.file new wide.damaged);
        tracker = tracked-same (with_tracker p (mark_at p.instance.tracker w.file w.block)) q (tracked-marked p w.file w.block wide.tracker);
        in_open = λ _. record {
          inc = around.inc ∙ opened.inc;
          found = λ t is. is_lost-with_change s.instance.logs c t ∙ opened.found t (thread-before s.instance.logs q.instance.logs t around is);
          point = opened.point;
        };
        point = λ n is. absurd (let none = opened.point in cc);
      }
