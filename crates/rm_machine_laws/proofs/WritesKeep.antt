-- What a WRITE keeps of the history: one SCN further, its change is the last one.
use Rattle.std.specs.Option.{option_map}
use Rattle.std.proofs.Common.{◌≡◌, ◌≢◌, ◌<◌, ◌≤◌, ◌+◌, ◌-◌, ◌∙◌, ◌++◌, ◌==◌, nat_lt, inl, inr, ℕ, suc, List, [], ◌∷◌, Some, true, false, refl, ap, sym, subst, arith, get_or}
use Rattle.std.proofs.lemmas.{Bool.{and_parts, cases_eq, eqb-true, ltb-true}, List.{map_push}}
use Rattle.std.proofs.lemmas.List.Elements.{All-contains, All-push, All-weaker}
use Rattle.rm_base.specs.declared.{block.{BlockId.{BlockId}, Change.{Change}, Row.{Row}}, kinds.Kind.{Kind}}
use Rattle.rm_base.{specs.declared.kinds.Kind.TheVariants.{Full, Level0, Level1, Place}, proofs.Slots.{all-get, all-set_others, index-set}}
use Rattle.rm_blocks.specs.File.{File, IsInOrder, written}
use Rattle.rm_lang_statement.specs.declared.command.WriteForm.{WriteForm}
use Rattle.rm_history.specs.{Agrees.{LogAgrees, is_of}, History.{IsChange, IsHistory}, State.{state}, Tree.{IsThere, end_of, owner}}
use Rattle.rm_history.specs.declared.{tree.Incarnation.{Incarnation}, world.World.{World}}
use Rattle.rm_history.proofs.Below.{Further, agrees-further, agrees-pushed, concerns-other_block, concerns-other_file, is_of-from, is_of-not}
use Rattle.rm_history.proofs.{Ends.{owner-with_end}, Growth.{BaseAgrees-grown, Level1Agrees-grown, LogAgrees-grown, state-push_top}}
use Rattle.rm_history.proofs.{Histories.{IsChange-with_end, IsHistory-push, state-push_other}, States.{concerns-parts, concerns-from}}
use Rattle.rm_history.proofs.Worlds.{file-there}
use Rattle.rm_catalog_typed.proofs.Trees.{own-at_end}
use Rattle.rm_piece.specs.declared.{piece.Piece.{Piece}, set.SetFile.{SetFile}}
use Rattle.rm_piece.specs.Artefacts as piece
use Rattle.rm_redo.specs.{LogFile.{changes_in, log_of}, Online.{IsThread, record_of, thread_records, with_change}}
use Rattle.rm_redo.specs.declared.online.LogRecord.{LogRecord}
use Rattle.rm_redo.proofs.Logs.{around-with_change, first_of-with_change, inc-with_change, is_lost-with_change, thread_records-with_change, thread_records-with_change_other}
use Rattle.rm_track.{specs.Bitmaps.{mark_at}, proofs.Telling.{marked-told}}
use Rattle.rm_machine.specs.{Damage.{has_block}, Effect.{Artefact, a_log, a_piece, a_set}}
use Rattle.rm_machine.specs.Machine.{ArtefactAgrees, EndsWithin, HistoryFits, IsTrueArtefact, PieceAgrees, PieceEndsWithin, SoundRowsAre}
use Rattle.rm_machine.specs.{Sound.{IsSound}, State.{current_of, is_lost, now_of, online, placed, redo_end, world}}
use Rattle.rm_machine.specs.{Write.{change_of, with_write}, declared.state.State.{State}}
use Rattle.rm_machine.proofs.{Further.{further, inc-now, now-further, redo-now}, Places.{placed-is}, Threads.{thread-before}}
use Rattle.rm_machine.proofs.Writes.{Accepted}
use Rattle.rm_machine_laws.proofs.{Bitmaps.{tell-later}, DamagedRows.{sound-agrees}}
use Rattle.rm_machine_laws.proofs.Further.{below-redo, enabled-now, fits-further, owns-now, rows-further, same-further, state-further}
use Rattle.rm_machine_laws.proofs.Grown.{true-on}

-- a record as the change of which it tells
abbrev told : ℕ → ℕ → LogRecord → Change
told inc t r = record { inc = inc; thread = t; scn = r.scn; file = r.file; block = r.block; content = r.content }

module _ (s : State) (w : WriteForm) (h : List Change) (sound : IsSound s) (keeps : HistoryFits s h) (a : Accepted s w) where
  abbrev old : List Incarnation
  old = s.catalog.ledger.tree

  abbrev now : ℕ
  now = now_of s

  abbrev i : ℕ
  i = current_of s

  abbrev c : Change
  c = change_of s w

  -- the database one SCN further, and then with the change
  abbrev p : State
  p = further s

  abbrev q : State
  q = with_write s w

  abbrev risen : World
  risen = world q

  wide : HistoryFits p h
  wide = fits-further s sound a.on h keeps

  end : now_of p ≡ now + 1
  end = now-further s sound a.on

  there : IsThere old i
  there = sound.catalog.ledger.current

  -- the change is one that the history may have
  change-is : IsChange (world s) c
  change-is =
      let both = and_parts (nat_lt a.datafile.creation now) (owner old i a.datafile.creation == a.datafile.inc) a.here in
      record {
        thread = enabled-now s sound a.on w.thread a.thread;
        there = there;
        begun = (sound.catalog.ledger.incarnations.ranges i there).1;
        datafile = a.datafile;
        is = a.is;
        created = ltb-true a.datafile.creation now both.0;
        owned = eqb-true (owner old i a.datafile.creation) a.datafile.inc both.1;
        block = a.block;
      }

  -- and no other stands at its place
  history-write : IsHistory risen (h ++ c ∷ [])
  history-write =
      IsHistory-push risen h c wide.history (IsChange-with_end (world s) i (now + 1) c there change-is)
      (λ d held same.
      let low : d.scn < end_of old d.inc = All-contains (λ d. d.scn < end_of old d.inc) h d keeps.below held in
      let under : d.scn < now = subst (λ j. d.scn < end_of old j) same.inc low in
      absurd (omega (arith, under, same.scn)))

  -- What the logs tell

  redo-write : redo_end q ≡ redo_end p
  redo-write = ap (end_of risen.tree) (inc-with_change s.instance.logs c)

  further-write : (t : ℕ) → Further (log_of (online p t)) (log_of (online q t))
  further-write t = record {
    inc = inc-with_change s.instance.logs c;
    thread = refl;
    first = first_of-with_change s.instance.logs c t;
    next = let same = redo-write in omega (arith, same);
  }

  told-new : is_of (log_of (online q w.thread)) c ≡ true
  told-new =
      let begun = (sound.logs.each w.thread a.thread ((sound.in_open a.on.opened).found w.thread a.thread)).valid.range.1 in
      let same : redo_end q ≡ now_of p = redo-write ∙ ap (end_of risen.tree) (inc-now s sound a.on) in
      is_of-from (log_of (online q w.thread)) c (record {
        inc = sym (inc-now s sound a.on) ∙ sym (inc-with_change s.instance.logs c);
        thread = refl;
        begun = omega (arith, begun, first_of-with_change s.instance.logs c w.thread, redo-now s sound a.on);
        below = omega (arith, same, end);
      })

  grown : (log_of (online q w.thread)).changes ≡ (log_of (online p w.thread)).changes ++ c ∷ []
  grown =
      let records = thread_records s.instance.logs w.thread in
      ap (λ j. changes_in j w.thread (thread_records (with_change s.instance.logs c) w.thread)) (inc-with_change s.instance.logs c)
      ∙ ap (changes_in s.instance.logs.inc w.thread) (thread_records-with_change s.instance.logs c a.thread)
      ∙ map_push (told s.instance.logs.inc w.thread) records (record_of c)
      ∙ ap (λ j. changes_in s.instance.logs.inc w.thread records ++ told j w.thread (record_of c) ∷ []) (inc-now s sound a.on)

  online-write : (t : ℕ) → IsThread s.instance.logs t → is_lost s.instance.logs t ≡ false → LogAgrees (h ++ c ∷ []) (log_of (online q t))
  online-write t is found = elim (cases_eq t w.thread) [
    | inl same ↦
        subst (λ u. LogAgrees (h ++ c ∷ []) (log_of (online q u))) (sym same)
        (agrees-pushed h c (log_of (online p w.thread)) (log_of (online q w.thread)) (further-write w.thread) grown told-new (below-redo p h wide.below)
        (wide.online w.thread a.thread ((sound.in_open a.on.opened).found w.thread a.thread)))
    | inr other ↦
        let still : (log_of (online q t)).changes ≡ (log_of (online p t)).changes =
        ap (λ j. changes_in j t (thread_records (with_change s.instance.logs c) t)) (inc-with_change s.instance.logs c)
        ∙ ap (changes_in s.instance.logs.inc t) (thread_records-with_change_other s.instance.logs c t a.thread.0 is.0 other) in
        LogAgrees-grown h c (log_of (online q t))
        (agrees-further h (log_of (online p t)) (log_of (online q t)) (further-write t) still (below-redo p h wide.below) (wide.online t is found))
        (is_of-not (log_of (online q t)) c (λ tells. other (sym tells.thread)))
  ]

  -- What is in place

  -- the blocks that are damaged
  abbrev bad : List BlockId
  bad = s.instance.damaged

  -- a row is the state of its block, where that is not damaged, and is so with the change
  abbrev WasRow : ℕ → Row → Type 0
  WasRow f r = has_block bad f r.block ≡ false → r ≡ state risen h i (now_of p) f r.block

  abbrev IsRow : ℕ → Row → Type 0
  IsRow f r = has_block bad f r.block ≡ false → r ≡ state risen (h ++ c ∷ []) i (now_of p) f r.block

  rows-apart : (x : File) → x.file ≢ w.file → SoundRowsAre bad risen h i (now_of p) x → SoundRowsAre bad risen (h ++ c ∷ []) i (now_of p) x
  rows-apart x other rows =
      All-weaker (WasRow x.file) (IsRow x.file)
      (λ r was clear. was clear ∙ sym (state-push_other risen h c i (now_of p) x.file r.block (concerns-other_file risen i (now_of p) x.file r.block c (λ e. other (sym e)))))
      x.rows rows

  -- another block is as it was
  pub state-write : (f b : ℕ) → (f ≡ w.file → b ≢ w.block) → state risen (h ++ c ∷ []) i (now_of q) f b ≡ state (world s) h i now f b
  state-write f b other =
      state-push_other risen h c i (now_of p) f b (elim (cases_eq f w.file) [
        | inl same ↦ concerns-other_block risen i (now_of p) f b c (λ e. other same (sym e))
        | inr apart ↦ concerns-other_file risen i (now_of p) f b c (λ e. apart (sym e))
      ])
      ∙ state-further s sound a.on h keeps f b

  -- the change concerns its block, and is the last that does
  written-row : state risen (h ++ c ∷ []) i (now_of p) w.file w.block ≡ record { block = w.block; version = now; content = w.content }
  written-row =
      state-push_top risen h c i (now_of p) w.file w.block history-write
      (concerns-from risen i (now_of p) w.file w.block c (record {
        file = refl;
        block = refl;
        below = omega (arith, end);
        owned = owner-with_end old i (now + 1) i now there ∙ owns-now s sound a.on;
      }))
      (λ d held passes. let below = (concerns-parts risen i (now_of p) w.file w.block d passes).below in omega (arith, below, end))

  rows-written : (x : File) → x.file ≡ w.file → IsInOrder x.rows → SoundRowsAre bad risen h i (now_of p) x → SoundRowsAre bad risen (h ++ c ∷ []) i (now_of p) (written x w.block now w.content)
  rows-written x number order rows =
      let new : Row = record { block = w.block; version = now; content = w.content } in
      all-set_others (IsRow x.file) x.rows w.block new
      (λ clear. subst (λ f. new ≡ state risen (h ++ c ∷ []) i (now_of p) f w.block) (sym number) (sym written-row))
      (λ n r is other clear.
      all-get (WasRow x.file) x.rows n r is rows clear
      ∙ sym (state-push_other risen h c i (now_of p) x.file r.block (concerns-other_block risen i (now_of p) x.file r.block c (λ e. other (sym (order n r is) ∙ sym e)))))

  rows-write : (f : ℕ) (x : File) → placed q f ≡ Some x → SoundRowsAre bad risen (h ++ c ∷ []) i (now_of p) x
  rows-write f x is =
      let write : File → File = λ y. written y w.block now w.content in
      elim (index-set s.instance.place (w.file - 1) (f - 1) (option_map write (placed s w.file)) x is) [
        | inl same ↦
            let it = placed-is s (w.file - 1) a.file sound.place a.stands in
            let number : a.file.file ≡ w.file = omega (arith, it.file, (file-there (world s) w.file a.datafile a.is).0) in
            let got : Some (write a.file) ≡ Some x = sym (ap (option_map write) a.stands) ∙ same.1 in
            let made : write a.file ≡ x = cc in
            subst (SoundRowsAre bad risen (h ++ c ∷ []) i (now_of p)) made (rows-written a.file number it.order (rows-further s sound a.on h keeps w.file a.file a.stands))
        | inr other ↦
            let it = placed-is s (f - 1) x sound.place other.1 in
            rows-apart x (λ e. other.0 (omega (arith, e, it.file))) (rows-further s sound a.on h keeps f x other.1)
      ]

  pub keeps-write : HistoryFits q (h ++ c ∷ [])
  keeps-write = record {
    history = history-write;
    below = All-push (λ d. d.scn < end_of risen.tree d.inc) h c wide.below (let next = end in omega (arith, next));
    online = λ t is found. online-write t (thread-before s.instance.logs q.instance.logs t (around-with_change s.instance.logs c) is) (sym (is_lost-with_change s.instance.logs c t) ∙ found);
    place = λ f x is none. sound-agrees q (h ++ c ∷ []) x a.on.opened (rows-write f x is) none;
    tracker = tell-later i (h ++ c ∷ []) (suc now) (now_of q) (mark_at s.instance.tracker w.file w.block) (omega (arith, end)) (marked-told now h c s.instance.tracker (omega arith) keeps.tracker);
    in_open = λ still f x is. rows-write f x is;
    point = λ n is. let none = (sound.in_open a.on.opened).point in absurd (cc);
  }

  -- What was ever made

  past : (j checkpoint : ℕ) → IsThere old j → checkpoint ≤ end_of old j → owner risen.tree j now ≡ i → checkpoint ≤ now
  past j checkpoint known low own =
      let same : j ≡ i = own-at_end old j i sound.catalog.ledger.incarnations known (sym (owner-with_end old i (now + 1) j now there) ∙ own) in
      let last : end_of old j ≡ now = ap (end_of old) same in
      omega (arith, low, last)

  kind-write : (k : Kind) (x : Piece) → IsThere old x.inc → x.checkpoint ≤ end_of old x.inc → PieceAgrees risen h k x → PieceAgrees risen (h ++ c ∷ []) k x
  kind-write Full x known low agrees = BaseAgrees-grown risen h c history-write (piece.base_of x) agrees (past x.inc x.checkpoint known low)
  kind-write Level0 x known low agrees = BaseAgrees-grown risen h c history-write (piece.base_of x) agrees (past x.inc x.checkpoint known low)
  kind-write Place x known low agrees = BaseAgrees-grown risen h c history-write (piece.base_of x) agrees (past x.inc x.checkpoint known low)
  kind-write Level1 x known low agrees = Level1Agrees-grown risen h c history-write (piece.level1_of x) agrees (past x.inc x.checkpoint known low)

  piece-write : (x : Piece) → PieceEndsWithin old x → PieceAgrees risen h x.kind x → PieceAgrees risen (h ++ c ∷ []) x.kind x
  piece-write x inside agrees = kind-write x.kind x inside.0 (omega (arith, inside.1, inside.2)) agrees

  agrees-write : (x : Artefact) → EndsWithin old x → ArtefactAgrees risen h x → ArtefactAgrees risen (h ++ c ∷ []) x
  agrees-write (a_log x) inside agrees =
      LogAgrees-grown h c (log_of x) agrees (is_of-not (log_of x) c (λ tells.
      let low : x.next ≤ now = subst (λ j. x.next ≤ end_of old j) (sym tells.inc) inside.1 in
      absurd (omega (arith, low, tells.below))))
  agrees-write (a_piece x) inside agrees = piece-write x inside agrees
  agrees-write (a_set x) inside agrees = λ k d within. let m : SetFile = get_or x.members k d in piece-write m.piece (inside k d within) (agrees k d within)

  -- each artefact goes on to agree
  pub made-write : (x : Artefact) → IsTrueArtefact (world s) h x → IsTrueArtefact risen (h ++ c ∷ []) x
  made-write x is =
      let wider = true-on (world s) (world p) h (same-further s sound a.on h) x is in
      record { agrees = agrees-write x is.within wider.agrees; valid = wider.valid; within = wider.within; of = wider.of }
