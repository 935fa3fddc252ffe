-- BACKUP: what stands at the end of its events is sound, its objects can be recorded, and what was not read is no candidate.
use Rattle.std.specs.Option.{option_and_then, option_map_or}
use Rattle.std.proofs.Common.{◌≡◌, ◌⊎◌, ◌<◌, ◌≤◌, ◌+◌, ◌-◌, ◌∙◌, ◌==◌, inl, inr, ℕ, List, [], ◌∷◌, Option, Some, None, Ok, Bool, true, false, true≢false, cond, is_none, refl, ap, sym, subst, arith, length, map, nat_le, nat_lt, sum_by, unwrap_or, All, AllPairs, Contains, IfSome, get_or, slice_get, slice_index_or}
use Rattle.std.proofs.lemmas.Bool.{and_parts, cases_Bool, leb-true, ltb-false, ltb-true}
use Rattle.std.proofs.lemmas.List.{get_or_default, length-map, length-replicate}
use Rattle.std.proofs.lemmas.{List.Elements.{All-cons, All-head, All-nil, All-tail, All-weaker, Contains-get_or}, Option.{slice_get-get_or}}
use Rattle.rm_base.{specs.declared.block.Row.{Row}, proofs.{Members.{in-front, none-in}, Slots.{get-index}, Lists.{unmapped-pairs}}}
use Rattle.rm_blocks.specs.File.{File, standing}
use Rattle.rm_catalog.specs.{Objects.{IsTag}, declared.record.BaseEntry.{BaseEntry}}
use Rattle.rm_channel.specs.{Jobs.{AreRows, Span, deeds_of}, Made.{AreThese, deed}}
use Rattle.rm_history.specs.{Tree.{owner}, World.{blocks_of, exists, file_of}, declared.world.Datafile.{Datafile}}
use Rattle.rm_track.specs.Bitmaps.{Bitmap, Tracked, candidates_at, candidates_of, joined, oldest, tracked_at, unmarked}
use Rattle.rm_track.{specs.{Bits.{IsMarked, blocks_from}, Told.{starts_of}}, proofs.Marks.{marked-below}}
use Rattle.rm_track.proofs.ReadBlocks.{AreKnown, all-marked, blocks-marked, blocks-rise, candidates-long, known-by, marked-block, marks_by}
use Rattle.rm_catalog_typed.specs.Ledger.{ledger_records}
use Rattle.rm_live.{specs.{History.{IsLegal}, Ruled.{upto}, declared.history.Event.{Event}}, proofs.Totals.{length_upto}}
use Rattle.rm_live.proofs.ReadAll.{read-by}
use Rattle.rm_piece.specs.{Level1s.{IsRead}, Valid.{IsBefore}}
use Rattle.rm_redo.specs.{Logs.{Logs}, Online.{IsThread}}
use Rattle.rm_lang_grammar.specs.{Grammar.{in_range}, Spelling.{maybe_valid}}
use Rattle.rm_lang_statement.specs.{Agreed.{agrees}, IsCommand.{is_backup}, Named.{are_named}, declared.command.BackupForm.{BackupForm}}
use Rattle.rm_lang_statement.specs.declared.command.WriteForm.{WriteForm}
use Rattle.rm_machine.specs.{Backup.{AreJobs, objects_of, rows_in, taken}, Marks.{marks_before}, Sound.{IsPlaced, IsSound}}
use Rattle.rm_machine.specs.{Tracked.{AreTracked, switch_all, with_tracker}, State.{current_of, ledger, now_of, placed, tree, world}}
use Rattle.rm_machine.specs.{Asked.{blocks_read, candidates_in, span_of, writers_of, writes_in}, Events.{opening}}
use Rattle.rm_machine.specs.{MadeObjects.{CanRecord, IsRecordable, Packed, packed}, BackupOutcome.{at_end, begun, marked}}
use Rattle.rm_machine.{specs.{BackupRefusal.{mark_count}, declared.{job.Job.{Job}, state.State.{State}}}, proofs.Backups.{IsTaken}}
use Rattle.rm_machine.proofs.{Parents.{BeginsWithin, begins-within}, Places.{counted-open}, Tracked.{tracked-switch_all}}
use Rattle.rm_machine.proofs.{BackupAccepted.{CanBeWritten, CanBackUp}, Copies.{IsReady, each-recordable, packed-many, packed-same}}
use Rattle.rm_machine.proofs.{Groups.{mapped-sum}, MembersRead.{creation-by}, TakenFiles.{taken-blocks, taken-few, taken-rise}}
use Rattle.rm_machine.proofs.BackupMarks.{count-marked, marked-same, sound-marked, unmarked-mark, with_mark}
use Rattle.rm_machine.proofs.{PiecesRead.{AreAll, BeginsBelow, IsCheckpoint, blocks-by}, Deeds.{AllOf, WereRead, are-asked, are-read}}
use Rattle.rm_machine.proofs.{Walk.{AreAsked, CanGoOn, HasWalked, events-same, walk}, Damaged.{damaged-same}}

-- The datafiles of a BACKUP

-- the datafile can be backed up, and its backup begins up to now
pub record IsReadyToRead (s : State) (j : Job) : Type 0 where
  pub taken : IsTaken s j.file
  pub begins : BeginsWithin s j.from

pub mapped-all : {X Y : Type 0} (P : Y → Type 0) (f : X → Y) (xs : List X) → All P (map f xs) → All (λ x. P (f x)) xs
mapped-all P f [] all = All-nil (λ x. P (f x))
mapped-all P f (x ∷ xs) all = All-cons (λ y. P (f y)) x xs (All-head P (f x) (map f xs) all) (mapped-all P f xs (All-tail P (f x) (map f xs) all))

pub jobs-ready : (s : State) (b : BackupForm) (jobs : List Job) → IsSound s → AreJobs s b jobs → All (IsTaken s) (taken s b) → All (IsReadyToRead s) jobs
jobs-ready s b jobs sound are all k d inside =
    let j : Job = slice_index_or jobs k d in
    record {
      taken = mapped-all (IsTaken s) (λ (x : Job). x.file) jobs (subst (All (IsTaken s)) (sym are.files) all) k d inside;
      begins = begins-within s sound b j.file j.from (are.begin j (Contains-get_or jobs k d inside));
    }

-- no more than are taken
pub jobs-many : (s : State) (b : BackupForm) (jobs : List Job) → AreJobs s b jobs → length jobs ≡ length (taken s b)
jobs-many s b jobs are = sym (length-map jobs (λ (j : Job). j.file)) ∙ ap (λ (fs : List ℕ). length fs) are.files

-- their datafiles ascend
jobs-rise : (s : State) (b : BackupForm) (jobs : List Job) → AreJobs s b jobs → AllPairs (λ (i j : Job). i.file < j.file) jobs
jobs-rise s b jobs are = unmapped-pairs (λ m n. m < n) (λ (j : Job). j.file) jobs (subst (AllPairs (λ m n. m < n)) (sym are.files) (taken-rise s b))

-- and have no more blocks than all together
jobs-blocks : (s : State) (b : BackupForm) (jobs : List Job) → IsSound s → AreJobs s b jobs → sum_by (λ (j : Job). blocks_of (world s) j.file) jobs ≤ 131072
jobs-blocks s b jobs sound are =
    omega (arith, mapped-sum (blocks_of (world s)) (λ (j : Job). j.file) jobs, ap (sum_by (blocks_of (world s))) are.files, taken-blocks s b sound)

-- one list of rows for each datafile
pub rows-as-many : (u : State) (jobs : List Job) (rows : List (List Row)) → AreRows rows (map (span_of u) jobs) → length rows ≡ length jobs
rows-as-many u jobs rows whole =
    sym (length-map rows length) ∙ ap (λ (ns : List ℕ). length ns) whole ∙ length-map (map (span_of u) jobs) (λ (p : Span). length p.blocks) ∙ length-map jobs (span_of u)

-- as many objects as were asked for
pub objects-many : (s : State) (b : BackupForm) (jobs : List Job) (rows : List (List Row)) → AreJobs s b jobs → AreRows rows (map (span_of (begun s b)) jobs) → length (packed (ledger s) b (now_of s) jobs rows) ≡ length (objects_of s b)
objects-many s b jobs rows are whole = packed-many (ledger s) b (now_of s) jobs rows (taken s b) (rows-as-many (begun s b) jobs rows whole) (jobs-many s b jobs are)

-- a set that is asked for has one datafile or more
pub per_set-some : (b : BackupForm) → is_backup b ≡ true → IfSome b.files_per_set (λ n. 1 ≤ n)
per_set-some b valid = by b.files_per_set (and_parts (maybe_valid (in_range 1 64) b.files_per_set) _ (and_parts (maybe_valid are_named b.files) _ (and_parts (maybe_valid (in_range 0 1) b.level) _ (and_parts _ (agrees b.copy b) valid).0).1).1).0
  where
    by : (o : Option ℕ) → maybe_valid (in_range 1 64) o ≡ true → IfSome o (λ n. 1 ≤ n)
    by None is = tt
    by (Some n) is = leb-true 1 n (and_parts (nat_le 1 n) (nat_le n 64) is).0

-- The mark before its writes

-- where there is a write the mark was made
pub during-marks : (s : State) (d : Option (List WriteForm)) (w : WriteForm) → Contains (unwrap_or d []) w → marks_before (cond (is_none d) s (with_mark s)) ≡ []
during-marks s None w has = absurd (none-in w has)
during-marks s (Some ws) w has = unmarked-mark s

-- other bitmaps, which could be so, leave the database sound
pub sound-tracker : (q : State) (ts : List Tracked) → IsSound q → AreTracked (with_tracker q ts) → IsSound (with_tracker q ts)
sound-tracker q ts is tracked = record {
  catalog = is.catalog;
  dbid = is.dbid;
  place = record { many = is.place.many; each = is.place.each };
  logs = record { dbid = is.logs.dbid; there = is.logs.there; four = is.logs.four; threads = is.logs.threads; gone = is.logs.gone; each = is.logs.each };
  damaged = damaged-same q (with_tracker q ts) is.damaged;
  tracker = tracked;
  in_open = λ opened. let was = is.in_open opened in record { inc = was.inc; found = was.found; point = was.point };
  point = λ at here. let was = is.point at here in record { low = was.low; high = was.high; stands = was.stands };
}

-- so do those that a backup leaves at its beginning
pub sound-begun : (s : State) (b : BackupForm) → length (ledger_records (ledger s)) + mark_count s b ≤ 65536 → IsSound s → IsSound (begun s b)
sound-begun s b room sound =
    let q : State = marked s b in
    let is = sound-marked s b room sound in
    let now : now_of q ≡ now_of s = marked-same now_of s b refl in
    let ts : q.instance.tracker ≡ s.instance.tracker = marked-same (λ (p : State). p.instance.tracker) s b refl in
    sound-tracker q (switch_all (now_of s) (taken s b) s.instance.tracker) is
    (coe 0 1 (i. AreTracked (with_tracker q (switch_all (now i) (taken s b) (ts i)))) (tracked-switch_all q (taken s b) is.tracker))

-- what a write finds it finds there
can-begun : (s : State) (b : BackupForm) (ws : List WriteForm) → All (CanBeWritten s) ws → All (CanBeWritten (begun s b)) ws
can-begun s b ws all =
    All-weaker (CanBeWritten s) (CanBeWritten (begun s b))
    (λ w it.
    record {
      thread = subst (λ (logs : Logs). IsThread logs w.thread) (sym (marked-same (λ (q : State). q.instance.logs) s b refl)) it.thread;
      datafile = it.datafile;
      is = marked-same (λ (q : State). file_of (world q) w.file) s b refl ∙ it.is;
      here = marked-same (λ (q : State). exists (world q) (current_of q) (now_of q) it.datafile) s b refl ∙ it.here;
      block = it.block;
      file = it.file;
      stands = marked-same (λ (q : State). placed q w.file) s b refl ∙ it.stands;
    }) ws all

-- the base facts stay until the objects are recorded
pub base-at_end : (s : State) (b : BackupForm) (events : List Event) → (ledger (at_end s b events)).base ≡ (ledger s).base
base-at_end s b events = events-same (λ (q : State). (ledger q).base) (λ q w. refl) (λ q f row. refl) events (begun s b) ∙ marked-same (λ (q : State). (ledger q).base) s b refl

pub files-at_end : (s : State) (b : BackupForm) (events : List Event) → (ledger (at_end s b events)).files ≡ (ledger s).files
files-at_end s b events = events-same (λ (q : State). (ledger q).files) (λ q w. refl) (λ q f row. refl) events (begun s b) ∙ marked-same (λ (q : State). (ledger q).files) s b refl

-- so the objects are those of the records at the start
pub packed-at_end : (s : State) (b : BackupForm) (events : List Event) (checkpoint : ℕ) (jobs : List Job) (rows : List (List Row)) → packed (ledger (at_end s b events)) b checkpoint jobs rows ≡ packed (ledger s) b checkpoint jobs rows
packed-at_end s b events checkpoint jobs rows =
    let base = base-at_end s b events in
    packed-same (ledger (at_end s b events)) (ledger s) b checkpoint jobs rows (ap (λ (x : BaseEntry). x.dbid) base) (ap (λ (x : BaseEntry). x.current) base) (files-at_end s b events)

-- candidates are known from the oldest start on
oldest-start : (xs : List Bitmap) (start : ℕ) → Contains (starts_of xs start) (oldest xs start)
oldest-start [] start = in-front start []
oldest-start (x ∷ xs) start = in-front x.start (starts_of xs start)

known-from : (from : ℕ) (t : Tracked) (marks : List Bool) → candidates_of from t ≡ Some marks → oldest t.ended t.start ≤ from
known-from from t marks is = by (nat_lt from (oldest t.ended t.start)) refl is
  where
    by : (below : Bool) → nat_lt from (oldest t.ended t.start) ≡ below → cond below None (Some (joined from t.ended (unmarked (length t.marks)))) ≡ Some marks → oldest t.ended t.start ≤ from
    by true low none = absurd (cc none)
    by false low some = ltb-false from (oldest t.ended t.start) low

begins-below : (s : State) (from : Option ℕ) → BeginsWithin s from → BeginsBelow (now_of s) from
begins-below s None is = tt
begins-below s (Some from) is = is

-- of each datafile, whatever was read of it, and of both
pub of-each : (P : Job → Type 0) (Q R : Job → List Row → Type 0) → ((j : Job) (rs : List Row) → P j → Q j rs → R j rs) → (js : List Job) (rows : List (List Row)) → All P js → AllOf Q js rows → AllOf R js rows
of-each P Q R on [] rows all both = tt
of-each P Q R on (j ∷ js) [] all both = tt
of-each P Q R on (j ∷ js) (rs ∷ rows) all both = (on j rs (All-head P j js all) both.0, of-each P Q R on js rows (All-tail P j js all) both.1)

-- the block is none of the candidates of a level 1
pub record IsNoCandidate (u : State) (j : Job) (k : ℕ) : Type 0 where
  pub tracked : Tracked
  pub found : tracked_at u.instance.tracker j.file ≡ Some tracked
  pub from : ℕ
  pub begins : j.from ≡ Some from
  pub marks : List Bool
  pub are : candidates_at u.instance.tracker j.file from ≡ Some marks
  pub inside : k < length tracked.marks
  pub unmarked : ¬ IsMarked marks k

module _ (s : State) (b : BackupForm) (contents : All (λ (w : WriteForm). length w.content.0 ≡ 64) (writes_in b)) (sound : IsSound s) (can : CanBackUp s b) (tag : List ℕ) (tagged : IsTag tag) (jobs : List Job) (are : AreJobs s b jobs) (rows : List (List Row)) (whole : AreRows rows (map (span_of (begun s b)) jobs))
    (scns : List (List ℕ)) (events : List Event) (legal : IsLegal (opening (begun s b)) events) (these : AreThese (deeds_of (map (span_of (begun s b)) jobs) rows 1 (writers_of s b) (map (map Ok) scns)) (map deed events)) where
  abbrev pub u : State
  u = begun s b

  abbrev pub t : State
  t = at_end s b events

  abbrev pub ws : List WriteForm
  ws = writes_in b

  abbrev pub xs : List Packed
  xs = packed (ledger s) b (now_of s) jobs rows

  pub room : length (ledger_records (ledger s)) + mark_count s b ≤ 65536
  room = let all = can.records in omega (arith, all)

  pub goes-on : CanGoOn u ws
  goes-on = record {
    sound = sound-begun s b room sound;
    opened = marked-same (λ (q : State). q.instance.is_open) s b refl ∙ can.opened;
    unmarked = λ w has. during-marks s b.during w has;
    writes = can-begun s b ws can.writes;
    contents = contents;
  }

  pub asked : AreAsked ws events
  asked = are-asked ws 4 (map (span_of u) jobs) rows scns events these

  pub walked : HasWalked u ws events t
  walked = walk ws events u goes-on legal asked

  pub end-sound : IsSound t
  end-sound = walked.can.sound

  pub now-begun : now_of u ≡ now_of s
  now-begun = marked-same now_of s b refl

  pub at : IsCheckpoint t (now_of s)
  at =
      let range = sound.catalog.ledger.incarnations.ranges (current_of s) sound.catalog.ledger.current in
      record { some = omega (arith, range.0, range.1); most = omega (arith, walked.now, now-begun) }

  -- What was read of a datafile
  module _ (j : Job) (rs : List Row) (is : IsReadyToRead s j) (were : WereRead u (map deed events) j rs) where
    abbrev d : Datafile
    d = is.taken.datafile

    rows-many : length (rows_in u j.file) ≡ d.blocks
    rows-many =
        let held = get-index s.instance.place (j.file - 1) is.taken.file is.taken.stands in
        let place : IsPlaced (tree s) (j.file - 1) d (standing is.taken.file (current_of s) (now_of s)) =
        subst (IsPlaced (tree s) (j.file - 1) d) (counted-open s is.taken.file can.opened) (sound.place.each (j.file - 1) d is.taken.file is.taken.is held) in
        let here : placed u j.file ≡ Some is.taken.file = marked-same (λ (q : State). placed q j.file) s b refl ∙ is.taken.stands in
        ap (λ o. length (option_map_or (λ (x : File). x.rows) o [])) here ∙ place.blocks

    blocks-end : blocks_of (world t) j.file ≡ d.blocks
    blocks-end = blocks-by t j.file d is.taken.some (ap (λ (ds : List Datafile). slice_get ds (j.file - 1)) (files-at_end s b events) ∙ is.taken.is)

    -- of which blocks
    abbrev marks : List Bool
    marks = marks_by (candidates_in u j) (length (rows_in u j.file))

    reads-are : blocks_read u j ≡ blocks_from 0 marks
    reads-are = read-by (candidates_in u j) (length (rows_in u j.file))

    tracked-long : (ms : List Bool) (it : AreKnown u.instance.tracker j.file j.from ms) → (length it.tracked.marks ≡ d.blocks) × (length ms ≡ d.blocks)
    tracked-long ms it =
        let tracked = goes-on.sound.tracker.each j.file it.tracked it.found in
        let blocks : blocks_of (world u) j.file ≡ d.blocks = blocks-by u j.file d is.taken.some (marked-same (λ (q : State). slice_get (ledger q).files (j.file - 1)) s b refl ∙ is.taken.is) in
        (tracked.blocks ∙ blocks, candidates-long it.from (blocks_of (world u) j.file) it.tracked ms tracked.blocks tracked.ended it.are ∙ blocks)

    marks-long : length marks ≡ d.blocks
    marks-long = by (candidates_in u j) refl
      where
        by : (o : Option (List Bool)) → candidates_in u j ≡ o → length (marks_by o (length (rows_in u j.file))) ≡ d.blocks
        by None none = length-replicate (length (rows_in u j.file)) true ∙ rows-many
        by (Some ms) some = (tracked-long ms (known-by u.instance.tracker j.file j.from ms some)).1

    block-is : (k : ℕ) (r : Row) → slice_get rs k ≡ Some r → r.block ≡ get_or (blocks_from 0 marks) k 0
    block-is k r got = (walked.found j.file (get_or (blocks_read u j) k 0) r (were.each k r got)).0 ∙ ap (λ (bs : List ℕ). get_or bs k 0) reads-are

    many : length rs ≡ length (blocks_from 0 marks)
    many = were.many ∙ ap (λ (bs : List ℕ). length bs) reads-are

    ascend : AllPairs IsBefore rs
    ascend i k e less inside =
        let first = block-is i (get_or rs i e) (slice_get-get_or rs i e (omega (arith, less, inside))) in
        let second = block-is k (get_or rs k e) (slice_get-get_or rs k e inside) in
        omega (arith, first, second, blocks-rise 0 marks i k less (omega (arith, inside, many)))

    inside-all : All (λ (r : Row). r.block < d.blocks) rs
    inside-all k e inside =
        let n : ℕ = get_or (blocks_from 0 marks) k 0 in
        let it = blocks-marked 0 marks n (Contains-get_or (blocks_from 0 marks) k 0 (omega (arith, inside, many))) in
        omega (arith, block-is k (get_or rs k e) (slice_get-get_or rs k e inside), it.1, marked-below marks it.0 it.2, marks-long)

    -- it was created below the checkpoint
    above : d.creation < now_of s
    above = ltb-true d.creation (now_of s) (and_parts (nat_lt d.creation (now_of s)) (owner (tree s) (current_of s) d.creation == d.inc) is.taken.here).0

    -- the bitmaps do not go back to its creation
    known-above : (from : ℕ) (ms : List Bool) → AreKnown u.instance.tracker j.file (Some from) ms → d.creation < from
    known-above from ms it =
        let same : Some from ≡ Some it.from = it.begun in
        let is_from : from ≡ it.from = cc in
        let low : ℕ = oldest it.tracked.ended it.tracked.start in
        let start = (goes-on.sound.tracker.each j.file it.tracked it.found).kept low (oldest-start it.tracked.ended it.tracked.start) in
        let creation = creation-by u j.file d is.taken.some (marked-same (λ (q : State). slice_get (ledger q).files (j.file - 1)) s b refl ∙ is.taken.is) in
        omega (arith, is_from, start.created, creation, known-from it.from it.tracked ms it.are)

    -- so all blocks are read where the backup begins up to there
    all-read : (from : Option ℕ) → length rs ≡ length (blocks_read u (record { file = j.file; from = from })) → AreAll d.creation from (length rs) d.blocks
    all-read None same low = same ∙ length_upto 0 (length (rows_in u j.file)) ∙ rows-many
    all-read (Some from) same low = by (candidates_at u.instance.tracker j.file from) refl
      where
        by : (o : Option (List Bool)) → candidates_at u.instance.tracker j.file from ≡ o → length rs ≡ d.blocks
        by None none =
            same ∙ ap (λ (o : Option (List Bool)). length (option_map_or (blocks_from 0) o (upto 0 (length (rows_in u j.file))))) none ∙ length_upto 0 (length (rows_in u j.file)) ∙ rows-many
        by (Some ms) some = absurd (omega (arith, low, known-above from ms (known-by u.instance.tracker j.file (Some from) ms some)))

    pub ready-one : IsReady t (now_of s) j rs
    ready-one = record {
      read = record {
        some = is.taken.some;
        datafile = d;
        is = ap (λ (ds : List Datafile). slice_get ds (j.file - 1)) (files-at_end s b events) ∙ is.taken.is;
        here = walked.here d (marked-same (λ (q : State). exists (world q) (current_of q) (now_of q) d) s b refl ∙ is.taken.here);
        ascend = ascend;
        inside = inside-all;
        each = λ k e inside. (walked.found j.file (get_or (blocks_read u j) k 0) (get_or rs k e) (were.each k (get_or rs k e) (slice_get-get_or rs k e inside))).1;
      };
      above = above;
      all = all-read j.from were.many;
      begins = begins-below s j.from is.begins;
    }

    -- of a marked block a row was read
    marked-read : (k : ℕ) → IsMarked marks k → IsRead rs k
    marked-read k marked =
        let bs : List ℕ = blocks_from 0 marks in
        let has = marked-block 0 marks k marked in
        let within : has.0 < length rs = omega (arith, has.1, many) in
        let none : Row = record { block = 0; version = 0; content = record { 0 = [] } } in
        let at = get_or_default bs has.0 (0 + k) 0 has.1 in
        record {
          row = get_or rs has.0 none;
          held = Contains-get_or rs has.0 none within;
          is = omega (arith, block-is has.0 (get_or rs has.0 none) (slice_get-get_or rs has.0 none within), at, has.2);
        }

    -- one of which none was read is no candidate
    pub not-read : (k : ℕ) → k < blocks_of (world t) j.file → IsRead rs k ⊎ IsNoCandidate u j k
    not-read k inside = elim (cases_Bool (get_or marks k false)) [
      | inl marked ↦ inl (marked-read k marked)
      | inr off ↦ inr (by (candidates_in u j) refl off)
    ]
      where
        by : (o : Option (List Bool)) → candidates_in u j ≡ o → get_or (marks_by o (length (rows_in u j.file))) k false ≡ false → IsNoCandidate u j k
        by None none off = absurd (true≢false (sym (all-marked (length (rows_in u j.file)) k (omega (arith, inside, blocks-end, rows-many))) ∙ off))
        by (Some ms) some off =
            let it = known-by u.instance.tracker j.file j.from ms some in
            record {
              tracked = it.tracked;
              found = it.found;
              from = it.from;
              begins = it.begun;
              marks = ms;
              are = ap (option_and_then (candidates_of it.from)) it.found ∙ it.are;
              inside = omega (arith, inside, blocks-end, (tracked-long ms it).0);
              unmarked = λ on. true≢false (sym on ∙ off);
            }

  ready : AllOf (IsReady t (now_of s)) jobs rows
  ready =
      of-each (IsReadyToRead s) (WereRead u (map deed events)) (IsReady t (now_of s)) ready-one jobs rows (jobs-ready s b jobs sound are can.taken)
      (are-read u (writers_of s b) jobs rows scns events whole these)

  pub same : packed (ledger t) b (now_of s) jobs rows ≡ xs
  same = packed-at_end s b events (now_of s) jobs rows

  pub can-record : IfSome b.files_per_set (λ n. 1 ≤ n) → CanRecord t b tag xs
  can-record some = record {
    each = subst (All (IsRecordable t b tag)) same
        (each-recordable t b (now_of s) walked.can.sound at tag tagged jobs rows ready (jobs-rise s b jobs are)
        (coe 1 0 (i. sum_by (λ (j : Job). blocks_of (record (world t) { files = files-at_end s b events i }) j.file) jobs ≤ 131072) (jobs-blocks s b jobs sound are))
        (omega (arith, jobs-many s b jobs are, taken-few s b sound)) (rows-as-many u jobs rows whole) some);
    records = omega (arith, objects-many s b jobs rows are whole, can.records, count-marked s b, walked.records);
    ids =
        let next : (ledger t).base.next_id ≡ (ledger s).base.next_id = ap (λ (x : BaseEntry). x.next_id) (base-at_end s b events) in
        omega (arith, objects-many s b jobs rows are whole, can.ids, next);
  }
