-- What rows, records and covers tell of a block is what is determined of it.
use Rattle.std.specs.{List.{list_any}, Option.{option_map_or}}
use Rattle.std.proofs.Common.{◌≡◌, ◌<◌, ◌≤◌, ◌⊎◌, ◌==◌, ◌&&◌, ◌||◌, ◌∙◌, nat_lt, nat_le, inl, inr, ℕ, zero, suc, List, Option, Some, None, not, Bool, true, false, cond, max, min, get_or, refl, ap, sym, subst, arith, Contains}
use Rattle.std.proofs.lemmas.{Bool.{cases_Bool, cases_lt}, List.{get_or_default, Elements.{All-contains}}}
use Rattle.rm_base.specs.{Content.{zero_block}, Numbers.{last_scn}, declared.block.{Block.{Block}, Change.{Change}, Row.{Row}}}
use Rattle.rm_base.proofs.Lists.{any_from, any_to, map_from, map_to}
use Rattle.rm_base.proofs.Tests.{and_from, and_to, counts_from, counts_to, eq_from, eq_to, exists_from, lt_false, lt_from, lt_true, not_from, not_to, or_first, or_from, or_second, within_from, within_to}
use Rattle.rm_evidence.specs.{Known.{FitsLog, FitsPiece, FitsTree, known_of}, Database.{IsCreated, IsSoundWorld}}
use Rattle.rm_evidence.specs.declared.evidence.Evidence.{Evidence}
use Rattle.rm_evidence.proofs.Artefacts.{IsAmong, LogRow, PieceRow, change_from, change_to, change_of, row_from, row_to}
use Rattle.rm_history.specs.{Agrees.{lists}, Artefacts.{Level1, Log}, Tree.{HasParentsBelow, IsThere, owner, reset_of}}
use Rattle.rm_history.specs.{Threads.{IsEnabled, is_enabled}, World.{creation_of, file_of}, FirstGap.{HasGap, IsTarget}}
use Rattle.rm_history.specs.Known.{Determined, HasLog, IsGreatest, Quiet, Seen, by_absence, by_creation, by_log, by_logs, by_row}
use Rattle.rm_history.specs.{Unknown.{IsWorld}, declared.world.{Datafile.{Datafile}, World.{World}}}
use Rattle.rm_history.proofs.{Owners.{owner-begun, owner-here}, Enabled.{enabled-owner}, Facts.{told-is-true, behind-a-gap}}
use Rattle.rm_history.specs.Evidence as known
use Rattle.rm_piece.specs.{Artefacts.{level1_of}, Valid.{IsRow}, declared.piece.Piece.{Piece}}
use Rattle.rm_plan.specs.Covers.{is_covered, is_unlisted, level1_covers, log_covers, threads_cover}
use Rattle.rm_plan.specs.Entries.{no_entry, entry_of, after_version, looked_on_way, after_own_row, after_counted_row, record_counts}
use Rattle.rm_plan.specs.{Idle.{is_idle}, Plan.{NamesGap, Tells}, Spans.{lies_in}, Survey.{IsFirstUncovered, IsSurvey, astray_block}}
use Rattle.rm_plan.specs.{Ways.{AreWays, IsWay, way_of}, declared.{entry.Entry.{Entry}, plan.Told.{Told}, survey.Survey.{Survey}}}
use Rattle.rm_plan.{specs.declared.span.Span.{Span}, proofs.Parts.{within_file}}
use Rattle.rm_plan.proofs.Steps.{Keeps, base_meets, entry_keeps, from_start, later_reaches, level1_meets, reach_lasts, record_meets, stray_lasts, version_lasts}
use Rattle.rm_redo.specs.{LogFile.{log_of}, LogFormat.{IsLogRecord}, declared.{log_file.LogFile.{LogFile}, online.LogRecord.{LogRecord}}}

-- Above the greatest version that is seen no log at hand has a record of the block on the path, so it
-- is quiet wherever each thread that is enabled has a log.
pub logs_alone : (w : World) (e : known.Evidence) (i s f b v g : ℕ) → IsGreatest w e i s f b v → v < g → g < s → ((t : ℕ) → IsEnabled w (owner w.tree i g) g t → HasLog e (owner w.tree i g) g t) → Quiet w e f b (owner w.tree i g) g
logs_alone w e i s f b v g greatest above before each = by_logs each (λ a c holds change scn.
    let there : Seen w e f b a.inc g c.content = subst (λ n. Seen w e f b a.inc n c.content) scn (by_log a c change) in
    let up = greatest.most g c.content before (subst (λ m. Seen w e f b m g c.content) holds.inc there) in
    absurd (omega (arith, up, above)))

-- what is told is seen below s on the path of i
pub record IsSeen (w : World) (e : Evidence) (i s f b : ℕ) (t : Told) : Type 0 where
  pub below : t.version < s
  pub seen : Seen w (known_of e) f b (owner w.tree i t.version) t.version t.content

-- what a row on its way brings about
noted_version : (level1 : Bool) (end c : ℕ) (t : Entry) (r : Row) → r.version < end → r.version ≤ (after_own_row level1 end c t r).told.version
noted_version level1 end c t r low = subst (λ u. r.version ≤ (cond u (after_counted_row end c t r) (record t { is_listed_astray = t.is_listed_astray || level1 })).told.version) (sym (lt_true r.version end low)) (later_reaches r.version r.content t)

noted_reach : (level1 : Bool) (end c : ℕ) (t : Entry) (r : Row) → r.version < end → min c end ≤ (after_own_row level1 end c t r).reach
noted_reach level1 end c t r low = subst (λ u. min c end ≤ (cond u (after_counted_row end c t r) (record t { is_listed_astray = t.is_listed_astray || level1 })).reach) (sym (lt_true r.version end low)) (omega arith)

-- and one astray
noted_stray : (level1 : Bool) (end c : ℕ) (t : Entry) (r : Row) → level1 ≡ true → end ≤ r.version → (after_own_row level1 end c t r).is_listed_astray ≡ true
noted_stray level1 end c t r is high = subst (λ u. (cond u (after_counted_row end c t r) (record t { is_listed_astray = t.is_listed_astray || level1 })).is_listed_astray ≡ true) (sym (lt_false r.version end high)) (or_second t.is_listed_astray level1 is)

module _ (w : World) (e : Evidence) (i s f b : ℕ) (ways : List Span) (target : IsTarget w i s f b) (sound : IsSoundWorld w) (fits : FitsTree w.tree e) (are : AreWays w.tree i s ways) where
  abbrev creation : ℕ
  creation = target.datafile.creation

  abbrev final : Entry
  final = entry_of ways e creation f b

  below : HasParentsBelow w.tree
  below = sound.tree.parents

  created : IsCreated w.tree target.datafile
  created = sound.files f target.datafile target.is

  existing : (creation < s) × (owner w.tree i creation ≡ target.datafile.inc)
  existing = exists_from creation s (owner w.tree i creation) target.datafile.inc target.exists

  piece_fits : (x : ℕ × Piece) → IsAmong e x → FitsPiece w.tree x.1
  piece_fits x (inl base) = All-contains (λ (y : ℕ × Piece). FitsPiece w.tree y.1) e.bases x fits.bases base
  piece_fits x (inr level1) = All-contains (λ (y : ℕ × Piece). FitsPiece w.tree y.1) e.level1s x fits.level1s level1

  piece_way : (x : ℕ × Piece) → IsAmong e x → IsWay w.tree i s x.1.inc (way_of ways x.1.inc)
  piece_way x among = are.each x.1.inc (piece_fits x among).inc

  row_range : (x : ℕ × Piece) (r : Row) → IsAmong e x → Contains x.1.rows r → (1 ≤ r.version) × (r.version < last_scn)
  row_range x r among row = (All-contains (IsRow x.1.blocks x.1.from) x.1.rows r (piece_fits x among).valid.rows row).version

  log_fits : (x : ℕ × LogFile) → Contains e.logs x → FitsLog w.tree x.1
  log_fits x log = All-contains (λ (y : ℕ × LogFile). FitsLog w.tree y.1) e.logs x fits.logs log

  record_range : (x : ℕ × LogFile) (r : LogRecord) → Contains e.logs x → Contains x.1.records r → (x.1.first ≤ r.scn) × (r.scn < x.1.next)
  record_range x r log entry = (All-contains (IsLogRecord x.1.first x.1.next) x.1.records r (log_fits x log).valid.records entry).scn

  -- the owner of an SCN above the file's creation began at or below it
  owner_began : (g : ℕ) → creation < g → reset_of w.tree (owner w.tree i g) ≤ g
  owner_began g above = elim (owner-begun w.tree below i g) [
    | inl begun ↦ begun
    | inr ones ↦
        let one = ones creation (omega (arith, above)) in
        let here = ones g (omega arith) in
        let low = created.reset in
        let same : reset_of w.tree (owner w.tree i g) ≡ reset_of w.tree target.datafile.inc = ap (reset_of w.tree) (here ∙ sym one ∙ existing.1) in
        omega (arith, same, low, above)
  ]

  -- what m owns above the file's creation lies on its way
  way_from : (m g : ℕ) → IsThere w.tree m → creation < g → g < s → g < last_scn → owner w.tree i g ≡ m → ((way_of ways m).start ≤ g) × (g < (way_of ways m).end)
  way_from m g there above before last own =
      let way = are.each m there in
      let start = way.start in
      let begun : reset_of w.tree m ≤ g = subst (λ k. reset_of w.tree k ≤ g) own (owner_began g above) in
      let here : owner w.tree m g ≡ m = owner-here w.tree below m g there.0 begun in
      (omega (arith, start, begun), way.apart g (omega (arith, above)) before last (own ∙ sym here))

  -- and m owns what lies on its way
  way_to : (m g : ℕ) → IsThere w.tree m → 0 < g → (way_of ways m).start ≤ g → g < (way_of ways m).end → owner w.tree i g ≡ m
  way_to m g there some begun before =
      let way = are.each m there in
      let start = way.start in
      way.alike g some before ∙ owner-here w.tree below m g there.0 (omega (arith, start, begun))

  -- what is noted is seen, and up to its reach the block stayed so
  pub record IsRight (t : Entry) : Type 0 where
    pub seen : IsSeen w e i s f b t.told
    pub quiet : (g : ℕ) → t.told.version < g → g < t.reach → Quiet w (known_of e) f b (owner w.tree i g) g

  later_right : (v : ℕ) (x : Block) (t : Entry) → IsRight t → IsSeen w e i s f b (record { version = v; content = x }) → IsRight (after_version v x t)
  later_right v x t right seen = by (nat_lt t.told.version v) refl
    where
      by : (u : Bool) → nat_lt t.told.version v ≡ u → IsRight (cond u (record t { told = record { version = v; content = x } }) t)
      by true less = record { seen = seen; quiet = λ g above low. let up = lt_from t.told.version v less in right.quiet g (omega (arith, up, above)) low }
      by false more = right

  row_seen : (x : ℕ × Piece) (r : Row) → IsAmong e x → Contains x.1.rows r → x.1.file ≡ f → r.block ≡ b → r.version < (way_of ways x.1.inc).end → IsSeen w e i s f b (record { version = r.version; content = r.content })
  row_seen x r among row file block low =
      let way = piece_way x among in
      let until = way.until in
      let range = row_range x r among row in
      record {
        below = omega (arith, low, until);
        seen = subst (λ m. Seen w (known_of e) f b m r.version r.content) (sym (way.alike r.version (omega (arith, range.0)) low)) (by_row x.1.inc x.1.checkpoint r (row_to e f b x r among row file block));
      }

  row_quiet : (x : ℕ × Piece) (r : Row) (g : ℕ) → IsAmong e x → Contains x.1.rows r → x.1.file ≡ f → r.block ≡ b → r.version < g → g < x.1.checkpoint → g < (way_of ways x.1.inc).end → Quiet w (known_of e) f b (owner w.tree i g) g
  row_quiet x r g among row file block above before low =
      by_row x.1.inc x.1.checkpoint r (row_to e f b x r among row file block) above before (sym ((piece_way x among).alike g (omega (arith, above)) low))

  row_right : (x : ℕ × Piece) (level1 : Bool) (r : Row) (t : Entry) → IsAmong e x → Contains x.1.rows r → x.1.file ≡ f → r.block ≡ b → IsRight t → IsRight (after_own_row level1 (way_of ways x.1.inc).end x.1.checkpoint t r)
  row_right x level1 r t among row file block right = by (nat_lt r.version (way_of ways x.1.inc).end) refl
    where
      by : (u : Bool) → nat_lt r.version (way_of ways x.1.inc).end ≡ u → IsRight (cond u (after_counted_row (way_of ways x.1.inc).end x.1.checkpoint t r) (record t { is_listed_astray = t.is_listed_astray || level1 }))
      by true less =
          let low = lt_from r.version (way_of ways x.1.inc).end less in
          let new = later_right r.version r.content t right (row_seen x r among row file block low) in
          let up = later_reaches r.version r.content t in
          record {
            seen = new.seen;
            quiet = λ g above before. elim (cases_lt g (after_version r.version r.content t).reach) [
              | inl old ↦ new.quiet g above old
              | inr past ↦ row_quiet x r g among row file block (omega (arith, up, above)) (omega (arith, past, before)) (omega (arith, past, before))
            ];
          }
      by false more = record { seen = right.seen; quiet = right.quiet }

  record_seen : (x : ℕ × LogFile) (r : LogRecord) → Contains e.logs x → Contains x.1.records r → record_counts (way_of ways x.1.inc) f b r ≡ true → IsSeen w e i s f b (record { version = r.scn; content = r.content })
  record_seen x r log entry counts =
      let way = are.each x.1.inc (log_fits x log).inc in
      let until = way.until in
      let k = counts_from r.file f r.block b (way_of ways x.1.inc).start r.scn (way_of ways x.1.inc).end counts in
      let range = (log_fits x log).valid.range in
      let at = record_range x r log entry in
      let own = way_to x.1.inc r.scn (log_fits x log).inc (omega (arith, range.0, at.0)) k.2 k.3 in
      record {
        below = omega (arith, k.3, until);
        seen = subst (λ m. Seen w (known_of e) f b m r.scn r.content) (sym own) (by_log (log_of x.1) (change_of x.1.inc x.1.thread r) (change_to e f b x r log entry k.0 k.1));
      }

  keeps : Keeps ways e creation f b IsRight
  keeps = record {
    rows = λ x level1 r t among row file block right. row_right x level1 r t among row file block right;
    records = λ x r t log entry counts right. later_right r.scn r.content t right (record_seen x r log entry counts);
  }

  right : IsRight final
  right = entry_keeps ways e creation f b IsRight keeps (record {
    seen = record { below = existing.0; seen = subst (λ m. Seen w (known_of e) f b m creation zero_block) (sym existing.1) (by_creation target.datafile target.is) };
    quiet = λ g above low. absurd (omega (arith, low));
  })

  row_version : (x : ℕ × Piece) (r : Row) → IsAmong e x → x.1.file ≡ f → Contains x.1.rows r → r.block ≡ b → r.version < (way_of ways x.1.inc).end → r.version ≤ final.told.version
  row_version x r (inl base) file row block low = base_meets ways e creation f b (λ t. r.version ≤ t.told.version) (version_lasts r.version) x r base file row block (λ t. noted_version (looked_on_way false ways x.1) (way_of ways x.1.inc).end x.1.checkpoint t r low)
  row_version x r (inr level1) file row block low = level1_meets ways e creation f b (λ t. r.version ≤ t.told.version) (version_lasts r.version) x r level1 file row block (λ t. noted_version (looked_on_way true ways x.1) (way_of ways x.1.inc).end x.1.checkpoint t r low)

  row_reach : (x : ℕ × Piece) (r : Row) → IsAmong e x → x.1.file ≡ f → Contains x.1.rows r → r.block ≡ b → r.version < (way_of ways x.1.inc).end → min x.1.checkpoint (way_of ways x.1.inc).end ≤ final.reach
  row_reach x r (inl base) file row block low = base_meets ways e creation f b (λ t. min x.1.checkpoint (way_of ways x.1.inc).end ≤ t.reach) (reach_lasts (min x.1.checkpoint (way_of ways x.1.inc).end)) x r base file row block (λ t. noted_reach (looked_on_way false ways x.1) (way_of ways x.1.inc).end x.1.checkpoint t r low)
  row_reach x r (inr level1) file row block low = level1_meets ways e creation f b (λ t. min x.1.checkpoint (way_of ways x.1.inc).end ≤ t.reach) (reach_lasts (min x.1.checkpoint (way_of ways x.1.inc).end)) x r level1 file row block (λ t. noted_reach (looked_on_way true ways x.1) (way_of ways x.1.inc).end x.1.checkpoint t r low)

  row_stray : (x : ℕ × Piece) (r : Row) → Contains e.level1s x → x.1.file ≡ f → Contains x.1.rows r → r.block ≡ b → x.1.from < min x.1.checkpoint (way_of ways x.1.inc).end → (way_of ways x.1.inc).end ≤ r.version → final.is_listed_astray ≡ true
  row_stray x r level1 file row block looked high = level1_meets ways e creation f b (λ t. t.is_listed_astray ≡ true) stray_lasts x r level1 file row block (λ t. noted_stray (looked_on_way true ways x.1) (way_of ways x.1.inc).end x.1.checkpoint t r (lt_true x.1.from (min x.1.checkpoint (way_of ways x.1.inc).end) looked) high)

  creation_version : creation ≤ final.told.version
  creation_version = from_start ways e creation f b (λ t. creation ≤ t.told.version) (version_lasts creation) (omega arith)

  record_version : (x : ℕ × LogFile) (r : LogRecord) → Contains e.logs x → Contains x.1.records r → r.file ≡ f → r.block ≡ b → r.scn < s → x.1.inc ≡ owner w.tree i r.scn → r.scn ≤ final.told.version
  record_version x r log entry file block before own = elim (cases_lt creation r.scn) [
    | inr early ↦ let up = creation_version in omega (arith, early, up)
    | inl later ↦
        let range = (log_fits x log).valid.range in
        let at = record_range x r log entry in
        let on = way_from x.1.inc r.scn (log_fits x log).inc later before (omega (arith, at.1, range.2)) (sym own) in
        record_meets ways e creation f b (λ t. r.scn ≤ t.told.version) (version_lasts r.scn) x r log entry
        (counts_to r.file f r.block b (way_of ways x.1.inc).start r.scn (way_of ways x.1.inc).end file block on.0 on.1)
        (λ t. later_reaches r.scn r.content t)
  ]

  same_creation : (d : Datafile) → file_of w f ≡ Some d → d.creation ≡ creation
  same_creation d is = let p : Some d ≡ Some target.datafile = sym is ∙ target.is in let q : d ≡ target.datafile = cc in ap (λ (z : Datafile). z.creation) q

  piece_row_version : (j c u : ℕ) (r : Row) → PieceRow e f b j c r → r.version < s → j ≡ j → owner w.tree j r.version ≡ owner w.tree i r.version → r.version ≤ final.told.version
  piece_row_version j c u r has before same own =
      let range = row_range has.piece r has.among has.row in
      let own-here : owner w.tree i r.version ≡ owner w.tree has.piece.1.inc r.version = sym (ap (λ z. owner w.tree z r.version) has.inc ∙ own) in
      row_version has.piece r has.among has.file has.row has.block ((piece_way has.piece has.among).apart r.version (omega (arith, range.0)) before range.1 own-here)

  log_row_version : (a : Log) (c : Change) → LogRow e f b a c → c.scn < s → a.inc ≡ owner w.tree i c.scn → c.scn ≤ final.told.version
  log_row_version a c has before own =
      let low : has.entry.scn < s = subst (λ z. z < s) (sym has.scn) before in
      let own-here : has.log.1.inc ≡ owner w.tree i has.entry.scn = ap (λ (z : Log). z.inc) has.is ∙ own ∙ ap (λ z. owner w.tree i z) (sym has.scn) in
      subst (λ z. z ≤ final.told.version) has.scn (record_version has.log has.entry has.within has.recorded has.file has.block low own-here)

  most : (m u : ℕ) (x : Block) → Seen w (known_of e) f b m u x → m ≡ owner w.tree i u → u < s → u ≤ final.told.version
  most _ _ _ (by_row j c r has) own before = piece_row_version j c 0 r (row_from e f b j c r has) before refl own
  most _ _ _ (by_log a c has) own before = log_row_version a c (change_from e f b a c has) before own
  most _ _ _ (by_creation d is) own before = subst (λ z. z ≤ final.told.version) (sym (same_creation d is)) creation_version

  greatest : IsGreatest w (known_of e) i s f b final.told.version
  greatest = record { below = right.seen.below; content = final.told.content; seen = right.seen.seen; most = λ u x before seen. most (owner w.tree i u) u x seen refl before }

  -- logs
  log_at : (g t : ℕ) → 0 < g → list_any (log_covers ways t g) e.logs ≡ true → HasLog (known_of e) (owner w.tree i g) g t
  log_at g t some any =
      let a = any_from (log_covers ways t g) e.logs any in
      let p = and_from (a.0.1.thread == t) (lies_in g (record { start = max a.0.1.first (way_of ways a.0.1.inc).start; end = min a.0.1.next (way_of ways a.0.1.inc).end })) a.2 in
      let k = within_from (max a.0.1.first (way_of ways a.0.1.inc).start) (min a.0.1.next (way_of ways a.0.1.inc).end) g p.1 in
      let own = way_to a.0.1.inc g (log_fits a.0 a.1).inc some (omega (arith, k.0)) (omega (arith, k.1)) in
      record {
        log = log_of a.0.1;
        holds = record { log = map_to (λ (y : ℕ × LogFile). log_of y.1) e.logs a.0 a.1; inc = sym own; first = omega (arith, k.0); next = omega (arith, k.1) };
        thread = eq_from a.0.1.thread t p.0;
      }

  -- the thread is enabled at g on the path of i
  abbrev is_on_path : ℕ → ℕ → Bool
  is_on_path g t = is_enabled w.tree w.threads w.switches i g t

  one_from : (g t : ℕ) → 0 < g → is_on_path g t ≡ true → (is_idle w i s t g || list_any (log_covers ways t g) e.logs) ≡ true → HasLog (known_of e) (owner w.tree i g) g t
  one_from g t some on either = elim (or_from (is_idle w i s t g) (list_any (log_covers ways t g) e.logs) either) [
    | inr any ↦ log_at g t some any
    | inl idle ↦
        let off : is_on_path g t ≡ false = not_from (is_on_path g t) (and_from (lies_in g (record { start = 0; end = s })) (not (is_on_path g t)) idle).1 in
        let clash : true ≡ false = sym on ∙ off in
        absurd (cc)
  ]

  logs_from : (g n : ℕ) → 0 < g → threads_cover w i ways e.logs s g n ≡ true → (t : ℕ) → 0 < t → t ≤ n → is_on_path g t ≡ true → HasLog (known_of e) (owner w.tree i g) g t
  logs_from g zero some all t pos le on = absurd (omega (arith, pos, le))
  logs_from g (suc n) some all t pos le on =
      let p = and_from (threads_cover w i ways e.logs s g n) (is_idle w i s (suc n) g || list_any (log_covers ways (suc n) g) e.logs) all in
      elim (cases_lt t (suc n)) [
        | inl less ↦ logs_from g n some p.0 t pos (omega (arith, less)) on
        | inr last ↦
            let is : suc n ≡ t = omega (arith, last, le) in
            subst (λ k. is_on_path g k ≡ true → HasLog (known_of e) (owner w.tree i g) g k) is (λ here. one_from g (suc n) some here p.1) on
      ]

  log_to : (g t : ℕ) → creation < g → g < s → HasLog (known_of e) (owner w.tree i g) g t → list_any (log_covers ways t g) e.logs ≡ true
  log_to g t above before l =
      let m = map_from (λ (y : ℕ × LogFile). log_of y.1) e.logs l.log l.holds.log in
      let x = m.item in
      let own : x.1.inc ≡ owner w.tree i g = ap (λ (z : Log). z.inc) m.is ∙ l.holds.inc in
      let first : x.1.first ≤ g = subst (λ (z : Log). z.first ≤ g) (sym m.is) l.holds.first in
      let next : g < x.1.next = subst (λ (z : Log). g < z.next) (sym m.is) l.holds.next in
      let thread : x.1.thread ≡ t = ap (λ (z : Log). z.thread) m.is ∙ l.thread in
      let range = (log_fits x m.held).valid.range in
      let on = way_from x.1.inc g (log_fits x m.held).inc above before (omega (arith, next, range.2)) (sym own) in
      any_to (log_covers ways t g) e.logs x m.held
      (and_to (x.1.thread == t) _ (eq_to x.1.thread t thread) (within_to (max x.1.first (way_of ways x.1.inc).start) (min x.1.next (way_of ways x.1.inc).end) g (omega (arith, first, on.0)) (omega (arith, next, on.1))))

  one_to : (g t : ℕ) → creation < g → g < s → (is_on_path g t ≡ true → HasLog (known_of e) (owner w.tree i g) g t) → (is_idle w i s t g || list_any (log_covers ways t g) e.logs) ≡ true
  one_to g t above before has = elim (cases_Bool (is_on_path g t)) [
    | inl on ↦ or_second (is_idle w i s t g) (list_any (log_covers ways t g) e.logs) (log_to g t above before (has on))
    | inr off ↦
        or_first (is_idle w i s t g) (list_any (log_covers ways t g) e.logs)
        (and_to (lies_in g (record { start = 0; end = s })) (not (is_on_path g t)) (within_to 0 s g (omega arith) before) (not_to (is_on_path g t) off))
  ]

  logs_to : (g n : ℕ) → creation < g → g < s → ((t : ℕ) → 0 < t → t ≤ n → is_on_path g t ≡ true → HasLog (known_of e) (owner w.tree i g) g t) → threads_cover w i ways e.logs s g n ≡ true
  logs_to g zero above before each = within_to 0 s g (omega arith) before
  logs_to g (suc n) above before each =
      and_to (threads_cover w i ways e.logs s g n) (is_idle w i s (suc n) g || list_any (log_covers ways (suc n) g) e.logs)
      (logs_to g n above before (λ t pos le. each t pos (omega (arith, le))))
      (one_to g (suc n) above before (each (suc n) (omega arith) (omega arith)))

  -- level 1s
  abbrev IsAbsence : Option ℕ → ℕ → ℕ × Piece → Type 0
  IsAbsence o g x = (x.1.file ≡ f) × (is_unlisted o x.1.rows ≡ true) × (x.1.from ≤ g) × (g < x.1.checkpoint) × (g < (way_of ways x.1.inc).end)

  absence_from : (o : Option ℕ) (g : ℕ) (x : ℕ × Piece) → level1_covers ways f o g x ≡ true → IsAbsence o g x
  absence_from o g x t =
      let p = and_from ((x.1.file == f) && is_unlisted o x.1.rows) (nat_le x.1.from g && nat_lt g (min x.1.checkpoint (way_of ways x.1.inc).end)) t in
      let q = and_from (x.1.file == f) (is_unlisted o x.1.rows) p.0 in
      let k = within_from x.1.from (min x.1.checkpoint (way_of ways x.1.inc).end) g p.1 in
      (eq_from x.1.file f q.0, q.1, k.0, omega (arith, k.1), omega (arith, k.1))

  absence_to : (o : Option ℕ) (g : ℕ) (x : ℕ × Piece) → Contains e.level1s x → IsAbsence o g x → list_any (level1_covers ways f o g) e.level1s ≡ true
  absence_to o g x level1 is =
      any_to (level1_covers ways f o g) e.level1s x level1
      (and_to ((x.1.file == f) && is_unlisted o x.1.rows) (nat_le x.1.from g && nat_lt g (min x.1.checkpoint (way_of ways x.1.inc).end))
      (and_to (x.1.file == f) (is_unlisted o x.1.rows) (eq_to x.1.file f is.0) is.1)
      (within_to x.1.from (min x.1.checkpoint (way_of ways x.1.inc).end) g is.2 (let a = is.3 in let c = is.4 in omega (arith, a, c))))

  absent_quiet : (g : ℕ) (x : ℕ × Piece) → Contains e.level1s x → x.1.file ≡ f → lists x.1.rows b ≡ false → 0 < g → x.1.from ≤ g → g < x.1.checkpoint → g < (way_of ways x.1.inc).end → Quiet w (known_of e) f b (owner w.tree i g) g
  absent_quiet g x level1 file absent some from before low =
      by_absence (level1_of x.1) (map_to (λ (y : ℕ × Piece). level1_of y.1) e.level1s x level1) file absent from before (sym ((piece_way x (inr level1)).alike g some low))

  -- a level 1 that lists the block, and not astray, tells as much by its row
  listed_quiet : (g : ℕ) (x : ℕ × Piece) → Contains e.level1s x → x.1.file ≡ f → lists x.1.rows b ≡ true → final.is_listed_astray ≡ false → final.told.version < g → x.1.from ≤ g → g < x.1.checkpoint → g < (way_of ways x.1.inc).end → Quiet w (known_of e) f b (owner w.tree i g) g
  listed_quiet g x level1 file listed none above from before low =
      let a = any_from (λ (r : Row). r.block == b) x.1.rows listed in
      let block = eq_from a.0.block b a.2 in
      elim (cases_lt a.0.version (way_of ways x.1.inc).end) [
        | inl on ↦ let up = row_version x a.0 (inr level1) file a.1 block on in row_quiet x a.0 g (inr level1) a.1 file block (omega (arith, up, above)) before low
        | inr astray ↦ let clash : false ≡ true = sym none ∙ row_stray x a.0 level1 file a.1 block (omega (arith, from, before, low)) astray in absurd (cc)
      ]

  unasked_quiet : (g : ℕ) (x : ℕ × Piece) (listed : Bool) → lists x.1.rows b ≡ listed → Contains e.level1s x → x.1.file ≡ f → final.is_listed_astray ≡ false → final.told.version < g → x.1.from ≤ g → g < x.1.checkpoint → g < (way_of ways x.1.inc).end → Quiet w (known_of e) f b (owner w.tree i g) g
  unasked_quiet g x true is level1 file none above from before low = listed_quiet g x level1 file is none above from before low
  unasked_quiet g x false is level1 file none above from before low = absent_quiet g x level1 file is (omega (arith, above)) from before low

  -- what a level 1 tells of the block, where no level 1 lists it astray, and where one does
  absence_quiet : (u : Bool) → final.is_listed_astray ≡ u → (g : ℕ) (x : ℕ × Piece) → Contains e.level1s x → IsAbsence (cond u (Some b) None) g x → final.told.version < g → Quiet w (known_of e) f b (owner w.tree i g) g
  absence_quiet true is g x level1 at above = absent_quiet g x level1 at.0 (not_from (lists x.1.rows b) at.1) (omega (arith, above)) at.2 at.3 at.4
  absence_quiet false is g x level1 at above = unasked_quiet g x (lists x.1.rows b) refl level1 at.0 is above at.2 at.3 at.4

  unlisted_to : (u : Bool) (rows : List Row) → lists rows b ≡ false → is_unlisted (cond u (Some b) None) rows ≡ true
  unlisted_to true rows absent = not_to (lists rows b) absent
  unlisted_to false rows absent = refl

  -- where the block is covered it is quiet
  covered_quiet : (g : ℕ) → final.told.version < g → g < s → is_covered w i ways e s f (astray_block final b) g ≡ true → Quiet w (known_of e) f b (owner w.tree i g) g
  covered_quiet g above before t = elim (or_from (threads_cover w i ways e.logs s g 4) (list_any (level1_covers ways f (astray_block final b) g) e.level1s) t) [
    | inl logs ↦ logs_alone w (known_of e) i s f b final.told.version g greatest above before (λ n is. logs_from g 4 (omega (arith, above)) logs n is.number.0 is.number.1 (sym (enabled-owner w.tree below w.threads w.switches i g n) ∙ is.on))
    | inr any ↦
        let a = any_from (level1_covers ways f (astray_block final b) g) e.level1s any in
        absence_quiet final.is_listed_astray refl g a.0 a.1 (absence_from (astray_block final b) g a.0 a.2) above
  ]

  -- where it is quiet it is covered, or a row of it reaches there
  quiet_covered : (m g : ℕ) → m ≡ owner w.tree i g → final.told.version < g → g < s → Quiet w (known_of e) f b m g → (g < final.reach) ⊎ (is_covered w i ways e s f (astray_block final b) g ≡ true)
  quiet_covered m g own above before (by_row j c r has low under owned) =
      let p = row_from e f b j c r has in
      let way = piece_way p.piece p.among in
      let range = row_range p.piece r p.among p.row in
      let past = (piece_fits p.piece p.among).valid.checkpoint.1 in
      let check : g < p.piece.1.checkpoint = subst (λ n. g < n) (sym p.checkpoint) under in
      let same : owner w.tree i g ≡ owner w.tree p.piece.1.inc g = sym own ∙ sym owned ∙ ap (λ z. owner w.tree z g) (sym p.inc) in
      let end = way.apart g (omega (arith, above)) before (omega (arith, check, past)) same in
      let reach = row_reach p.piece r p.among p.file p.row p.block (omega (arith, low, end)) in
      inl (omega (arith, reach, end, check))
  quiet_covered m g own above before (by_absence a level1 file absent from under owned) =
      let q = map_from (λ (y : ℕ × Piece). level1_of y.1) e.level1s a level1 in
      let x = q.item in
      let way = piece_way x (inr q.held) in
      let past = (piece_fits x (inr q.held)).valid.checkpoint.1 in
      let check : g < x.1.checkpoint = subst (λ (z : Level1). g < z.checkpoint) (sym q.is) under in
      let start : x.1.from ≤ g = subst (λ (z : Level1). z.from ≤ g) (sym q.is) from in
      let none : lists x.1.rows b ≡ false = ap (λ (z : Level1). lists z.rows b) q.is ∙ absent in
      let same : owner w.tree i g ≡ owner w.tree x.1.inc g = sym own ∙ sym owned ∙ ap (λ (z : Level1). owner w.tree z.inc g) (sym q.is) in
      let end = way.apart g (omega (arith, above)) before (omega (arith, check, past)) same in
      inr (or_second (threads_cover w i ways e.logs s g 4) (list_any (level1_covers ways f (astray_block final b) g) e.level1s)
      (absence_to (astray_block final b) g x q.held (ap (λ (z : Level1). z.file) q.is ∙ file, unlisted_to final.is_listed_astray x.1.rows none, start, check, end)))
  quiet_covered m g own above before (by_logs each none) =
      let low = creation_version in
      inr (or_first (threads_cover w i ways e.logs s g 4) (list_any (level1_covers ways f (astray_block final b) g) e.level1s)
      (logs_to g 4 (omega (arith, low, above)) before (λ t pos le on.
      let enabled : IsEnabled w m g t = record { number = (pos, le); on = ap (λ k. is_enabled w.tree w.threads w.switches k g t) own ∙ enabled-owner w.tree below w.threads w.switches i g t ∙ on } in
      subst (λ k. HasLog (known_of e) k g t) own (each t enabled))))

  module _ (g : ℕ) (uncovered : IsFirstUncovered w i ways e s f b final g) where
    quiet_before : (k : ℕ) → final.told.version < k → k < s → k < g → Quiet w (known_of e) f b (owner w.tree i k) k
    quiet_before k above before low = elim (cases_lt k final.reach) [
      | inl held ↦ right.quiet k above held
      | inr past ↦ covered_quiet k above before (uncovered.inside k above past low)
    ]

    -- where nothing below the target is open the block is told
    pub told_of : s ≤ g → Tells w (known_of e) i s f b final.told
    told_of past =
        let is : Determined w (known_of e) i s f b final.told.version final.told.content = record { greatest = greatest; seen = right.seen.seen; quiet = λ k above before. quiet_before k above before (omega (arith, before, past)) } in
        record { determined = is; known = told-is-true w (known_of e) i s f b final.told.version final.told.content target is }

    unquiet : g < s → ¬ Quiet w (known_of e) f b (owner w.tree i g) g
    unquiet before quiet = elim (quiet_covered (owner w.tree i g) g refl uncovered.above before quiet) [
      | inl held ↦ let low = uncovered.reach in absurd (omega (arith, held, low))
      | inr is ↦ let clash : false ≡ true = sym uncovered.outside ∙ is in absurd (cc)
    ]

    -- and else the least that is open is its gap
    pub gap_of : g < s → IsWorld w → (m : ℕ) → m ≡ owner w.tree i g → NamesGap w (known_of e) i s f b (record { file = f; block = b; inc = m; scn = g })
    gap_of before world m own =
        let gap : HasGap w (known_of e) i s f b m g = record {
          version = final.told.version;
          is = record {
            greatest = greatest;
            above = uncovered.above;
            below = before;
            owned = sym own;
            unknown = subst (λ k. ¬ Quiet w (known_of e) f b k g) (sym own) (unquiet before);
            least = λ k above low. quiet_before k above (omega (arith, low, before)) low;
          };
        } in
        record { file = refl; block = refl; gap = gap; unknown = behind-a-gap w (known_of e) i s f b m g world target gap }

-- what the code has found of a block
module _ (w : World) (e : Evidence) (i s f b : ℕ) (target : IsTarget w i s f b) (sound : IsSoundWorld w) (fits : FitsTree w.tree e) (x : Survey) (survey : IsSurvey w e i s f x) (t : Entry) (read : t ≡ get_or x.entries.items b t) where
  found : t ≡ entry_of x.ways.items e target.datafile.creation f b
  found =
      let size = survey.len in
      let within = within_file w f target.datafile target.is b target.block in
      let created : creation_of w f ≡ target.datafile.creation = ap (λ (o : Option Datafile). option_map_or (λ d. d.creation) o 0) target.is in
      read ∙ get_or_default x.entries.items b t no_entry (omega (arith, size, within)) ∙ survey.entries b within ∙ ap (λ n. entry_of x.ways.items e n f b) created

  pub found_below : t.told.version < s
  found_below = subst (λ (u : Entry). u.told.version < s) (sym found) (right w e i s f b x.ways.items target sound fits survey.ways).seen.below

  pub found_told : (g : ℕ) → IsFirstUncovered w i x.ways.items e s f b t g → s ≤ g → Tells w (known_of e) i s f b t.told
  found_told g uncovered past =
      subst (λ (u : Entry). Tells w (known_of e) i s f b u.told) (sym found)
      (told_of w e i s f b x.ways.items target sound fits survey.ways g (subst (λ (u : Entry). IsFirstUncovered w i x.ways.items e s f b u g) found uncovered) past)

  pub found_gap : (g : ℕ) → IsFirstUncovered w i x.ways.items e s f b t g → g < s → IsWorld w → (m : ℕ) → m ≡ owner w.tree i g → NamesGap w (known_of e) i s f b (record { file = f; block = b; inc = m; scn = g })
  found_gap g uncovered before world m own =
      gap_of w e i s f b x.ways.items target sound fits survey.ways g (subst (λ (u : Entry). IsFirstUncovered w i x.ways.items e s f b u g) found uncovered) before world m own
