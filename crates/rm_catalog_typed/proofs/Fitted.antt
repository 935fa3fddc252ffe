-- A change that fits keeps the rules.
use Rattle.std.specs.Prelude.{IfSome}
use Rattle.std.proofs.Common.{◌≡◌, ◌∙◌, ℕ, ◌+◌, ◌-◌, ◌<◌, ◌≤◌, ◌⊎◌, inl, inr, List, [], ◌∷◌, ◌++◌, Option, Some, None, refl, ap, sym, subst, arith, length, length-append, All, AllPairs, Contains}
use Rattle.std.proofs.lemmas.{Bool.{cases_eq}, List.{length-map, length-set}}
use Rattle.std.proofs.lemmas.List.Elements.{All-contains, All-push, All-weaker, Contains-append_left, Contains-push}
use Rattle.std.proofs.lemmas.List.{Quantifiers.{all_pairs_push}, Sums.{sum_by-append, sum_by-cons}}
use Rattle.rm_base.specs.{Numbers.{last_moment, last_scn}, declared.block.Mark.{Mark}}
use Rattle.rm_catalog.specs.declared.record.{BaseEntry.{BaseEntry}, LogEntry.{LogEntry}, PartEntry.{PartEntry}, PieceEntry.{PieceEntry}}
use Rattle.rm_catalog.specs.declared.record.SetEntry.{SetEntry}
use Rattle.rm_catalog.specs.declared.record.Record.TheVariants as kind
use Rattle.rm_history.specs.{Tree.{IsThere, parent_of, reset_of, end_of, with_branch, with_end}, declared.tree.Incarnation.{Incarnation}}
use Rattle.rm_history.specs.declared.world.Datafile.{Datafile}
use Rattle.rm_history.proofs.Branches.{IsThere-branched, end_of-branched, end_of-with_branch, length-with_branch, parent_of-branched, parent_of-with_branch, reset_of-branched, reset_of-with_branch}
use Rattle.rm_history.proofs.Ends.{parent_of-with_end, end_of-with_end, end_of-with_end_other}
use Rattle.rm_catalog_typed.specs.LedgerFacts.{AreDatafiles, AreIds, AreIncarnations, AreMarks, HasMark, IsBranch, IsCreated, IsLogEntry, IsMark, IsPieceEntry, IsSetEntry}
use Rattle.rm_catalog_typed.specs.Ledger.{Ledger, back_records, datafile_record, front_records, incarnation_record, ledger_records, mark_record, switch_record}
use Rattle.rm_catalog_typed.specs.Switches.{ComeInTurn}
use Rattle.rm_catalog_typed.specs.Changes.{with_base, with_end_at, with_file, with_incarnation, with_log, with_mark, with_new_log, with_new_piece, with_new_set, with_one, with_piece, with_set, with_switch, without_log, without_one, without_piece, without_set}
use Rattle.rm_catalog_typed.specs.Facts.{IsPartEntry, IsTypedCatalog, IsSaved}
use Rattle.rm_catalog_typed.specs.Fitting.{FitsBase, FitsBranch, FitsFile, FitsLog, FitsMark, FitsNewLog, FitsNewPiece, FitsNewSet, FitsPiece, FitsSet, FitsSwitch, IsObjectId, LacksId}
use Rattle.rm_catalog_typed.specs.{TypedCatalog.{TypedCatalog, Saved}, declared.thread_switch.ThreadSwitch.{ThreadSwitch}}
use Rattle.rm_catalog_typed.proofs.{InTurn.{turns_kept, turns_more}, Keeping.{FilesGrow, log_kept, mark_kept, piece_kept, set_kept}}
use Rattle.rm_catalog_typed.proofs.Order.{incarnations_of, datafiles_of, logs_of, pieces_of, marks_of, sets_of, switch_records, length-numbered}
use Rattle.rm_catalog_typed.proofs.Trees.{Keeps, keeps_branch, keeps_end, parents_below}
use Rattle.rm_catalog_typed.proofs.Ones.{all-with, all-without, ascend-with, ascend-without, contains-with, contains-without, length-replaced, length-with, length-without, with-last}

-- a ledger has the datafiles, incarnations and ids that another has
record HasAll (l m : Ledger) : Type 0 where
  pub ids : l.base.next_id ≤ m.base.next_id
  pub files : length l.files ≤ length m.files
  pub there : (i : ℕ) → IsThere l.tree i → IsThere m.tree i

-- the ids of a saved site's parts are not those of objects
record AreFree (s : Saved) (of_logs : List LogEntry) (of_pieces : List PieceEntry) (of_sets : List SetEntry) : Type 0 where
  pub logs : (e : LogEntry) (p : PartEntry) → Contains of_logs e → Contains s.parts p → e.id ≡ p.id → ⊥
  pub pieces : (e : PieceEntry) (p : PartEntry) → Contains of_pieces e → Contains s.parts p → e.id ≡ p.id → ⊥
  pub sets : (e : SetEntry) (p : PartEntry) → Contains of_sets e → Contains s.parts p → e.id ≡ p.id → ⊥

-- so a saved site of the one is one of the other, if no object has the id of a part
site_kept : (l m : Ledger) (s : Saved) → HasAll l m → IsSaved l s → AreFree s m.logs m.pieces m.sets → IsSaved m s
site_kept l m s has is free =
    record {
      parts = All-weaker (IsPartEntry l) (IsPartEntry m) (λ (p : PartEntry) was. record {
        id = (was.id.0, omega arith);
        size = was.size;
        thread = was.thread;
        file = λ some. let f = (was.file some).1 in ((was.file some).0, omega arith);
      }) s.parts is.parts;
      apart = is.apart;
      logs = free.logs;
      pieces = free.pieces;
      sets = free.sets;
      point = λ some. has.there s.head.inc (is.point some);
    }

saved_kept : (l m : Ledger) → HasAll l m → m.logs ≡ l.logs → m.pieces ≡ l.pieces → m.sets ≡ l.sets → (o : Option Saved) → IfSome o (IsSaved l) → IfSome o (IsSaved m)
saved_kept l m has logs pieces sets None none = tt
saved_kept l m has logs pieces sets (Some s) is = site_kept l m s has is (record {
  logs = λ e p one other. is.logs e p (subst (λ (x : List LogEntry). Contains x e) logs one) other;
  pieces = λ e p one other. is.pieces e p (subst (λ (x : List PieceEntry). Contains x e) pieces one) other;
  sets = λ e p one other. is.sets e p (subst (λ (x : List SetEntry). Contains x e) sets one) other;
})

-- so many records
pub many : (l : Ledger) → length (ledger_records l) ≡ 1 + length l.tree + length l.files + length l.logs + length l.pieces + length l.marks + length l.sets + length l.switches
many l =
    let seven = length-append (front_records l) (back_records l) in
    let six = length-append (sets_of l) (switch_records l) in
    let five = length-append (incarnations_of l ++ datafiles_of l ++ logs_of l ++ pieces_of l) (marks_of l) in
    let four = length-append (incarnations_of l ++ datafiles_of l ++ logs_of l) (pieces_of l) in
    let three = length-append (incarnations_of l ++ datafiles_of l) (logs_of l) in
    let two = length-append (incarnations_of l) (datafiles_of l) in
    let tree = length-numbered incarnation_record 1 l.tree in
    let files = length-numbered datafile_record 1 l.files in
    let logs = length-map l.logs (λ e. kind.Log e) in
    let pieces = length-map l.pieces (λ e. kind.Piece e) in
    let marks = length-numbered mark_record 1 l.marks in
    let sets = length-map l.sets (λ e. kind.Set e) in
    let switches = length-numbered switch_record 1 l.switches in
    omega arith

-- other base facts
pub base_fits : (r : TypedCatalog) (b : BaseEntry) → IsTypedCatalog r → FitsBase r b → IsTypedCatalog (with_base r b)
base_fits r b rules fits =
    let is = rules.ledger in
    let l = r.ledger in
    let m = (with_base r b).ledger in
    let next = fits.next_id in
    record {
      ledger = record {
        base = fits.facts;
        current = fits.current;
        incarnations = is.incarnations;
        datafiles = is.datafiles;
        logs = is.logs;
        pieces = is.pieces;
        sets = is.sets;
        ids = record {
          logs = All-weaker (λ (e : LogEntry). (1 ≤ e.id) × (e.id < l.base.next_id)) (λ (e : LogEntry). (1 ≤ e.id) × (e.id < b.next_id)) (λ e was. (was.0, omega arith)) l.logs is.ids.logs;
          pieces = All-weaker (λ (e : PieceEntry). (1 ≤ e.id) × (e.id < l.base.next_id)) (λ (e : PieceEntry). (1 ≤ e.id) × (e.id < b.next_id)) (λ e was. (was.0, omega arith)) l.pieces is.ids.pieces;
          sets = All-weaker (λ (e : SetEntry). (1 ≤ e.id) × (e.id < l.base.next_id)) (λ (e : SetEntry). (1 ≤ e.id) × (e.id < b.next_id)) (λ e was. (was.0, omega arith)) l.sets is.ids.sets;
          logs_ascend = is.ids.logs_ascend;
          pieces_ascend = is.ids.pieces_ascend;
          sets_ascend = is.ids.sets_ascend;
          apart = is.ids.apart;
          logs_apart = is.ids.logs_apart;
          pieces_apart = is.ids.pieces_apart;
        };
        marks = record {
          each = All-weaker (IsMark l.tree l.base.moment) (IsMark l.tree b.moment) (λ (m : Mark) was. record { there = was.there; scn = was.scn; moment = omega arith }) l.marks is.marks.each;
          rise = is.marks.rise;
          some = is.marks.some;
        };
        switches = subst (λ n. ComeInTurn l.tree n l.switches) (sym fits.threads) is.switches;
        few = is.few;
      };
      saved = saved_kept l m (record { ids = next; files = omega arith; there = λ i there. there }) refl refl refl r.saved rules.saved;
    }

-- a later moment
pub moment_fits : (r : TypedCatalog) (moment : ℕ) → IsTypedCatalog r → r.ledger.base.moment ≤ moment → moment ≤ last_moment → FitsBase r (record r.ledger.base { moment = moment })
moment_fits r moment rules kept last =
    let is = rules.ledger in
    record {
      facts = record { dbid = is.base.dbid; threads = is.base.threads; next_id = is.base.next_id; moment = last; policy = is.base.policy; parallelism = is.base.parallelism };
      current = is.current;
      threads = refl;
      next_id = omega arith;
      moment = kept;
    }

-- a branch of a tree, and its range, in a tree that keeps it
branch-kept : (old new : List Incarnation) (i : ℕ) → Keeps old new → parent_of new i ≡ parent_of old i → IsThere old i → IsBranch old i → IsBranch new i
branch-kept old new i keeps parent there b =
    let below : IsThere old (parent_of old i) = (b.parent.0, omega arith) in
    let own = keeps.reset i there in
    let from = ap (reset_of new) parent ∙ keeps.reset (parent_of old i) below in
    let to = ap (end_of new) parent in
    let more = keeps.end (parent_of old i) below in
    record { parent = (omega arith, omega arith); reset = omega arith; end = omega arith }

abbrev IsRange : List Incarnation → ℕ → Type 0
IsRange tree i = (1 ≤ reset_of tree i) × (reset_of tree i ≤ end_of tree i) × (end_of tree i ≤ last_scn)

range-kept : (old new : List Incarnation) (i : ℕ) → Keeps old new → IsThere old i → IsRange old i → end_of new i ≤ last_scn → IsRange new i
range-kept old new i keeps there range last = let reset = keeps.reset i there in let more = keeps.end i there in (omega arith, omega arith, last)

-- a tree in which one end rose
last-end : (tree : List Incarnation) (j end last : ℕ) → IsThere tree j → end ≤ last → (i : ℕ) → IsThere tree i → end_of tree i ≤ last → end_of (with_end tree j end) i ≤ last
last-end tree j end last there low i is was = elim (cases_eq i j) [
  | inl same ↦ subst (λ k. end_of (with_end tree j end) k ≤ last) (sym same) (let e = end_of-with_end tree j end there in omega arith)
  | inr other ↦ let e = end_of-with_end_other tree j end i there is other in omega arith
]

trees-same : (tree : List Incarnation) (j end : ℕ) → length (with_end tree j end) ≡ length tree
trees-same tree j end = length-set tree (j - 1) (record { parent = parent_of tree j; reset = reset_of tree j; end = end })

incarnations_kept : (tree : List Incarnation) (j end : ℕ) → AreIncarnations tree → IsThere tree j → end_of tree j ≤ end → end ≤ last_scn → AreIncarnations (with_end tree j end)
incarnations_kept tree j end is there up last =
    let keeps = keeps_end tree j end there up in
    let long = trees-same tree j end in
    record {
      some = omega arith;
      few = omega arith;
      first = parent_of-with_end tree j end 1 there ∙ is.first;
      branches = λ i later high. branch-kept tree (with_end tree j end) i keeps (parent_of-with_end tree j end i there) (omega arith, omega arith) (is.branches i later (omega arith));
      ranges = λ i has.
          let was : IsThere tree i = (has.0, omega arith) in
          let range = is.ranges i was in
          range-kept tree (with_end tree j end) i keeps was range (last-end tree j end last_scn there last i was range.2);
    }

-- a datafile stays one that was created
created-kept : (old new : List Incarnation) → Keeps old new → (d : Datafile) → IsCreated old d → IsCreated new d
created-kept old new keeps d was =
    let reset = keeps.reset d.inc was.there in
    let more = keeps.end d.inc was.there in
    record { there = keeps.there d.inc was.there; creation = (omega arith, omega arith); blocks = was.blocks }

datafiles-kept : (old new : List Incarnation) (files : List Datafile) → Keeps old new → AreDatafiles old files → AreDatafiles new files
datafiles-kept old new files keeps is = record { each = All-weaker (IsCreated old) (IsCreated new) (created-kept old new keeps) files is.each; few = is.few; room = is.room }

files-grow : (old new : List Datafile) → FilesGrow old new → length old ≤ length new
files-grow old new (inl same) = let long = ap length same in omega arith
files-grow old new (inr more) = let long = ap length more.1 in let all = length-append old (more.0 ∷ []) in omega arith

-- a tree that keeps what was, with datafiles, marks and switches
regrown : (r : TypedCatalog) (tree : List Incarnation) (files : List Datafile) (marks : List Mark) (switches : List ThreadSwitch) → IsTypedCatalog r → Keeps r.ledger.tree tree → FilesGrow r.ledger.files files
    → AreIncarnations tree → AreDatafiles tree files → AreMarks tree r.ledger.base.moment marks → ComeInTurn tree r.ledger.base.threads switches
    → length (ledger_records r.ledger) + length tree + length files + length marks + length switches ≤ 65536 + length r.ledger.tree + length r.ledger.files + length r.ledger.marks + length r.ledger.switches
    → IsTypedCatalog (record r { ledger = record r.ledger { tree = tree; files = files; marks = marks; switches = switches } })
regrown r tree files marks switches rules keeps grows of-tree of-files of-marks of-switches room =
    let is = rules.ledger in
    let l = r.ledger in
    let m = record r.ledger { tree = tree; files = files; marks = marks; switches = switches } in
    let old = many l in
    let new = many m in
    record {
      ledger = record {
        base = is.base;
        current = keeps.there l.base.current is.current;
        incarnations = of-tree;
        datafiles = of-files;
        logs = All-weaker (IsLogEntry l.tree) (IsLogEntry tree) (log_kept l.tree tree keeps) l.logs is.logs;
        pieces = All-weaker (IsPieceEntry l.tree l.files) (IsPieceEntry tree files) (piece_kept l.tree tree l.files files keeps grows) l.pieces is.pieces;
        sets = All-weaker (IsSetEntry l.tree l.files) (IsSetEntry tree files) (set_kept l.tree tree l.files files keeps grows) l.sets is.sets;
        ids = is.ids;
        marks = of-marks;
        switches = of-switches;
        few = omega arith;
      };
      saved = saved_kept l m (record { ids = omega arith; files = files-grow l.files files grows; there = λ i there. keeps.there i there }) refl refl refl r.saved rules.saved;
    }

same-tree : (tree : List Incarnation) → Keeps tree tree
same-tree tree = record { there = λ i is. is; reset = λ i is. refl; end = λ i is. omega arith; owners = λ i g is. refl }

-- a higher end
pub end_fits : (r : TypedCatalog) (i end : ℕ) → IsTypedCatalog r → IsThere r.ledger.tree i → end_of r.ledger.tree i ≤ end → end ≤ last_scn → IsTypedCatalog (with_end_at r i end)
end_fits r i end rules there up last =
    let is = rules.ledger in
    let l = r.ledger in
    let tree = with_end l.tree i end in
    let keeps = keeps_end l.tree i end there up in
    let long = trees-same l.tree i end in
    regrown r tree l.files l.marks l.switches rules keeps (inl refl) (incarnations_kept l.tree i end is.incarnations there up last) (datafiles-kept l.tree tree l.files keeps is.datafiles)
    (record {
      each = All-weaker (IsMark l.tree l.base.moment) (IsMark tree l.base.moment) (mark_kept l.tree tree l.base.moment l.base.moment keeps (omega arith)) l.marks is.marks.each;
      rise = is.marks.rise;
      some = λ k has. is.marks.some k (has.0, omega arith);
    }) (turns_kept l.tree tree l.base.threads l.switches keeps is.switches) (omega (arith, is.few))

-- one datafile more
pub file_fits : (r : TypedCatalog) (d : Datafile) → IsTypedCatalog r → FitsFile r d → IsTypedCatalog (with_file r d)
file_fits r d rules fits =
    let is = rules.ledger in
    let l = r.ledger in
    let long = length-append l.files (d ∷ []) in
    let sum = sum_by-append (λ (f : Datafile). f.blocks) l.files (d ∷ []) in
    let one = sum_by-cons (λ (f : Datafile). f.blocks) d [] in
    regrown r l.tree (l.files ++ d ∷ []) l.marks l.switches rules (same-tree l.tree) (inr (d, refl)) is.incarnations
    (record { each = All-push (IsCreated l.tree) l.files d is.datafiles.each fits.created; few = omega arith; room = omega arith }) is.marks is.switches (omega arith)

-- one mark more among the marks of a tree
marks-more : (tree : List Incarnation) (latest : ℕ) (marks : List Mark) (m : Mark) → All (IsMark tree latest) marks → All (λ n. n.moment ≤ m.moment) marks → IsMark tree latest m
    → AllPairs (λ x y. x.moment ≤ y.moment) marks → ((i : ℕ) → IsThere tree i → HasMark (marks ++ m ∷ []) i) → AreMarks tree latest (marks ++ m ∷ [])
marks-more tree latest marks m each before is rise some =
    record { each = All-push (IsMark tree latest) marks m each is; rise = all_pairs_push (λ (x y : Mark). x.moment ≤ y.moment) marks m rise before; some = some }

old-mark : (r : TypedCatalog) (n : Mark) (i : ℕ) → IsTypedCatalog r → IsThere r.ledger.tree i → HasMark (r.ledger.marks ++ n ∷ []) i
old-mark r n i rules there = let h = rules.ledger.marks.some i there in (h.0, Contains-append_left r.ledger.marks (n ∷ []) h.0 h.1, h.2)

-- one mark more
pub mark_fits : (r : TypedCatalog) (m : Mark) → IsTypedCatalog r → FitsMark r m → IsTypedCatalog (with_mark r m)
mark_fits r n rules fits =
    let is = rules.ledger in
    let l = r.ledger in
    let long = length-append l.marks (n ∷ []) in
    regrown r l.tree l.files (l.marks ++ n ∷ []) l.switches rules (same-tree l.tree) (inl refl) is.incarnations is.datafiles
    (marks-more l.tree l.base.moment l.marks n is.marks.each fits.moment.0 fits.mark is.marks.rise (λ i there. old-mark r n i rules there)) is.switches (omega arith)

-- one switch more
pub switch_fits : (r : TypedCatalog) (x : ThreadSwitch) → IsTypedCatalog r → FitsSwitch r x → IsTypedCatalog (with_switch r x)
switch_fits r x rules fits =
    let is = rules.ledger in
    let l = r.ledger in
    let long = length-append l.switches (x ∷ []) in
    regrown r l.tree l.files l.marks (l.switches ++ x ∷ []) rules (same-tree l.tree) (inl refl) is.incarnations is.datafiles is.marks (turns_more l.tree l.base.threads l.switches x is.switches fits.next) (omega arith)

-- an incarnation of a tree with one more was there, or is the new one
old-or-new : (tree : List Incarnation) (p at i : ℕ) → IsThere (with_branch tree p at) i → IsThere tree i ⊎ (i ≡ length tree + 1)
old-or-new tree p at i there =
    let long = length-with_branch tree p at in
    elim (cases_eq i (length tree + 1)) [ inl new ↦ inr new | inr other ↦ inl (there.0, omega arith) ]

module _ (tree : List Incarnation) (p at : ℕ) (is : AreIncarnations tree) (there : IsThere tree p) (low : reset_of tree p ≤ at) (high : at ≤ end_of tree p) where
  abbrev more : List Incarnation
  more = with_branch tree p at

  keeps-all : Keeps tree more
  keeps-all = keeps_branch tree p at (parents_below tree is) there

  branched-branch : (i : ℕ) → 1 < i → IsThere tree i ⊎ (i ≡ length tree + 1) → IsBranch more i
  branched-branch i later (inl was) = branch-kept tree more i keeps-all (parent_of-with_branch tree p at i was) was (is.branches i later was.1)
  branched-branch i later (inr new) =
      let parent = parent_of-branched tree p at in
      let own = reset_of-branched tree p at in
      let from = ap (reset_of more) parent ∙ reset_of-with_branch tree p at p there in
      let to = ap (end_of more) parent ∙ end_of-with_branch tree p at p there in
      subst (IsBranch more) (sym new) (record { parent = (omega arith, omega arith); reset = omega arith; end = omega arith })

  branched-range : (i : ℕ) → IsThere tree i ⊎ (i ≡ length tree + 1) → IsRange more i
  branched-range i (inl was) = let range = is.ranges i was in let end = end_of-with_branch tree p at i was in range-kept tree more i keeps-all was range (omega arith)
  branched-range i (inr new) =
      let range = is.ranges p there in
      let reset = reset_of-branched tree p at in
      let end = end_of-branched tree p at in
      subst (IsRange more) (sym new) (omega arith, omega arith, omega arith)

  branched-incarnations : length tree < 256 → AreIncarnations more
  branched-incarnations few =
      let long = length-with_branch tree p at in
      record {
        some = omega arith;
        few = omega arith;
        first = parent_of-with_branch tree p at 1 (omega arith, omega arith) ∙ is.first;
        branches = λ i later inside. branched-branch i later (old-or-new tree p at i (omega arith, inside));
        ranges = λ i has. branched-range i (old-or-new tree p at i has);
      }

-- one incarnation more, with its first mark
pub branch_fits : (r : TypedCatalog) (parent at moment : ℕ) → IsTypedCatalog r → FitsBranch r parent at moment → IsTypedCatalog (with_incarnation r parent at moment)
branch_fits r parent at moment rules fits =
    let is = rules.ledger in
    let l = r.ledger in
    let tree = with_branch l.tree parent at in
    let n : Mark = record { moment = moment; inc = length l.tree + 1; scn = at } in
    let keeps = keeps_branch l.tree parent at (parents_below l.tree is.incarnations) fits.there in
    let long = length-append l.marks (n ∷ []) in
    let deep = length-with_branch l.tree parent at in
    let reset = reset_of-branched l.tree parent at in
    let end = end_of-branched l.tree parent at in
    let first-mark : (i : ℕ) → IsThere l.tree i ⊎ (i ≡ length l.tree + 1) → HasMark (l.marks ++ n ∷ []) i = λ i which. elim which [
      | inl was ↦ old-mark r n i rules was
      | inr new ↦ (n, Contains-push l.marks n, sym new)
    ] in
    regrown r tree l.files (l.marks ++ n ∷ []) l.switches rules keeps (inl refl) (branched-incarnations l.tree parent at is.incarnations fits.there fits.begins.0 fits.begins.1 fits.few) (datafiles-kept l.tree tree l.files keeps is.datafiles)
    (marks-more tree l.base.moment l.marks n
    (All-weaker (IsMark l.tree l.base.moment) (IsMark tree l.base.moment) (mark_kept l.tree tree l.base.moment l.base.moment keeps (omega arith)) l.marks is.marks.each)
    fits.next.0 (record { there = IsThere-branched l.tree parent at; scn = (omega arith, omega arith); moment = fits.next.1 }) is.marks.rise (λ i has. first-mark i (old-or-new l.tree parent at i has)))
    (turns_kept l.tree tree l.base.threads l.switches keeps is.switches) (omega arith)

-- other logs, pieces and sets
refit : (r : TypedCatalog) (logs : List LogEntry) (pieces : List PieceEntry) (sets : List SetEntry) → IsTypedCatalog r
    → All (IsLogEntry r.ledger.tree) logs → All (IsPieceEntry r.ledger.tree r.ledger.files) pieces → All (IsSetEntry r.ledger.tree r.ledger.files) sets → AreIds 1 r.ledger.base.next_id logs pieces sets
    → length (ledger_records r.ledger) + length logs + length pieces + length sets ≤ 65536 + length r.ledger.logs + length r.ledger.pieces + length r.ledger.sets
    → ((s : Saved) → r.saved ≡ Some s → IsSaved r.ledger s → AreFree s logs pieces sets)
    → IsTypedCatalog (record r { ledger = record r.ledger { logs = logs; pieces = pieces; sets = sets } })
refit r logs pieces sets rules of-logs of-pieces of-sets ids room free =
    let is = rules.ledger in
    let old = many r.ledger in
    let new = many (record r.ledger { logs = logs; pieces = pieces; sets = sets }) in
    record {
      ledger = record { base = is.base; current = is.current; incarnations = is.incarnations; datafiles = is.datafiles; logs = of-logs; pieces = of-pieces; sets = of-sets; ids = ids; marks = is.marks; switches = is.switches; few = omega arith };
      saved = decide r.saved rules.saved (λ s some. free s some);
    }
  where
    decide : (o : Option Saved) → IfSome o (IsSaved r.ledger) → ((s : Saved) → o ≡ Some s → IsSaved r.ledger s → AreFree s logs pieces sets) → IfSome o (IsSaved (record r.ledger { logs = logs; pieces = pieces; sets = sets }))
    decide None none free = tt
    decide (Some s) is free =
        site_kept r.ledger (record r.ledger { logs = logs; pieces = pieces; sets = sets }) s (record { ids = omega arith; files = omega arith; there = λ i there. there }) is (free s refl is)

-- none of those that lack an id has it
other-id : {A : Type 0} (id : A → ℕ) (n : ℕ) (xs : List A) (x : A) → LacksId id n xs → Contains xs x → n ≡ id x → ⊥
other-id id n xs x lacks has same = All-contains (λ y. id y ≡ n → ⊥) xs x lacks has (sym same)

no-part-has : (r : TypedCatalog) (n : ℕ) (s : Saved) (p : PartEntry) → IsObjectId r n → r.saved ≡ Some s → Contains s.parts p → n ≡ p.id → ⊥
no-part-has r n s p is some has = other-id (λ q. q.id) n s.parts p (subst (λ (o : Option Saved). IfSome o (λ s. LacksId (λ q. q.id) n s.parts)) some is.parts) has

-- what is asked of objects that are put among the others or taken away
module _ (r : TypedCatalog) (rules : IsTypedCatalog r) where
  logs-for : (logs : List LogEntry) → All (IsLogEntry r.ledger.tree) logs → All (λ x. (1 ≤ x.id) × (x.id < r.ledger.base.next_id)) logs → AllPairs (λ x y. x.id < y.id) logs
      → ((p : PieceEntry) → Contains r.ledger.pieces p → (x : LogEntry) → Contains logs x → x.id ≡ p.id → ⊥) → ((e : SetEntry) → Contains r.ledger.sets e → (x : LogEntry) → Contains logs x → x.id ≡ e.id → ⊥)
      → length (ledger_records r.ledger) + length logs ≤ 65536 + length r.ledger.logs → ((s : Saved) → r.saved ≡ Some s → IsSaved r.ledger s → (p : PartEntry) → Contains s.parts p → (x : LogEntry) → Contains logs x → x.id ≡ p.id → ⊥)
      → IsTypedCatalog (record r { ledger = record r.ledger { logs = logs } })
  logs-for logs each within up pieces sets room parts =
      let is = rules.ledger in
      refit r logs r.ledger.pieces r.ledger.sets rules each is.pieces is.sets
      (record {
        logs = within;
        pieces = is.ids.pieces;
        sets = is.ids.sets;
        logs_ascend = up;
        pieces_ascend = is.ids.pieces_ascend;
        sets_ascend = is.ids.sets_ascend;
        apart = λ x p has other. pieces p other x has;
        logs_apart = λ x e has other. sets e other x has;
        pieces_apart = is.ids.pieces_apart;
      })
      (omega arith) (λ s some saved. record { logs = λ x p has other. parts s some saved p other x has; pieces = saved.pieces; sets = saved.sets })

  pieces-for : (pieces : List PieceEntry) → All (IsPieceEntry r.ledger.tree r.ledger.files) pieces → All (λ x. (1 ≤ x.id) × (x.id < r.ledger.base.next_id)) pieces → AllPairs (λ x y. x.id < y.id) pieces
      → ((e : LogEntry) → Contains r.ledger.logs e → (x : PieceEntry) → Contains pieces x → x.id ≡ e.id → ⊥) → ((e : SetEntry) → Contains r.ledger.sets e → (x : PieceEntry) → Contains pieces x → x.id ≡ e.id → ⊥)
      → length (ledger_records r.ledger) + length pieces ≤ 65536 + length r.ledger.pieces → ((s : Saved) → r.saved ≡ Some s → IsSaved r.ledger s → (p : PartEntry) → Contains s.parts p → (x : PieceEntry) → Contains pieces x → x.id ≡ p.id → ⊥)
      → IsTypedCatalog (record r { ledger = record r.ledger { pieces = pieces } })
  pieces-for pieces each within up logs sets room parts =
      let is = rules.ledger in
      refit r r.ledger.logs pieces r.ledger.sets rules is.logs each is.sets
      (record {
        logs = is.ids.logs;
        pieces = within;
        sets = is.ids.sets;
        logs_ascend = is.ids.logs_ascend;
        pieces_ascend = up;
        sets_ascend = is.ids.sets_ascend;
        apart = λ e x other has same. logs e other x has (sym same);
        logs_apart = is.ids.logs_apart;
        pieces_apart = λ x e has other. sets e other x has;
      })
      (omega arith) (λ s some saved. record { logs = saved.logs; pieces = λ x p has other. parts s some saved p other x has; sets = saved.sets })

  sets-for : (sets : List SetEntry) → All (IsSetEntry r.ledger.tree r.ledger.files) sets → All (λ x. (1 ≤ x.id) × (x.id < r.ledger.base.next_id)) sets → AllPairs (λ x y. x.id < y.id) sets
      → ((e : LogEntry) → Contains r.ledger.logs e → (x : SetEntry) → Contains sets x → x.id ≡ e.id → ⊥) → ((p : PieceEntry) → Contains r.ledger.pieces p → (x : SetEntry) → Contains sets x → x.id ≡ p.id → ⊥)
      → length (ledger_records r.ledger) + length sets ≤ 65536 + length r.ledger.sets → ((s : Saved) → r.saved ≡ Some s → IsSaved r.ledger s → (p : PartEntry) → Contains s.parts p → (x : SetEntry) → Contains sets x → x.id ≡ p.id → ⊥)
      → IsTypedCatalog (record r { ledger = record r.ledger { sets = sets } })
  sets-for sets each within up logs pieces room parts =
      let is = rules.ledger in
      refit r r.ledger.logs r.ledger.pieces sets rules is.logs is.pieces each
      (record {
        logs = is.ids.logs;
        pieces = is.ids.pieces;
        sets = within;
        logs_ascend = is.ids.logs_ascend;
        pieces_ascend = is.ids.pieces_ascend;
        sets_ascend = up;
        apart = is.ids.apart;
        logs_apart = λ e x other has same. logs e other x has (sym same);
        pieces_apart = λ p x other has same. pieces p other x has (sym same);
      })
      (omega arith) (λ s some saved. record { logs = saved.logs; pieces = saved.pieces; sets = λ x p has other. parts s some saved p other x has })

-- a log, put
pub log_fits : (r : TypedCatalog) (e : LogEntry) → IsTypedCatalog r → FitsLog r e → IsTypedCatalog (with_log r e)
log_fits r e rules fits =
    let is = rules.ledger in
    let l = r.ledger in
    let id = λ (x : LogEntry). x.id in
    logs-for r rules (with_one id e l.logs) (all-with id (IsLogEntry l.tree) e l.logs is.logs fits.log)
    (all-with id (λ x. (1 ≤ x.id) × (x.id < l.base.next_id)) e l.logs is.ids.logs fits.id.range) (ascend-with id e l.logs is.ids.logs_ascend)
    (λ p other. contains-with id (λ x. x.id ≡ p.id → ⊥) e l.logs (λ y was same. is.ids.apart y p was other same) (other-id (λ q. q.id) e.id l.pieces p fits.pieces other))
    (λ p other. contains-with id (λ x. x.id ≡ p.id → ⊥) e l.logs (λ y was same. is.ids.logs_apart y p was other same) (other-id (λ q. q.id) e.id l.sets p fits.sets other))
    (elim fits.room [
      | inl was ↦ let short = length-replaced id e l.logs is.ids.logs_ascend was in omega arith
      | inr room ↦ let short = length-with id e l.logs in omega arith
    ])
    (λ s some saved p other. contains-with id (λ x. x.id ≡ p.id → ⊥) e l.logs (λ y was. saved.logs y p was other) (no-part-has r e.id s p fits.id some other))

-- a piece, put
pub piece_fits : (r : TypedCatalog) (e : PieceEntry) → IsTypedCatalog r → FitsPiece r e → IsTypedCatalog (with_piece r e)
piece_fits r e rules fits =
    let is = rules.ledger in
    let l = r.ledger in
    let id = λ (x : PieceEntry). x.id in
    pieces-for r rules (with_one id e l.pieces) (all-with id (IsPieceEntry l.tree l.files) e l.pieces is.pieces fits.piece)
    (all-with id (λ x. (1 ≤ x.id) × (x.id < l.base.next_id)) e l.pieces is.ids.pieces fits.id.range) (ascend-with id e l.pieces is.ids.pieces_ascend)
    (λ p other. contains-with id (λ x. x.id ≡ p.id → ⊥) e l.pieces (λ y was same. is.ids.apart p y other was (sym same)) (other-id (λ q. q.id) e.id l.logs p fits.logs other))
    (λ p other. contains-with id (λ x. x.id ≡ p.id → ⊥) e l.pieces (λ y was same. is.ids.pieces_apart y p was other same) (other-id (λ q. q.id) e.id l.sets p fits.sets other))
    (elim fits.room [
      | inl was ↦ let short = length-replaced id e l.pieces is.ids.pieces_ascend was in omega arith
      | inr room ↦ let short = length-with id e l.pieces in omega arith
    ])
    (λ s some saved p other. contains-with id (λ x. x.id ≡ p.id → ⊥) e l.pieces (λ y was. saved.pieces y p was other) (no-part-has r e.id s p fits.id some other))

-- a set, put
pub set_fits : (r : TypedCatalog) (e : SetEntry) → IsTypedCatalog r → FitsSet r e → IsTypedCatalog (with_set r e)
set_fits r e rules fits =
    let is = rules.ledger in
    let l = r.ledger in
    let id = λ (x : SetEntry). x.id in
    sets-for r rules (with_one id e l.sets) (all-with id (IsSetEntry l.tree l.files) e l.sets is.sets fits.set)
    (all-with id (λ x. (1 ≤ x.id) × (x.id < l.base.next_id)) e l.sets is.ids.sets fits.id.range) (ascend-with id e l.sets is.ids.sets_ascend)
    (λ p other. contains-with id (λ x. x.id ≡ p.id → ⊥) e l.sets (λ y was same. is.ids.logs_apart p y other was (sym same)) (other-id (λ q. q.id) e.id l.logs p fits.logs other))
    (λ p other. contains-with id (λ x. x.id ≡ p.id → ⊥) e l.sets (λ y was same. is.ids.pieces_apart p y other was (sym same)) (other-id (λ q. q.id) e.id l.pieces p fits.pieces other))
    (elim fits.room [
      | inl was ↦ let short = length-replaced id e l.sets is.ids.sets_ascend was in omega arith
      | inr room ↦ let short = length-with id e l.sets in omega arith
    ])
    (λ s some saved p other. contains-with id (λ x. x.id ≡ p.id → ⊥) e l.sets (λ y was. saved.sets y p was other) (no-part-has r e.id s p fits.id some other))

-- a log, dropped
pub no_log_fits : (r : TypedCatalog) (n : ℕ) → IsTypedCatalog r → IsTypedCatalog (without_log r n)
no_log_fits r n rules =
    let is = rules.ledger in
    let l = r.ledger in
    let id = λ (x : LogEntry). x.id in
    let short = length-without id n l.logs in
    let few = is.few in
    logs-for r rules (without_one id n l.logs) (all-without id (IsLogEntry l.tree) n l.logs is.logs)
    (all-without id (λ x. (1 ≤ x.id) × (x.id < l.base.next_id)) n l.logs is.ids.logs) (ascend-without id n l.logs is.ids.logs_ascend)
    (λ p other. contains-without id (λ x. x.id ≡ p.id → ⊥) n l.logs (λ y was same. is.ids.apart y p was other same))
    (λ p other. contains-without id (λ x. x.id ≡ p.id → ⊥) n l.logs (λ y was same. is.ids.logs_apart y p was other same))
    (omega arith) (λ s some saved p other. contains-without id (λ x. x.id ≡ p.id → ⊥) n l.logs (λ y was. saved.logs y p was other))

-- a piece, dropped
pub no_piece_fits : (r : TypedCatalog) (n : ℕ) → IsTypedCatalog r → IsTypedCatalog (without_piece r n)
no_piece_fits r n rules =
    let is = rules.ledger in
    let l = r.ledger in
    let id = λ (x : PieceEntry). x.id in
    let short = length-without id n l.pieces in
    let few = is.few in
    pieces-for r rules (without_one id n l.pieces) (all-without id (IsPieceEntry l.tree l.files) n l.pieces is.pieces)
    (all-without id (λ x. (1 ≤ x.id) × (x.id < l.base.next_id)) n l.pieces is.ids.pieces) (ascend-without id n l.pieces is.ids.pieces_ascend)
    (λ p other. contains-without id (λ x. x.id ≡ p.id → ⊥) n l.pieces (λ y was same. is.ids.apart p y other was (sym same)))
    (λ p other. contains-without id (λ x. x.id ≡ p.id → ⊥) n l.pieces (λ y was same. is.ids.pieces_apart y p was other same))
    (omega arith) (λ s some saved p other. contains-without id (λ x. x.id ≡ p.id → ⊥) n l.pieces (λ y was. saved.pieces y p was other))

-- a set, dropped
pub no_set_fits : (r : TypedCatalog) (n : ℕ) → IsTypedCatalog r → IsTypedCatalog (without_set r n)
no_set_fits r n rules =
    let is = rules.ledger in
    let l = r.ledger in
    let id = λ (x : SetEntry). x.id in
    let short = length-without id n l.sets in
    let few = is.few in
    sets-for r rules (without_one id n l.sets) (all-without id (IsSetEntry l.tree l.files) n l.sets is.sets)
    (all-without id (λ x. (1 ≤ x.id) × (x.id < l.base.next_id)) n l.sets is.ids.sets) (ascend-without id n l.sets is.ids.sets_ascend)
    (λ p other. contains-without id (λ x. x.id ≡ p.id → ⊥) n l.sets (λ y was same. is.ids.logs_apart p y other was (sym same)))
    (λ p other. contains-without id (λ x. x.id ≡ p.id → ⊥) n l.sets (λ y was same. is.ids.pieces_apart p y other was (sym same)))
    (omega arith) (λ s some saved p other. contains-without id (λ x. x.id ≡ p.id → ⊥) n l.sets (λ y was. saved.sets y p was other))

-- A new object takes the next id.

-- with a higher next id
unfoldable pub with_next : TypedCatalog → ℕ → TypedCatalog
with_next r n = with_base r (record r.ledger.base { next_id = n })

pub next_fits : (r : TypedCatalog) (n : ℕ) → IsTypedCatalog r → r.ledger.base.next_id ≤ n → n ≤ 4294967295 → IsTypedCatalog (with_next r n)
unfolding with_next
next_fits r n rules up most =
    let is = rules.ledger in
    base_fits r (record r.ledger.base { next_id = n }) rules (record {
      facts = record { dbid = is.base.dbid; threads = is.base.threads; next_id = (omega arith, most); moment = is.base.moment; policy = is.base.policy; parallelism = is.base.parallelism };
      current = is.current;
      threads = refl;
      next_id = up;
      moment = omega arith;
    })

-- it is the id of no object, and of no part of a saved site
lacks-next : {A : Type 0} (id : A → ℕ) (n k : ℕ) (xs : List A) → k ≡ n → All (λ x. (1 ≤ id x) × (id x < n)) xs → LacksId id k xs
lacks-next id n k xs same ids = All-weaker (λ x. (1 ≤ id x) × (id x < n)) (λ x. id x ≡ k → ⊥) (λ x was clash. omega arith) xs ids

below-next : {A : Type 0} (id : A → ℕ) (n k : ℕ) (xs : List A) → k ≡ n → All (λ x. (1 ≤ id x) × (id x < n)) xs → All (λ x. id x < k) xs
below-next id n k xs same ids = All-weaker (λ x. (1 ≤ id x) × (id x < n)) (λ x. id x < k) (λ x was. omega arith) xs ids

next-id : (r : TypedCatalog) (k : ℕ) → IsTypedCatalog r → k ≡ r.ledger.base.next_id → IsObjectId (with_next r (r.ledger.base.next_id + 1)) k
unfolding with_next
next-id r k rules same = let some = rules.ledger.base.next_id.0 in record { range = (omega arith, omega arith); parts = decide r.saved rules.saved }
  where
    decide : (o : Option Saved) → IfSome o (IsSaved r.ledger) → IfSome o (λ s. LacksId (λ p. p.id) k s.parts)
    decide None none = tt
    decide (Some s) is = lacks-next (λ p. p.id) r.ledger.base.next_id k s.parts same (All-weaker (IsPartEntry r.ledger) (λ p. (1 ≤ p.id) × (p.id < r.ledger.base.next_id)) (λ p was. was.id) s.parts is.parts)

module _ (r : TypedCatalog) (rules : IsTypedCatalog r) where
  abbrev next : ℕ
  next = r.ledger.base.next_id

  -- a new object fits where its id was drawn, and then stands behind all others
  pub drawn-log : (e : LogEntry) → FitsNewLog r e → FitsLog (with_next r (next + 1)) e
  unfolding with_next
  drawn-log e fits = record { log = fits.log; id = next-id r e.id rules fits.id; pieces = lacks-next (λ p. p.id) next e.id r.ledger.pieces fits.id rules.ledger.ids.pieces; sets = lacks-next (λ x. x.id) next e.id r.ledger.sets fits.id rules.ledger.ids.sets; room = inr fits.room }

  pub log-last : (e : LogEntry) → FitsNewLog r e → with_log (with_next r (next + 1)) e ≡ with_new_log r e
  unfolding with_next
  log-last e fits =
      ap (λ (logs : List LogEntry). record r { ledger = record r.ledger { base = record r.ledger.base { next_id = next + 1 }; logs = logs } })
      (with-last (λ x. x.id) e r.ledger.logs (below-next (λ x. x.id) next e.id r.ledger.logs fits.id rules.ledger.ids.logs))

  pub drawn-piece : (e : PieceEntry) → FitsNewPiece r e → FitsPiece (with_next r (next + 1)) e
  unfolding with_next
  drawn-piece e fits = record { piece = fits.piece; id = next-id r e.id rules fits.id; logs = lacks-next (λ x. x.id) next e.id r.ledger.logs fits.id rules.ledger.ids.logs; sets = lacks-next (λ x. x.id) next e.id r.ledger.sets fits.id rules.ledger.ids.sets; room = inr fits.room }

  pub piece-last : (e : PieceEntry) → FitsNewPiece r e → with_piece (with_next r (next + 1)) e ≡ with_new_piece r e
  unfolding with_next
  piece-last e fits =
      ap (λ (pieces : List PieceEntry). record r { ledger = record r.ledger { base = record r.ledger.base { next_id = next + 1 }; pieces = pieces } })
      (with-last (λ x. x.id) e r.ledger.pieces (below-next (λ x. x.id) next e.id r.ledger.pieces fits.id rules.ledger.ids.pieces))

  pub drawn-set : (e : SetEntry) → FitsNewSet r e → FitsSet (with_next r (next + 1)) e
  unfolding with_next
  drawn-set e fits = record {
    set = fits.set;
    id = next-id r e.id rules fits.id;
    logs = lacks-next (λ x. x.id) next e.id r.ledger.logs fits.id rules.ledger.ids.logs;
    pieces = lacks-next (λ p. p.id) next e.id r.ledger.pieces fits.id rules.ledger.ids.pieces;
    room = inr fits.room;
  }

  pub set-last : (e : SetEntry) → FitsNewSet r e → with_set (with_next r (next + 1)) e ≡ with_new_set r e
  unfolding with_next
  set-last e fits =
      ap (λ (sets : List SetEntry). record r { ledger = record r.ledger { base = record r.ledger.base { next_id = next + 1 }; sets = sets } })
      (with-last (λ x. x.id) e r.ledger.sets (below-next (λ x. x.id) next e.id r.ledger.sets fits.id rules.ledger.ids.sets))

-- a new log, piece or set
pub new_log_fits : (r : TypedCatalog) (e : LogEntry) → IsTypedCatalog r → FitsNewLog r e → IsTypedCatalog (with_new_log r e)
new_log_fits r e rules fits =
    let n = r.ledger.base.next_id in
    subst IsTypedCatalog (log-last r rules e fits) (log_fits (with_next r (n + 1)) e (next_fits r (n + 1) rules (omega arith) (omega arith)) (drawn-log r rules e fits))

pub new_piece_fits : (r : TypedCatalog) (e : PieceEntry) → IsTypedCatalog r → FitsNewPiece r e → IsTypedCatalog (with_new_piece r e)
new_piece_fits r e rules fits =
    let n = r.ledger.base.next_id in
    subst IsTypedCatalog (piece-last r rules e fits) (piece_fits (with_next r (n + 1)) e (next_fits r (n + 1) rules (omega arith) (omega arith)) (drawn-piece r rules e fits))

pub new_set_fits : (r : TypedCatalog) (e : SetEntry) → IsTypedCatalog r → FitsNewSet r e → IsTypedCatalog (with_new_set r e)
new_set_fits r e rules fits =
    let n = r.ledger.base.next_id in
    subst IsTypedCatalog (set-last r rules e fits) (set_fits (with_next r (n + 1)) e (next_fits r (n + 1) rules (omega arith) (omega arith)) (drawn-set r rules e fits))
