-- The logs, pieces, sets and marks of a catalog are those of a ledger.
use Rattle.std.specs.{Prelude.{IsSomeAnd, IsTrue}, List.{filter_map}, Option.{option_map}}
use Rattle.std.proofs.Common.{◌≡◌, ◌∙◌, ℕ, ◌+◌, ◌-◌, ◌<◌, ◌≤◌, List, get_or, map, Option, Some, None, refl, ap, sym, subst, arith, All, Contains, slice_get}
use Rattle.std.proofs.lemmas.{Bool.{eqb-true}, List.{get_or-map, length-map, Elements.{All-contains, All-map, All-weaker, Contains-get_or}}}
use Rattle.std.proofs.lemmas.{List.Folds.{Any-from_list_any}, Option.{get_or_from_slice_get, slice_get-map}}
use Rattle.rm_base.{specs.declared.block.Mark.{Mark}, proofs.Lists.{map_to}}
use Rattle.rm_history.specs.{Tree.{IsThere}, declared.world.Datafile.{Datafile}}
use Rattle.rm_catalog.specs.{Keys.{base, datafile, log_in, piece_in, place, set_in}, Facts.{IsWithin, is_mark_of}}
use Rattle.rm_catalog.specs.{Objects.{IsRange, FitsDatafile}, Rules.{IsCatalog}, SetRules.{FitsSetFile, SetPartRule}, Trees.{nodes}}
use Rattle.rm_catalog.specs.declared.record.{BaseEntry.{BaseEntry}, DatafileEntry.{DatafileEntry}, LogEntry.{LogEntry}}
use Rattle.rm_catalog.specs.declared.record.{MarkEntry.{MarkEntry}, PieceEntry.{PieceEntry}, Record.{Record}, SetEntry.{SetEntry}}
use Rattle.rm_catalog.{specs.declared.record.SetPart.{SetPart}, proofs.{ByKinds.{free-in}, Trees.{path_is}, Telling.{record-told}}}
use Rattle.rm_catalog.proofs.{Datafiles.{datafile-rule, datafile-there}, DatafileNumbers.{entries, entry-is}, Incarnations.{entry-of}}
use Rattle.rm_catalog.specs.declared.record.Record.TheVariants as records
use Rattle.rm_evidence.{specs.Database.{created_by, datafiles}, proofs.Files.{datafiles-are}}
use Rattle.rm_catalog_typed.specs.LedgerFacts.{AreIds, AreMarks, HasMark, IsBase, IsLogEntry, IsMark, IsPieceEntry, IsSetEntry, IsSetPart, Rise}
use Rattle.rm_catalog_typed.{specs.Kinds.{AreSmall, marked_by}, proofs.ByKind.{is-log, is-piece, is-set, made, told-in-order}}
use Rattle.rm_catalog_typed.proofs.Lookups.{item-at}
use Rattle.rm_catalog_typed.proofs.Marks.{mark-rule, moments-rise, entries as mark_entries, entry-record as mark-record}
use Rattle.rm_catalog_typed.proofs.Told.{base-rule, has-key, log-rule, on-base, on-incarnation, piece-rule, set-rule}

module _ (rs : List Record) (b : BaseEntry) (c : IsCatalog rs) (is : base rs ≡ Some b) where
  log-fits : (e : LogEntry) → Contains (filter_map log_in rs) e → IsLogEntry (nodes rs) e
  log-fits e has =
      let rule = log-rule rs e c has in
      let on = on-incarnation rs e.inc (IsRange e) c rule.range in
      record {
        there = on.there;
        thread = rule.thread;
        sequence = rule.sequence;
        range = (omega arith, on.holds.some, omega arith);
        size = rule.size;
      }

  pub logs-fit : All (IsLogEntry (nodes rs)) (filter_map log_in rs)
  logs-fit k d lt = log-fits (get_or (filter_map log_in rs) k d) (Contains-get_or (filter_map log_in rs) k d lt)

  -- a datafile of which something holds
  record OnFile (file : ℕ) (P : DatafileEntry → Type 0) : Type 0 where
    pub some : 0 < file
    pub entry : DatafileEntry
    pub found : slice_get (datafiles rs) (file - 1) ≡ Some (created_by entry)
    pub holds : P entry

  on-file : (file : ℕ) (P : DatafileEntry → Type 0) → IsSomeAnd (datafile file rs) P → OnFile file P
  on-file file P some = decide (datafile file rs) refl some
    where
      decide : (o : Option DatafileEntry) → datafile file rs ≡ o → IsSomeAnd o P → OnFile file P
      decide None e some = absurd some
      decide (Some f) e holds =
          let there = datafile-there rs file f c e in
          let number = (datafile-rule rs f c there.0).number.0 in
          let next : file ≡ (file - 1) + 1 = omega arith in
          record {
            some = omega arith;
            entry = f;
            found = ap (λ (x : List Datafile). slice_get x (file - 1)) (datafiles-are rs) ∙ slice_get-map created_by (entries rs) (file - 1) ∙ ap (option_map created_by) (entry-is rs (file - 1) file c next ∙ e);
            holds = holds;
          }

  piece-fits : (p : PieceEntry) → Contains (filter_map piece_in rs) p → IsPieceEntry (nodes rs) (datafiles rs) p
  piece-fits p has =
      let rule = piece-rule rs p c has in
      let on = on-incarnation rs p.inc (λ i. p.high ≤ i.end) c rule.end in
      let f = on-file p.file (FitsDatafile rs p) rule.file in
      record {
        there = on.there;
        file = record { number = f.some; datafile = created_by f.entry; is = f.found; path = sym (path_is rs p.inc f.entry.creation c on.there) ∙ f.holds.path; rows = f.holds.rows };
        checkpoint = rule.checkpoint;
        high = omega arith;
        kind = rule.kind;
        tag = rule.tag;
        size = rule.size;
      }

  pub pieces-fit : All (IsPieceEntry (nodes rs) (datafiles rs)) (filter_map piece_in rs)
  pieces-fit k d lt = piece-fits (get_or (filter_map piece_in rs) k d) (Contains-get_or (filter_map piece_in rs) k d lt)

  -- the first part of a set tells its incarnation
  set-there : (e : SetEntry) → Contains (filter_map set_in rs) e → IsThere (nodes rs) e.inc
  set-there e has =
      let parts = (set-rule rs e c has).parts in
      let some = parts.some in
      let first = item-at e.parts 0 (omega arith) in
      let end = (All-contains (SetPartRule rs e) e.parts first.0 parts.each (0, omega arith, get_or_from_slice_get e.parts 0 first.0 first.0 first.1)).end in
      (on-incarnation rs e.inc (λ i. first.0.high ≤ i.end) c end).there

  set-part-fits : (e : SetEntry) (p : SetPart) → IsThere (nodes rs) e.inc → SetPartRule rs e p → IsSetPart (nodes rs) (datafiles rs) e p
  set-part-fits e p there rule =
      let on = on-incarnation rs e.inc (λ i. p.high ≤ i.end) c rule.end in
      let f = on-file p.file (FitsSetFile rs e p) rule.file in
      record {
        number = f.some;
        datafile = created_by f.entry;
        is = f.found;
        path = sym (path_is rs e.inc f.entry.creation c there) ∙ f.holds.path;
        creation = f.holds.creation;
        rows = f.holds.rows;
        kind = rule.kind;
        high = (rule.high, omega arith);
      }

  set-fits : (e : SetEntry) → Contains (filter_map set_in rs) e → IsSetEntry (nodes rs) (datafiles rs) e
  set-fits e has =
      let rule = set-rule rs e c has in
      let there = set-there e has in
      record {
        there = there;
        checkpoint = rule.checkpoint;
        count = (rule.parts.some, rule.parts.few);
        ascend = rule.parts.ascend;
        parts = All-weaker (SetPartRule rs e) (IsSetPart (nodes rs) (datafiles rs) e) (λ p own. set-part-fits e p there own) e.parts rule.parts.each;
        tag = rule.tag;
        size = rule.size;
      }

  pub sets-fit : All (IsSetEntry (nodes rs) (datafiles rs)) (filter_map set_in rs)
  sets-fit k d lt = set-fits (get_or (filter_map set_in rs) k d) (Contains-get_or (filter_map set_in rs) k d lt)

  pub ids-fit : AreIds 1 b.next_id (filter_map log_in rs) (filter_map piece_in rs) (filter_map set_in rs)
  ids-fit = record {
    logs = λ k d lt.
        let e = get_or (filter_map log_in rs) k d in
        let rule = log-rule rs e c (Contains-get_or (filter_map log_in rs) k d lt) in
        (rule.id.number, on-base rs b (λ b. e.id < b.next_id) is rule.id.below);
    pieces = λ k d lt.
        let e = get_or (filter_map piece_in rs) k d in
        let rule = piece-rule rs e c (Contains-get_or (filter_map piece_in rs) k d lt) in
        (rule.id.number, on-base rs b (λ b. e.id < b.next_id) is rule.id.below);
    sets = λ k d lt.
        let e = get_or (filter_map set_in rs) k d in
        let rule = set-rule rs e c (Contains-get_or (filter_map set_in rs) k d lt) in
        (rule.id.number, on-base rs b (λ b. e.id < b.next_id) is rule.id.below);
    logs_ascend = told-in-order records.Log log_in 4 is-log (λ e. e.id) (λ e. refl) rs c;
    pieces_ascend = told-in-order records.Piece piece_in 5 is-piece (λ p. p.id) (λ p. refl) rs c;
    sets_ascend = told-in-order records.Set set_in 9 is-set (λ e. e.id) (λ e. refl) rs c;
    apart = λ e p has other same.
        free-in rs 4 e.id 5 (log-rule rs e c has).id refl refl (has-key rs (records.Piece p) 5 e.id c (made records.Piece piece_in 5 is-piece rs p other) (ap (place 5) (sym same)));
    logs_apart = λ e s has other same.
        free-in rs 4 e.id 9 (log-rule rs e c has).id refl refl (has-key rs (records.Set s) 9 e.id c (made records.Set set_in 9 is-set rs s other) (ap (place 9) (sym same)));
    pieces_apart = λ p s has other same.
        free-in rs 5 p.id 9 (piece-rule rs p c has).id refl refl (has-key rs (records.Set s) 9 p.id c (made records.Set set_in 9 is-set rs s other) (ap (place 9) (sym same)));
  }

  -- the marks
  mark-fits : (m : MarkEntry) → Contains (mark_entries rs) m → IsMark (nodes rs) b.moment (marked_by m)
  mark-fits m has =
      let rule = mark-rule rs m c (mark-record rs m has) in
      let on = on-incarnation rs m.inc (IsWithin m.scn) c rule.scn in
      record {
        there = on.there;
        scn = (omega arith, omega arith);
        moment = on-base rs b (λ b. m.moment ≤ b.moment) is rule.moment;
      }

  -- a record that is a mark of the incarnation
  is-of : (i : ℕ) (r : Record) → Contains rs r → IsTrue (is_mark_of i r) → HasMark (map marked_by (mark_entries rs)) i
  is-of i (records.Mark x) has yes_ = (marked_by x, map_to marked_by (mark_entries rs) x (record-told _ rs (records.Mark x) x has refl), eqb-true x.inc i yes_)
  is-of i r has yes_ = absurd cc

  has-mark : (i : ℕ) → IsThere (nodes rs) i → HasMark (map marked_by (mark_entries rs)) i
  has-mark i there =
      let e = entry-of rs i c there in
      let any = Any-from_list_any (is_mark_of e.entry.inc) rs e.rule.mark in
      subst (HasMark (map marked_by (mark_entries rs))) e.number (is-of e.entry.inc any.1 (any.0, any.2, any.3) any.4)

  rise : AreSmall rs → Rise (map marked_by (mark_entries rs))
  rise small i j d less inside =
      let n = length-map (mark_entries rs) marked_by in
      let k = mark_of d in
      let up = moments-rise rs c small i j k (omega arith) (omega arith) in
      let low = get_or-map marked_by (mark_entries rs) i k d (omega arith) in
      let high = get_or-map marked_by (mark_entries rs) j k d (omega arith) in
      let from = ap (λ (m : Mark). m.moment) low in
      let to = ap (λ (m : Mark). m.moment) high in
      omega arith
    where
      mark_of : Mark → MarkEntry
      mark_of m = record { id = 0; moment = m.moment; inc = m.inc; scn = m.scn }

  pub marks-fit : AreSmall rs → AreMarks (nodes rs) b.moment (map marked_by (mark_entries rs))
  marks-fit small = record {
    each = All-map (IsMark (nodes rs) b.moment) marked_by (mark_entries rs) (λ k d lt. mark-fits (get_or (mark_entries rs) k d) (Contains-get_or (mark_entries rs) k d lt));
    rise = rise small;
    some = has-mark;
  }

  pub base-fits : b.next_id ≤ 4294967295 → IsBase b
  base-fits small =
      let rule = base-rule rs b c is in
      record { dbid = rule.dbid; threads = rule.threads; next_id = (rule.next_id, small); moment = rule.moment; policy = rule.policy; parallelism = rule.parallelism }
