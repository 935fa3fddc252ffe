-- The edit of each change makes the records follow.
use Rattle.std.specs.{Prelude.{IfSome, nat_lt}, List.{filter}}
use Rattle.std.proofs.Common.{◌≡◌, ◌∙◌, ℕ, ◌+◌, ◌-◌, ◌<◌, ◌≤◌, inl, inr, suc, Bool, true, false, cond, get_or, List, [], ◌∷◌, ◌++◌, Option, Some, None, refl, ap, sym, subst, arith, length, map, All}
use Rattle.std.proofs.lemmas.{Bool.{cases_lt, lt-ltb, le-ltb}, List.{append-nil, append_assoc, map-append}}
use Rattle.std.proofs.lemmas.List.Elements.{All-nil, All-cons, All-map, All-push, All-weaker}
use Rattle.rm_base.specs.{Numbers.{last_scn}, declared.block.Mark.{Mark}}
use Rattle.rm_history.specs.{Tree.{IsThere, branched, parent_of, reset_of, end_of}, declared.tree.Incarnation.{Incarnation}}
use Rattle.rm_history.specs.declared.world.Datafile.{Datafile}
use Rattle.rm_catalog.specs.{Edits.{above, after_edit, after_edits, below, place_of_edit}, Keys.{place, place_of, place_of_key}}
use Rattle.rm_catalog.specs.declared.record.{BaseEntry.{BaseEntry}, Edit.{Edit, TheVariants.{Put, Drop}}, HeadEntry.{HeadEntry}, Key.{Key}}
use Rattle.rm_catalog.specs.declared.record.{LogEntry.{LogEntry}, PartEntry.{PartEntry}, PieceEntry.{PieceEntry}, Record.{Record}}
use Rattle.rm_catalog.specs.declared.record.SetEntry.{SetEntry}
use Rattle.rm_catalog.proofs.Filters.{above_all, above_append, above_none, after_both, below_none}
use Rattle.rm_catalog.proofs.PartEdits.{IsPart, more_part, part_then, put_part}
use Rattle.rm_catalog.proofs.Running.{Runs, runs-append, runs-lower, runs-objects, runs-within}
use Rattle.rm_catalog.specs.declared.record.Record.TheVariants as kind
use Rattle.rm_catalog_typed.specs.Ledger.{incarnation_record, datafile_record, mark_record, switch_record}
use Rattle.rm_catalog_typed.specs.Changes.{EditsFollow, higher, lower, with_base, with_end_at, with_file, with_incarnation, with_log, with_mark, with_new_log, with_new_piece, with_new_set, with_one, with_piece, with_set, with_switch, without_log, without_one, without_piece, without_set, part_drop, saved_edits, unsaved_edits, with_saved, without_saved}
use Rattle.rm_catalog_typed.specs.Facts.{IsTypedCatalog, IsSaved}
use Rattle.rm_catalog_typed.specs.Fitting.{FitsBranch, FitsFile, FitsLog, FitsMark, FitsNewLog, FitsNewPiece, FitsNewSet, FitsPiece, FitsSet, FitsSwitch}
use Rattle.rm_catalog_typed.specs.TypedCatalog.{TypedCatalog, Saved, records_of, saved_records}
use Rattle.rm_catalog_typed.specs.declared.thread_switch.ThreadSwitch.{ThreadSwitch}
use Rattle.rm_catalog_typed.proofs.Order.{incarnations_of, datafiles_of, logs_of, pieces_of, marks_of, sets_of, switch_records, incarnations-run, datafiles-run, logs-run, pieces-run, marks-run, sets-run, switches-run, marks-few, switches-few}
use Rattle.rm_catalog_typed.proofs.Sections.{numbered_part, replaced}
use Rattle.rm_catalog_typed.proofs.Fitted.{branch_fits, drawn-log, drawn-piece, drawn-set, end_fits, file_fits, log-last, log_fits, mark_fits, next_fits, no_log_fits, no_piece_fits, no_set_fits, piece-last, piece_fits, set-last, set_fits, switch_fits, with_next}

-- a part without edits
same_part : (low high : ℕ) (rs : List Record) → Runs low high rs → IsPart low high [] rs rs
same_part low high rs up = record {
  from = All-nil (λ (e : Edit). low ≤ place_of_edit e);
  upto = All-nil (λ (e : Edit). place_of_edit e < high);
  old_from = λ k d lt. (runs-within low high rs up k d lt).0;
  new_upto = λ k d lt. (runs-within low high rs up k d lt).1;
  same = refl;
}

drop_part : (low high : ℕ) (key : Key) (old new : List Record) → (low ≤ place_of_key key) × (place_of_key key < high) → Runs low high old → Runs low high new → after_edit (Drop key) old ≡ new → IsPart low high (Drop key ∷ []) old new
drop_part low high key old new within up down same = record {
  from = All-cons (λ (e : Edit). low ≤ place_of_edit e) (Drop key) [] within.0 (All-nil (λ (e : Edit). low ≤ place_of_edit e));
  upto = All-cons (λ (e : Edit). place_of_edit e < high) (Drop key) [] within.1 (All-nil (λ (e : Edit). place_of_edit e < high));
  old_from = λ k d lt. (runs-within low high old up k d lt).0;
  new_upto = λ k d lt. (runs-within low high new down k d lt).1;
  same = same;
}

-- the records of a saved site run on behind all others but those of sets
pub saved-run : (r : TypedCatalog) → IsTypedCatalog r → Runs (place 7 0) (place 9 0) (saved_records r.saved)
unfolding Runs
saved-run r is = decide r.saved is.saved
  where
    decide : (o : Option Saved) → IfSome o (IsSaved r.ledger) → Runs (place 7 0) (place 9 0) (saved_records o)
    decide None none = omega arith
    decide (Some s) fits =
        let parts = runs-objects kind.Part (λ p. p.id) 7 1 s.parts (λ p. refl) (λ k d lt. let e = (fits.parts k d lt).id in let high = e.1 in (e.0, omega arith)) (λ i j d less lt. (fits.apart i j d less lt).ids) in
        runs-lower (place 7 0) (place 7 1) (place 9 0) (map kind.Part s.parts ++ kind.Head s.head ∷ []) (omega arith)
        (runs-append (place 7 1) (place 8 0) (place 9 0) (map kind.Part s.parts) (kind.Head s.head ∷ []) parts (omega arith, omega arith))

abbrev base_of : TypedCatalog → List Record
base_of r = kind.Base r.ledger.base ∷ []

-- edits that make others of these records, all from `low` up to, and without, `high`
record Part (low high : ℕ) (old : List Record) : Type 0 where
  pub edits : List Edit
  pub new : List Record
  pub is : IsPart low high edits old new

-- the same kind by kind
record Parts (r : TypedCatalog) : Type 0 where
  pub base : Part (place 1 0) (place 2 0) (base_of r)
  pub tree : Part (place 2 1) (place 3 0) (incarnations_of r.ledger)
  pub files : Part (place 3 1) (place 4 0) (datafiles_of r.ledger)
  pub logs : Part (place 4 1) (place 5 0) (logs_of r.ledger)
  pub pieces : Part (place 5 1) (place 6 0) (pieces_of r.ledger)
  pub marks : Part (place 6 1) (place 7 0) (marks_of r.ledger)
  pub site : Part (place 7 0) (place 9 0) (saved_records r.saved)
  pub sets : Part (place 9 1) (place 10 0) (sets_of r.ledger)
  pub switches : Part (place 10 1) (place 11 0) (switch_records r.ledger)

abbrev all-edits : (r : TypedCatalog) → Parts r → List Edit
all-edits r p = ((p.base.edits ++ ((((p.tree.edits ++ p.files.edits) ++ p.logs.edits) ++ p.pieces.edits) ++ p.marks.edits)) ++ p.site.edits) ++ (p.sets.edits ++ p.switches.edits)

abbrev all-new : (r : TypedCatalog) → Parts r → List Record
all-new r p = ((p.base.new ++ ((((p.tree.new ++ p.files.new) ++ p.logs.new) ++ p.pieces.new) ++ p.marks.new)) ++ p.site.new) ++ (p.sets.new ++ p.switches.new)

by-parts : (r : TypedCatalog) (p : Parts r) → after_edits (all-edits r p) (records_of r) ≡ all-new r p
by-parts r p =
    let two = part_then (place 2 1) (place 3 0) (place 3 1) (place 4 0) _ _ _ _ _ _ (omega arith) (omega arith) (omega arith) p.tree.is p.files.is in
    let three = part_then (place 2 1) (place 4 0) (place 4 1) (place 5 0) _ _ _ _ _ _ (omega arith) (omega arith) (omega arith) two p.logs.is in
    let four = part_then (place 2 1) (place 5 0) (place 5 1) (place 6 0) _ _ _ _ _ _ (omega arith) (omega arith) (omega arith) three p.pieces.is in
    let five = part_then (place 2 1) (place 6 0) (place 6 1) (place 7 0) _ _ _ _ _ _ (omega arith) (omega arith) (omega arith) four p.marks.is in
    let six = part_then (place 1 0) (place 2 0) (place 2 1) (place 7 0) _ _ _ _ _ _ (omega arith) (omega arith) (omega arith) p.base.is five in
    let seven = part_then (place 1 0) (place 7 0) (place 7 0) (place 9 0) _ _ _ _ _ _ (omega arith) (omega arith) (omega arith) six p.site.is in
    let back = part_then (place 9 1) (place 10 0) (place 10 1) (place 11 0) _ _ _ _ _ _ (omega arith) (omega arith) (omega arith) p.sets.is p.switches.is in
    let all = part_then (place 1 0) (place 9 0) (place 9 1) (place 11 0) _ _ _ _ _ _ (omega arith) (omega arith) (omega arith) seven back in
    all.same

base-run : (b : BaseEntry) → Runs (place 1 0) (place 2 0) (kind.Base b ∷ [])
unfolding Runs
base-run b = (omega arith, omega arith)

-- the first mark of a new incarnation
abbrev first_mark : TypedCatalog → ℕ → ℕ → Mark
first_mark r at moment = record { moment = moment; inc = length r.ledger.tree + 1; scn = at }

-- what stays
abbrev kept : (low high : ℕ) (rs : List Record) → Runs low high rs → Part low high rs
kept low high rs up = record { edits = []; new = rs; is = same_part low high rs up }

abbrev keep : (r : TypedCatalog) → IsTypedCatalog r → Parts r
keep r is = record {
  base = kept (place 1 0) (place 2 0) (base_of r) (base-run r.ledger.base);
  tree = kept (place 2 1) (place 3 0) (incarnations_of r.ledger) (incarnations-run r.ledger is.ledger);
  files = kept (place 3 1) (place 4 0) (datafiles_of r.ledger) (datafiles-run r.ledger is.ledger);
  logs = kept (place 4 1) (place 5 0) (logs_of r.ledger) (logs-run r.ledger is.ledger);
  pieces = kept (place 5 1) (place 6 0) (pieces_of r.ledger) (pieces-run r.ledger is.ledger);
  marks = kept (place 6 1) (place 7 0) (marks_of r.ledger) (marks-run r.ledger is.ledger);
  site = kept (place 7 0) (place 9 0) (saved_records r.saved) (saved-run r is);
  sets = kept (place 9 1) (place 10 0) (sets_of r.ledger) (sets-run r.ledger is.ledger);
  switches = kept (place 10 1) (place 11 0) (switch_records r.ledger) (switches-run r.ledger is.ledger);
}

same-order : (a b c d : ℕ) → (a < b → c < d) → (b ≤ a → d ≤ c) → nat_lt a b ≡ nat_lt c d
same-order a b c d up down = elim (cases_lt a b) [ inl less ↦ lt-ltb a b less ∙ sym (lt-ltb c d (up less)) | inr le ↦ le-ltb a b le ∙ sym (le-ltb c d (down le)) ]

-- Objects whose ids ascend: what stands below the place of an id, and above it.
module _ {A : Type 0} (make : A → Record) (id : A → ℕ) (of n : ℕ) (is-at : (x : A) → place_of (make x) ≡ place of (id x)) (small : n ≤ 4294967295) where
  -- two tests that agree keep the same
  filter-made : (p : Record → Bool) (q : A → Bool) (xs : List A) → All (λ x. p (make x) ≡ q x) xs → filter p (map make xs) ≡ map make (filter q xs)
  filter-made p q [] same = refl
  filter-made p q (x ∷ xs) same = decide (p (make x)) (q x) (same 0 x (omega arith)) (filter-made p q xs (λ k d lt. same (suc k) d (omega arith)))
    where
      decide : (a b : Bool) → a ≡ b → filter p (map make xs) ≡ map make (filter q xs) → cond a (make x ∷ filter p (map make xs)) (filter p (map make xs)) ≡ map make (cond b (x ∷ filter q xs) (filter q xs))
      decide true true e back = ap (λ rs. make x ∷ rs) back
      decide false false e back = back
      decide a b e back = absurd (cc)

  below-is : (xs : List A) → All (λ y. id y < 4294967295) xs → below (place of n) (map make xs) ≡ map make (lower id n xs)
  below-is xs few = filter-made (λ r. nat_lt (place_of r) (place of n)) (λ y. nat_lt (id y) n) xs (λ k d lt.
      let here = is-at (get_or xs k d) in let fits = few k d lt in same-order (place_of (make (get_or xs k d))) (place of n) (id (get_or xs k d)) n (λ less. omega arith) (λ le. omega arith))

  above-is : (xs : List A) → All (λ y. id y < 4294967295) xs → above (place of n) (map make xs) ≡ map make (higher id n xs)
  above-is xs few = filter-made (λ r. nat_lt (place of n) (place_of r)) (λ y. nat_lt n (id y)) xs (λ k d lt.
      let here = is-at (get_or xs k d) in let fits = few k d lt in same-order (place of n) (place_of (make (get_or xs k d))) n (id (get_or xs k d)) (λ less. omega arith) (λ le. omega arith))

  put-one : (x : A) → id x ≡ n → (xs : List A) → All (λ y. id y < 4294967295) xs → after_edit (Put (make x)) (map make xs) ≡ map make (lower id n xs ++ x ∷ higher id n xs)
  put-one x same xs few =
      let at : place_of (make x) ≡ place of n = is-at x ∙ ap (place of) same in
      ap (λ p. below p (map make xs) ++ make x ∷ above p (map make xs)) at
      ∙ ap (λ rs. rs ++ make x ∷ above (place of n) (map make xs)) (below-is xs few)
      ∙ ap (λ rs. map make (lower id n xs) ++ make x ∷ rs) (above-is xs few)
      ∙ sym (map-append make (lower id n xs) (x ∷ higher id n xs))

  drop-one : (key : Key) → place_of_key key ≡ place of n → (xs : List A) → All (λ y. id y < 4294967295) xs → after_edit (Drop key) (map make xs) ≡ map make (lower id n xs ++ higher id n xs)
  drop-one key at xs few =
      ap (λ p. below p (map make xs) ++ above p (map make xs)) at
      ∙ ap (λ rs. rs ++ above (place of n) (map make xs)) (below-is xs few)
      ∙ ap (λ rs. map make (lower id n xs) ++ rs) (above-is xs few)
      ∙ sym (map-append make (lower id n xs) (higher id n xs))

  -- the edit of one of them is a part
  abbrev put-part : (x : A) → id x ≡ n → 1 ≤ n → (xs : List A) → All (λ y. id y < 4294967295) xs → Runs (place of 1) (place (of + 1) 0) (map make xs) → Runs (place of 1) (place (of + 1) 0) (map make (with_one id x xs))
      → Part (place of 1) (place (of + 1) 0) (map make xs)
  put-part x same some xs few up down = record {
    edits = Put (make x) ∷ [];
    new = map make (with_one id x xs);
    is =
        let at = is-at x in
        put_part (place of 1) (place (of + 1) 0) (make x) (map make xs) (map make (with_one id x xs)) (omega arith, omega arith) up down
        (subst (λ k. after_edit (Put (make x)) (map make xs) ≡ map make (lower id k xs ++ x ∷ higher id k xs)) (sym same) (put-one x same xs few));
  }

  abbrev drop-part : 1 ≤ n → (xs : List A) → All (λ y. id y < 4294967295) xs → Runs (place of 1) (place (of + 1) 0) (map make xs) → Runs (place of 1) (place (of + 1) 0) (map make (without_one id n xs))
      → Part (place of 1) (place (of + 1) 0) (map make xs)
  drop-part some xs few up down = record {
    edits = Drop (record { kind = of; id = n }) ∷ [];
    new = map make (without_one id n xs);
    is = drop_part (place of 1) (place (of + 1) 0) (record { kind = of; id = n }) (map make xs) (map make (without_one id n xs)) (omega arith, omega arith) up down (drop-one (record { kind = of; id = n }) refl xs few);
  }

-- what is added to edits
follows-of : (old new : List Edit) (r s t : TypedCatalog) (p : Parts r) → all-new r p ≡ records_of s → new ≡ old ++ all-edits r p → t ≡ s → EditsFollow old new r t
follows-of old new r s t p same is out = record {
  lead = λ rs from.
      ap (λ (x : List Edit). after_edits x rs) is ∙ after_both old (all-edits r p) rs ∙ ap (after_edits (all-edits r p)) from ∙ by-parts r p ∙ same ∙ sym (ap (λ (x : TypedCatalog). records_of x) out);
}

-- a change after another one
pub follows-then : (old mid new : List Edit) (r s t : TypedCatalog) → EditsFollow old mid r s → EditsFollow mid new s t → EditsFollow old new r t
follows-then old mid new r s t first then = record { lead = λ rs from. then.lead rs (first.lead rs from) }

-- the edits of each change
module _ (old new : List Edit) (r t : TypedCatalog) (is : IsTypedCatalog r) where
  pub follows_base : (b : BaseEntry) → new ≡ old ++ Put (kind.Base b) ∷ [] → t ≡ with_base r b → EditsFollow old new r t
  follows_base b =
      follows-of old new r (with_base r b) t (record (keep r is) {
        base = record { edits = Put (kind.Base b) ∷ []; new = kind.Base b ∷ []; is = put_part (place 1 0) (place 2 0) (kind.Base b) (base_of r) (kind.Base b ∷ []) (omega arith, omega arith) (base-run r.ledger.base) (base-run b) refl };
      }) refl

  pub follows_end : (i end : ℕ) → IsThere r.ledger.tree i → end_of r.ledger.tree i ≤ end → end ≤ last_scn
      → new ≡ old ++ Put (incarnation_record i (record { parent = parent_of r.ledger.tree i; reset = reset_of r.ledger.tree i; end = end })) ∷ [] → t ≡ with_end_at r i end → EditsFollow old new r t
  follows_end i end there up last =
      let n : Incarnation = record { parent = parent_of r.ledger.tree i; reset = reset_of r.ledger.tree i; end = end } in
      let after = end_fits r i end is there up last in
      follows-of old new r (with_end_at r i end) t (record (keep r is) {
        tree = record {
          edits = Put (incarnation_record i n) ∷ [];
          new = incarnations_of (with_end_at r i end).ledger;
          is =
              put_part (place 2 1) (place 3 0) (incarnation_record i n) (incarnations_of r.ledger) (incarnations_of (with_end_at r i end).ledger) (omega arith, omega arith) (incarnations-run r.ledger is.ledger) (incarnations-run (with_end_at r i end).ledger after.ledger)
              (replaced n r.ledger.tree 1 (i - 1) i (omega arith) (omega arith) (omega arith));
        };
      }) refl

  pub follows_file : (d : Datafile) → FitsFile r d → new ≡ old ++ Put (datafile_record (length r.ledger.files + 1) d) ∷ [] → t ≡ with_file r d → EditsFollow old new r t
  follows_file d fits =
      let after = file_fits r d is fits in
      follows-of old new r (with_file r d) t (record (keep r is) {
        files = record { edits = Put (datafile_record (length r.ledger.files + 1) d) ∷ []; new = datafiles_of (with_file r d).ledger; is = numbered_part datafile_record 3 r.ledger.files (d ∷ []) (λ k x. refl) (omega arith) };
      }) refl

  pub follows_mark : (m : Mark) → FitsMark r m → new ≡ old ++ Put (mark_record (length r.ledger.marks + 1) m) ∷ [] → t ≡ with_mark r m → EditsFollow old new r t
  follows_mark m fits =
      let after = mark_fits r m is fits in
      let most = marks-few (with_mark r m).ledger in
      follows-of old new r (with_mark r m) t (record (keep r is) {
        marks = record { edits = Put (mark_record (length r.ledger.marks + 1) m) ∷ []; new = marks_of (with_mark r m).ledger; is = numbered_part mark_record 6 r.ledger.marks (m ∷ []) (λ k x. refl) (omega arith) };
      }) refl

  pub follows_switch : (x : ThreadSwitch) → FitsSwitch r x → new ≡ old ++ Put (switch_record (length r.ledger.switches + 1) x) ∷ [] → t ≡ with_switch r x → EditsFollow old new r t
  follows_switch x fits =
      let after = switch_fits r x is fits in
      let most = switches-few (with_switch r x).ledger in
      follows-of old new r (with_switch r x) t (record (keep r is) {
        switches = record { edits = Put (switch_record (length r.ledger.switches + 1) x) ∷ []; new = switch_records (with_switch r x).ledger; is = numbered_part switch_record 10 r.ledger.switches (x ∷ []) (λ k y. refl) (omega arith) };
      }) refl

  pub follows_branch : (parent at moment : ℕ) → FitsBranch r parent at moment
      → new ≡ old ++ Put (incarnation_record (length r.ledger.tree + 1) (branched parent at)) ∷ Put (mark_record (length r.ledger.marks + 1) (first_mark r at moment)) ∷ [] → t ≡ with_incarnation r parent at moment → EditsFollow old new r t
  follows_branch parent at moment fits =
      let after = branch_fits r parent at moment is fits in
      let most = marks-few (with_incarnation r parent at moment).ledger in
      follows-of old new r (with_incarnation r parent at moment) t (record (keep r is) {
        tree = record { edits = Put (incarnation_record (length r.ledger.tree + 1) (branched parent at)) ∷ []; new = incarnations_of (with_incarnation r parent at moment).ledger; is = numbered_part incarnation_record 2 r.ledger.tree (branched parent at ∷ []) (λ k x. refl) (omega arith) };
        marks = record { edits = Put (mark_record (length r.ledger.marks + 1) (first_mark r at moment)) ∷ []; new = marks_of (with_incarnation r parent at moment).ledger; is = numbered_part mark_record 6 r.ledger.marks (first_mark r at moment ∷ []) (λ k x. refl) (omega arith) };
      }) refl

  -- the ids of objects lie below 4,294,967,295
  small : {A : Type 0} (id : A → ℕ) (xs : List A) → All (λ y. (1 ≤ id y) × (id y < r.ledger.base.next_id)) xs → All (λ y. id y < 4294967295) xs
  small id xs within = let most = is.ledger.base.next_id.1 in All-weaker (λ y. (1 ≤ id y) × (id y < r.ledger.base.next_id)) (λ y. id y < 4294967295) (λ y own. omega arith) xs within

  pub follows_log : (e : LogEntry) → FitsLog r e → new ≡ old ++ Put (kind.Log e) ∷ [] → t ≡ with_log r e → EditsFollow old new r t
  follows_log e fits =
      let range = fits.id.range in
      follows-of old new r (with_log r e) t (record (keep r is) {
        logs = put-part kind.Log (λ x. x.id) 4 e.id (λ x. refl) (omega arith) e refl range.0 r.ledger.logs (small (λ x. x.id) r.ledger.logs is.ledger.ids.logs) (logs-run r.ledger is.ledger) (logs-run (with_log r e).ledger (log_fits r e is fits).ledger);
      }) refl

  pub follows_no_log : (n : ℕ) → 1 ≤ n → n < 4294967296 → new ≡ old ++ Drop (record { kind = 4; id = n }) ∷ [] → t ≡ without_log r n → EditsFollow old new r t
  follows_no_log n low most =
      follows-of old new r (without_log r n) t (record (keep r is) {
        logs = drop-part kind.Log (λ x. x.id) 4 n (λ x. refl) (omega arith) low r.ledger.logs (small (λ x. x.id) r.ledger.logs is.ledger.ids.logs) (logs-run r.ledger is.ledger) (logs-run (without_log r n).ledger (no_log_fits r n is).ledger);
      }) refl

  pub follows_piece : (e : PieceEntry) → FitsPiece r e → new ≡ old ++ Put (kind.Piece e) ∷ [] → t ≡ with_piece r e → EditsFollow old new r t
  follows_piece e fits =
      let range = fits.id.range in
      follows-of old new r (with_piece r e) t (record (keep r is) {
        pieces = put-part kind.Piece (λ x. x.id) 5 e.id (λ x. refl) (omega arith) e refl range.0 r.ledger.pieces (small (λ x. x.id) r.ledger.pieces is.ledger.ids.pieces) (pieces-run r.ledger is.ledger) (pieces-run (with_piece r e).ledger (piece_fits r e is fits).ledger);
      }) refl

  pub follows_no_piece : (n : ℕ) → 1 ≤ n → n < 4294967296 → new ≡ old ++ Drop (record { kind = 5; id = n }) ∷ [] → t ≡ without_piece r n → EditsFollow old new r t
  follows_no_piece n low most =
      follows-of old new r (without_piece r n) t (record (keep r is) {
        pieces = drop-part kind.Piece (λ x. x.id) 5 n (λ x. refl) (omega arith) low r.ledger.pieces (small (λ x. x.id) r.ledger.pieces is.ledger.ids.pieces) (pieces-run r.ledger is.ledger) (pieces-run (without_piece r n).ledger (no_piece_fits r n is).ledger);
      }) refl

  pub follows_set : (e : SetEntry) → FitsSet r e → new ≡ old ++ Put (kind.Set e) ∷ [] → t ≡ with_set r e → EditsFollow old new r t
  follows_set e fits =
      let range = fits.id.range in
      follows-of old new r (with_set r e) t (record (keep r is) {
        sets = put-part kind.Set (λ x. x.id) 9 e.id (λ x. refl) (omega arith) e refl range.0 r.ledger.sets (small (λ x. x.id) r.ledger.sets is.ledger.ids.sets) (sets-run r.ledger is.ledger) (sets-run (with_set r e).ledger (set_fits r e is fits).ledger);
      }) refl

  pub follows_no_set : (n : ℕ) → 1 ≤ n → n < 4294967296 → new ≡ old ++ Drop (record { kind = 9; id = n }) ∷ [] → t ≡ without_set r n → EditsFollow old new r t
  follows_no_set n low most =
      follows-of old new r (without_set r n) t (record (keep r is) {
        sets = drop-part kind.Set (λ x. x.id) 9 n (λ x. refl) (omega arith) low r.ledger.sets (small (λ x. x.id) r.ledger.sets is.ledger.ids.sets) (sets-run r.ledger is.ledger) (sets-run (without_set r n).ledger (no_set_fits r n is).ledger);
      }) refl

-- a new object after the id that it takes
module _ (old new : List Edit) (r t : TypedCatalog) (is : IsTypedCatalog r) where
  abbrev drawn : BaseEntry
  drawn = record r.ledger.base { next_id = r.ledger.base.next_id + 1 }

  follows-drawn : (e : Edit) → new ≡ old ++ Put (kind.Base drawn) ∷ e ∷ [] → (new ≡ (old ++ Put (kind.Base drawn) ∷ []) ++ e ∷ [] → EditsFollow (old ++ Put (kind.Base drawn) ∷ []) new (with_base r drawn) t) → EditsFollow old new r t
  follows-drawn e more then =
      let mid = old ++ Put (kind.Base drawn) ∷ [] in
      follows-then old mid new r (with_base r drawn) t (follows_base old mid r (with_base r drawn) is drawn refl refl) (then (more ∙ sym (append_assoc old (Put (kind.Base drawn) ∷ []) (e ∷ []))))

  pub follows_new_log : (e : LogEntry) → FitsNewLog r e → new ≡ old ++ Put (kind.Base drawn) ∷ Put (kind.Log e) ∷ [] → t ≡ with_new_log r e → EditsFollow old new r t
  unfolding with_next
  follows_new_log e fits more out =
      let n = r.ledger.base.next_id + 1 in
      follows-drawn (Put (kind.Log e)) more
      (λ then. follows_log (old ++ Put (kind.Base drawn) ∷ []) new (with_next r n) t (next_fits r n is (omega arith) (omega arith)) e (drawn-log r is e fits) then (out ∙ sym (log-last r is e fits)))

  pub follows_new_piece : (e : PieceEntry) → FitsNewPiece r e → new ≡ old ++ Put (kind.Base drawn) ∷ Put (kind.Piece e) ∷ [] → t ≡ with_new_piece r e → EditsFollow old new r t
  unfolding with_next
  follows_new_piece e fits more out =
      let n = r.ledger.base.next_id + 1 in
      follows-drawn (Put (kind.Piece e)) more
      (λ then. follows_piece (old ++ Put (kind.Base drawn) ∷ []) new (with_next r n) t (next_fits r n is (omega arith) (omega arith)) e (drawn-piece r is e fits) then (out ∙ sym (piece-last r is e fits)))

  pub follows_new_set : (e : SetEntry) → FitsNewSet r e → new ≡ old ++ Put (kind.Base drawn) ∷ Put (kind.Set e) ∷ [] → t ≡ with_new_set r e → EditsFollow old new r t
  unfolding with_next
  follows_new_set e fits more out =
      let n = r.ledger.base.next_id + 1 in
      follows-drawn (Put (kind.Set e)) more
      (λ then. follows_set (old ++ Put (kind.Base drawn) ∷ []) new (with_next r n) t (next_fits r n is (omega arith) (omega arith)) e (drawn-set r is e fits) then (out ∙ sym (set-last r is e fits)))

-- taking away what stands first
drop-first : (key : Key) (r : Record) (rs : List Record) → place_of r ≡ place_of_key key → All (λ x. place_of_key key < place_of x) rs → after_edit (Drop key) (r ∷ rs) ≡ rs
drop-first key r rs same high =
    let p = place_of_key key in
    let from = All-cons (λ (x : Record). p ≤ place_of x) r rs (omega arith) (λ k d lt. let h = high k d lt in omega arith) in
    let upto = All-cons (λ (x : Record). place_of x ≤ p) r [] (omega arith) (All-nil (λ (x : Record). place_of x ≤ p)) in
    let low : below p (r ∷ rs) ≡ [] = below_none p (r ∷ rs) from in
    let high_ : above p (r ∷ rs) ≡ rs = above_append p (r ∷ []) rs ∙ ap (λ (x : List Record). x ++ above p rs) (above_none p (r ∷ []) upto) ∙ above_all p rs high in
    ap (λ (x : List Record). x ++ above p (r ∷ rs)) low ∙ high_

all-dropped : (ps : List PartEntry) (h : HeadEntry) (low : ℕ) → Runs low (place 9 0) (map kind.Part ps ++ kind.Head h ∷ []) → after_edits (map part_drop ps ++ Drop (record { kind = 8; id = 0 }) ∷ []) (map kind.Part ps ++ kind.Head h ∷ []) ≡ []
unfolding Runs
all-dropped [] h low up = drop-first (record { kind = 8; id = 0 }) (kind.Head h) [] refl (All-nil (λ (x : Record). place 8 0 < place_of x))
all-dropped (p ∷ ps) h low up =
    let rest = map kind.Part ps ++ kind.Head h ∷ [] in
    let over : All (λ x. place 7 p.id < place_of x) rest = λ k d lt. let w = (runs-within (place_of (kind.Part p) + 1) (place 9 0) rest up.1 k d lt).0 in omega arith in
    ap (after_edits (map part_drop ps ++ Drop (record { kind = 8; id = 0 }) ∷ [])) (drop-first (record { kind = 7; id = p.id }) (kind.Part p) rest refl over)
    ∙ all-dropped ps h (place_of (kind.Part p) + 1) up.1

drops-within : (ps : List PartEntry) → All (λ e. (place 7 0 ≤ place_of_edit e) × (place_of_edit e < place 9 0)) (map part_drop ps ++ Drop (record { kind = 8; id = 0 }) ∷ [])
drops-within ps =
    let Within : Edit → Type 0 = λ e. (place 7 0 ≤ place_of_edit e) × (place_of_edit e < place 9 0) in
    All-push Within (map part_drop ps) (Drop (record { kind = 8; id = 0 })) (All-map Within part_drop ps (λ k d lt. (omega arith, omega arith))) (omega arith, omega arith)

unsaved-part : (r : TypedCatalog) → IsTypedCatalog r → IsPart (place 7 0) (place 9 0) (unsaved_edits r.saved) (saved_records r.saved) []
unsaved-part r is = decide r.saved (saved-run r is)
  where
    decide : (o : Option Saved) → Runs (place 7 0) (place 9 0) (saved_records o) → IsPart (place 7 0) (place 9 0) (unsaved_edits o) (saved_records o) []
    decide None up = same_part (place 7 0) (place 9 0) [] up
    decide (Some s) up = record {
      from = λ k d lt. (drops-within s.parts k d lt).0;
      upto = λ k d lt. (drops-within s.parts k d lt).1;
      old_from = λ k d lt. (runs-within (place 7 0) (place 9 0) (saved_records (Some s)) up k d lt).0;
      new_upto = All-nil (λ (x : Record). place_of x < place 9 0);
      same = all-dropped s.parts s.head (place 7 0) up;
    }

no-run : Runs (place 7 0) (place 9 0) []
unfolding Runs
no-run = omega arith

-- a typed catalog without its saved site, and with one
pub unsaved_fits : (r : TypedCatalog) → IsTypedCatalog r → IsTypedCatalog (without_saved r)
unsaved_fits r is = record { ledger = is.ledger; saved = tt }

pub saved_fits : (r : TypedCatalog) (s : Saved) → IsTypedCatalog r → IsSaved r.ledger s → IsTypedCatalog (with_saved r s)
saved_fits r s is fits = record { ledger = is.ledger; saved = fits }

module _ (old new : List Edit) (r t : TypedCatalog) (is : IsTypedCatalog r) where
  -- edits of the saved site alone
  site-follows : (x : List Edit) (o : Option Saved) → IsPart (place 7 0) (place 9 0) x (saved_records r.saved) (saved_records o) → new ≡ old ++ x → t ≡ record r { saved = o } → EditsFollow old new r t
  site-follows x o part more =
      follows-of old new r (record r { saved = o }) t (record (keep r is) { site = record { edits = x; new = saved_records o; is = part } }) refl (more ∙ ap (λ (es : List Edit). old ++ es) (sym (append-nil x)))

  pub follows_unsaved : new ≡ old ++ unsaved_edits r.saved → t ≡ without_saved r → EditsFollow old new r t
  follows_unsaved = site-follows (unsaved_edits r.saved) None (unsaved-part r is)

  pub follows_saved : (s : Saved) → r.saved ≡ None → IsSaved r.ledger s → new ≡ old ++ saved_edits s → t ≡ with_saved r s → EditsFollow old new r t
  follows_saved s none fits =
      site-follows (saved_edits s) (Some s)
      (subst (λ (o : Option Saved). IsPart (place 7 0) (place 9 0) (saved_edits s) (saved_records o) (saved_records (Some s))) (sym none)
      (more_part (place 7 0) (place 9 0) [] (saved_records (Some s)) no-run (saved-run (with_saved r s) (saved_fits r s is fits))))

-- the number of a mark more, and of a switch more, fits into 32 bits
pub marks_few : (r : TypedCatalog) → IsTypedCatalog r → length r.ledger.marks ≤ 65536
marks_few r is = let few = is.ledger.few in let most = marks-few r.ledger in omega arith

pub switches_few : (r : TypedCatalog) → IsTypedCatalog r → length r.ledger.switches ≤ 65536
switches_few r is = let few = is.ledger.few in let most = switches-few r.ledger in omega arith

-- two edits one after the other
pub both_more : (es fs gs : List Edit) (e f : Edit) → fs ≡ es ++ e ∷ [] → gs ≡ fs ++ f ∷ [] → gs ≡ es ++ e ∷ f ∷ []
both_more es fs gs e f one two = two ∙ ap (λ (x : List Edit). x ++ f ∷ []) one ∙ append_assoc es (e ∷ []) (f ∷ [])

both-maps : (ps : List PartEntry) → map (λ p. Put (kind.Part p)) ps ≡ map Put (map kind.Part ps)
both-maps [] = refl
both-maps (p ∷ ps) = ap (λ (es : List Edit). Put (kind.Part p) ∷ es) (both-maps ps)

-- the edits of a saved site, its parts first
pub site_more : (es fs gs : List Edit) (s : Saved) → fs ≡ es ++ map (λ p. Put (kind.Part p)) s.parts → gs ≡ fs ++ Put (kind.Head s.head) ∷ [] → gs ≡ es ++ saved_edits s
site_more es fs gs s one two =
    two ∙ ap (λ (x : List Edit). x ++ Put (kind.Head s.head) ∷ []) one ∙ append_assoc es (map (λ p. Put (kind.Part p)) s.parts) (Put (kind.Head s.head) ∷ [])
    ∙ ap (λ (x : List Edit). es ++ (x ++ Put (kind.Head s.head) ∷ [])) (both-maps s.parts) ∙ ap (λ (x : List Edit). es ++ x) (sym (map-append Put (map kind.Part s.parts) (kind.Head s.head ∷ [])))
