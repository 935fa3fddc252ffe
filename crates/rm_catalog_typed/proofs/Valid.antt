-- The records of a typed catalog are valid: those of a saved site stand among the others, of which each rule holds as before.
use Rattle.std.specs.Prelude.{IfSome, IsSome, IsSomeAnd, MatchBool, ◌||◌, count_by, nat_le, nat_lt, option_and_then, sum_by}
use Rattle.std.specs.{List.{list_any}, Option.{option_map_or}}
use Rattle.std.proofs.Common.{◌≡◌, ◌≢◌, ◌∙◌, ℕ, zero, suc, ◌+◌, ◌-◌, ◌<◌, ◌≤◌, ◌==◌, ◌⊎◌, inl, inr, Bool, false, true, cond, leb, List, [], ◌∷◌, ◌++◌, map, get_or, length, Option, Some, None, refl, ap, slice_get, sym, subst, arith, All, AllPairs, Contains, eq-eqb}
use Rattle.std.proofs.lemmas.Bool.{and_parts, cases_Bool, cases_eq, eqb-true, false_from_ne_true, ne_eqb, true≢false, Decides.{nat_tests}}
use Rattle.std.proofs.lemmas.List.Elements.{All-contains, All-map, All-weaker, Contains-append_right, Contains-get_or, Contains-push_cases}
use Rattle.std.proofs.lemmas.List.{Folds.{list_any-append}, Sums.{length-filter, sum_by-append, sum_by-cons}}
use Rattle.rm_catalog.specs.Facts.{BeginsOn, IsCreatedOn, IsWithin, blocks_to, is_mark_of}
use Rattle.rm_catalog.specs.Keys.{place, place_of, at, datafile, datafile_in, incarnation, incarnation_in, mark_in, part_in, IsThere as HasKey}
use Rattle.rm_catalog.specs.Objects.{FitsDatafile, IsRange, owner_in}
use Rattle.rm_catalog.specs.Rules.{IsAmongFirst, IsCatalog, Obeys, OwnRule, is_lasting, lasts_below}
use Rattle.rm_catalog.specs.{Saved.{HeadRule, NamesOne, PartRule, is_part_of}, SetRules.{FitsSetFile, SetPartRule}}
use Rattle.rm_catalog.specs.{Switches.{IsAt, SwitchRule}, declared.record.DatafileEntry.{DatafileEntry}}
use Rattle.rm_catalog.specs.declared.record.{IncarnationEntry.{IncarnationEntry}, LogEntry.{LogEntry}, PartEntry.{PartEntry}}
use Rattle.rm_catalog.specs.declared.record.{PieceEntry.{PieceEntry}, Record.{Record}, SetEntry.{SetEntry}, SetPart.{SetPart}}
use Rattle.rm_catalog.proofs.{Counts.{alike_count}, ByKinds.{all-free, free-in, lasting-place, own-free}, Told.{at_here, at_past}}
use Rattle.rm_catalog.proofs.Running.{Runs, rises-found, rises-order, runs-append, runs-join, runs-rise, runs-within}
use Rattle.rm_catalog.specs.declared.record.Record.TheVariants as kind
use Rattle.rm_base.proofs.{Members.{in-front, none-in}, Lists.{map_from, filter_none}}
use Rattle.rm_catalog_typed.specs.Ledger.{back_records, front_records, ledger_records}
use Rattle.rm_catalog_typed.specs.Facts.{AreApart, IsPartEntry, IsTypedCatalog, IsSaved}
use Rattle.rm_catalog_typed.specs.TypedCatalog.{TypedCatalog, Saved, records_of, saved_records}
use Rattle.rm_catalog_typed.{specs.declared.thread_switch.ThreadSwitch.{ThreadSwitch}, proofs.Counted.{rises-once, sum-none-map}}
use Rattle.rm_catalog_typed.proofs.Lookups.{apart-from-site, datafile-at, incarnation-there, item-at, log-id-within, no-log, no-piece, no-set, no-switch, piece-id-within, record-own, set-id-within, switch-at, switch_entry}
use Rattle.rm_catalog_typed.proofs.{Order.{back-run, front-run}, LedgerValid.{ledger-valid}, ByKind.{is-part, placed}, Changed.{saved-run}}
use Rattle.rm_catalog_typed.proofs.{LedgerThings.{switch-rule}, Members.{either-of, ledger-has, log-in, piece-in, set-in, site-has}}
use Rattle.rm_catalog_typed.proofs.{Paths.{path-is}, Turns.{Tells, rule-from}}

-- records at other places may stand in front, and among others
at-behind : (p : ℕ) (ys zs : List Record) → All (λ x. place_of x ≢ p) ys → at p (ys ++ zs) ≡ at p zs
at-behind p [] zs apart = refl
at-behind p (y ∷ ys) zs apart = at_past y (ys ++ zs) p (apart 0 y (omega arith)) ∙ at-behind p ys zs (λ k d lt. apart (suc k) d (omega arith))

at-around : (p : ℕ) (xs ys zs : List Record) → All (λ x. place_of x ≢ p) ys → at p (xs ++ ys ++ zs) ≡ at p (xs ++ zs)
at-around p [] ys zs apart = at-behind p ys zs apart
at-around p (x ∷ xs) ys zs apart = elim (cases_eq (place_of x) p) [
  | inl here ↦ at_here x (xs ++ ys ++ zs) p here ∙ sym (at_here x (xs ++ zs) p here)
  | inr past ↦ at_past x (xs ++ ys ++ zs) p past ∙ at-around p xs ys zs apart ∙ sym (at_past x (xs ++ zs) p past)
]

-- what one passes passes among others
any-among : {X : Type 0} (p : X → Bool) (xs ys zs : List X) → list_any p (xs ++ zs) ≡ true → list_any p (xs ++ ys ++ zs) ≡ true
any-among p xs ys zs some =
    list_any-append p (xs ++ ys) zs ∙ ap (λ (b : Bool). b || list_any p zs) (list_any-append p xs ys) ∙ decide (list_any p xs) (list_any p ys) (list_any p zs) (sym (list_any-append p xs zs) ∙ some)
  where
    decide : (a b d : Bool) → (a || d) ≡ true → ((a || b) || d) ≡ true
    decide true b d is = refl
    decide false true d is = refl
    decide false false d is = is

-- where none passes a test, none is counted
count-none : {X : Type 0} (p : X → Bool) (xs : List X) → All (λ x. p x ≡ false) xs → count_by p xs ≡ 0
count-none p xs none = sym (length-filter p xs) ∙ ap length (filter_none p xs none)

-- and where none of the others passes, so many pass as without them
count-among : {X : Type 0} (p : X → Bool) (xs ys zs : List X) → All (λ y. p y ≡ false) ys → count_by p (xs ++ ys ++ zs) ≡ count_by p (xs ++ zs)
count-among {X} p xs ys zs none =
    let test : X → ℕ = λ x. cond (p x) 1 0 in
    let all = sum_by-append test (xs ++ ys) zs in
    let two = sum_by-append test xs ys in
    let both = sum_by-append test xs zs in
    let no-more = count-none p ys none in
    omega arith

-- where no two pass it, one at most is counted
count-few : {X Y : Type 0} (p : Y → Bool) (make : X → Y) (xs : List X) → AllPairs (λ x y. p (make x) ≡ true → p (make y) ≡ false) xs → count_by p (map make xs) ≤ 1
count-few p make [] apart = omega arith
count-few p make (x ∷ xs) apart =
    let split = sum_by-cons (λ z. cond (p z) 1 0) (make x) (map make xs) in
    elim (cases_Bool (p (make x))) [
      | inl passes ↦
          let none = count-none p (map make xs) (All-map (λ y. p y ≡ false) make xs (λ k d lt. apart 0 (suc k) d (omega arith) (omega arith) passes)) in
          let one = ap {B = ℕ} (λ (b : Bool). cond b 1 0) passes in
          omega arith
      | inr fails ↦
          let back = count-few p make xs (λ i j d less lt. apart (suc i) (suc j) d (omega arith) (omega arith)) in
          let none = ap {B = ℕ} (λ (b : Bool). cond b 1 0) fails in
          omega arith
    ]

-- no two parts are of the same
other-part : (file thread : ℕ) (p q : PartEntry) → AreApart p q → is_part_of file thread (kind.Part p) ≡ true → is_part_of file thread (kind.Part q) ≡ false
other-part file thread p q apart one = false_from_ne_true (is_part_of file thread (kind.Part q)) (λ two.
    let a = and_parts (p.file == file) (p.thread == thread) one in
    let b = and_parts (q.file == file) (q.thread == thread) two in
    apart.things (eqb-true p.file file a.0 ∙ sym (eqb-true q.file file b.0)) (eqb-true p.thread thread a.1 ∙ sym (eqb-true q.thread thread b.1)))

parts-few : (file thread : ℕ) (ps : List PartEntry) → AllPairs AreApart ps → count_by (is_part_of file thread) (map kind.Part ps) ≤ 1
parts-few file thread ps apart = count-few (is_part_of file thread) kind.Part ps (λ i j d less lt. other-part file thread (get_or ps i d) (get_or ps j d) (apart i j d less lt))

-- a part among the records of a saved site
record HasPart (o : Option Saved) (p : PartEntry) : Type 0 where
  pub site : Saved
  pub is : o ≡ Some site
  pub has : Contains site.parts p

part-of : (o : Option Saved) (p : PartEntry) → Contains (saved_records o) (kind.Part p) → HasPart o p
part-of None p has = absurd (none-in (kind.Part p) has)
part-of (Some s) p has = elim (Contains-push_cases (map kind.Part s.parts) (kind.Head s.head) (kind.Part p) has) [
  | inl among ↦
      let from = map_from kind.Part s.parts (kind.Part p) among in
      let same : from.item ≡ p = cc in
      record { site = s; is = refl; has = subst (Contains s.parts) same from.held }
  | inr head ↦ absurd (cc)
]

module _ (r : TypedCatalog) (is : IsTypedCatalog r) where
  abbrev own-records : List Record
  own-records = ledger_records r.ledger

  abbrev site : List Record
  site = saved_records r.saved

  abbrev Elsewhere : ℕ → Type 0
  Elsewhere p = (p < place 7 0) ⊎ (place 9 0 ≤ p)

  in-site : All (λ x. (place 7 0 ≤ place_of x) × (place_of x < place 9 0)) site
  in-site = runs-within (place 7 0) (place 9 0) site (saved-run r is)

  not-in-site : (p : ℕ) → Elsewhere p → All (λ x. place_of x ≢ p) site
  not-in-site p elsewhere k d lt same = let w = in-site k d lt in elim elsewhere [ inl low ↦ omega arith | inr high ↦ omega arith ]

  elsewhere : (x : Record) → Contains own-records x → Elsewhere (place_of x)
  elsewhere x has = apart-from-site r.ledger x (record-own r.ledger x has)

  -- no record of the ledger is a part
  no-parts : (file thread : ℕ) → All (λ x. is_part_of file thread x ≡ false) own-records
  no-parts file thread k d lt = none (get_or own-records k d) (elsewhere (get_or own-records k d) (Contains-get_or own-records k d lt))
    where
      none : (x : Record) → Elsewhere (place_of x) → is_part_of file thread x ≡ false
      none (kind.Part p) apart = absurd (elim apart [ inl low ↦ omega arith | inr high ↦ omega arith ])
      none x apart = refl

  rises : Runs (place 1 0) (place 11 0) (records_of r)
  rises = runs-join (place 9 0) (place 1 0) (place 9 1) (place 11 0) (front_records r.ledger ++ site) (back_records r.ledger) (omega arith)
      (runs-append (place 1 0) (place 7 0) (place 9 0) (front_records r.ledger) site (front-run r.ledger is.ledger) (saved-run r is)) (back-run r.ledger is.ledger)

  found : (x : Record) → Contains (records_of r) x → at (place_of x) (records_of r) ≡ Some x
  found x has = rises-found (place 1 0) (records_of r) x (runs-rise (place 1 0) (place 11 0) (records_of r) rises) has

  -- what is looked up elsewhere than in the saved site
  same-at : (p : ℕ) → Elsewhere p → at p (records_of r) ≡ at p own-records
  same-at p apart = at-around p (front_records r.ledger) site (back_records r.ledger) (not-in-site p apart)

  same-key : (of id : ℕ) → Elsewhere (place of id) → HasKey of id own-records → HasKey of id (records_of r)
  same-key of id apart has = subst (λ (o : Option Record). IsSome o) (sym (same-at (place of id) apart)) has

  no-key : (of id : ℕ) → Elsewhere (place of id) → (HasKey of id own-records → ⊥) → HasKey of id (records_of r) → ⊥
  no-key of id apart none has = none (subst (λ (o : Option Record). IsSome o) (same-at (place of id) apart) has)

  on-told : {A : Type 0} (tell : Record → Option A) (p : ℕ) → p < place 7 0 → (P : A → Type 0) → IsSomeAnd (option_and_then tell (at p own-records)) P → IsSomeAnd (option_and_then tell (at p (records_of r))) P
  on-told tell p low P was = subst (λ (o : Option Record). IsSomeAnd (option_and_then tell o) P) (sym (same-at p (inl low))) was

  -- the path stays
  abbrev owner_by : (n i g : ℕ) → List Record → Option IncarnationEntry → ℕ
  owner_by n i g rs o = option_map_or (λ (x : IncarnationEntry). cond (leb x.reset g) i (owner_in n x.parent g rs)) o 1

  same-incarnation : (i : ℕ) → incarnation i (records_of r) ≡ incarnation i own-records
  same-incarnation i = ap (option_and_then incarnation_in) (same-at (place 2 i) (inl (omega arith)))

  same-owner : (n i g : ℕ) → owner_in n i g (records_of r) ≡ owner_in n i g own-records
  unfolding owner_in
  same-owner zero i g = refl
  same-owner (suc n) i g = decide (incarnation i own-records) refl (λ p. same-owner n p g)
    where
      decide : (o : Option IncarnationEntry) → incarnation i own-records ≡ o → ((p : ℕ) → owner_in n p g (records_of r) ≡ owner_in n p g own-records) → owner_by n i g (records_of r) (incarnation i (records_of r)) ≡ owner_by n i g own-records (incarnation i own-records)
      decide None e back = ap (owner_by n i g (records_of r)) (same-incarnation i ∙ e) ∙ sym (ap (owner_by n i g own-records) e)
      decide (Some x) e back =
          ap (owner_by n i g (records_of r)) (same-incarnation i ∙ e)
          ∙ ap (λ (m : ℕ). cond (leb x.reset g) i m) (back x.parent) ∙ sym (ap (owner_by n i g own-records) e)

  no-blocks : (f : ℕ) → sum_by (blocks_to f) site ≡ 0
  no-blocks f = decide r.saved
    where
      decide : (o : Option Saved) → sum_by (blocks_to f) (saved_records o) ≡ 0
      decide None = refl
      decide (Some s) =
          let both = sum_by-append (blocks_to f) (map kind.Part s.parts) (kind.Head s.head ∷ []) in
          let parts = sum-none-map f kind.Part s.parts (λ p. refl) in
          let last = sum_by-cons (blocks_to f) (kind.Head s.head) [] in
          omega arith

  is_saved : (s : Saved) → r.saved ≡ Some s → IsSaved r.ledger s
  is_saved s some = subst (λ (o : Option Saved). IfSome o (IsSaved r.ledger)) some is.saved

  -- an id that no part has
  no-part : (id : ℕ) → id < 4294967295 → ((s : Saved) (p : PartEntry) → r.saved ≡ Some s → Contains s.parts p → id ≡ p.id → ⊥) → HasKey 7 id (records_of r) → ⊥
  no-part id small apart some =
      let p = placed kind.Part part_in 7 is-part (records_of r) id some in
      elim (either-of r (kind.Part p.entry) p.has) [
        | inl own ↦ elim (elsewhere (kind.Part p.entry) own) [ inl low ↦ omega arith | inr high ↦ omega arith ]
        | inr here ↦
            let of = part-of r.saved p.entry here in
            let own = (All-contains (IsPartEntry r.ledger) of.site.parts p.entry (is_saved of.site of.is).parts of.has).id in
            apart of.site p.entry of.is of.has (omega arith)
      ]

  no-part-of_log : (e : LogEntry) → Contains r.ledger.logs e → HasKey 7 e.id (records_of r) → ⊥
  no-part-of_log e has =
      let high = (log-id-within r.ledger e is.ledger has).1 in
      no-part e.id (omega arith) (λ s p some other. (is_saved s some).logs e p has other)

  no-part-of_piece : (e : PieceEntry) → Contains r.ledger.pieces e → HasKey 7 e.id (records_of r) → ⊥
  no-part-of_piece e has =
      let high = (piece-id-within r.ledger e is.ledger has).1 in
      no-part e.id (omega arith) (λ s p some other. (is_saved s some).pieces e p has other)

  no-part-of_set : (e : SetEntry) → Contains r.ledger.sets e → HasKey 7 e.id (records_of r) → ⊥
  no-part-of_set e has =
      let high = (set-id-within r.ledger e is.ledger has).1 in
      no-part e.id (omega arith) (λ s p some other. (is_saved s some).sets e p has other)

  piece-file : (p : PieceEntry) (o : Option DatafileEntry) → IsSomeAnd o (FitsDatafile own-records p) → IsSomeAnd o (FitsDatafile (records_of r) p)
  piece-file p None some = absurd some
  piece-file p (Some f) fits = record { path = same-owner 256 p.inc f.creation ∙ fits.path; rows = fits.rows }

  set-file : (e : SetEntry) (p : SetPart) (o : Option DatafileEntry) → IsSomeAnd o (FitsSetFile own-records e p) → IsSomeAnd o (FitsSetFile (records_of r) e p)
  set-file e p None some = absurd some
  set-file e p (Some f) fits = record { path = same-owner 256 e.inc f.creation ∙ fits.path; creation = fits.creation; rows = fits.rows }

  set-part : (e : SetEntry) (p : SetPart) → SetPartRule own-records e p → SetPartRule (records_of r) e p
  set-part e p was = record {
    file = on-told datafile_in (place 3 p.file) (omega arith) (FitsSetFile (records_of r) e p) (set-file e p (datafile p.file own-records) was.file);
    kind = was.kind;
    high = was.high;
    end = on-told incarnation_in (place 2 e.inc) (omega arith) (λ i. p.high ≤ i.end) was.end;
  }

  -- a switch
  tells : Tells (records_of r) r.ledger.tree r.ledger.base.threads r.ledger.switches
  tells = record {
    began = refl;
    paths = λ i g there. same-owner 256 i g ∙ path-is r.ledger i g is.ledger there;
    found = λ k x there. same-at (place 10 (1 + k)) (inr (omega arith)) ∙ switch-at r.ledger k x is.ledger there;
  }

  turn-rule : (k : ℕ) (x : ThreadSwitch) → slice_get r.ledger.switches k ≡ Some x → SwitchRule (records_of r) (switch_entry (1 + k) x)
  turn-rule k x there =
      let next = is.ledger.switches k x there in
      rule-from (records_of r) r.ledger.tree r.ledger.base.threads r.ledger.switches tells k x there next.there (no-key 10 0 (inr (omega arith)) (no-switch r.ledger))
      (on-told incarnation_in (place 2 x.inc) (omega arith) (IsAt (switch_entry (1 + k) x)) (switch-rule r.ledger k x is.ledger there).range) next

  -- each rule of the ledger's records
  lifted : (x : Record) → Contains own-records x → OwnRule own-records x → OwnRule (records_of r) x
  lifted (kind.Base b) has was = record { dbid = was.dbid; threads = was.threads; current = same-key 2 b.current (inl (omega arith)) was.current; next_id = was.next_id; moment = was.moment; policy = was.policy; parallelism = was.parallelism }
  lifted (kind.Incarnation i) has was = record {
    number = was.number;
    origin = record {
      first = was.origin.first;
      branch = λ later. let b = was.origin.branch later in record { no_gap = same-key 2 (i.inc - 1) (inl (omega arith)) b.no_gap; below = b.below; parent = on-told incarnation_in (place 2 i.parent) (omega arith) (BeginsOn i) b.parent };
    };
    range = was.range;
    mark = any-among (is_mark_of i.inc) (front_records r.ledger) site (back_records r.ledger) was.mark;
  }
  lifted (kind.Datafile f) has was = record {
    number = was.number;
    no_gap = record { no_gap = λ later. same-key 3 (f.file - 1) (inl (omega arith)) (was.no_gap.no_gap later) };
    creation = on-told incarnation_in (place 2 f.inc) (omega arith) (IsCreatedOn f) was.creation;
    blocks = was.blocks;
    room = record {
      blocks =
          let all = sum_by-append (blocks_to f.file) (front_records r.ledger ++ site) (back_records r.ledger) in
          let two = sum_by-append (blocks_to f.file) (front_records r.ledger) site in
          let both = sum_by-append (blocks_to f.file) (front_records r.ledger) (back_records r.ledger) in
          let none = no-blocks f.file in
          let low = was.room.blocks in
          omega arith;
    };
  }
  lifted (kind.Log e) has was = record {
    id = record {
      number = was.id.number;
      below = was.id.below;
      free =
          all-free (records_of r) 4 e.id
          (own-free (records_of r) 4 e.id)
          (λ _. no-key 5 e.id (inl (omega arith)) (free-in own-records 4 e.id 5 was.id refl refl))
          (λ _. no-part-of_log e (log-in r e is (ledger-has r (kind.Log e) has)))
          (λ _. no-key 9 e.id (inr (omega arith)) (free-in own-records 4 e.id 9 was.id refl refl));
    };
    size = was.size;
    thread = was.thread;
    sequence = was.sequence;
    range = on-told incarnation_in (place 2 e.inc) (omega arith) (IsRange e) was.range;
  }
  lifted (kind.Piece p) has was = record {
    id = record {
      number = was.id.number;
      below = was.id.below;
      free =
          all-free (records_of r) 5 p.id
          (λ _. no-key 4 p.id (inl (omega arith)) (free-in own-records 5 p.id 4 was.id refl refl))
          (own-free (records_of r) 5 p.id)
          (λ _. no-part-of_piece p (piece-in r p is (ledger-has r (kind.Piece p) has)))
          (λ _. no-key 9 p.id (inr (omega arith)) (free-in own-records 5 p.id 9 was.id refl refl));
    };
    size = was.size;
    end = on-told incarnation_in (place 2 p.inc) (omega arith) (λ i. p.high ≤ i.end) was.end;
    file = on-told datafile_in (place 3 p.file) (omega arith) (FitsDatafile (records_of r) p) (piece-file p (datafile p.file own-records) was.file);
    checkpoint = was.checkpoint;
    kind = was.kind;
    tag = was.tag;
  }
  lifted (kind.Mark m) has was = record {
    number = was.number;
    before = λ later. on-told mark_in (place 6 (m.id - 1)) (omega arith) (λ q. q.moment ≤ m.moment) (was.before later);
    scn = on-told incarnation_in (place 2 m.inc) (omega arith) (IsWithin m.scn) was.scn;
    moment = was.moment;
  }
  lifted (kind.Part p) has was = absurd (elim (elsewhere (kind.Part p) has) [ inl low ↦ omega arith | inr high ↦ omega arith ])
  lifted (kind.Head h) has was = absurd (elim (elsewhere (kind.Head h) has) [ inl low ↦ omega arith | inr high ↦ omega arith ])
  lifted (kind.Set e) has was = record {
    id = record {
      number = was.id.number;
      below = was.id.below;
      free =
          all-free (records_of r) 9 e.id
          (λ _. no-key 4 e.id (inl (omega arith)) (free-in own-records 9 e.id 4 was.id refl refl))
          (λ _. no-key 5 e.id (inl (omega arith)) (free-in own-records 9 e.id 5 was.id refl refl))
          (λ _. no-part-of_set e (set-in r e is (ledger-has r (kind.Set e) has)))
          (own-free (records_of r) 9 e.id);
    };
    size = was.size;
    checkpoint = was.checkpoint;
    parts = record {
      some = was.parts.some;
      few = was.parts.few;
      ascend = was.parts.ascend;
      each = All-weaker (SetPartRule own-records e) (SetPartRule (records_of r) e) (set-part e) e.parts was.parts.each;
    };
    tag = was.tag;
  }
  lifted (kind.Switch x) has was = let n = record-own r.ledger (kind.Switch x) has in subst (SwitchRule (records_of r)) (sym n.is) (turn-rule n.index n.item n.there)

  -- a part
  names-one : (s : Saved) (p : PartEntry) → IsPartEntry r.ledger p → NamesOne (records_of r) p
  names-one s p fits = elim (cases_eq p.file 0) [
    | inl none ↦ subst (λ (b : Bool). MatchBool b ((1 ≤ p.thread) × (p.thread ≤ 4)) ((p.thread ≡ 0) × HasKey 3 p.file (records_of r))) (sym (eq-eqb p.file 0 none)) (fits.thread none)
    | inr other ↦
        let some : 0 < p.file = omega arith in
        let named = fits.file some in
        let d = item-at r.ledger.files (p.file - 1) (omega arith) in
        let number : 1 + (p.file - 1) ≡ p.file = omega arith in
        let there : HasKey 3 p.file own-records = subst (λ (n : ℕ). HasKey 3 n own-records) number (subst (λ (o : Option Record). IsSome o) (sym (datafile-at r.ledger (p.file - 1) d.0 is.ledger d.1)) refl) in
        subst (λ (b : Bool). MatchBool b ((1 ≤ p.thread) × (p.thread ≤ 4)) ((p.thread ≡ 0) × HasKey 3 p.file (records_of r))) (sym (ne_eqb p.file 0 other)) (named.0, same-key 3 p.file (inl (omega arith)) there)
  ]

  of-site : (s : Saved) (x : Record) → r.saved ≡ Some s → Contains (saved_records (Some s)) x → Contains (records_of r) x
  of-site s x some has = site-has r x (subst (λ (o : Option Saved). Contains (saved_records o) x) (sym some) has)

  part-rule : (s : Saved) (p : PartEntry) → r.saved ≡ Some s → Contains s.parts p → PartRule (records_of r) p
  part-rule s p some has =
      let saved = is_saved s some in
      let fits = All-contains (IsPartEntry r.ledger) s.parts p saved.parts has in
      let test : Record → ℕ = λ z. cond (is_part_of p.file p.thread z) 1 0 in
      let all = sum_by-append test (front_records r.ledger ++ site) (back_records r.ledger) in
      let two = sum_by-append test (front_records r.ledger) site in
      let both = sum_by-append test (front_records r.ledger) (back_records r.ledger) in
      let none = count-none (is_part_of p.file p.thread) own-records (no-parts p.file p.thread) in
      let own = ap (λ (o : Option Saved). count_by (is_part_of p.file p.thread) (saved_records o)) some in
      let split = sum_by-append test (map kind.Part s.parts) (kind.Head s.head ∷ []) in
      let last = sum_by-cons test (kind.Head s.head) [] in
      let few = parts-few p.file p.thread s.parts saved.apart in
      record {
        id = record {
          number = fits.id.0;
          below = fits.id.1;
          free =
              all-free (records_of r) 7 p.id
              (λ _. no-key 4 p.id (inl (omega arith)) (no-log r.ledger p.id is.ledger fits.id.1 (λ e other same. saved.logs e p other has (sym same))))
              (λ _. no-key 5 p.id (inl (omega arith)) (no-piece r.ledger p.id is.ledger fits.id.1 (λ e other same. saved.pieces e p other has (sym same))))
              (own-free (records_of r) 7 p.id)
              (λ _. no-key 9 p.id (inr (omega arith)) (no-set r.ledger p.id is.ledger fits.id.1 (λ e other same. saved.sets e p other has (sym same))));
        };
        size = fits.size;
        head = subst (λ (o : Option Record). IsSome o) (sym (found (kind.Head s.head) (of-site s (kind.Head s.head) some (Contains-append_right (map kind.Part s.parts) (kind.Head s.head ∷ []) (kind.Head s.head) (in-front (kind.Head s.head) []))))) refl;
        one = names-one s p fits;
        alone = record { alone = omega arith };
      }

  head-rule : (s : Saved) → r.saved ≡ Some s → HeadRule (records_of r) s.head
  head-rule s some = record { point = λ has. same-key 2 s.head.inc (inl (omega arith)) (incarnation-there r.ledger s.head.inc is.ledger ((is_saved s some).point has)) }

  site-rule : (o : Option Saved) (x : Record) → r.saved ≡ o → Contains (saved_records o) x → OwnRule (records_of r) x
  site-rule None x none has = absurd (none-in x has)
  site-rule (Some s) x some has = elim (Contains-push_cases (map kind.Part s.parts) (kind.Head s.head) x has) [
    | inl among ↦ let from = map_from kind.Part s.parts x among in subst (OwnRule (records_of r)) from.is (part-rule s from.item some from.held)
    | inr same ↦ subst (OwnRule (records_of r)) same (head-rule s some)
  ]

  obeys-own : (x : Record) → Contains own-records x → Obeys own-records x
  obeys-own x has = All-contains (Obeys own-records) own-records x (ledger-valid r.ledger is.ledger).valid has

  own : (x : Record) → Contains (records_of r) x → OwnRule (records_of r) x
  own x has = elim (either-of r x has) [ inl here ↦ lifted x here (obeys-own x here).own | inr there ↦ site-rule r.saved x refl there ]

  site-goes : (x : Record) → Contains site x → is_lasting x ≡ false
  site-goes x has =
      let w = All-contains (λ (y : Record). (place 7 0 ≤ place_of y) × (place_of y < place 9 0)) site x in-site has in
      let low : (nat_lt (place_of x) (place 7 0) || nat_le (place 9 0) (place_of x)) ≡ false = grind (arith, nat_tests) in
      lasting-place x ∙ low

  few : (x : Record) → Contains (records_of r) x → IsAmongFirst x (records_of r)
  few x has = record {
    few = λ lasting. elim (either-of r x has) [
      | inl here ↦
          let p = place_of x in
          let short = (obeys-own x here).few.few lasting in
          let none : All (λ q. lasts_below p q ≡ false) site = λ k d lt. rw (site-goes (get_or site k d) (Contains-get_or site k d lt)) in
          let same = count-among (lasts_below p) (front_records r.ledger) site (back_records r.ledger) none in
          omega arith
      | inr there ↦ absurd (let gone = site-goes x there in true≢false (sym lasting ∙ gone))
    ];
  }

pub typed_catalog-valid : (r : TypedCatalog) → IsTypedCatalog r → IsCatalog (records_of r)
typed_catalog-valid r is = record {
  order = rises-order (place 1 0) (records_of r) (runs-rise (place 1 0) (place 11 0) (records_of r) (rises r is));
  valid = λ k d lt.
      let x = get_or (records_of r) k d in
      let has = Contains-get_or (records_of r) k d lt in
      record {
        once = record { once = sym (alike_count (place_of x) (records_of r)) ∙ rises-once (place 1 0) (records_of r) x (runs-rise (place 1 0) (place 11 0) (records_of r) (rises r is)) has };
        few = few r is x has;
        base = refl;
        own = own r is x has;
      };
}
