-- A catalog's records are those of a typed catalog.
use Rattle.std.specs.{Prelude.{◌&&◌, count_by}, List.{filter, filter_map}}
use Rattle.std.proofs.Common.{◌≡◌, ◌≢◌, ◌∙◌, ℕ, zero, suc, ◌+◌, ◌-◌, ◌<◌, ◌≤◌, inl, inr, Bool, true, false, cond, ltb, List, [], ◌∷◌, ◌++◌, length, get_or, map, Option, Some, None, refl, ap, sym, subst, arith, All, Contains}
use Rattle.std.proofs.lemmas.{Bool.{lt-ltb, Decides.{nat_tests}}, List.{append-nil, append_assoc}}
use Rattle.std.proofs.lemmas.List.{Elements.{All-map, All-nil, All-push, Contains-get_or, filter-append}, Sums.{sum_by-cons}}
use Rattle.rm_base.proofs.{Lists.{filter_from, filter_all, filter_none}, Members.{none-in}}
use Rattle.rm_catalog.specs.{Keys.{base, base_in, head_in, part_in, place_of, set_in, switch_in}, Rules.{IsCatalog, is_lasting}}
use Rattle.rm_catalog.specs.declared.record.{BaseEntry.{BaseEntry}, HeadEntry.{HeadEntry}, PartEntry.{PartEntry}, Record.{Record}}
use Rattle.rm_catalog.proofs.{ByKinds.{lasting-place}, Numbering.{rises_catalog, obeys}, Unique.{Rises, all_above}, Telling.{record-told}}
use Rattle.rm_catalog.specs.declared.record.Record.TheVariants as records
use Rattle.rm_catalog_typed.specs.LedgerFacts.{IsLedger}
use Rattle.rm_catalog_typed.specs.Ledger.{Ledger, back_records, front_records, ledger_records, numbered, switch_record}
use Rattle.rm_catalog_typed.specs.Kinds.{AreSmall, by_kind, ledger_in, saved_in, switched_by, typed_catalog_in}
use Rattle.rm_catalog_typed.{specs.TypedCatalog.{Saved, records_of, saved_records}, proofs.Lookups.{IsOwn, apart-from-site, record-own}}
use Rattle.rm_catalog_typed.proofs.{ByKind.{files-told, is-head, kinds, placed, tree-told}, Marks.{marks-told}}
use Rattle.rm_catalog_typed.proofs.Told.{AtMostOne, base-record, base-rule, key-there, bases-few, has-key, head-alone, heads-few, one-alone, part-rule}
use Rattle.rm_catalog_typed.proofs.Ledgers.{datafiles-fit, incarnations}
use Rattle.rm_catalog_typed.proofs.Things.{base-fits, ids-fit, logs-fit, marks-fit, pieces-fit, sets-fit}
use Rattle.rm_catalog_typed.proofs.TurnsTold.{switches-fit, switches-told}

-- there is a head where there are parts
parts-head : (rs : List Record) (p : PartEntry) → IsCatalog rs → Contains (filter_map part_in rs) p → filter_map head_in rs ≢ []
parts-head rs p c has none =
    let h = placed records.Head head_in 8 is-head rs 0 (part-rule rs p c has).head in
    none-in h.entry (subst (λ (hs : List HeadEntry). Contains hs h.entry) none (record-told head_in rs (records.Head h.entry) h.entry h.has h.told))

-- in front of any other records
saved-are : (rs zs : List Record) → IsCatalog rs → map records.Part (filter_map part_in rs) ++ (map records.Head (filter_map head_in rs) ++ zs) ≡ saved_records (saved_in (filter_map part_in rs) (filter_map head_in rs)) ++ zs
saved-are rs zs c = decide (filter_map part_in rs) (filter_map head_in rs) (λ p has. parts-head rs p c has) (heads-few rs c)
  where
    decide : (ps : List PartEntry) (hs : List HeadEntry) → ((p : PartEntry) → Contains ps p → hs ≢ []) → AtMostOne hs → map records.Part ps ++ (map records.Head hs ++ zs) ≡ saved_records (saved_in ps hs) ++ zs
    decide [] [] some few = refl
    decide (p ∷ ps) [] some few = absurd (some p (0, omega arith, refl) refl)
    decide ps (h ∷ hs) some few =
        ap (λ (x : List HeadEntry). map records.Part ps ++ (records.Head h ∷ map records.Head x ++ zs)) (head-alone h hs few) ∙ sym (append_assoc (map records.Part ps) (records.Head h ∷ []) zs)

-- the records are those of what they tell
pub records-are : (rs : List Record) (b : BaseEntry) → IsCatalog rs → base rs ≡ Some b → AreSmall rs → records_of (typed_catalog_in b rs) ≡ rs
records-are rs b c is small =
    let bases : filter_map base_in rs ≡ b ∷ [] = one-alone (filter_map base_in rs) b (bases-few rs c) (record-told base_in rs (records.Base b) b (base-record rs b is) refl) in
    let told : records_of (typed_catalog_in b rs) ≡ by_kind rs = simp (append_assoc, bases, tree-told rs c, files-told rs c, marks-told rs c small, saved-are rs (map records.Set (filter_map set_in rs) ++ numbered switch_record 1 (map switched_by (filter_map switch_in rs))) c, switches-told rs c small) in
    told ∙ kinds 0 rs (rises_catalog rs c)

-- whether a record passes a test and stands below another one
abbrev passes-below : (Record → Bool) → Record → Record → Bool
passes-below p x q = p q && ltb (place_of q) (place_of x)

-- in a list that rises at least k of the records that pass a test stand below the one behind k others of them
rises-under : (p : Record → Bool) (low : ℕ) (rs : List Record) (k : ℕ) (d : Record) → Rises low rs → k < length (filter p rs) → k ≤ count_by (passes-below p (get_or (filter p rs) k d)) rs
unfolding Rises
rises-under p low [] k d up lt = absurd (omega arith)
rises-under p low (r ∷ rs) k d up lt = decide (p r) k refl lt (λ j inside. rises-under p (place_of r + 1) rs j d up.1 inside)
  where
    decide : (b : Bool) (k : ℕ) → p r ≡ b → k < length (cond b (r ∷ filter p rs) (filter p rs)) → ((j : ℕ) → j < length (filter p rs) → j ≤ count_by (passes-below p (get_or (filter p rs) j d)) rs) → k ≤ count_by (passes-below p (get_or (cond b (r ∷ filter p rs) (filter p rs)) k d)) (r ∷ rs)
    decide true zero is lt back = omega arith
    decide true (suc k) is lt back =
        let x = get_or (filter p rs) k d in
        let rest = back k (omega arith) in
        let over = all_above (place_of r + 1) rs up.1 x (filter_from p rs x (Contains-get_or (filter p rs) k d (omega arith))).0 in
        let passes : passes-below p x r ≡ true = rw (is, lt-ltb (place_of r) (place_of x) (omega arith)) in
        let one = ap {B = ℕ} (λ (b : Bool). cond b 1 0) passes in
        let split = sum_by-cons (λ (q : Record). cond (passes-below p x q) 1 0) r rs in
        omega arith
    decide false k is lt back =
        let rest = back k lt in
        let split = sum_by-cons (λ (q : Record). cond (passes-below p (get_or (filter p rs) k d) q) 1 0) r rs in
        omega arith

place-is_lasting : (l : Ledger) (r : Record) → IsOwn l r → is_lasting r ≡ true
place-is_lasting l r of = lasting-place r ∙ elim (apart-from-site l r of) [ inl low ↦ grind (arith, nat_tests) | inr late ↦ grind (arith, nat_tests) ]

site-goes : (o : Option Saved) → All (λ x. is_lasting x ≡ false) (saved_records o)
site-goes None = All-nil (λ x. is_lasting x ≡ false)
site-goes (Some s) = All-push (λ x. is_lasting x ≡ false) (map records.Part s.parts) (records.Head s.head) (All-map (λ x. is_lasting x ≡ false) records.Part s.parts (λ k d lt. refl)) refl

-- the records of a ledger are those that last
lasting-records : (l : Ledger) (o : Option Saved) → filter is_lasting (front_records l ++ saved_records o ++ back_records l) ≡ ledger_records l
lasting-records l o =
    let all : All (λ x. is_lasting x ≡ true) (ledger_records l) = λ k d lt. let x = get_or (ledger_records l) k d in place-is_lasting l x (record-own l x (Contains-get_or (ledger_records l) k d lt)) in
    filter-append is_lasting (front_records l ++ saved_records o) (back_records l)
    ∙ ap (λ xs. xs ++ filter is_lasting (back_records l)) (filter-append is_lasting (front_records l) (saved_records o) ∙ ap (λ xs. filter is_lasting (front_records l) ++ xs) (filter_none is_lasting (saved_records o) (site-goes o)) ∙ append-nil (filter is_lasting (front_records l)))
    ∙ sym (filter-append is_lasting (front_records l) (back_records l)) ∙ filter_all is_lasting (ledger_records l) all

-- of the records that last there are few
few-records : (rs : List Record) (l : Ledger) → IsCatalog rs → filter is_lasting rs ≡ ledger_records l → length (ledger_records l) ≤ 65536
few-records rs l c is =
    let xs = filter is_lasting rs in
    let long = ap length is in
    let d : Record = records.Base l.base in
    let k = length xs - 1 in
    let some : 0 < length (ledger_records l) = omega arith in
    let lt : k < length xs = omega arith in
    let y = get_or xs k d in
    let kept = filter_from is_lasting rs y (Contains-get_or xs k d lt) in
    let few = (obeys rs y c kept.0).few.few kept.1 in
    let most = rises-under is_lasting 0 rs k d (rises_catalog rs c) lt in
    omega arith

pub ledger-is : (rs : List Record) (b : BaseEntry) → IsCatalog rs → base rs ≡ Some b → AreSmall rs → b.next_id ≤ 4294967295 → IsLedger (ledger_in b rs)
ledger-is rs b c is small ids =
    let r = base-rule rs b c is in
    record {
      base = base-fits rs b c is ids;
      current = key-there rs b.current c r.current;
      incarnations = incarnations rs c (has-key rs (records.Base b) 1 0 c (base-record rs b is) refl);
      datafiles = datafiles-fit rs c;
      logs = logs-fit rs b c is;
      pieces = pieces-fit rs b c is;
      sets = sets-fit rs b c is;
      ids = ids-fit rs b c is;
      marks = marks-fit rs b c is small;
      switches = switches-fit rs c small b is;
      few = few-records rs (ledger_in b rs) c (ap (filter is_lasting) (sym (records-are rs b c is small)) ∙ lasting-records (ledger_in b rs) (typed_catalog_in b rs).saved);
    }
