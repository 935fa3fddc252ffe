-- What a catalog's records tell of a saved site.
use Rattle.std.specs.{Prelude.{◌&&◌, MatchBool, IfSome, count_by}, List.{filter_map}}
use Rattle.std.proofs.Common.{take, length-take, ◌≡◌, ◌∙◌, ℕ, ◌+◌, ◌<◌, ◌≤◌, ◌==◌, Bool, true, false, cond, List, [], ◌∷◌, length, get_or, Some, refl, ap, sym, subst, arith, eq-eqb, AllPairs, Contains}
use Rattle.std.proofs.lemmas.{Bool.{ne_eqb}, List.{get_or-take, Elements.{Contains-get_or}}}
use Rattle.std.proofs.lemmas.List.Sums.{get_or-le-sum_by, sum_by-cons, sum_by_more_le}
use Rattle.rm_catalog.specs.{Keys.{base, datafile_in, head_in, part_in, place, IsThere as HasKey}, Rules.{IsCatalog}}
use Rattle.rm_catalog.specs.{Saved.{NamesOne, is_part_of}, declared.record.{BaseEntry.{BaseEntry}, DatafileEntry.{DatafileEntry}}}
use Rattle.rm_catalog.{specs.declared.record.{HeadEntry.{HeadEntry}, PartEntry.{PartEntry}, Record.{Record}}, proofs.ByKinds.{free-in}}
use Rattle.rm_catalog.proofs.{Telling.{record-told}, Datafiles.{datafile-rule}, DatafileNumbers.{file-number}}
use Rattle.rm_catalog.specs.declared.record.Record.TheVariants as records
use Rattle.rm_base.proofs.Members.{in-front}
use Rattle.rm_evidence.specs.Database.{datafiles}
use Rattle.rm_catalog_typed.specs.Facts.{AreApart, IsPartEntry, IsTypedCatalog, IsSaved}
use Rattle.rm_catalog_typed.specs.Kinds.{AreSmall, ledger_in, typed_catalog_in, saved_in}
use Rattle.rm_catalog_typed.proofs.{ByKind.{is-datafile, is-part, made, placed, told-in-order}, Ledgers.{long}, Loads.{ledger-is}}
use Rattle.rm_catalog_typed.proofs.Told.{has-key, head-rule, key-there, log-rule, on-base, part-rule, piece-rule, set-rule}

-- a datafile whose key is there is one of the list
file-there : (rs : List Record) (n : ℕ) → IsCatalog rs → HasKey 3 n rs → n ≤ length (datafiles rs)
file-there rs n c some =
    let p = placed records.Datafile datafile_in 3 is-datafile rs n some in
    let number = (datafile-rule rs p.entry c p.has).number.1 in
    let told = record-told _ rs (records.Datafile p.entry) p.entry p.has refl in
    let own = file-number rs told.0 p.entry c told.1 in
    let same = ap (λ (f : DatafileEntry). f.file) told.2 in
    let all = long rs in
    omega arith

-- whether a part is of these
abbrev is_of : ℕ → ℕ → PartEntry → Bool
is_of file thread p = (p.file == file) && (p.thread == thread)

count-parts : (f t : ℕ) (rs : List Record) → count_by (is_part_of f t) rs ≡ count_by (is_of f t) (filter_map part_in rs)
count-parts f t [] = refl
count-parts f t (records.Part x ∷ rs) =
    sum_by-cons (λ (r : Record). cond (is_part_of f t r) 1 0) (records.Part x) rs
    ∙ ap (λ n. cond (is_of f t x) 1 0 + n) (count-parts f t rs)
    ∙ sym (sum_by-cons (λ (p : PartEntry). cond (is_of f t p) 1 0) x (filter_map part_in rs))
count-parts f t (r ∷ rs) = let split = sum_by-cons (λ (q : Record). cond (is_part_of f t q) 1 0) r rs in let back = count-parts f t rs in omega arith

-- two that pass are counted as two
counted-twice : {X : Type 0} (p : X → Bool) (xs : List X) (i j : ℕ) (d : X) → i < j → j < length xs → p (get_or xs i d) ≡ true → p (get_or xs j d) ≡ true → 2 ≤ count_by p xs
counted-twice {X} p xs i j d less lt is also =
    let test : X → ℕ = λ x. cond (p x) 1 0 in
    let all = sum_by_more_le test xs j d lt in
    let first = get_or-le-sum_by test (take j xs) i d (omega (arith, length-take j xs)) in
    let same = ap test (get_or-take j xs i d less) in
    let one = ap {B = ℕ} (λ (b : Bool). cond b 1 0) is in
    let two = ap {B = ℕ} (λ (b : Bool). cond b 1 0) also in
    omega arith

is_of-true : (p : PartEntry) (f t : ℕ) → p.file ≡ f → p.thread ≡ t → is_of f t p ≡ true
is_of-true p f t file thread = ap (λ (b : Bool). b && (p.thread == t)) (eq-eqb p.file f file) ∙ eq-eqb p.thread t thread

module _ (rs : List Record) (b : BaseEntry) (c : IsCatalog rs) (is : base rs ≡ Some b) where
  of-thread : (p : PartEntry) → NamesOne rs p → (p.file == 0) ≡ true → (1 ≤ p.thread) × (p.thread ≤ 4)
  of-thread p names is_ = subst (λ (x : Bool). MatchBool x ((1 ≤ p.thread) × (p.thread ≤ 4)) ((p.thread ≡ 0) × HasKey 3 p.file rs)) is_ names

  of-file : (p : PartEntry) → NamesOne rs p → (p.file == 0) ≡ false → (p.thread ≡ 0) × HasKey 3 p.file rs
  of-file p names is_ = subst (λ (x : Bool). MatchBool x ((1 ≤ p.thread) × (p.thread ≤ 4)) ((p.thread ≡ 0) × HasKey 3 p.file rs)) is_ names

  part-fits : (p : PartEntry) → Contains (filter_map part_in rs) p → IsPartEntry (ledger_in b rs) p
  part-fits p has =
      let rule = part-rule rs p c has in
      record {
        id = (rule.id.number, on-base rs b (λ b. p.id < b.next_id) is rule.id.below);
        size = rule.size;
        thread = λ none. of-thread p rule.one (eq-eqb p.file 0 none);
        file = λ some. let one = of-file p rule.one (ne_eqb p.file 0 (λ e. omega arith)) in (one.0, file-there rs p.file c one.1);
      }

  parts-apart : AllPairs AreApart (filter_map part_in rs)
  parts-apart i j d less lt =
      let ps = filter_map part_in rs in
      let p = get_or ps i d in
      let q = get_or ps j d in
      record {
        ids = told-in-order records.Part part_in 7 is-part (λ p. p.id) (λ p. refl) rs c i j d less lt;
        things = λ file thread.
            let alone = (part-rule rs p c (Contains-get_or ps i d (omega arith))).alone.alone in
            let two = counted-twice (is_of p.file p.thread) ps i j d less lt (is_of-true p p.file p.thread refl refl) (is_of-true q p.file p.thread (sym file) (sym thread)) in
            let count = count-parts p.file p.thread rs in
            omega arith;
      }

  saved-is : (hs : List HeadEntry) → ((h : HeadEntry) → Contains hs h → Contains (filter_map head_in rs) h) → IfSome (saved_in (filter_map part_in rs) hs) (IsSaved (ledger_in b rs))
  saved-is [] there = tt
  saved-is (h ∷ hs) there = record {
    parts = λ k d lt. part-fits (get_or (filter_map part_in rs) k d) (Contains-get_or (filter_map part_in rs) k d lt);
    apart = parts-apart;
    logs = λ e p has other same.
        free-in rs 4 e.id 7 (log-rule rs e c has).id refl refl (has-key rs (records.Part p) 7 e.id c (made records.Part part_in 7 is-part rs p other) (ap (place 7) (sym same)));
    pieces = λ e p has other same.
        free-in rs 5 e.id 7 (piece-rule rs e c has).id refl refl (has-key rs (records.Part p) 7 e.id c (made records.Part part_in 7 is-part rs p other) (ap (place 7) (sym same)));
    sets = λ e p has other same.
        free-in rs 9 e.id 7 (set-rule rs e c has).id refl refl (has-key rs (records.Part p) 7 e.id c (made records.Part part_in 7 is-part rs p other) (ap (place 7) (sym same)));
    point = λ some. key-there rs h.inc c ((head-rule rs h c (there h (in-front h hs))).point some);
  }

  pub typed_catalog-is : AreSmall rs → b.next_id ≤ 4294967295 → IsTypedCatalog (typed_catalog_in b rs)
  typed_catalog-is small ids = record { ledger = ledger-is rs b c is small ids; saved = saved-is (filter_map head_in rs) (λ h has. has) }
