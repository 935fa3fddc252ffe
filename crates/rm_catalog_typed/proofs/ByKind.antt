-- The records of a catalog, kind by kind.
use Rattle.std.specs.{Prelude.{IsSome}, List.{filter, filter_map, cons_option}, Option.{option_map}}
use Rattle.std.proofs.Common.{◌≡◌, ◌∙◌, ℕ, zero, suc, ◌+◌, ◌<◌, ◌≤◌, ◌==◌, inl, inr, Bool, true, false, cond, List, [], ◌∷◌, ◌++◌, Option, Some, None, refl, ap, sym, subst, arith, eq-eqb, map, length, get_or, All, AllPairs, Contains}
use Rattle.std.proofs.lemmas.{Bool.{cases_eq, cond-false, cond-true, false≢true, ne_eqb}, Option.{cond_some, none-some, same_Some}}
use Rattle.std.proofs.lemmas.List.Elements.{Contains-get_or}
use Rattle.rm_base.proofs.Lists.{filter_none}
use Rattle.rm_catalog.specs.Keys.{IsThere, at, base_in, datafile_in, head_in, incarnation_in, key_of, log_in, mark_in, part_in, piece_in, place, place_of, set_in, switch_in}
use Rattle.rm_catalog.{specs.{Rules.{IsCatalog}, Trees.{node, nodes}, declared.record.Record.{Record}}, proofs.Told.{found_is}}
use Rattle.rm_catalog.proofs.{Unique.{Rises, all_above}, Numbering.{number_is, rises_catalog}, Trees.{nodes_are}}
use Rattle.rm_catalog.proofs.{Telling.{told-ascends, told-record}, DatafileNumbers.{file-number}}
use Rattle.rm_catalog.specs.declared.record.Record.TheVariants as kind
use Rattle.rm_catalog_typed.specs.{Ledger.{numbered, incarnation_record, datafile_record}, Kinds.{by_kind}}
use Rattle.rm_evidence.{specs.Database.{created_by, datafiles}, proofs.Files.{datafiles-are}}

-- the number of a record's kind
abbrev number : Record → ℕ
number r = (key_of r).kind

-- a kind of record: `tell` finds what `make` makes, which has this number
pub record IsKind {A : Type 0} (make : A → Record) (tell : Record → Option A) (n : ℕ) : Type 0 where
  pub tells : (r : Record) → option_map make (tell r) ≡ cond (number r == n) (Some r) None

-- one clause, and a second one for all other records, by which each of them is looked at
pub is-base : IsKind kind.Base base_in 1
is-base = record { tells = elim [ kind.Base x ↦ refl | r ↦ refl ] }

pub is-incarnation : IsKind kind.Incarnation incarnation_in 2
is-incarnation = record { tells = elim [ kind.Incarnation x ↦ refl | r ↦ refl ] }

pub is-datafile : IsKind kind.Datafile datafile_in 3
is-datafile = record { tells = elim [ kind.Datafile x ↦ refl | r ↦ refl ] }

pub is-log : IsKind kind.Log log_in 4
is-log = record { tells = elim [ kind.Log x ↦ refl | r ↦ refl ] }

pub is-piece : IsKind kind.Piece piece_in 5
is-piece = record { tells = elim [ kind.Piece x ↦ refl | r ↦ refl ] }

pub is-mark : IsKind kind.Mark mark_in 6
is-mark = record { tells = elim [ kind.Mark x ↦ refl | r ↦ refl ] }

pub is-part : IsKind kind.Part part_in 7
is-part = record { tells = elim [ kind.Part x ↦ refl | r ↦ refl ] }

pub is-head : IsKind kind.Head head_in 8
is-head = record { tells = elim [ kind.Head x ↦ refl | r ↦ refl ] }

pub is-set : IsKind kind.Set set_in 9
is-set = record { tells = elim [ kind.Set x ↦ refl | r ↦ refl ] }

pub is-switch : IsKind kind.Switch switch_in 10
is-switch = record { tells = elim [ kind.Switch x ↦ refl | r ↦ refl ] }

module _ {A : Type 0} (make : A → Record) (tell : Record → Option A) (n : ℕ) (is : IsKind make tell n) where
  -- what is told was made, and by a record
  pub told-is : (r : Record) (x : A) → tell r ≡ Some x → r ≡ make x
  told-is r x told = (cond_some (number r == n) r (make x) (sym (is.tells r) ∙ ap (option_map make) told)).1

  pub made : (rs : List Record) (x : A) → Contains (filter_map tell rs) x → Contains rs (make x)
  made rs x has = let from = told-record tell rs x has in subst (Contains rs) (told-is from.0 x from.2) from.1

  -- what stands at a place of this kind is told
  pub record Placed (rs : List Record) (id : ℕ) : Type 0 where
    pub entry : A
    pub told : tell (make entry) ≡ Some entry
    pub found : at (place n id) rs ≡ Some (make entry)
    pub has : Contains rs (make entry)
    pub here : place_of (make entry) ≡ place n id

  pub placed : (rs : List Record) (id : ℕ) → IsThere n id rs → Placed rs id
  placed rs id some = decide (at (place n id) rs) refl some
    where
      told-by : (r : Record) → at (place n id) rs ≡ Some r → place_of r ≡ place n id → Contains rs r → (o : Option A) → tell r ≡ o → Placed rs id
      told-by r e here has None none =
          let kind_is : number r ≡ n = omega arith in
          absurd (none-some r (sym (ap (option_map make) none) ∙ is.tells r ∙ cond-true (number r == n) (Some r) None (eq-eqb (number r) n kind_is)))
      told-by r e here has (Some x) some =
          let same = told-is r x some in
          record { entry = x; told = ap tell (sym same) ∙ some; found = e ∙ ap (λ s. Some s) same; has = subst (Contains rs) same has; here = ap place_of (sym same) ∙ here }

      decide : (o : Option Record) → at (place n id) rs ≡ o → IsSome o → Placed rs id
      decide None e some = absurd (false≢true some)
      decide (Some r) e some = let there = found_is rs (place n id) r e in told-by r e there.1 there.0 (tell r) refl

  -- in order of their ids
  pub told-in-order : (id : A → ℕ) → ((x : A) → place_of (make x) ≡ place n (id x)) → (rs : List Record) → IsCatalog rs → AllPairs (λ x y. id x < id y) (filter_map tell rs)
  told-in-order id here rs c =
      told-ascends tell id (λ r s x y one two less.
      let first = ap place_of (told-is r x one) ∙ here x in
      let second = ap place_of (told-is s y two) ∙ here y in
      omega arith) 0 rs (rises_catalog rs c)

  -- what is told are the records of this kind
  section : (rs : List Record) → map make (filter_map tell rs) ≡ filter (λ r. number r == n) rs
  section [] = refl
  section (r ∷ rs) = step (tell r) (number r == n) (is.tells r) (section rs)
    where
      step : (o : Option A) (b : Bool) → option_map make o ≡ cond b (Some r) None → map make (filter_map tell rs) ≡ filter (λ s. number s == n) rs
          → map make (cons_option o (filter_map tell rs)) ≡ cond b (r ∷ filter (λ s. number s == n) rs) (filter (λ s. number s == n) rs)
      step None true e back = absurd cc
      step None false e back = back
      step (Some x) true e back = ap (λ s. s ∷ map make (filter_map tell rs)) (same_Some (make x) r e) ∙ ap (λ ss. r ∷ ss) back
      step (Some x) false e back = absurd cc

-- the records of kind i, and those of kinds i up to i + n, one kind after the other
abbrev those : ℕ → List Record → List Record
those i rs = filter (λ r. number r == i) rs

abbrev sections : ℕ → ℕ → List Record → List Record
sections i zero rs = those i rs
sections i (suc n) rs = those i rs ++ sections (suc i) n rs

module _ (r : Record) (rs : List Record) where
  skipped : (i : ℕ) → (number r ≡ i → ⊥) → those i (r ∷ rs) ≡ those i rs
  skipped i other = cond-false (number r == i) (r ∷ those i rs) (those i rs) (ne_eqb (number r) i other)

  first : (i : ℕ) → number r ≡ i → those i (r ∷ rs) ≡ r ∷ those i rs
  first i here = cond-true (number r == i) (r ∷ those i rs) (those i rs) (eq-eqb (number r) i here)

  all-skipped : (n i : ℕ) → number r < i → sections i n (r ∷ rs) ≡ sections i n rs
  all-skipped zero i less = skipped i (λ e. omega arith)
  all-skipped (suc n) i less = ap (λ ss. ss ++ sections (suc i) n (r ∷ rs)) (skipped i (λ e. omega arith)) ∙ ap (λ ss. those i rs ++ ss) (all-skipped n (suc i) (omega arith))

  -- a record stands in front of those of its kind and of later ones
  in-its-section : All (λ s. number r ≤ number s) rs → (n i : ℕ) → i ≤ number r → number r ≤ i + n → sections i n (r ∷ rs) ≡ r ∷ sections i n rs
  in-its-section later zero i low high = first i (omega arith)
  in-its-section later (suc n) i low high = elim (cases_eq (number r) i) [
    | inl here ↦ ap (λ ss. ss ++ sections (suc i) n (r ∷ rs)) (first i here) ∙ ap (λ ss. r ∷ (those i rs ++ ss)) (all-skipped n (suc i) (omega arith))
    | inr other ↦
        let none : those i rs ≡ [] = filter_none (λ s. number s == i) rs (λ k d lt. let le = later k d lt in ne_eqb (number (get_or rs k d)) i (λ e. omega arith)) in
        ap (λ ss. ss ++ sections (suc i) n (r ∷ rs)) (skipped i other ∙ none) ∙ in-its-section later n (suc i) (omega arith) (omega arith) ∙ ap (λ ss. r ∷ (ss ++ sections (suc i) n rs)) (sym none)
  ]

known : (r : Record) → (1 ≤ number r) × (number r ≤ 10)
known (kind.Base x) = (omega arith, omega arith)
known r = (omega arith, omega arith)

in-sections : (b : ℕ) (rs : List Record) → Rises b rs → sections 1 9 rs ≡ rs
unfolding Rises
in-sections b [] up = refl
in-sections b (r ∷ rs) up =
    let range = known r in
    let later : All (λ s. number r ≤ number s) rs = λ k d lt. let over = all_above (place_of r + 1) rs up.1 (get_or rs k d) (Contains-get_or rs k d lt) in omega arith in
    in-its-section r rs later 9 1 range.0 (omega arith) ∙ ap (λ ss. r ∷ ss) (in-sections (place_of r + 1) rs up.1)

joined : {A : Type 0} (xs ys us vs : List A) → xs ≡ ys → us ≡ vs → xs ++ us ≡ ys ++ vs
joined xs ys us vs one two = cc

-- records that rise stand kind by kind
pub kinds : (b : ℕ) (rs : List Record) → Rises b rs → by_kind rs ≡ rs
kinds b rs up =
    joined _ _ _ _ (section kind.Base base_in 1 is-base rs) (joined _ _ _ _ (section kind.Incarnation incarnation_in 2 is-incarnation rs) (joined _ _ _ _ (section kind.Datafile datafile_in 3 is-datafile rs)
    (joined _ _ _ _ (section kind.Log log_in 4 is-log rs) (joined _ _ _ _ (section kind.Piece piece_in 5 is-piece rs) (joined _ _ _ _ (section kind.Mark mark_in 6 is-mark rs)
    (joined _ _ _ _ (section kind.Part part_in 7 is-part rs) (joined _ _ _ _ (section kind.Head head_in 8 is-head rs) (joined _ _ _ _ (section kind.Set set_in 9 is-set rs)
    (section kind.Switch switch_in 10 is-switch rs)))))))))
    ∙ in-sections b rs up

-- what is numbered from n on is told so
pub numbered-by : {A B : Type 0} (make : A → Record) (raw : ℕ → B → Record) (f : A → B) (number : A → ℕ) → ((x : A) → make x ≡ raw (number x) (f x)) → (n : ℕ) (xs : List A) → ((k : ℕ) (d : A) → k < length xs → number (get_or xs k d) ≡ n + k) → map make xs ≡ numbered raw n (map f xs)
numbered-by make raw f number same n [] are = refl
numbered-by make raw f number same n (x ∷ xs) are =
    let here = are 0 x (omega arith) in
    let first : number x ≡ n = omega arith in
    let rest = numbered-by make raw f number same (n + 1) xs (λ k d lt. let next = are (suc k) d (omega arith) in omega arith) in
    ap (λ r. r ∷ map make xs) (same x ∙ ap (λ m. raw m (f x)) first) ∙ ap (λ rs. raw n (f x) ∷ rs) rest

-- the incarnations and the datafiles of a catalog, as its tree and its list of datafiles tell them
pub tree-told : (rs : List Record) → IsCatalog rs → map kind.Incarnation (filter_map incarnation_in rs) ≡ numbered incarnation_record 1 (nodes rs)
tree-told rs c =
    numbered-by kind.Incarnation incarnation_record node (λ i. i.inc) (λ i. refl) 1 (filter_map incarnation_in rs) (λ k d lt. let is = number_is rs k d c lt in omega arith)
    ∙ ap (numbered incarnation_record 1) (sym (nodes_are rs))

pub files-told : (rs : List Record) → IsCatalog rs → map kind.Datafile (filter_map datafile_in rs) ≡ numbered datafile_record 1 (datafiles rs)
files-told rs c =
    numbered-by kind.Datafile datafile_record created_by (λ f. f.file) (λ f. refl) 1 (filter_map datafile_in rs) (λ k d lt. let is = file-number rs k d c lt in omega arith)
    ∙ ap (numbered datafile_record 1) (sym (datafiles-are rs))
