-- The changes of which the copies of a duplicate tell, of each block its last one: they are a history of it, which made each copy.
use Rattle.std.specs.{Prelude.{filter, nat_lt}, List.{enumerate_from}, Option.{option_map, option_map_or}}
use Rattle.std.proofs.Common.{◌≡◌, ◌<◌, ◌≤◌, ◌+◌, ◌∙◌, inl, inr, ℕ, zero, suc, List, [], ◌∷◌, ◌++◌, Bool, Option, None, Some, ◌^◌, length, map, get_or, slice_get, Contains, All, AllPairs, refl, sym, ap, subst, arith}
use Rattle.std.proofs.lemmas.{Bool.{cases_lt}, List.{Elements.{Contains-append_cases, Contains-append_left, Contains-append_right, Contains-get_or}, Kept.{AllPairs-filter}}}
use Rattle.std.proofs.lemmas.Option.{same_Some, slice_get-get_or, slice_get-map, slice_get_within}
use Rattle.rm_base.specs.{Store.{Held}, Content.{zero_block}, declared.block.{Change.{Change}, Row.{Row}}}
use Rattle.rm_base.proofs.{Lists.{filter_from, filter_to, map_from, map_to, pairs-append, pairs-mapped}, Members.{none-in}, Slots.{all-get}, Tests.{lt_from, lt_true}}
use Rattle.rm_blocks.specs.File.{File}
use Rattle.rm_catalog.specs.{Rules.{HasDatabase, IsCatalog}, Trees.{nodes}, declared.record.Record.{Record}}
use Rattle.rm_catalog_typed.specs.{Facts.{IsTypedCatalog}, LedgerFacts.{IsCreated}}
use Rattle.rm_evidence.proofs.Fitting.{ascends}
use Rattle.rm_evidence.specs.{Database.{world_of}, Known.{known_of}, declared.evidence.InPlace.{InPlace}}
use Rattle.rm_history.specs.{Agrees.{BaseAgrees}, Evidence.{Agrees, Evidence}, History.{IsChange, IsHistory, SamePlace}, State.{state, states}, Tree.{IsThere, end_of, owner}}
use Rattle.rm_history.specs.{World.{blocks_of, creation_of}, declared.world.{Datafile.{Datafile}, World.{World}}}
use Rattle.rm_history.proofs.{Enabled.{unswitched}, KnownStates.{Happened, IsTop, happened-state}, Owners.{le_true, owner-first}, States.{concerns-parts}}
use Rattle.rm_piece.specs.{Artefacts.{base_of}, Valid.{IsBefore}, declared.piece.Piece.{Piece}}
use Rattle.rm_apply.{specs.Recover.{outside}, proofs.States.{row-is, rows-are, rows-are-states}}
use Rattle.rm_dup.specs.{Copies.{as_first, copies_of, copy_as, duplicated, made_as, made_of}, Entries.{catalog_of, moment_in}}
use Rattle.rm_dup.specs.{Duplicate.{IsDuplicate}, declared.database.Duplicate.{Duplicate}}
use Rattle.rm_dup.proofs.{Back.{IsSolid, all-solid, base_as, file-target, file-told, member, untouched}, Made.{datafile-there}, Valid.{all-copies}, Whole.{catalog-is}}

-- a row of datafile k, as the change that made it
abbrev change_of : ℕ → Row → Change
change_of k r = record { inc = 1; thread = 1; scn = r.version; file = k; block = r.block; content = r.content }

-- it was written since its datafile was created
abbrev is_written : World → File → Row → Bool
is_written w x r = nat_lt (creation_of w x.file) r.version

-- the changes of this datafile, of this number
abbrev changes_of : World → ℕ → File → List Change
changes_of w k x = map (change_of k) (filter (is_written w x) x.rows)

-- of these datafiles, numbered from k on
abbrev pub changes : World → ℕ → List File → List Change
changes w k [] = []
changes w k (x ∷ xs) = changes_of w k x ++ changes w (k + 1) xs

-- a change of the list, by the row that it made
record IsOfRow (w : World) (k : ℕ) (files : List File) (c : Change) : Type 0 where
  place : ℕ
  file : File
  there : slice_get files place ≡ Some file
  row : Row
  held : Contains file.rows row
  later : creation_of w file.file < row.version
  is : change_of (k + place) row ≡ c

of-row : (w : World) (k : ℕ) (files : List File) (c : Change) → Contains (changes w k files) c → IsOfRow w k files c
of-row w k [] c has = absurd (none-in c has)
of-row w k (x ∷ xs) c has = elim (Contains-append_cases (changes_of w k x) (changes w (k + 1) xs) c has) [
  | inl here ↦
      let made = map_from (change_of k) (filter (is_written w x) x.rows) c here in
      let row = filter_from (is_written w x) x.rows made.item made.held in
      let number : k + 0 ≡ k = omega arith in
      record {
        place = 0;
        file = x;
        there = refl;
        row = made.item;
        held = row.0;
        later = lt_from (creation_of w x.file) made.item.version row.1;
        is = ap (λ n. change_of n made.item) number ∙ made.is;
      }
  | inr rest ↦
      let of = of-row w (k + 1) xs c rest in
      let number : k + suc of.place ≡ k + 1 + of.place = omega arith in
      record {
        place = suc of.place;
        file = of.file;
        there = of.there;
        row = of.row;
        held = of.held;
        later = of.later;
        is = ap (λ n. change_of n of.row) number ∙ of.is;
      }
]

to-row : (w : World) (k : ℕ) (files : List File) (n : ℕ) (x : File) (r : Row) → slice_get files n ≡ Some x → Contains x.rows r
    → creation_of w x.file < r.version → Contains (changes w k files) (change_of (k + n) r)
to-row w k [] n x r is has later = absurd cc
to-row w k (y ∷ ys) zero x r is has later =
    let same : x ≡ y = cc in
    let number : k ≡ k + 0 = omega arith in
    let written = filter_to (is_written w x) x.rows r has (lt_true (creation_of w x.file) r.version later) in
    let within : Contains (changes_of w k x) (change_of k r) = map_to (change_of k) (filter (is_written w x) x.rows) r written in
    Contains-append_left (changes_of w k y) (changes w (k + 1) ys) (change_of (k + 0) r)
    (subst (λ (z : File). Contains (changes_of w k z) (change_of (k + 0) r)) same
    (subst (λ m. Contains (changes_of w k x) (change_of m r)) number within))
to-row w k (y ∷ ys) (suc n) x r is has later =
    let number : k + 1 + n ≡ k + suc n = omega arith in
    Contains-append_right (changes_of w k y) (changes w (k + 1) ys) (change_of (k + suc n) r)
    (subst (λ m. Contains (changes w (k + 1) ys) (change_of m r)) number (to-row w (k + 1) ys n x r is has later))

-- so of each datafile, by its place
abbrev pub Each : List File → (File → Type 0) → Type 0
Each files Is = (n : ℕ) (x : File) → slice_get files n ≡ Some x → Is x

abbrev Apart : Change → Change → Type 0
Apart c d = ¬ SamePlace c d

-- no two have one place
apart : (w : World) (k : ℕ) (files : List File) → Each files (λ x. AllPairs IsBefore x.rows) → AllPairs Apart (changes w k files)
apart w k [] each = λ i j d less inside. absurd (omega (arith, inside))
apart w k (x ∷ xs) each =
    pairs-append Apart (changes_of w k x) (changes w (k + 1) xs)
    (pairs-mapped (change_of k) IsBefore Apart (λ r q less same. let block = same.block in omega (arith, less, block)) (filter (is_written w x) x.rows)
    (AllPairs-filter IsBefore (is_written w x) x.rows (each 0 x refl)))
    (apart w (k + 1) xs (λ n. each (suc n)))
    (λ c d here rest same.
    let made = map_from (change_of k) (filter (is_written w x) x.rows) c here in
    let of = of-row w (k + 1) xs d rest in
    let first = ap (λ (e : Change). e.file) made.is in
    let second = ap (λ (e : Change). e.file) of.is in
    let both = same.file in
    omega (arith, first, second, both))

-- two lists that are made of the numbers of copies and of what these are copies of
numbers-alike : {X : Type 0} (dbid s : ℕ) (f g : ℕ × ℕ → X) (k : ℕ) (files : List File)
    → ((n : ℕ) (x : File) → slice_get files n ≡ Some x → f (k + n, k + n) ≡ g (k + n, x.file))
    → map f (enumerate_from k (map (λ (a : Piece). a.file) (map (copy_as dbid s) (enumerate_from k files))))
    ≡ map g (enumerate_from k (map (λ (x : File). x.file) files))
numbers-alike dbid s f g k [] each = refl
numbers-alike {X = X} dbid s f g k (x ∷ xs) each =
    let here : k + 0 ≡ k = omega arith in
    let first : f (k, k) ≡ g (k, x.file) = subst (λ m. f (m, m) ≡ g (m, x.file)) here (each 0 x refl) in
    let rest = numbers-alike dbid s f g (k + 1) xs (λ n y is.
    let next : k + suc n ≡ k + 1 + n = omega arith in subst (λ m. f (m, m) ≡ g (m, y.file)) next (each (suc n) y is)) in
    λ j. first j ∷ rest j

-- where a block is as it was created, its row has zero bytes
abbrev pub IsZeroWhereNew : World → File → Type 0
IsZeroWhereNew w x = (r : Row) → Contains x.rows r → r.version ≡ creation_of w x.file → r.content ≡ zero_block

module _ (w : World) (s : ℕ) (files : List File) (each : Each files (IsSolid w s)) where
  -- a row stands at its block
  read : (n : ℕ) (x : File) (r : Row) → slice_get files n ≡ Some x → Contains x.rows r → slice_get x.rows r.block ≡ Some r
  read n x r is has =
      let at : slice_get x.rows has.0 ≡ Some r = slice_get-get_or x.rows has.0 r has.1 ∙ ap (λ (q : Row). Some q) has.2 in
      ap (λ k. slice_get x.rows k) ((each n x is).rows has.0 r at).0 ∙ at

  rows-ascend : Each files (λ x. AllPairs IsBefore x.rows)
  rows-ascend n x is = ascends x.rows (λ k r at. ((each n x is).rows k r at).0)

module _ (w : World) (dbid moment s : ℕ) (files : List File) (typed : IsTypedCatalog (catalog_of w dbid moment s files))
    (each : Each files (IsSolid w s)) (new : Each files (IsZeroWhereNew w)) where
  abbrev pub v : World
  v = duplicated w s files

  abbrev pub h : List Change
  h = changes w 1 files

  blocks-are : (n : ℕ) (x : File) → slice_get files n ≡ Some x → blocks_of v (1 + n) ≡ blocks_of w x.file
  blocks-are n x is = ap (λ (o : Option Datafile). option_map_or (λ d. d.blocks) o 0) (datafile-there w s files n x is)

  creation-is : (n : ℕ) (x : File) → slice_get files n ≡ Some x → creation_of v (1 + n) ≡ creation_of w x.file
  creation-is n x is = ap (λ (o : Option Datafile). option_map_or (λ d. d.creation) o 0) (datafile-there w s files n x is)

  change-is : (n : ℕ) (x : File) (r : Row) → slice_get files n ≡ Some x → Contains x.rows r → creation_of w x.file < r.version
      → IsChange v (change_of (1 + n) r)
  change-is n x r is has later =
      let created : IsCreated v.tree (as_first w x.file) =
      all-get (IsCreated v.tree) v.files n (as_first w x.file)
      (slice_get-map (λ (y : File). as_first w y.file) files n ∙ ap (λ o. option_map (λ (y : File). as_first w y.file) o) is) typed.ledger.datafiles.each in
      let from = created.creation.0 in
      let block = ((each n x is).rows r.block r (read w s files each n x r is has)).0 in
      let inside : r.block < length x.rows = slice_get_within x.rows r.block r (read w s files each n x r is has) in
      let long = (each n x is).long in
      record {
        thread = record {
          number = (omega arith, omega arith);
          on = unswitched v.tree w.threads 1 r.version 1 ∙ le_true 1 w.threads typed.ledger.base.threads.0;
        };
        there = (omega arith, omega arith);
        begun = omega (arith, from, later);
        datafile = as_first w x.file;
        is = datafile-there w s files n x is;
        created = later;
        owned = owner-first v.tree (creation_of w x.file);
        block = omega (arith, inside, long);
      }

  pub history : IsHistory v h
  history = record {
    changes = λ c has. let of = of-row w 1 files c has in subst (IsChange v) of.is (change-is of.place of.file of.row of.there of.held of.later);
    apart = apart w 1 files (rows-ascend w s files each);
  }

  -- each change lies below the target
  pub below : All (λ c. c.scn < end_of v.tree c.inc) h
  below k d lt =
      let of = of-row w 1 files (get_or h k d) (Contains-get_or h k d lt) in
      let at = read w s files each of.place of.file of.row of.there of.held in
      let last : of.row.version < s = ((each of.place of.file of.there).rows of.row.block of.row at).2 in
      subst (λ (c : Change). c.scn < end_of v.tree c.inc) of.is last

  top : (n : ℕ) (x : File) (b : ℕ) (r : Row) → slice_get files n ≡ Some x → slice_get x.rows b ≡ Some r → IsTop v h 1 s (1 + n) b r.version
  top n x b r is at c has passes =
      let of = of-row w 1 files c has in
      let parts = concerns-parts v 1 s (1 + n) b c passes in
      let file = parts.file in
      let number = ap (λ (e : Change). e.file) of.is in
      let place : of.place ≡ n = omega (arith, file, number) in
      let one : of.file ≡ x = same_Some of.file x (sym of.there ∙ ap (λ k. slice_get files k) place ∙ is) in
      let block : of.row.block ≡ b = ap (λ (e : Change). e.block) of.is ∙ parts.block in
      let there = read w s files each of.place of.file of.row of.there of.held in
      let same : of.row ≡ r = same_Some of.row r (sym there ∙ ap (λ k. slice_get of.file.rows k) block ∙ ap (λ (y : File). slice_get y.rows b) one ∙ at) in
      let scn = ap (λ (e : Change). e.scn) of.is in
      let version = ap (λ (q : Row). q.version) same in
      omega (arith, scn, version)

  happened : (n : ℕ) (x : File) (b : ℕ) (r : Row) → slice_get files n ≡ Some x → slice_get x.rows b ≡ Some r
      → Happened v h (1 + n) b (owner v.tree 1 r.version) r.version r.content
  happened n x b r is at = elim (cases_lt (creation_of w x.file) r.version) [
    | inl later ↦ inl (record {
      change = change_of (1 + n) r;
      held = to-row w 1 files n x r is (member x.rows b r at) later;
      at = record { file = refl; block = ((each n x is).rows b r at).0; inc = sym (owner-first v.tree r.version); scn = refl };
      content = refl;
    })
    | inr least ↦
        let low = ((each n x is).rows b r at).1 in
        let created : r.version ≡ creation_of w x.file = omega (arith, least, low) in
        inr (created ∙ sym (creation-is n x is), new n x is r (member x.rows b r at) created)
  ]

  -- each row is the state of its block
  pub state-is : (n : ℕ) (x : File) (b : ℕ) (r : Row) → slice_get files n ≡ Some x → slice_get x.rows b ≡ Some r → state v h 1 s (1 + n) b ≡ r
  state-is n x b r is at =
      let row = (each n x is).rows b r at in
      happened-state v h 1 s (1 + n) b r.version r.content history row.2 (top n x b r is at) (happened n x b r is at)
      ∙ (λ j. record { block = sym row.0 j; version = r.version; content = r.content })

  pub agrees : (n : ℕ) (x : File) → slice_get files n ≡ Some x → BaseAgrees v h (base_as s (1 + n, x))
  agrees n x is r has = record { position = s; after = omega arith; is = state-is n x r.block r is (read w s files each n x r is has) }

  pub rows-made : (n : ℕ) (x : File) → slice_get files n ≡ Some x → x.rows ≡ states v h 1 s (1 + n) (blocks_of v (1 + n))
  rows-made n x is =
      rows-are (state v h 1 s (1 + n)) 0 (blocks_of v (1 + n)) x.rows ((each n x is).long ∙ sym (blocks-are n x is))
      (λ k r at. let here : k ≡ 0 + k = omega arith in subst (λ b. state v h 1 s (1 + n) b ≡ r) here (state-is n x k r is at))

  -- its datafiles are these, if they are what a history of the source made
  pub made-same : (g : List Change) (i : ℕ) → Each files (λ x. x.rows ≡ states w g i s x.file (blocks_of w x.file))
      → made_of v h 1 s (map (λ (a : Piece). a.file) (copies_of dbid s files)) ≡ made_of w g i s (map (λ (x : File). x.file) files)
  made-same g i rows = numbers-alike dbid s (made_as v h 1 s) (made_as w g i s) 1 files (λ n x is. λ j. record {
    file = 1 + n;
    inc = 1;
    checkpoint = s;
    rows = (sym (rows-made n x is) ∙ rows n x is) j;
  })

-- A history of a duplicate at (1, s): by it each copy agrees, and its datafiles are these.
pub record IsLived (v : World) (s : ℕ) (copies : List Piece) (made : List File) (h : List Change) : Type 0 where
  pub history : IsHistory v h
  pub below : All (λ c. c.scn < end_of v.tree c.inc) h
  pub agrees : All (λ a. BaseAgrees v h (base_of a)) copies
  pub is : made_of v h 1 s (map (λ (a : Piece). a.file) copies) ≡ made

module _ (rs : List Record) (catalog : IsCatalog rs) (database : HasDatabase rs) (held : Option Held) (place : InPlace) (i s dbid : ℕ)
    (there : IsThere (nodes rs) i) (inside : outside (nodes rs) i s ≡ None) (some : (1 ≤ dbid) × (dbid < 2 ^ 32)) (d : Duplicate)
    (is : IsDuplicate held rs place i s dbid d) (g : List Change) (history-of : IsHistory (world_of rs) g)
    (agree : Agrees (world_of rs) g (known_of is.tells.evidence)) where
  abbrev w : World
  w = world_of rs

  abbrev files : List File
  files = is.recovered.files

  abbrev e : Evidence
  e = known_of is.tells.evidence

  typed : IsTypedCatalog (catalog_of w dbid (moment_in rs) s files)
  typed = catalog-is rs catalog database held place i s dbid there inside some is.recovered is.tells

  each : Each files (IsSolid w s)
  each = all-solid w e i s files is.tells.files

  new : Each files (IsZeroWhereNew w)
  new n x at r has created =
      let within = member files n x at in
      let row = read w s files each n x r at has in
      let target = file-target w e i s files is.tells.files x within in
      let was = row-is w e i s x.file g x history-of agree target (file-told w e i s files is.tells.files x within) r.block r row in
      untouched w g i s x.file r.block r history-of was created

  -- a duplicate that was made has a history, by which its datafiles at the target are those of the source
  pub lived : (h : List Change) × IsLived (duplicated w s files) s d.pieces (made_of w g i s d.from) h
  lived = (
    changes w 1 files,
    record {
      history = history w dbid (moment_in rs) s files typed each new;
      below = below w dbid (moment_in rs) s files typed each new;
      agrees = subst (λ (ps : List Piece). All (λ a. BaseAgrees (duplicated w s files) (changes w 1 files) (base_of a)) ps) (sym is.pieces)
          (all-copies (λ a. BaseAgrees (duplicated w s files) (changes w 1 files) (base_of a)) dbid s files
          (agrees w dbid (moment_in rs) s files typed each new));
      is =
          ap (λ (ps : List Piece). made_of (duplicated w s files) (changes w 1 files) 1 s (map (λ (a : Piece). a.file) ps)) is.pieces
          ∙ made-same w dbid (moment_in rs) s files typed each new g i (λ n x at.
          let within = member files n x at in
          let target = file-target w e i s files is.tells.files x within in
          rows-are-states w e i s x.file g x history-of agree target (file-told w e i s files is.tells.files x within))
          ∙ ap (λ (ns : List ℕ). made_of w g i s ns) (sym is.from);
    },
  )
