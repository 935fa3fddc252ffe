-- The pieces and sets of a BACKUP with writes can be recorded, and are true.
use Rattle.std.proofs.Common.{◌≡◌, ◌<◌, ◌≤◌, ◌∙◌, ℕ, suc, List, [], ◌∷◌, Option, Some, None, IfSome, refl, ap, sym, arith, drop, length, length-drop, length-take, map, sum_by, take, All, AllPairs, Contains, slice_get, slice_index_or}
use Rattle.std.proofs.lemmas.List.{length-map}
use Rattle.std.proofs.lemmas.List.Elements.{All-cons, All-contains, All-drop, All-head, All-map, All-nil, All-tail, All-take, All-weaker}
use Rattle.std.proofs.lemmas.{List.{Kept.{AllPairs-cons}, Sums.{sum_by-cons, sum_by-take-drop, sum_by-take-le}}, Option.{slice_get-get_or}}
use Rattle.rm_base.specs.declared.block.{Change.{Change}, Row.{Row}}
use Rattle.rm_catalog.specs.{Objects.{IsTag}, SetRules.{IsBeforePart}, declared.record.SetEntry.{SetEntry}}
use Rattle.rm_history.specs.{Agrees.{IsRow}, History.{IsHistory}, World.{blocks_of}}
use Rattle.rm_catalog_typed.specs.{Ledger.{Ledger}, LedgerFacts.{IsPieceEntry, IsSetEntry, IsSetPart}, Worlds.{world_of}}
use Rattle.rm_piece.specs.{Sets.{IsBeforeMember, IsMember, IsSet}, Valid.{IsPiece}, declared.set.{Set.{Set}, SetFile.{SetFile}}}
use Rattle.rm_piece.proofs.SetFitting.{length-set_most}
use Rattle.rm_lang_statement.specs.declared.command.BackupForm.{BackupForm}
use Rattle.rm_machine.specs.MadeObjects.{IsRecordable, Packed, alone, in_set, packed, packed_by}
use Rattle.rm_machine.specs.{MadePieces.{Copied, copied, entry_for, piece_by}, MadeSets.{InSet, in_sets, member_by, set_entry_for, set_of}}
use Rattle.rm_machine.specs.{Backup.{cut, grouped, is_copy, part_of}, Effect.{a_piece}, Machine.{IsTrueArtefact}, Sound.{IsSound}}
use Rattle.rm_machine.specs.{State.{current_of, ledger, tree, world}, declared.{job.Job.{Job}, state.State.{State}}}
use Rattle.rm_machine.proofs.Groups.{cut-each, cut-long, mapped-pairs, mapped-sum, pairs-drop, pairs-take}
use Rattle.rm_machine.proofs.MembersRead.{entry_with, member-is, member-true, part-is, set_with}
use Rattle.rm_machine.proofs.PiecesRead.{AreAll, AreOthers, AreRead, BeginsBelow, IsCheckpoint, entry-is, piece-true, piece-valid}
use Rattle.rm_machine.proofs.Deeds.{AllOf, all-of}

-- of each piece
pub all-copied : (P : Copied → Type 0) (t : State) (b : BackupForm) (checkpoint : ℕ) (js : List Job) (rows : List (List Row))
    → AllOf (λ j rs. P (record { copy = is_copy b j; piece = piece_by (ledger t) b checkpoint j rs; reads = length rs })) js rows → All P (copied (ledger t) b checkpoint js rows)
all-copied P t b checkpoint [] rows all = All-nil P
all-copied P t b checkpoint (j ∷ js) [] all = All-nil P
all-copied P t b checkpoint (j ∷ js) (rs ∷ rows) all =
    All-cons P (record { copy = is_copy b j; piece = piece_by (ledger t) b checkpoint j rs; reads = length rs }) (copied (ledger t) b checkpoint js rows) all.0 (all-copied P t b checkpoint js rows all.1)

-- as many pieces as datafiles
copied-many : (l : Ledger) (b : BackupForm) (checkpoint : ℕ) (js : List Job) (rows : List (List Row)) → length rows ≡ length js → length (copied l b checkpoint js rows) ≡ length js
copied-many l b checkpoint [] rows many = refl
copied-many l b checkpoint (j ∷ js) [] many = absurd (omega (arith, many))
copied-many l b checkpoint (j ∷ js) (rs ∷ rows) many = let rest = copied-many l b checkpoint js rows (omega (arith, many)) in omega (arith, rest)

-- a piece tells of a few facts of the records alone
pub piece-same : (l m : Ledger) (b : BackupForm) (checkpoint : ℕ) (j : Job) (rs : List Row) → l.base.dbid ≡ m.base.dbid → l.base.current ≡ m.base.current → l.files ≡ m.files → piece_by l b checkpoint j rs ≡ piece_by m b checkpoint j rs
piece-same l m b checkpoint j rs dbid current files =
    λ i. piece_by (record m { base = record m.base { dbid = dbid i; current = current i }; files = files i }) b checkpoint j rs

-- so do all
copied-same : (l m : Ledger) (b : BackupForm) (checkpoint : ℕ) (js : List Job) (rows : List (List Row)) → l.base.dbid ≡ m.base.dbid → l.base.current ≡ m.base.current → l.files ≡ m.files → copied l b checkpoint js rows ≡ copied m b checkpoint js rows
copied-same l m b checkpoint [] rows dbid current files = refl
copied-same l m b checkpoint (j ∷ js) [] dbid current files = refl
copied-same l m b checkpoint (j ∷ js) (rs ∷ rows) dbid current files =
    λ i. record { copy = is_copy b j; piece = piece-same l m b checkpoint j rs dbid current files i; reads = length rs } ∷ copied-same l m b checkpoint js rows dbid current files i

-- what each list of rows needs to be a piece at t or a member of a set, and that of its datafile
pub record IsReady (t : State) (checkpoint : ℕ) (j : Job) (rs : List Row) : Type 0 where
  pub read : AreRead t j.file rs
  pub above : read.datafile.creation < checkpoint
  pub all : AreAll read.datafile.creation j.from (length rs) read.datafile.blocks
  pub begins : BeginsBelow checkpoint j.from

module _ (t : State) (b : BackupForm) (checkpoint : ℕ) (sound : IsSound t) (at : IsCheckpoint t checkpoint) where
  pub ready-valid : (j : Job) (rs : List Row) → IsReady t checkpoint j rs → IsPiece (piece_by (ledger t) b checkpoint j rs)
  ready-valid j rs is = piece-valid t b j.file checkpoint rs sound is.read at j.from is.begins is.all

  pub ready-entry : (tag : List ℕ) → IsTag tag → (j : Job) (rs : List Row) → IsReady t checkpoint j rs → IsPieceEntry (tree t) (ledger t).files (entry_for t b tag (is_copy b j) (piece_by (ledger t) b checkpoint j rs))
  ready-entry tag tagged j rs is = entry-is t b j.file checkpoint rs sound is.read at tag tagged j.from is.begins is.all

  are-states : (h : List Change) (j : Job) (rs : List Row) → ((k : ℕ) (r : Row) → slice_get rs k ≡ Some r → IsRow (world t) h (current_of t) j.file checkpoint r) → (r : Row) → Contains rs r → IsRow (world t) h (current_of t) j.file checkpoint r
  are-states h j rs true_rows r has =
      let all : All (IsRow (world t) h (current_of t) j.file checkpoint) rs = λ k d inside. true_rows k (slice_index_or rs k d) (slice_get-get_or rs k d inside) in
      All-contains (IsRow (world t) h (current_of t) j.file checkpoint) rs r all has

  pub ready-true : (h : List Change) (j : Job) (rs : List Row) → IsReady t checkpoint j rs → ((k : ℕ) (r : Row) → slice_get rs k ≡ Some r → IsRow (world t) h (current_of t) j.file checkpoint r) → AreOthers t h j.file checkpoint rs j.from
      → IsTrueArtefact (world t) h (a_piece (piece_by (ledger t) b checkpoint j rs))
  ready-true h j rs is true_rows others =
      piece-true t b j.file checkpoint rs sound is.read at h (are-states h j rs true_rows) j.from is.begins is.all others

  -- so is the member of a set
  pub ready-member_true : (h : List Change) → IsHistory (world t) h → (j : Job) (rs : List Row) → IsReady t checkpoint j rs → ((k : ℕ) (r : Row) → slice_get rs k ≡ Some r → IsRow (world t) h (current_of t) j.file checkpoint r) → AreOthers t h j.file checkpoint rs j.from
      → IsTrueArtefact (world t) h (a_piece (member_by (ledger t) b checkpoint j rs).piece)
  ready-member_true h history j rs is true_rows others =
      member-true t b j.file checkpoint rs sound is.read at is.above h history (are-states h j rs true_rows) j.from (ready-true h j rs is true_rows others)

-- Members of sets

-- a member and its record fit whatever else is of the set
record FitsIn (t : State) (checkpoint : ℕ) (x : InSet) : Type 0 where
  member : (members : List SetFile) → IsMember (set_with t checkpoint members) x.member
  part : (e : SetEntry) → IsSetPart (tree t) (ledger t).files (entry_with t checkpoint e) (part_of x.member)

-- of each member
pub all-in_sets : (P : InSet → Type 0) (l : Ledger) (b : BackupForm) (checkpoint : ℕ) (js : List Job) (rows : List (List Row))
    → AllOf (λ j rs. P (record { member = member_by l b checkpoint j rs; reads = length rs })) js rows → All P (in_sets l b checkpoint js rows)
all-in_sets P l b checkpoint [] rows all = All-nil P
all-in_sets P l b checkpoint (j ∷ js) [] all = All-nil P
all-in_sets P l b checkpoint (j ∷ js) (rs ∷ rows) all =
    All-cons P (record { member = member_by l b checkpoint j rs; reads = length rs }) (in_sets l b checkpoint js rows) all.0 (all-in_sets P l b checkpoint js rows all.1)

-- as many as datafiles
in_sets-many : (l : Ledger) (b : BackupForm) (checkpoint : ℕ) (js : List Job) (rows : List (List Row)) → length rows ≡ length js → length (in_sets l b checkpoint js rows) ≡ length js
in_sets-many l b checkpoint [] rows many = refl
in_sets-many l b checkpoint (j ∷ js) [] many = absurd (omega (arith, many))
in_sets-many l b checkpoint (j ∷ js) (rs ∷ rows) many = let rest = in_sets-many l b checkpoint js rows (omega (arith, many)) in omega (arith, rest)

-- they tell of a few facts of the records alone
pub in_sets-same : (l m : Ledger) (b : BackupForm) (checkpoint : ℕ) (js : List Job) (rows : List (List Row)) → l.base.dbid ≡ m.base.dbid → l.base.current ≡ m.base.current → l.files ≡ m.files
    → in_sets l b checkpoint js rows ≡ in_sets m b checkpoint js rows
in_sets-same l m b checkpoint [] rows dbid current files = refl
in_sets-same l m b checkpoint (j ∷ js) [] dbid current files = refl
in_sets-same l m b checkpoint (j ∷ js) (rs ∷ rows) dbid current files =
    λ i. record { member = member_by (record m { base = record m.base { dbid = dbid i; current = current i }; files = files i }) b checkpoint j rs; reads = length rs }
    ∷ in_sets-same l m b checkpoint js rows dbid current files i

-- their datafiles ascend as those of the jobs do
abbrev IsLower : InSet → InSet → Type 0
IsLower x y = x.member.piece.file < y.member.piece.file

lower-all : (l : Ledger) (b : BackupForm) (checkpoint : ℕ) (f : ℕ) (js : List Job) (rows : List (List Row)) → All (λ (j : Job). f < j.file) js → All (λ (x : InSet). f < x.member.piece.file) (in_sets l b checkpoint js rows)
lower-all l b checkpoint f [] rows all = All-nil (λ (x : InSet). f < x.member.piece.file)
lower-all l b checkpoint f (j ∷ js) [] all = All-nil (λ (x : InSet). f < x.member.piece.file)
lower-all l b checkpoint f (j ∷ js) (rs ∷ rows) all =
    let P : Job → Type 0 = λ k. f < k.file in
    All-cons (λ (x : InSet). f < x.member.piece.file) (record { member = member_by l b checkpoint j rs; reads = length rs }) (in_sets l b checkpoint js rows) (All-head P j js all)
    (lower-all l b checkpoint f js rows (All-tail P j js all))

in_sets-rise : (l : Ledger) (b : BackupForm) (checkpoint : ℕ) (js : List Job) (rows : List (List Row)) → AllPairs (λ (i j : Job). i.file < j.file) js → AllPairs IsLower (in_sets l b checkpoint js rows)
in_sets-rise l b checkpoint [] rows rise = λ i k d less inside. absurd (omega (arith, inside))
in_sets-rise l b checkpoint (j ∷ js) [] rise = λ i k d less inside. absurd (omega (arith, inside))
in_sets-rise l b checkpoint (j ∷ js) (rs ∷ rows) rise =
    AllPairs-cons IsLower (record { member = member_by l b checkpoint j rs; reads = length rs }) (in_sets l b checkpoint js rows)
    (lower-all l b checkpoint j.file js rows (λ k d inside. rise 0 (suc k) d (omega arith) (omega (arith, inside))))
    (in_sets-rise l b checkpoint js rows (λ i k d less inside. rise (suc i) (suc k) d (omega (arith, less)) (omega (arith, inside))))

-- their blocks are among those of the jobs
abbrev blocks_with : InSet → ℕ
blocks_with x = x.member.piece.blocks

in_sets-blocks : (l : Ledger) (b : BackupForm) (checkpoint : ℕ) (js : List Job) (rows : List (List Row)) → sum_by blocks_with (in_sets l b checkpoint js rows) ≤ sum_by (λ (j : Job). blocks_of (world_of l) j.file) js
in_sets-blocks l b checkpoint [] rows = omega arith
in_sets-blocks l b checkpoint (j ∷ js) [] = omega arith
in_sets-blocks l b checkpoint (j ∷ js) (rs ∷ rows) =
    let x : InSet = record { member = member_by l b checkpoint j rs; reads = length rs } in
    omega (arith, sum_by-cons blocks_with x (in_sets l b checkpoint js rows), sum_by-cons (λ (k : Job). blocks_of (world_of l) k.file) j js, in_sets-blocks l b checkpoint js rows)

-- Objects

-- they tell of a few facts of the records alone
pub packed-same : (l m : Ledger) (b : BackupForm) (checkpoint : ℕ) (js : List Job) (rows : List (List Row)) → l.base.dbid ≡ m.base.dbid → l.base.current ≡ m.base.current → l.files ≡ m.files
    → packed l b checkpoint js rows ≡ packed m b checkpoint js rows
packed-same l m b checkpoint js rows dbid current files = by b.files_per_set
  where
    by : (o : Option ℕ) → packed_by o l b checkpoint js rows ≡ packed_by o m b checkpoint js rows
    by None = ap (map alone) (copied-same l m b checkpoint js rows dbid current files)
    by (Some n) = ap (λ (xs : List InSet). map (in_set checkpoint) (cut (length xs) n xs)) (in_sets-same l m b checkpoint js rows dbid current files)

-- as many as lists of datafiles, of which there is one for each job
pub packed-many : (l : Ledger) (b : BackupForm) (checkpoint : ℕ) (js : List Job) (rows : List (List Row)) (files : List ℕ) → length rows ≡ length js → length js ≡ length files
    → length (packed l b checkpoint js rows) ≡ length (grouped b.files_per_set files)
packed-many l b checkpoint js rows files many same = by b.files_per_set
  where
    by : (o : Option ℕ) → length (packed_by o l b checkpoint js rows) ≡ length (grouped o files)
    by None = length-map (copied l b checkpoint js rows) alone ∙ copied-many l b checkpoint js rows many ∙ same ∙ sym (length-map files (λ f. f ∷ []))
    by (Some n) =
        let xs : List InSet = in_sets l b checkpoint js rows in
        let long : length xs ≡ length files = in_sets-many l b checkpoint js rows many ∙ same in
        length-map (cut (length xs) n xs) (in_set checkpoint) ∙ ap (λ k. length (cut k n xs)) long ∙ cut-long (length files) n xs files long

-- what is so of each piece, and of each member of a set
abbrev pub OfEach : (Copied → Type 0) → (InSet → Type 0) → Packed → Type 0
OfEach P Q (alone x) = P x
OfEach P Q (in_set checkpoint xs) = All Q xs

pub all-packed : (P : Copied → Type 0) (Q : InSet → Type 0) (l : Ledger) (b : BackupForm) (checkpoint : ℕ) (js : List Job) (rows : List (List Row)) → IfSome b.files_per_set (λ n. 1 ≤ n)
    → All P (copied l b checkpoint js rows) → All Q (in_sets l b checkpoint js rows) → All (OfEach P Q) (packed l b checkpoint js rows)
all-packed P Q l b checkpoint js rows some copies members = by b.files_per_set some
  where
    by : (o : Option ℕ) → IfSome o (λ n. 1 ≤ n) → All (OfEach P Q) (packed_by o l b checkpoint js rows)
    by None some = All-map (OfEach P Q) alone (copied l b checkpoint js rows) copies
    by (Some n) some =
        let xs : List InSet = in_sets l b checkpoint js rows in
        let groups = cut (length xs) n xs in
        All-map (OfEach P Q) (in_set checkpoint) groups
        (All-weaker (λ g. (1 ≤ length g) × All Q g) (All Q) (λ g is. is.1) groups (cut-each (All Q) n some (All-take Q n) (All-drop Q n) (length xs) xs members))

-- Sets that can be recorded

module _ (t : State) (b : BackupForm) (checkpoint : ℕ) (sound : IsSound t) (at : IsCheckpoint t checkpoint) (tag : List ℕ) (tagged : IsTag tag) where
  ready-fits : (j : Job) (rs : List Row) → IsReady t checkpoint j rs → FitsIn t checkpoint (record { member = member_by (ledger t) b checkpoint j rs; reads = length rs })
  ready-fits j rs is = record {
    member = λ members. member-is t b j.file checkpoint rs sound is.read at is.above members j.from is.begins is.all;
    part = λ e. part-is t b j.file checkpoint rs sound is.read at is.above e j.from is.begins;
  }

  -- what goes into one set
  record CanGroup (xs : List InSet) : Type 0 where
    each : All (FitsIn t checkpoint) xs
    rise : AllPairs IsLower xs
    blocks : sum_by blocks_with xs ≤ 131072
    few : length xs ≤ 64

  group-take : (n : ℕ) (xs : List InSet) → CanGroup xs → CanGroup (take n xs)
  group-take n xs is = record {
    each = All-take (FitsIn t checkpoint) n xs is.each;
    rise = pairs-take IsLower n xs is.rise;
    blocks = let few = is.blocks in omega (arith, few, sum_by-take-le blocks_with xs n);
    few = let few = is.few in omega (arith, few, length-take n xs);
  }

  group-drop : (n : ℕ) (xs : List InSet) → CanGroup xs → CanGroup (drop n xs)
  group-drop n xs is = record {
    each = All-drop (FitsIn t checkpoint) n xs is.each;
    rise = pairs-drop IsLower n xs is.rise;
    blocks = let few = is.blocks in omega (arith, few, sum_by-take-drop blocks_with xs n);
    few = let few = is.few in omega (arith, few, length-drop n xs);
  }

  abbrev members_in : List InSet → List SetFile
  members_in xs = map (λ x. x.member) xs

  group-set : (xs : List InSet) → CanGroup xs → IsSet (set_of (ledger t) checkpoint xs)
  group-set xs is =
      let there = sound.catalog.ledger.current in
      let range = sound.catalog.ledger.incarnations.ranges (current_of t) there in
      record {
        dbid = sound.dbid;
        inc = omega (arith, there.1, sound.catalog.ledger.incarnations.few);
        checkpoint = omega (arith, at.most, range.2);
        few = omega (arith, is.few, length-map xs (λ (x : InSet). x.member));
        ascend = mapped-pairs IsBeforeMember (λ (x : InSet). x.member) xs is.rise;
        members = All-map (IsMember (set_of (ledger t) checkpoint xs)) (λ (x : InSet). x.member) xs (All-weaker (FitsIn t checkpoint) (λ x. IsMember (set_of (ledger t) checkpoint xs) x.member) (λ x fits. fits.member (members_in xs)) xs is.each);
        blocks = omega (arith, is.blocks, mapped-sum (λ (m : SetFile). m.piece.blocks) (λ (x : InSet). x.member) xs);
      }

  group-entry : (xs : List InSet) → 1 ≤ length xs → CanGroup xs → IsSetEntry (tree t) (ledger t).files (set_entry_for t b tag (set_of (ledger t) checkpoint xs))
  group-entry xs some is =
      let set : Set = set_of (ledger t) checkpoint xs in
      let entry : SetEntry = set_entry_for t b tag set in
      let valid = group-set xs is in
      let many = length-map xs (λ (x : InSet). x.member) in
      let parts = length-map (members_in xs) part_of in
      record {
        there = sound.catalog.ledger.current;
        checkpoint = at.some;
        count = (omega (arith, some, many, parts), omega (arith, is.few, many, parts));
        ascend = mapped-pairs IsBeforePart part_of (members_in xs) valid.ascend;
        parts = All-map (IsSetPart (tree t) (ledger t).files entry) part_of (members_in xs)
            (All-map (λ (m : SetFile). IsSetPart (tree t) (ledger t).files entry (part_of m)) (λ (x : InSet). x.member) xs (All-weaker (FitsIn t checkpoint) (λ x. IsSetPart (tree t) (ledger t).files entry (part_of x.member)) (λ x fits. fits.part entry) xs is.each));
        tag = tagged;
        size = omega (arith, length-set_most set valid, valid.few, valid.blocks);
      }

  -- each object can be recorded
  pub each-recordable : (js : List Job) (rows : List (List Row)) → AllOf (IsReady t checkpoint) js rows → AllPairs (λ (i j : Job). i.file < j.file) js → sum_by (λ (j : Job). blocks_of (world t) j.file) js ≤ 131072 → length js ≤ 64
      → length rows ≡ length js → IfSome b.files_per_set (λ n. 1 ≤ n) → All (IsRecordable t b tag) (packed (ledger t) b checkpoint js rows)
  each-recordable js rows ready rise blocks few many some = by b.files_per_set some
    where
      xs : List InSet
      xs = in_sets (ledger t) b checkpoint js rows

      all : CanGroup xs
      all = record {
        each = all-in_sets (FitsIn t checkpoint) (ledger t) b checkpoint js rows (all-of (IsReady t checkpoint) (λ j rs. FitsIn t checkpoint (record { member = member_by (ledger t) b checkpoint j rs; reads = length rs })) ready-fits js rows ready);
        rise = in_sets-rise (ledger t) b checkpoint js rows rise;
        blocks = omega (arith, blocks, in_sets-blocks (ledger t) b checkpoint js rows);
        few = omega (arith, few, in_sets-many (ledger t) b checkpoint js rows many);
      }

      by : (o : Option ℕ) → IfSome o (λ n. 1 ≤ n) → All (IsRecordable t b tag) (packed_by o (ledger t) b checkpoint js rows)
      by None some =
          All-map (IsRecordable t b tag) alone (copied (ledger t) b checkpoint js rows)
          (all-copied (λ x. IsRecordable t b tag (alone x)) t b checkpoint js rows
          (all-of (IsReady t checkpoint) (λ j rs. IsRecordable t b tag (alone (record { copy = is_copy b j; piece = piece_by (ledger t) b checkpoint j rs; reads = length rs })))
          (λ j rs is. (ready-valid t b checkpoint sound at j rs is, ready-entry t b checkpoint sound at tag tagged j rs is)) js rows ready))
      by (Some n) some =
          let groups = cut (length xs) n xs in
          All-map (IsRecordable t b tag) (in_set checkpoint) groups
          (All-weaker (λ g. (1 ≤ length g) × CanGroup g) (λ g. IsRecordable t b tag (in_set checkpoint g)) (λ g is. (group-set g is.1, group-entry g is.0 is.1)) groups
          (cut-each CanGroup n some (group-take n) (group-drop n) (length xs) xs all))
