-- Each block of a duplicate is determined by its copy, and is what the source's history made of it.
use Rattle.std.specs.{List.{enumerate_from}, Option.{option_map, option_map_or}}
use Rattle.std.proofs.Common.{◌≡◌, ◌↔◌, ◌<◌, ◌≤◌, ◌+◌, ◌-◌, ◌∙◌, ◌⊎◌, inl, inr, ℕ, List, [], Option, Some, None, length, map, slice_get, Contains, refl, sym, ap, subst, arith}
use Rattle.std.proofs.lemmas.List.Elements.{All-contains}
use Rattle.std.proofs.lemmas.Option.{get_or_from_slice_get, none-some, same_Some, slice_get-get_or, slice_get-map, slice_get_within}
use Rattle.rm_base.specs.{Content.{zero_block}, declared.block.{Block.{Block}, Change.{Change}, Row.{Row}}}
use Rattle.rm_base.proofs.{Lists.{map_from, map_to}, Tests.{exists_from}, Numbered.{numbered-at, numbered-of}}
use Rattle.rm_blocks.specs.File.{File}
use Rattle.rm_history.specs.{Artefacts.{Base, Level1, Log}, Evidence.{Agrees, Evidence}, FirstGap.{IsRecoverable, IsTarget}}
use Rattle.rm_history.specs.{History.{IsHistory}, Known.{HasRow, in_base, in_level1, Seen, by_row, by_log, by_creation, Quiet, Determined}}
use Rattle.rm_history.specs.{State.{state, states}, Tree.{owner}, World.{blocks_of, creation_of, file_of}}
use Rattle.rm_history.{specs.declared.world.{Datafile.{Datafile}, World.{World}}, proofs.States.{concerns-parts, state-held}}
use Rattle.rm_history.proofs.Worlds.{file-there}
use Rattle.rm_plan.specs.Plan.{IsFileTarget}
use Rattle.rm_apply.{specs.Told.{AreFilesAt, IsTold}, proofs.States.{row-is, rows-are}}
use Rattle.rm_dup.specs.Copies.{as_first, duplicated, made_as}

-- the copy of a datafile of this number, as evidence
abbrev pub base_as : ℕ → ℕ × File → Base
base_as s (k, x) = record { inc = 1; file = k; checkpoint = s; rows = x.rows }

-- the evidence is the copies, and nothing else
pub record AreCopies (s : ℕ) (files : List File) (e : Evidence) : Type 0 where
  pub bases : (a : Base) → Contains e.bases a ↔ Contains (map (base_as s) (enumerate_from 1 files)) a
  pub no_level1 : e.level1s ≡ []
  pub no_log : e.logs ≡ []

pub mapped : {X Y : Type 0} (f : X → Y) (o : Option X) (y : Y) → option_map f o ≡ Some y → (x : X) × (o ≡ Some x) × (f x ≡ y)
mapped f None y is = absurd (none-some y is)
mapped f (Some x) y is = (x, refl, same_Some (f x) y is)

pub member : {X : Type 0} (xs : List X) (k : ℕ) (x : X) → slice_get xs k ≡ Some x → Contains xs x
member xs k x is = (k, slice_get_within xs k x is, get_or_from_slice_get xs k x x is)

-- what is true of each datafile that is told: a row for each block, written between its creation and the target
pub record IsSolid (w : World) (s : ℕ) (x : File) : Type 0 where
  pub long : length x.rows ≡ blocks_of w x.file
  pub created : creation_of w x.file < s
  pub rows : (b : ℕ) (r : Row) → slice_get x.rows b ≡ Some r → (r.block ≡ b) × (creation_of w x.file ≤ r.version) × (r.version < s)

pub solid : (w : World) (e : Evidence) (i s : ℕ) (x : File) → IsFileTarget w i s x.file → IsTold w e i s x.file x → IsSolid w s x
solid w e i s x target told =
    let created : creation_of w x.file ≡ target.datafile.creation = ap (λ (o : Option Datafile). option_map_or (λ d. d.creation) o 0) target.is in
    let parts = exists_from target.datafile.creation s (owner w.tree i target.datafile.creation) target.datafile.inc target.exists in
    record {
      long = told.blocks;
      created = omega (arith, created, parts.0);
      rows = λ b r is.
          let row = told.rows b r is in
          let seen : Seen w e x.file b (owner w.tree i target.datafile.creation) target.datafile.creation zero_block =
          subst (λ m. Seen w e x.file b m target.datafile.creation zero_block) (sym parts.1) (by_creation target.datafile target.is) in
          let low : target.datafile.creation ≤ r.version = row.1.greatest.most target.datafile.creation zero_block parts.0 seen in
          (row.0, omega (arith, low, created), row.1.greatest.below);
    }

-- a row of a block, in the datafile that has the number
record Spot (files : List File) (f b : ℕ) : Type 0 where
  place : ℕ
  file : File
  there : slice_get files place ≡ Some file
  number : 1 + place ≡ f
  row : Row
  read : slice_get file.rows b ≡ Some row

some_row : Row
some_row = record { block = 0; version = 0; content = zero_block }

module _ (w : World) (s : ℕ) (files : List File) (copies : Evidence) (are : AreCopies s files copies) (each : (k : ℕ) (x : File) → slice_get files k ≡ Some x → IsSolid w s x) where
  -- the datafile of a number
  item : (f : ℕ) (d : Datafile) → file_of (duplicated w s files) f ≡ Some d → (x : File) × (slice_get files (f - 1) ≡ Some x) × (as_first w x.file ≡ d) × (0 < f)
  item f d is =
      let there = file-there (duplicated w s files) f d is in
      let found = mapped (λ (x : File). as_first w x.file) (slice_get files (f - 1)) d (sym (slice_get-map (λ (x : File). as_first w x.file) files (f - 1)) ∙ there.1) in
      (found.0, found.1, found.2, there.0)

  spot : (f b : ℕ) → IsTarget (duplicated w s files) 1 s f b → Spot files f b
  spot f b target =
      let found = item f target.datafile target.is in
      let some = found.3 in
      let blocks = ap (λ (d : Datafile). d.blocks) found.2 in
      let long = (each (f - 1) found.0 found.1).long in
      let inside = target.block in
      record {
        place = f - 1;
        file = found.0;
        there = found.1;
        number = omega (arith, some);
        row = _;
        read = slice_get-get_or found.0.rows b some_row (omega (arith, inside, blocks, long));
      }

  has-row : (f b : ℕ) (p : Spot files f b) → HasRow copies f b 1 s p.row
  has-row f b p =
      in_base (base_as s (1 + p.place, p.file)) p.row ((are.bases (base_as s (1 + p.place, p.file))).1 (map_to (base_as s) (enumerate_from 1 files) (1 + p.place, p.file) (numbered-at 1 files p.place p.file p.there)))
      (member p.file.rows b p.row p.read) p.number ((each p.place p.file p.there).rows b p.row p.read).0

  -- there is no other row of the block
  only-row : (f b : ℕ) (p : Spot files f b) (j c : ℕ) (r : Row) → HasRow copies f b j c r → r ≡ p.row
  only-row f b p _ _ _ (in_base a r at among file block) =
      let from = map_from (base_as s) (enumerate_from 1 files) a ((are.bases a).0 at) in
      let of = numbered-of 1 files from.item from.held in
      let number = ap (λ (x : Base). x.file) from.is in
      let same : of.place ≡ p.place = omega (arith, number, file, of.number, p.number) in
      let one : from.item.1 ≡ p.file = same_Some from.item.1 p.file (sym of.there ∙ ap (λ k. slice_get files k) same ∙ p.there) in
      let rows : a.rows ≡ p.file.rows = sym (ap (λ (x : Base). x.rows) from.is) ∙ ap (λ (x : File). x.rows) one in
      let has : Contains p.file.rows r = subst (λ rs. Contains rs r) rows among in
      let read : slice_get p.file.rows has.0 ≡ Some r = slice_get-get_or p.file.rows has.0 r has.1 ∙ ap (λ (x : Row). Some x) has.2 in
      let stands : r.block ≡ has.0 = ((each p.place p.file p.there).rows has.0 r read).0 in
      same_Some r p.row (sym read ∙ ap (λ k. slice_get p.file.rows k) (sym stands ∙ block) ∙ p.read)
  only-row f b p _ _ _ (in_level1 a r at among file block) =
      let none : Contains [] a = subst (λ (xs : List Level1). Contains xs a) are.no_level1 at in
      absurd (omega (arith, none.1))

  -- a content of the block is seen in that row, or at its creation
  seen-is : (f b : ℕ) (p : Spot files f b) (m v : ℕ) (c : Block) → Seen (duplicated w s files) copies f b m v c
      → ((v ≡ p.row.version) × (c ≡ p.row.content)) ⊎ ((v ≡ creation_of w p.file.file) × (c ≡ zero_block))
  seen-is f b p _ _ _ (by_row j c r has) = let is = only-row f b p j c r has in inl (ap (λ (x : Row). x.version) is, ap (λ (x : Row). x.content) is)
  seen-is f b p _ _ _ (by_log a c has) =
      let none : Contains [] a = subst (λ (xs : List Log). Contains xs a) are.no_log has.log in
      absurd (omega (arith, none.1))
  seen-is f b p _ _ _ (by_creation d is) =
      let found = item f d is in
      let some = found.3 in
      let same : f - 1 ≡ p.place = omega (arith, some, p.number) in
      let one : found.0 ≡ p.file = same_Some found.0 p.file (sym found.1 ∙ ap (λ k. slice_get files k) same ∙ p.there) in
      inr (sym (ap (λ (x : Datafile). x.creation) found.2) ∙ ap (λ (x : File). creation_of w x.file) one, refl)

  determined : (f b : ℕ) (p : Spot files f b) → Determined (duplicated w s files) copies 1 s f b p.row.version p.row.content
  determined f b p =
      let range = (each p.place p.file p.there).rows b p.row p.read in
      let created = range.1 in
      let seen : Seen (duplicated w s files) copies f b (owner (duplicated w s files).tree 1 p.row.version) p.row.version p.row.content = by_row 1 s p.row (has-row f b p) in
      record {
        greatest = record {
          below = range.2;
          content = p.row.content;
          seen = seen;
          most = λ u x low sees. elim (seen-is f b p _ u x sees) [
            | inl row ↦ let is = row.0 in omega (arith, is)
            | inr made ↦ let is = made.0 in omega (arith, is, created)
          ];
        };
        seen = seen;
        quiet = λ g above below. Quiet.by_row 1 s p.row (has-row f b p) above below refl;
      }

  -- nothing else is told of the block, but zero bytes where it is as it was created
  told-is : (f b : ℕ) (p : Spot files f b) (v : ℕ) (c : Block) → Determined (duplicated w s files) copies 1 s f b v c
      → (v ≡ p.row.version) × ((c ≡ p.row.content) ⊎ ((p.row.version ≡ creation_of w p.file.file) × (c ≡ zero_block)))
  told-is f b p v c told =
      let range = (each p.place p.file p.there).rows b p.row p.read in
      let created = range.1 in
      let up : p.row.version ≤ v = told.greatest.most p.row.version p.row.content range.2 (by_row 1 s p.row (has-row f b p)) in
      elim (seen-is f b p _ v c told.seen) [
        | inl row ↦ (row.0, inl row.1)
        | inr made ↦ let is = made.0 in (omega (arith, is, created, up), inr (omega (arith, is, created, up), made.1))
      ]

  recoverable : IsRecoverable (duplicated w s files) copies 1 s
  recoverable f b target = let p = spot f b target in record { version = p.row.version; content = p.row.content; is = determined f b p }

-- the state of a block that is as it was created has zero bytes
pub untouched : (w : World) (h : List Change) (i s f b : ℕ) (r : Row) → IsHistory w h → state w h i s f b ≡ r → r.version ≡ creation_of w f → r.content ≡ zero_block
untouched w h i s f b r history is old =
    let held = state-held w h i s f b in
    let same : (state w h i s f b).version ≡ creation_of w f = ap (λ (x : Row). x.version) is ∙ old in
    sym (ap (λ (x : Row). x.content) is) ∙ elim held.held [
      | inl made ↦
          let of = history.changes made.change made.is in
          let parts = concerns-parts w i s f b made.change made.concerns in
          let later = of.created in
          let version = made.version in
          let created : creation_of w f ≡ of.datafile.creation = ap (λ (n : ℕ). creation_of w n) (sym parts.file) ∙ ap (λ (o : Option Datafile). option_map_or (λ d. d.creation) o 0) of.is in
          absurd (omega (arith, later, version, same, created))
      | inr none ↦ none.content
    ]

row-path : (r q : Row) → r.block ≡ q.block → r.version ≡ q.version → r.content ≡ q.content → r ≡ q
row-path r q b v c = λ j. record { block = b j; version = v j; content = c j }

module _ (w : World) (e : Evidence) (i s : ℕ) (files : List File) (at : AreFilesAt w e i s files) where
  pub file-target : (x : File) → Contains files x → IsFileTarget w i s x.file
  file-target x has = (at.numbers.exact x.file).0 (map_to (λ (y : File). y.file) files x has)

  pub file-told : (x : File) → Contains files x → IsTold w e i s x.file x
  file-told x has = All-contains (λ (y : File). IsTold w e i s y.file y) files x at.each has

  pub is-solid : (x : File) → Contains files x → IsSolid w s x
  is-solid x has = solid w e i s x (file-target x has) (file-told x has)

  pub all-solid : (k : ℕ) (x : File) → slice_get files k ≡ Some x → IsSolid w s x
  all-solid k x is = is-solid x (member files k x is)

module _ (w : World) (e copies : Evidence) (i s : ℕ) (files : List File) (at : AreFilesAt w e i s files) (are : AreCopies s files copies) where
  pub all-back : IsRecoverable (duplicated w s files) copies 1 s
  all-back = recoverable w s files copies are (all-solid w e i s files at)

  module _ (h : List Change) (back : List File) (history : IsHistory w h) (agrees : Agrees w h e) (there : AreFilesAt (duplicated w s files) copies 1 s back) where
    -- each datafile that comes back is what the history made of the one that it was
    pub true-to-source : (y : File) → Contains back y → (x : File) × (slice_get files (y.file - 1) ≡ Some x) × (0 < y.file) × (y ≡ made_as w h i s (y.file, x.file))
    true-to-source y has =
        let target = (there.numbers.exact y.file).0 (map_to (λ (z : File). z.file) back y has) in
        let told = All-contains (λ (z : File). IsTold (duplicated w s files) copies 1 s z.file z) back y there.each has in
        let found = item w s files copies are (all-solid w e i s files at) y.file target.datafile target.is in
        let x = found.0 in
        let within = member files (y.file - 1) x found.1 in
        let size : blocks_of (duplicated w s files) y.file ≡ target.datafile.blocks = ap (λ (o : Option Datafile). option_map_or (λ d. d.blocks) o 0) target.is in
        let blocks : target.datafile.blocks ≡ blocks_of w x.file = sym (ap (λ (d : Datafile). d.blocks) found.2) in
        let long : length y.rows ≡ blocks_of w x.file = told.blocks ∙ size ∙ blocks in
        let rows : y.rows ≡ states w h i s x.file (blocks_of w x.file) = rows-are (state w h i s x.file) 0 (blocks_of w x.file) y.rows long (λ k r is.
        let inside : k < length y.rows = slice_get_within y.rows k r is in
        let p = spot w s files copies are (all-solid w e i s files at) y.file k (record { there = target.there; datafile = target.datafile; is = target.is; exists = target.exists; block = omega (arith, inside, long, blocks) }) in
        let some = found.3 in
        let same : y.file - 1 ≡ p.place = omega (arith, some, p.number) in
        let one : x ≡ p.file = same_Some x p.file (sym found.1 ∙ ap (λ n. slice_get files n) same ∙ p.there) in
        let read : slice_get x.rows k ≡ Some p.row = ap (λ (z : File). slice_get z.rows k) one ∙ p.read in
        let was : state w h i s x.file k ≡ p.row = row-is w e i s x.file h x history agrees (file-target w e i s files at x within) (file-told w e i s files at x within) k p.row read in
        let row = told.rows k r is in
        let means = told-is w s files copies are (all-solid w e i s files at) y.file k p r.version r.content row.1 in
        let stands : p.row.block ≡ k = ((all-solid w e i s files at p.place p.file p.there).rows k p.row p.read).0 in
        let content : r.content ≡ p.row.content = elim means.1 [
          | inl is ↦ is
          | inr old ↦ old.1 ∙ sym (untouched w h i s x.file k p.row history was (old.0 ∙ ap (λ (z : File). creation_of w z.file) (sym one)))
        ] in
        let here : 0 + k ≡ k = omega arith in
        ap (λ n. state w h i s x.file n) here ∙ was ∙ sym (row-path r p.row (row.0 ∙ sym stands) means.0 content)) in
        (x, found.1, found.3, λ j. record { file = y.file; inc = told.inc j; checkpoint = told.checkpoint j; rows = rows j })
