-- A rolled standby holds the states at the increment's address.
use Rattle.std.specs.Prelude.{IsSomeAnd, IfNone, slice_get}
use Rattle.std.proofs.Common.{◌≡◌, ◌∙◌, ◌+◌, ◌<◌, ◌≤◌, ℕ, zero, suc, List, [], ◌∷◌, Option, Some, Bool, true, false, cond, eqb, nat_le, inl, inr, refl, ap, sym, subst, arith, length, filter, All}
use Rattle.std.proofs.lemmas.{Bool.{eqb-true, Decides.{nat_tests}}, List.Elements.{All-contains}}
use Rattle.std.proofs.lemmas.List.Sums.{length-filter, count_by-le-length}
use Rattle.rm_base.{specs.{Created.{created_row}, declared.block.{Change.{Change}, Row.{Row}}}, proofs.Lists.{find_cases, map_from, map_to}}
use Rattle.rm_history.specs.{History.{IsHistory}, State.{concerns, rows_from, state, states, IsState}, Tree.{IsTree, owner}}
use Rattle.rm_history.{specs.{World.{file_of}, declared.world.{Datafile.{Datafile}, World.{World}}}, proofs.Segments.{is_within_alike}}
use Rattle.rm_history.proofs.States.{concerns-from, concerns-parts, state-held, state-one}
use Rattle.rm_piece.specs.{Filling.{over}, Rows.{from_on}, declared.set.{Set.{Set}, SetFile.{SetFile}}}
use Rattle.rm_piece.proofs.Filled.{over-back, AreBack}
use Rattle.rm_standby.specs.Rolling.{member_at, old_rows, rolled, rolled_member, BeginsBy, Meets}
use Rattle.rm_standby.specs.Standby.{HoldsSince, HoldsStates, IsTaken}

le_not : (a b : ℕ) → nat_le a b ≡ false → b < a
le_not a b h = grind (arith, nat_tests)

-- ---- one block

-- a change that concerns a block on one path does on another that has the same owner of its SCN
concerns_moved : (w : World) (i j s t f b : ℕ) (c : Change) → concerns w j s f b c ≡ true → owner w.tree j c.scn ≡ owner w.tree i c.scn → c.scn < t → concerns w i t f b c ≡ true
concerns_moved w i j s t f b c is same below =
    let parts = concerns-parts w j s f b c is in
    concerns-from w i t f b c (record { file = parts.file; block = parts.block; below = below; owned = sym same ∙ parts.owned })

-- A block whose version lies below an SCN that the standby reaches has had its state there, on a path with the
-- same owners up to there.
unchanged : (w : World) (h : List Change) (i j s t a f b : ℕ) → IsHistory w h → ((g : ℕ) → g < s → owner w.tree j g ≡ owner w.tree i g) → a ≤ s → s ≤ t → (state w h i t f b).version < a → state w h j s f b ≡ state w h i t f b
unchanged w h i j s t a f b history alike low up below =
    let x = state w h i t f b in
    let held : IsState w h i t f x = state-held w h i t f b in
    let here : IsState w h j s f x = record {
      top = λ c has passes.
          let under : c.scn < s = (concerns-parts w j s f b c passes).below in
          held.top c has (concerns_moved w i j s t f b c passes (alike c.scn under) (omega (arith, under, up)));
      held = elim held.held [
        | inl made ↦
            let v = made.version in
            let under : made.change.scn < s = omega (arith, v, below, low) in
            inl (record { change = made.change; is = made.is; concerns = concerns_moved w j i t s f b made.change made.concerns (sym (alike made.change.scn under)) under; version = made.version; content = made.content })
        | inr untouched ↦ inr (record {
          none = λ c has passes.
              let under : c.scn < s = (concerns-parts w j s f b c passes).below in
              untouched.none c has (concerns_moved w i j s t f b c passes (alike c.scn under) (omega (arith, under, up)));
          version = untouched.version;
          content = untouched.content;
        })
      ];
    } in
    state-one w h j s f x history here

-- ---- all blocks of a datafile

rows-back : (p : Row → Bool) (old new : ℕ → Row) → ((b : ℕ) → (old b).block ≡ b) → ((b : ℕ) → (new b).block ≡ b) → ((b : ℕ) → p (new b) ≡ false → old b ≡ new b) → (b n : ℕ) → AreBack p b (rows_from old b n) (rows_from new b n)
rows-back p old new of_old of_new same b zero = tt
rows-back p old new of_old of_new same b (suc n) = ((of_old b, of_new b, same b), rows-back p old new of_old of_new same (b + 1) n)

-- the states of before, and over them those that are listed since
rolled-states : (w : World) (h : List Change) (i j s t a f n : ℕ) → IsHistory w h → ((g : ℕ) → g < s → owner w.tree j g ≡ owner w.tree i g) → a ≤ s → s ≤ t → over (states w h j s f n) (from_on a (states w h i t f n)) ≡ states w h i t f n
rolled-states w h i j s t a f n history alike low up =
    over-back (λ r. nat_le a r.version) 0 (states w h j s f n) (states w h i t f n)
    (rows-back (λ r. nat_le a r.version) (state w h j s f) (state w h i t f) (λ b. refl) (λ b. refl) (λ b fails. unchanged w h i j s t a f b history alike low up (le_not a (state w h i t f b).version fails)) 0 n)

kept-first : (p : Row → Bool) (r : Row) (rs : List Row) (b : Bool) → p r ≡ b → length (cond b (r ∷ filter p rs) (filter p rs)) ≡ length (r ∷ rs) → (b ≡ true) × (length (filter p rs) ≡ length rs)
kept-first p r rs true is same = (refl, omega arith)
kept-first p r rs false is same =
    let many = length-filter p rs in
    let few = count_by-le-length p rs in
    absurd (omega arith)

-- a filter that keeps as many keeps all
kept-all : (p : Row → Bool) (rs : List Row) → length (filter p rs) ≡ length rs → filter p rs ≡ rs
kept-all p [] same = refl
kept-all p (r ∷ rs) same =
    let first = kept-first p r rs (p r) refl same in
    ap (λ b. cond b (r ∷ filter p rs) (filter p rs)) first.0 ∙ ap (λ xs. r ∷ xs) (kept-all p rs first.1)

all-kept : (rs : List Row) → filter (λ r. true) rs ≡ rs
all-kept [] = refl
all-kept (r ∷ rs) = ap (λ xs. r ∷ xs) (all-kept rs)

length-rows : (row : ℕ → Row) (b n : ℕ) → length (rows_from row b n) ≡ n
length-rows row b zero = refl
length-rows row b (suc n) = let rest = length-rows row (b + 1) n in omega (arith, rest)

-- of a datafile that is new every state is listed
new-states : (w : World) (h : List Change) (i t a f n creation : ℕ) (listed : List Row) → listed ≡ from_on a (states w h i t f n) → length listed ≡ n → over (rows_from (created_row creation) 0 n) listed ≡ states w h i t f n
new-states w h i t a f n creation listed is many =
    let all = states w h i t f n in
    let same : from_on a all ≡ all = kept-all (λ r. nat_le a r.version) all (sym (ap (λ (xs : List Row). length xs) is) ∙ many ∙ sym (length-rows (state w h i t f) 0 n)) in
    ap (over (rows_from (created_row creation) 0 n)) (is ∙ same ∙ sym (all-kept all))
    ∙ over-back (λ r. true) 0 (rows_from (created_row creation) 0 n) all (rows-back (λ r. true) (created_row creation) (state w h i t f) (λ b. refl) (λ b. refl) (λ b fails. absurd cc) 0 n)

-- ---- a member

some_same : (a b : Datafile) → Some a ≡ Some b → a ≡ b
some_same a b e = cc

module _ (w : World) (h : List Change) (from : ℕ) (standby increment : Set) (history : IsHistory w h) (alike : (g : ℕ) → g < standby.checkpoint → owner w.tree standby.inc g ≡ owner w.tree increment.inc g) (low : from ≤ standby.checkpoint) (up : standby.checkpoint ≤ increment.checkpoint) (held : HoldsStates w h standby) where
  member-rows : (n : SetFile) → (taken : IsTaken w h increment.inc increment.checkpoint (from_on from) n) → IfNone (member_at standby.members n.piece.file) (length n.piece.rows ≡ n.piece.blocks) → over (old_rows (member_at standby.members n.piece.file) n) n.piece.rows ≡ states w h increment.inc increment.checkpoint n.piece.file taken.datafile.blocks
  member-rows n taken added = elim (find_cases (λ m. eqb m.piece.file n.piece.file) standby.members) [
    | inl none ↦
        let many : length n.piece.rows ≡ n.piece.blocks = subst (λ (o : Option SetFile). IfNone o (length n.piece.rows ≡ n.piece.blocks)) none added in
        let blocks = taken.blocks in
        ap (λ (o : Option SetFile). over (old_rows o n) n.piece.rows) none
        ∙ ap (λ (k : ℕ). over (rows_from (created_row n.creation) 0 k) n.piece.rows) blocks
        ∙ new-states w h increment.inc increment.checkpoint from n.piece.file taken.datafile.blocks n.creation n.piece.rows taken.rows (many ∙ blocks)
    | inr found ↦
        let m = found.item in
        let had = held.taken m found.held in
        let file : m.piece.file ≡ n.piece.file = eqb-true m.piece.file n.piece.file found.passes in
        let one : had.datafile ≡ taken.datafile = some_same had.datafile taken.datafile (sym had.is ∙ ap (file_of w) file ∙ taken.is) in
        let old : m.piece.rows ≡ states w h standby.inc standby.checkpoint n.piece.file taken.datafile.blocks = had.rows ∙ (λ k. states w h standby.inc standby.checkpoint (file k) (one k).blocks) in
        ap (λ (o : Option SetFile). over (old_rows o n) n.piece.rows) found.is
        ∙ (λ k. over (old k) (taken.rows k))
        ∙ rolled-states w h increment.inc standby.inc standby.checkpoint increment.checkpoint from n.piece.file taken.datafile.blocks history alike low up
  ]

  member-taken : (n : SetFile) → IsTaken w h increment.inc increment.checkpoint (from_on from) n → IfNone (member_at standby.members n.piece.file) (length n.piece.rows ≡ n.piece.blocks) → IsTaken w h increment.inc increment.checkpoint (λ rows. rows) (rolled_member standby n)
  member-taken n taken added = record {
    datafile = taken.datafile;
    is = taken.is;
    exists = taken.exists;
    creation = taken.creation;
    blocks = taken.blocks;
    rows = member-rows n taken added;
  }

-- ---- the standby

pub rolled-holds : (w : World) (h : List Change) (from : ℕ) (standby increment : Set) → IsTree w.tree → IsHistory w h → Meets w.tree standby increment → HoldsStates w h standby → HoldsSince w h from increment → HoldsStates w h (rolled standby increment)
rolled-holds w h from standby increment tree history meets held since =
    let alike = is_within_alike w.tree tree standby.inc increment.inc standby.checkpoint meets.increment_there meets.within in
    let low : from ≤ standby.checkpoint = from-low increment.members since.begins meets.begins in
    record {
      each = λ f d is there.
          let has = since.holds.each f d is there in
          record { member = rolled_member standby has.member; held = map_to (rolled_member standby) increment.members has.member has.held; is = has.is };
      taken = λ m has.
          let source = map_from (rolled_member standby) increment.members m has in
          let n = source.item in
          let added = All-contains (λ (x : SetFile). IfNone (member_at standby.members x.piece.file) (length x.piece.rows ≡ x.piece.blocks)) increment.members n meets.added source.held in
          subst (IsTaken w h increment.inc increment.checkpoint (λ rows. rows)) source.is
          (member-taken w h from standby increment history alike low meets.until held n (since.holds.taken n source.held) added);
    }
  where
    from-low : (ms : List SetFile) → All (λ n. n.piece.from ≡ from) ms → IsSomeAnd (slice_get ms 0) (BeginsBy standby increment) → from ≤ standby.checkpoint
    from-low [] begin by = absurd by
    from-low (n ∷ ns) begin by =
        let is : n.piece.from ≡ from = begin 0 n (omega arith) in
        let most = by.from in
        omega (arith, is, most)
