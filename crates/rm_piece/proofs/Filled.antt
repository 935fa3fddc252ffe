-- The rows of all blocks, from those that were written.
use Rattle.std.proofs.Common.{◌≡◌, ◌∙◌, ◌+◌, ◌<◌, ◌≤◌, ℕ, zero, suc, List, [], ◌∷◌, ◌++◌, Bool, true, false, cond, eqb, nat_lt, if◌then◌else◌, append_assoc, refl, ap, sym, subst, inl, inr, arith, length, get_or, filter, All}
use Rattle.std.proofs.lemmas.{Bool.{cases_Bool, cases_eq, eq-eqb, le-ltb, lt-ltb, ltb-false, ltb-true, ne_eqb}, List.{length-append}}
use Rattle.std.proofs.lemmas.List.Elements.{All-filter, All-cons, All-nil, filter-append, filter_passes}
use Rattle.rm_base.{specs.{Created.{created_row}, declared.block.Row.{Row}}, proofs.{Items.{All-tail}, Lists.{filter_all}}}
use Rattle.rm_history.specs.State.{rows_from}
use Rattle.rm_piece.specs.{Filling.{next_left, next_or, over, IsAbove, IsFilled}, Sets.{written, IsSince}}

other_block : (a b : ℕ) → b < a → eqb a b ≡ false
other_block a b h = ne_eqb a b (λ same. omega (arith, h, same))

-- ---- what a filter keeps, row by row

filter-first : (p : Row → Bool) (r : Row) (rs : List Row) → p r ≡ true → filter p (r ∷ rs) ≡ r ∷ filter p rs
filter-first p r rs passes = ap (λ b. cond b (r ∷ filter p rs) (filter p rs)) passes

filter-rest : (p : Row → Bool) (r : Row) (rs : List Row) → p r ≡ false → filter p (r ∷ rs) ≡ filter p rs
filter-rest p r rs fails = ap (λ b. cond b (r ∷ filter p rs) (filter p rs)) fails

-- where every row is of a written block, all of them are written
pub written-all : (creation : ℕ) (rows : List Row) → All (IsAbove creation) rows → written creation rows ≡ rows
written-all creation rows above = filter_all (λ (r : Row). nat_lt creation r.version) rows (λ k d inside. lt-ltb creation _ (above k d inside))

-- ---- one block after another

next_or-here : (r n : Row) (ns : List Row) → n.block ≡ r.block → next_or r (n ∷ ns) ≡ n
next_or-here r n ns same = ap (λ t. if t then n else r) (eq-eqb n.block r.block same)

next_left-here : (b : ℕ) (n : Row) (ns : List Row) → n.block ≡ b → next_left b (n ∷ ns) ≡ ns
next_left-here b n ns same = ap (λ t. if t then ns else n ∷ ns) (eq-eqb n.block b same)

next_or-other : (r n : Row) (ns : List Row) → eqb n.block r.block ≡ false → next_or r (n ∷ ns) ≡ r
next_or-other r n ns other = ap (λ t. if t then n else r) other

next_left-other : (b : ℕ) (n : Row) (ns : List Row) → eqb n.block b ≡ false → next_left b (n ∷ ns) ≡ n ∷ ns
next_left-other b n ns other = ap (λ t. if t then ns else n ∷ ns) other

-- no row of this block is listed
next_or-skip : (r : Row) (ns : List Row) → All (λ n. r.block < n.block) ns → next_or r ns ≡ r
next_or-skip r [] above = refl
next_or-skip r (n ∷ ns) above = next_or-other r n ns (other_block n.block r.block (above 0 n (omega arith)))

next_left-skip : (b : ℕ) (ns : List Row) → All (λ n. b < n.block) ns → next_left b ns ≡ ns
next_left-skip b [] above = refl
next_left-skip b (n ∷ ns) above = next_left-other b n ns (other_block n.block b (above 0 n (omega arith)))

-- Both lists have the blocks from b on, one after another, and a row that does not pass is the old one.
abbrev pub AreBack : (Row → Bool) → ℕ → List Row → List Row → Type 0
AreBack p b [] [] = Unit {0}
AreBack p b [] (r ∷ rs) = ⊥
AreBack p b (o ∷ os) [] = ⊥
AreBack p b (o ∷ os) (r ∷ rs) = ((o.block ≡ b) × (r.block ≡ b) × (p r ≡ false → o ≡ r)) × AreBack p (b + 1) os rs

blocks-from : (p : Row → Bool) (b low : ℕ) (os rs : List Row) → low ≤ b → AreBack p b os rs → All (λ r. low ≤ r.block) rs
blocks-from p b low [] [] least are = All-nil (λ r. low ≤ r.block)
blocks-from p b low [] (r ∷ rs) least are = absurd are
blocks-from p b low (o ∷ os) [] least are = absurd are
blocks-from p b low (o ∷ os) (r ∷ rs) least are =
    let at = are.0.1 in
    All-cons (λ x. low ≤ x.block) r rs (omega (arith, least, at)) (blocks-from p (b + 1) low os rs (omega (arith, least)) are.1)

-- over the old rows, those that pass give all rows back
pub over-back : (p : Row → Bool) (b : ℕ) (os rs : List Row) → AreBack p b os rs → over os (filter p rs) ≡ rs
over-back p b [] [] are = refl
over-back p b [] (r ∷ rs) are = absurd are
over-back p b (o ∷ os) [] are = absurd are
over-back p b (o ∷ os) (r ∷ rs) are =
    let old = are.0.0 in
    let new = are.0.1 in
    let others : over os (filter p rs) ≡ rs = over-back p (b + 1) os rs are.1 in
    elim (cases_Bool (p r)) [
      | inl passes ↦
          let same : r.block ≡ o.block = omega (arith, old, new) in
          let here = next_or-here o r (filter p rs) same in
          let left = next_left-here o.block r (filter p rs) same in
          ap (over (o ∷ os)) (filter-first p r rs passes) ∙ (λ i. here i ∷ over os (left i)) ∙ ap (λ xs. r ∷ xs) others
      | inr fails ↦
          let beyond : All (λ x. o.block < x.block) (filter p rs) = All-filter p (λ x. o.block < x.block) rs (λ k d inside. let low = blocks-from p (b + 1) (b + 1) os rs (omega arith) are.1 k d inside in omega (arith, low, old)) in
          let here = next_or-skip o (filter p rs) beyond ∙ are.0.2 fails in
          let left = next_left-skip o.block (filter p rs) beyond in
          ap (over (o ∷ os)) (filter-rest p r rs fails) ∙ (λ i. here i ∷ over os (left i)) ∙ ap (λ xs. r ∷ xs) others
    ]

-- ---- the rows of a datafile

-- so many blocks from b on, as their datafile was created
abbrev pub unwritten_from : ℕ → ℕ → ℕ → List Row
unwritten_from creation b n = rows_from (created_row creation) b n

-- a row at the creation is as the datafile was created
pub at_creation : (creation b : ℕ) (r : Row) → IsSince creation r → r.version ≤ creation → r.block ≡ b → created_row creation b ≡ r
at_creation creation b r since below same =
    let low = since.since in
    let version : r.version ≡ creation = omega (arith, low, below) in
    let content = since.zero version in
    sym (λ i. record { block = same i; version = version i; content = content i })

created_row-back : (creation n b : ℕ) (rows : List Row) → length rows ≡ n → ((k : ℕ) (d : Row) → k < length rows → (get_or rows k d).block ≡ b + k) → All (IsSince creation) rows → AreBack (λ r. nat_lt creation r.version) b (unwritten_from creation b n) rows
created_row-back creation zero b [] many whole since = tt
created_row-back creation zero b (r ∷ rs) many whole since = absurd (omega arith)
created_row-back creation (suc n) b [] many whole since = absurd (omega arith)
created_row-back creation (suc n) b (r ∷ rs) many whole since =
    let at : r.block ≡ b + 0 = whole 0 r (omega arith) in
    let same : r.block ≡ b = omega (arith, at) in
    let later : (k : ℕ) (d : Row) → k < length rs → (get_or rs k d).block ≡ (b + 1) + k = λ k d inside. let next : (get_or rs k d).block ≡ b + suc k = whole (suc k) d (omega arith) in omega (arith, next) in
    ((refl, same, λ fails. at_creation creation b r (since 0 r (omega arith)) (ltb-false creation r.version fails) same), created_row-back creation n (b + 1) rs (omega arith) later (All-tail (IsSince creation) r rs since))

-- the rows of a datafile are back, from those that were written
pub filled_back : (creation blocks : ℕ) (rows spelled : List Row) → IsFilled creation blocks rows → written creation rows ≡ spelled → over (unwritten_from creation 0 blocks) spelled ≡ rows
filled_back creation blocks rows spelled is same =
    ap (over (unwritten_from creation 0 blocks)) (sym same)
    ∙ over-back (λ r. nat_lt creation r.version) 0 (unwritten_from creation 0 blocks) rows (created_row-back creation blocks 0 rows is.count (λ k d inside. let place = is.whole k d inside in omega (arith, place)) is.since)

-- ---- one block more

-- what is left without the row of a block, and this row where it was written
pub next-parts : (creation b : ℕ) (rs : List Row) → All (IsAbove creation) rs → written creation (next_or (created_row creation b) rs ∷ []) ++ next_left b rs ≡ rs
next-parts creation b [] above = ap (λ xs. xs ++ []) (filter-rest (λ x. nat_lt creation x.version) (created_row creation b) [] (le-ltb creation creation (omega arith)))
next-parts creation b (r ∷ rs) above = elim (cases_eq r.block b) [
  | inl same ↦
      let here = next_or-here (created_row creation b) r rs same in
      let left = next_left-here b r rs same in
      (λ i. written creation (here i ∷ []) ++ left i) ∙ ap (λ xs. xs ++ rs) (filter-first (λ x. nat_lt creation x.version) r [] (lt-ltb creation r.version (above 0 r (omega arith))))
  | inr apart ↦
      let other = ne_eqb r.block b apart in
      let here = next_or-other (created_row creation b) r rs other in
      let left = next_left-other b r rs other in
      (λ i. written creation (here i ∷ []) ++ left i) ∙ ap (λ xs. xs ++ r ∷ rs) (filter-rest (λ x. nat_lt creation x.version) (created_row creation b) [] (le-ltb creation creation (omega arith)))
]

pub next-above : (creation b : ℕ) (rs : List Row) → All (IsAbove creation) rs → All (IsAbove creation) (next_left b rs)
next-above creation b [] above = above
next-above creation b (r ∷ rs) above = elim (cases_eq r.block b) [
  | inl same ↦ subst (All (IsAbove creation)) (sym (next_left-here b r rs same)) (All-tail (IsAbove creation) r rs above)
  | inr apart ↦ subst (All (IsAbove creation)) (sym (next_left-other b r rs (ne_eqb r.block b apart))) above
]

-- what stands before nothing more than it is itself
pub none-left : (xs left : List Row) → xs ≡ xs ++ left → left ≡ []
none-left xs [] same = refl
none-left xs (r ∷ rs) same =
    let long = ap (λ (ys : List Row). length ys) same in
    let both = length-append xs (r ∷ rs) in
    absurd (omega arith)

-- a turn of the loop over all blocks
module _ (creation b : ℕ) (items left made rest : List Row) (row : Row) (taken : row ≡ next_or (created_row creation b) left) (behind : rest ≡ next_left b left) (pushed : made ≡ items ++ row ∷ []) where
  pub turn-parts : (spelled : List Row) → All (IsAbove creation) left → spelled ≡ written creation items ++ left → spelled ≡ written creation made ++ rest
  turn-parts spelled above so_far =
      so_far
      ∙ ap (λ (xs : List Row). written creation items ++ xs) (sym (next-parts creation b left above))
      ∙ sym (append_assoc (written creation items) (written creation (next_or (created_row creation b) left ∷ [])) (next_left b left))
      ∙ ap (λ (xs : List Row). xs ++ next_left b left) (sym (filter-append (λ x. nat_lt creation x.version) items (next_or (created_row creation b) left ∷ [])))
      ∙ (λ i. written creation (items ++ sym taken i ∷ []) ++ sym behind i)
      ∙ ap (λ (xs : List Row). written creation xs ++ rest) (sym pushed)

  pub turn-goes : (n : ℕ) (all : List Row) → all ≡ items ++ over (unwritten_from creation b (suc n)) left → all ≡ made ++ over (unwritten_from creation (b + 1) n) rest
  turn-goes n all so_far =
      so_far
      ∙ (λ i. items ++ sym taken i ∷ over (unwritten_from creation (b + 1) n) (sym behind i))
      ∙ sym (append_assoc items (row ∷ []) (over (unwritten_from creation (b + 1) n) rest))
      ∙ ap (λ (xs : List Row). xs ++ over (unwritten_from creation (b + 1) n) rest) (sym pushed)

  pub turn-above : All (IsAbove creation) left → All (IsAbove creation) rest
  turn-above above = subst (All (IsAbove creation)) (sym behind) (next-above creation b left above)

-- what is written lies above the creation
pub written-above : (creation : ℕ) (rows : List Row) → All (IsAbove creation) (written creation rows)
written-above creation rows k d inside = ltb-true creation _ (filter_passes (λ x. nat_lt creation x.version) rows k d inside)
