-- The rows from an SCN on, row by row: which they are, and of which states of a datafile they stay.
use Rattle.std.proofs.Common.{◌≡◌, ◌<◌, ◌≤◌, ◌+◌, ◌∙◌, ◌⊎◌, inl, inr, nat_le, max, min, ℕ, zero, suc, List, [], ◌∷◌, false, cond, refl, ap, sym, subst, arith, eqb}
use Rattle.std.proofs.lemmas.Bool.{cases_lt, eqb-true, le-leb, leb-true, lt-leb}
use Rattle.rm_base.{specs.declared.block.{Change.{Change}, Row.{Row}}, proofs.Lists.{any_fails, filter_from, filter_to}}
use Rattle.rm_history.specs.{Agrees.{Level1Agrees, lists}, History.{IsHistory}, State.{rows_from, state, states}}
use Rattle.rm_history.specs.{World.{blocks_of, creation_of}, declared.world.World.{World}}
use Rattle.rm_history.proofs.{BlockRows.{row-read, row-there}, KnownStates.{settled, version-range}}
use Rattle.rm_piece.specs.Rows.{from_on}

-- both rows of a block are one, or neither is picked
abbrev pub Alike : ℕ → Row → Row → Type 0
Alike from r s = (r ≡ s) ⊎ ((r.version < from) × (s.version < from))

-- a row is picked, or is left out
pub picked-in : (from : ℕ) (r : Row) (rs : List Row) → from ≤ r.version → from_on from (r ∷ rs) ≡ r ∷ from_on from rs
picked-in from r rs above = ap (λ t. cond t (r ∷ from_on from rs) (from_on from rs)) (le-leb from r.version above)

pub picked-out : (from : ℕ) (r : Row) (rs : List Row) → r.version < from → from_on from (r ∷ rs) ≡ from_on from rs
picked-out from r rs below = ap (λ t. cond t (r ∷ from_on from rs) (from_on from rs)) (lt-leb from r.version below)

picked-one : (from : ℕ) (r s : Row) (rs ss : List Row) → Alike from r s → from_on from rs ≡ from_on from ss
    → from_on from (r ∷ rs) ≡ from_on from (s ∷ ss)
picked-one from r s rs ss (inl same) rest =
    λ j. cond (nat_le from (same j).version) (same j ∷ rest j) (rest j)
picked-one from r s rs ss (inr below) rest = picked-out from r rs below.0 ∙ rest ∙ sym (picked-out from s ss below.1)

pub picked-alike : (from : ℕ) (row other : ℕ → Row) (b n : ℕ) → ((k : ℕ) → b ≤ k → k < b + n → Alike from (row k) (other k))
    → from_on from (rows_from row b n) ≡ from_on from (rows_from other b n)
picked-alike from row other b zero alike = refl
picked-alike from row other b (suc n) alike =
    picked-one from (row b) (other b) (rows_from row (b + 1) n) (rows_from other (b + 1) n) (alike b (omega arith) (omega arith))
    (picked-alike from row other (b + 1) n (λ k low high. alike k (omega (arith, low)) (omega (arith, high))))

-- all are picked from 0 on
pub picked-all : (rows : List Row) → from_on 0 rows ≡ rows
picked-all [] = refl
picked-all (r ∷ rs) = picked-in 0 r rs (omega arith) ∙ ap (λ xs. r ∷ xs) (picked-all rs)

-- the SCN from 1 to the checkpoint from which the same rows are picked
abbrev pub begin : ℕ → ℕ → ℕ
begin from checkpoint = max 1 (min from checkpoint)

begins-one : (from checkpoint : ℕ) (r : Row) (rs ss : List Row) → (1 ≤ r.version) × (r.version < checkpoint)
    → from_on from rs ≡ from_on (begin from checkpoint) ss → from_on from (r ∷ rs) ≡ from_on (begin from checkpoint) (r ∷ ss)
begins-one from checkpoint r rs ss range rest = elim (cases_lt r.version from) [
  | inl below ↦ picked-out from r rs below ∙ rest ∙ sym (picked-out (begin from checkpoint) r ss (omega (arith, below, range.0, range.1)))
  | inr above ↦
      picked-in from r rs above ∙ ap (λ xs. r ∷ xs) rest
      ∙ sym (picked-in (begin from checkpoint) r ss (omega (arith, above, range.0, range.1)))
]

-- the same rows are picked from there
pub begins-from : (from checkpoint : ℕ) (row : ℕ → Row) (b n : ℕ) → ((k : ℕ) → (1 ≤ (row k).version) × ((row k).version < checkpoint))
    → from_on from (rows_from row b n) ≡ from_on (begin from checkpoint) (rows_from row b n)
begins-from from checkpoint row b zero range = refl
begins-from from checkpoint row b (suc n) range =
    let rest = begins-from from checkpoint row (b + 1) n range in
    begins-one from checkpoint (row b) (rows_from row (b + 1) n) (rows_from row (b + 1) n) (range b) rest

-- no block is listed whose row is below
pub unlisted : (row : ℕ → Row) (from n k : ℕ) → ((j : ℕ) → (row j).block ≡ j) → (row k).version < from → lists (from_on from (rows_from row 0 n)) k ≡ false
unlisted row from n k named below = any_fails (λ (r : Row). eqb r.block k) (from_on from (rows_from row 0 n)) (λ r held is.
    let found = filter_from (λ (x : Row). nat_le from x.version) (rows_from row 0 n) r held in
    let read = row-read row 0 n r found.0 in
    let block : read.0 ≡ k = sym (named read.0) ∙ ap (λ (x : Row). x.block) read.3 ∙ eqb-true r.block k is in
    let one : r.version ≡ (row k).version = sym (ap (λ (x : Row). x.version) read.3) ∙ ap (λ j. (row j).version) block in
    omega (arith, one, below, leb-true from r.version found.1))

-- of the states of a datafile too
pub picked-begin : (w : World) (h : List Change) (i s f n from : ℕ) → IsHistory w h → 1 ≤ creation_of w f → creation_of w f < s
    → from_on from (states w h i s f n) ≡ from_on (begin from s) (states w h i s f n)
picked-begin w h i s f n from history some low =
    begins-from from s (state w h i s f) 0 n (λ k. version-range w h i s f k history some low)

module _ (w v : World) (h k : List Change) (i s f n from : ℕ) (history : IsHistory w h) (later : IsHistory v k)
    (some : 1 ≤ creation_of w f) (low : creation_of w f < s) (to : from ≤ s) (inside : n ≤ blocks_of v f)
    (agrees : Level1Agrees v k (record { inc = i; file = f; from = from; checkpoint = s; rows = from_on from (states w h i s f n) })) where
  abbrev was : ℕ → Row
  was = state w h i s f

  abbrev is_now : ℕ → Row
  is_now = state v k i s f

  alike : (b : ℕ) → b < n → Alike from (was b) (is_now b)
  alike b high = elim (cases_lt (was b).version from) [
    | inl below ↦
        let is = agrees.unlisted b (omega (arith, high, inside)) (unlisted was from n b (λ j. refl) below) in
        let under = is.below in
        let same = settled v k i s is.position f b later is.after (omega (arith, under, to)) in
        inr (below, subst (λ (r : Row). r.version < from) (sym same) is.below)
    | inr above ↦
        let read = row-there was 0 n b (omega arith) (omega (arith, high)) in
        let held = filter_to (λ (x : Row). nat_le from x.version) (rows_from was 0 n) (was b) read (le-leb from (was b).version above) in
        let is = (agrees.listed (was b) held).0 in
        let range = version-range w h i s f b history some low in
        let under = subst (λ (r : Row). r.version < s) (sym is.is) range.1 in
        inl (sym (settled v k i s is.position f b later is.after under ∙ is.is))
  ]

  -- in a database and a history with which it agrees the states are those that it was made of
  pub still-picked : from_on from (states w h i s f n) ≡ from_on from (states v k i s f n)
  still-picked = picked-alike from was is_now 0 n (λ b least high. alike b (omega (arith, high)))
