-- Which blocks a backup reads of a datafile: they ascend, and are exactly those that are marked, or else all.
use Rattle.std.specs.Option.{option_and_then}
use Rattle.std.proofs.Common.{◌≡◌, ◌<◌, ◌≤◌, ◌+◌, ◌∙◌, inl, inr, nat_lt, ℕ, zero, suc, List, [], ◌∷◌, Option, Some, None, Bool, true, false, cond, unwrap_or, refl, ap, sym, subst, arith, get_or, length, replicate, All, Contains}
use Rattle.std.proofs.lemmas.{List.{length-replicate, Elements.{All-head, All-tail}}, Simd.{length-zip2}}
use Rattle.rm_base.proofs.Members.{behind, first-or-rest, in-front, none-in}
use Rattle.rm_track.specs.Bitmaps.{Bitmap, Tracked, candidates_at, candidates_of, joined, oldest, tracked_at, unmarked}
use Rattle.rm_track.specs.Bits.{IsMarked, blocks_from, either}

-- none lies before the first
blocks-least : (b : ℕ) (ms : List Bool) (k : ℕ) → k < length (blocks_from b ms) → b ≤ get_or (blocks_from b ms) k 0
blocks-least b [] k inside = absurd (omega (arith, inside))
blocks-least b (true ∷ ms) zero inside = omega arith
blocks-least b (true ∷ ms) (suc k) inside = omega (arith, blocks-least (suc b) ms k (omega (arith, inside)))
blocks-least b (false ∷ ms) k inside = omega (arith, blocks-least (suc b) ms k inside)

-- they ascend
pub blocks-rise : (b : ℕ) (ms : List Bool) (i k : ℕ) → i < k → k < length (blocks_from b ms) → get_or (blocks_from b ms) i 0 < get_or (blocks_from b ms) k 0
blocks-rise b [] i k less inside = absurd (omega (arith, inside))
blocks-rise b (true ∷ ms) i zero less inside = absurd (omega (arith, less))
blocks-rise b (true ∷ ms) zero (suc k) less inside = omega (arith, blocks-least (suc b) ms k (omega (arith, inside)))
blocks-rise b (true ∷ ms) (suc i) (suc k) less inside = blocks-rise (suc b) ms i k (omega (arith, less)) (omega (arith, inside))
blocks-rise b (false ∷ ms) i k less inside = blocks-rise (suc b) ms i k less inside

-- each is marked
pub blocks-marked : (b : ℕ) (ms : List Bool) (n : ℕ) → Contains (blocks_from b ms) n → (k : ℕ) × (n ≡ b + k) × IsMarked ms k
blocks-marked b [] n has = absurd (none-in n has)
blocks-marked b (true ∷ ms) n has = elim (first-or-rest b (blocks_from (suc b) ms) n has) [
  | inl same ↦ (0, omega (arith, same), refl)
  | inr later ↦ let it = blocks-marked (suc b) ms n later in (suc it.0, omega (arith, it.1), it.2)
]
blocks-marked b (false ∷ ms) n has = let it = blocks-marked (suc b) ms n has in (suc it.0, omega (arith, it.1), it.2)

-- and each that is marked is one of them
pub marked-block : (b : ℕ) (ms : List Bool) (k : ℕ) → IsMarked ms k → Contains (blocks_from b ms) (b + k)
marked-block b [] k is = absurd (cc)
marked-block b (true ∷ ms) zero is = let same : b ≡ b + 0 = omega arith in subst (Contains (b ∷ blocks_from (suc b) ms)) same (in-front b (blocks_from (suc b) ms))
marked-block b (true ∷ ms) (suc k) is =
    let next : suc b + k ≡ b + suc k = omega arith in
    behind b (blocks_from (suc b) ms) (b + suc k) (subst (Contains (blocks_from (suc b) ms)) next (marked-block (suc b) ms k is))
marked-block b (false ∷ ms) zero is = absurd (cc)
marked-block b (false ∷ ms) (suc k) is =
    let next : suc b + k ≡ b + suc k = omega arith in
    subst (Contains (blocks_from (suc b) ms)) next (marked-block (suc b) ms k is)

pub all-marked : (n k : ℕ) → k < n → IsMarked (replicate n true) k
all-marked zero k inside = absurd (omega (arith, inside))
all-marked (suc n) zero inside = refl
all-marked (suc n) (suc k) inside = all-marked n k (omega (arith, inside))

-- the marks of the blocks that are read, of n blocks
abbrev pub marks_by : Option (List Bool) → ℕ → List Bool
marks_by o n = unwrap_or o (replicate n true)

-- Candidates

-- where candidates are known the datafile is tracked
pub record AreKnown (ts : List Tracked) (f : ℕ) (begins : Option ℕ) (marks : List Bool) : Type 0 where
  pub from : ℕ
  pub begun : begins ≡ Some from
  pub tracked : Tracked
  pub found : tracked_at ts f ≡ Some tracked
  pub are : candidates_of from tracked ≡ Some marks

pub known-by : (ts : List Tracked) (f : ℕ) (begins : Option ℕ) (marks : List Bool) → option_and_then (candidates_at ts f) begins ≡ Some marks → AreKnown ts f begins marks
known-by ts f None marks is = absurd (cc is)
known-by ts f (Some from) marks is = by (tracked_at ts f) refl is
  where
    by : (o : Option Tracked) → tracked_at ts f ≡ o → option_and_then (candidates_of from) o ≡ Some marks → AreKnown ts f (Some from) marks
    by None found none = absurd (cc none)
    by (Some t) found some = record { from = from; begun = refl; tracked = t; found = found; are = some }

-- of bitmaps of n blocks each the candidates have n marks
length-either : (xs ys : List Bool) (n : ℕ) → length xs ≡ n → length ys ≡ n → length (either xs ys) ≡ n
length-either xs ys n one two = length-zip2 _ xs ys (one ∙ sym two) ∙ one

join-by : (t : Bool) (ms xs : List Bool) (n : ℕ) → length ms ≡ n → length xs ≡ n → length (cond t (either ms xs) ms) ≡ n
join-by true ms xs n one two = length-either ms xs n one two
join-by false ms xs n one two = one

joined-long : (from n : ℕ) (xs : List Bitmap) (ms : List Bool) → All (λ (x : Bitmap). length x.marks ≡ n) xs → length ms ≡ n → length (joined from xs ms) ≡ n
joined-long from n [] ms all is = is
joined-long from n (x ∷ xs) ms all is =
    let P : Bitmap → Type 0 = λ y. length y.marks ≡ n in
    joined-long from n xs _ (All-tail P x xs all) (join-by (nat_lt from x.end) ms x.marks n is (All-head P x xs all))

pub candidates-long : (from n : ℕ) (t : Tracked) (marks : List Bool) → length t.marks ≡ n → All (λ (x : Bitmap). length x.marks ≡ n) t.ended → candidates_of from t ≡ Some marks → length marks ≡ n
candidates-long from n t marks long all is = by (nat_lt from (oldest t.ended t.start)) is
  where
    by : (below : Bool) → cond below None (Some (joined from t.ended (unmarked (length t.marks)))) ≡ Some marks → length marks ≡ n
    by true none = absurd (cc none)
    by false some =
        let same : joined from t.ended (unmarked (length t.marks)) ≡ marks = cc some in
        ap (λ (ms : List Bool). length ms) (sym same) ∙ joined-long from n t.ended (unmarked (length t.marks)) all (length-replicate (length t.marks) false ∙ long)
