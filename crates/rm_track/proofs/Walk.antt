-- A walk over the marked blocks, one after the other.
use Rattle.std.proofs.Common.{◌≡◌, ◌⊎◌, inl, inr, ◌∙◌, ℕ, zero, suc, ◌+◌, ◌-◌, ◌<◌, ◌≤◌, Bool, true, false, List, [], ◌∷◌, length, drop, get_or, refl, ap, sym, arith, add-one, length-drop}
use Rattle.std.proofs.lemmas.{Bool.{cases_Bool}, List.{drop_all, drop_more}}
use Rattle.rm_track.{specs.Bits.{IsMarked, IsNext, NoneNext, blocks_from, marked_count}, proofs.Marks.{marked-below}}

-- what is left at or above a block
abbrev pub left_at : List Bool → ℕ → List ℕ
left_at ms n = blocks_from n (drop n ms)

unmarked-by : (ms : List Bool) (n : ℕ) (m : Bool) → n < length ms → get_or ms n false ≡ m → left_at ms n ≡ blocks_from n (m ∷ drop (n + 1) ms)
unmarked-by ms n m inside is = ap (blocks_from n) (drop_more ms n false inside) ∙ ap (λ (x : Bool). blocks_from n (x ∷ drop (n + 1) ms)) is

step-over : (ms : List Bool) (n : ℕ) → n < length ms → get_or ms n false ≡ false → left_at ms n ≡ left_at ms (n + 1)
step-over ms n inside is = unmarked-by ms n false inside is ∙ ap (λ (k : ℕ). blocks_from k (drop (n + 1) ms)) (sym (add-one n))

skip-to : (ms : List Bool) (d from b : ℕ) → b ≡ from + d → b < length ms → ((j : ℕ) → from ≤ j → j < b → ¬ IsMarked ms j) → left_at ms from ≡ left_at ms b
skip-to ms zero from b is inside none = let e : from ≡ b = omega (arith, is) in ap (left_at ms) e
skip-to ms (suc d) from b is inside none =
    let off : get_or ms from false ≡ false = by (cases_Bool (get_or ms from false)) in
    step-over ms from (omega (arith, is, inside)) off ∙ skip-to ms d (from + 1) b (omega (arith, is)) inside (λ j low high. none j (omega (arith, low)) high)
  where
    by : (get_or ms from false ≡ true) ⊎ (get_or ms from false ≡ false) → get_or ms from false ≡ false
    by (inl on) = absurd (none from (omega arith) (omega (arith, is)) on)
    by (inr off) = off

-- the next one is the first that is left
pub next-left : (ms : List Bool) (from b : ℕ) → IsNext ms from b → left_at ms from ≡ b ∷ left_at ms (b + 1)
next-left ms from b next =
    let inside = marked-below ms b next.marked in
    skip-to ms (b - from) from b (omega (arith, next.reached)) inside next.least ∙ unmarked-by ms b true inside next.marked
    ∙ ap (λ (k : ℕ). b ∷ blocks_from k (drop (b + 1) ms)) (sym (add-one b))

-- without one none is left
pub none-left : (ms : List Bool) (from : ℕ) → NoneNext ms from → left_at ms from ≡ []
none-left ms from none = go (length ms - from) from refl none
  where
    go : (d n : ℕ) → length ms - n ≡ d → NoneNext ms n → left_at ms n ≡ []
    go zero n is none = ap (blocks_from n) (drop_all n ms (omega (arith, is)))
    go (suc d) n is none =
        step-over ms n (omega (arith, is)) (off n none) ∙ go d (n + 1) (omega (arith, is)) (λ b high. none b (omega (arith, high)))
      where
        off : (n : ℕ) → NoneNext ms n → get_or ms n false ≡ false
        off n none = by (cases_Bool (get_or ms n false))
          where
            by : (get_or ms n false ≡ true) ⊎ (get_or ms n false ≡ false) → get_or ms n false ≡ false
            by (inl on) = absurd (none n (omega arith) on)
            by (inr off) = off

-- A walk over the marked blocks is at a place: behind it are the blocks that are left.
pub record IsAt (ms : List Bool) (next place : ℕ) : Type 0 where
  pub left : left_at ms next ≡ drop place (blocks_from 0 ms)

pub at-start : (ms : List Bool) → IsAt ms 0 0
at-start ms = record { left = refl }

-- before the last place there is a next one
pub at-end : (ms : List Bool) (next place : ℕ) → IsAt ms next place → place < marked_count ms → NoneNext ms next → ⊥
at-end ms next place at inside none =
    let gone : length (drop place (blocks_from 0 ms)) ≡ 0 = ap (λ (l : List ℕ). length l) (sym at.left ∙ none-left ms next none) in
    omega (arith, gone, length-drop place (blocks_from 0 ms), inside)

-- it goes on
pub record HasStepped (ms : List Bool) (b place : ℕ) : Type 0 where
  pub at : IsAt ms (b + 1) (place + 1)
  pub is : get_or (blocks_from 0 ms) place 0 ≡ b

pub steps : (ms : List Bool) (next place b : ℕ) → IsAt ms next place → place < marked_count ms → IsNext ms next b → HasStepped ms b place
steps ms next place b at inside found =
    let all = blocks_from 0 ms in
    let both : b ∷ left_at ms (b + 1) ≡ get_or all place 0 ∷ drop (place + 1) all = sym (next-left ms next b found) ∙ at.left ∙ drop_more all place 0 inside in
    record { at = record { left = cc both }; is = sym (cc both) }

-- no more are marked than there are
pub few-marked : (b : ℕ) (ms : List Bool) → length (blocks_from b ms) ≤ length ms
few-marked b [] = omega arith
few-marked b (true ∷ ms) = omega (arith, few-marked (suc b) ms)
few-marked b (false ∷ ms) = omega (arith, few-marked (suc b) ms)
