-- Items that ascend by a number.
use Rattle.std.proofs.{Common.{◌≡◌, ◌<◌, ◌∙◌, inl, inr, ℕ, List, ap, sym, arith, get_or, Contains, AllPairs}, lemmas.Bool.{cases_lt}}
use Rattle.std.proofs.lemmas.List.{get_or_default}

-- there is one at most of each number
pub same_item : {X : Type 0} (number : X → ℕ) (xs : List X) → AllPairs (λ x y. number x < number y) xs → (x y : X) → Contains xs x → Contains xs y → number x ≡ number y → x ≡ y
same_item number xs up x y (i, inside_x, is_x) (j, inside_y, is_y) same =
    let read_y = get_or_default xs j x y inside_y ∙ is_y in
    elim (cases_lt i j) [
      | inl less ↦
          let below = up i j x less inside_y in
          let one = ap number is_x in
          let two = ap number read_y in
          absurd (omega (arith, below, one, two, same))
      | inr most ↦ elim (cases_lt j i) [
        | inl less ↦
            let below = up j i x less inside_x in
            let one = ap number is_x in
            let two = ap number read_y in
            absurd (omega (arith, below, one, two, same))
        | inr least ↦ let met : i ≡ j = omega (arith, most, least) in sym is_x ∙ ap (λ (k : ℕ). get_or xs k x) met ∙ read_y
      ]
    ]
