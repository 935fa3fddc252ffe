-- Loops over damaged blocks, and over what is in place.
use Rattle.std.proofs.Common.{◌≡◌, ◌<◌, ◌+◌, ◌==◌, ◌&&◌, ◌∙◌, ◌++◌, ℕ, suc, Bool, true, false, cond, List, [], ◌∷◌, Option, None, refl, ap, sym, arith, append_assoc, drop, drop-cons, drop-set-lt, eqb-true, get_or, insert, length, length-append, slice_set, take}
use Rattle.std.proofs.lemmas.{Bool.{and_parts, eq-eqb}, List.{take-append-drop, take_more, take_more_set, Elements.{Contains-get_or}}}
use Rattle.rm_base.{specs.declared.block.BlockId.{BlockId}, proofs.Lists.{any_none}}
use Rattle.rm_blocks.specs.File.{File}
use Rattle.rm_machine.{specs.Damage.{has_block, has_file, is_before, undamaged, with_block}, proofs.Undamaged.{undamaged-many}}

-- the items from place k on
items-at : {X : Type 0} (xs : List X) (k : ℕ) (d : X) → k < length xs → drop k xs ≡ get_or xs k d ∷ drop (k + 1) xs
items-at xs k d inside = let next : suc k ≡ k + 1 = omega arith in drop-cons xs k d inside ∙ ap (λ n. get_or xs k d ∷ drop n xs) next

-- a block that is not on the list is none of it
other-block : (t : Bool) (x y : BlockId) → ((x.file == y.file) && (x.block == y.block)) ≡ t → ((y.file == x.file) && (y.block == x.block)) ≡ false → t ≡ false
other-block false x y is not = refl
other-block true x y is not =
    let parts = and_parts (x.file == y.file) (x.block == y.block) is in
    let same : ((y.file == x.file) && (y.block == x.block)) ≡ true =
    λ i. eq-eqb y.file x.file (sym (eqb-true x.file y.file parts.0)) i && eq-eqb y.block x.block (sym (eqb-true x.block y.block parts.1)) i in
    absurd (let clash : true ≡ false = sym same ∙ not in cc)

module _ (x : BlockId) (xs all : List BlockId) (k : ℕ) (y : BlockId) (inside : k < length xs) (was : take k xs ++ with_block x (drop k xs) ≡ all) where
  abbrev z : BlockId
  z = get_or xs k y

  step : take k xs ++ cond (is_before x z) (x ∷ z ∷ drop (k + 1) xs) (cond ((x.file == z.file) && (x.block == z.block)) (z ∷ drop (k + 1) xs) (z ∷ with_block x (drop (k + 1) xs))) ≡ all
  step = ap (λ ys. take k xs ++ with_block x ys) (sym (items-at xs k y inside)) ∙ was

  -- it stands further on, or here
  pub place-more : is_before x z ≡ false → has_block xs x.file x.block ≡ false → take (k + 1) xs ++ with_block x (drop (k + 1) xs) ≡ all
  place-more later absent =
      let other = other-block ((x.file == z.file) && (x.block == z.block)) x z refl (any_none (λ (u : BlockId). (u.file == x.file) && (u.block == x.block)) xs absent z (Contains-get_or xs k y inside)) in
      ap (λ ys. ys ++ with_block x (drop (k + 1) xs)) (take_more xs k y inside)
      ∙ append_assoc (take k xs) (z ∷ []) (with_block x (drop (k + 1) xs))
      ∙ sym (λ i. take k xs ++ cond (later i) (x ∷ z ∷ drop (k + 1) xs) (cond (other i) (z ∷ drop (k + 1) xs) (z ∷ with_block x (drop (k + 1) xs))))
      ∙ step

  pub place-here : is_before x z ≡ true → insert xs k x ≡ all
  place-here first =
      ap (λ ys. take k xs ++ x ∷ ys) (items-at xs k y inside)
      ∙ sym (λ i. take k xs ++ cond (first i) (x ∷ z ∷ drop (k + 1) xs) (cond ((x.file == z.file) && (x.block == z.block)) (z ∷ drop (k + 1) xs) (z ∷ with_block x (drop (k + 1) xs))))
      ∙ step

-- there are as many places as there were
pub as-many : (xs : List BlockId) (place old : List (Option File)) (k : ℕ) → take k place ++ undamaged xs (1 + k) (drop k place) ≡ undamaged xs 1 old → length place ≡ length old
as-many xs place old k is =
    let whole = ap (λ (os : List (Option File)). length os) (take-append-drop k place) in
    omega (arith, ap (λ (os : List (Option File)). length os) is, whole, length-append (take k place) (drop k place), length-append (take k place) (undamaged xs (1 + k) (drop k place)), undamaged-many xs (1 + k) (drop k place), undamaged-many xs 1 old)

-- what stands in place from place k on
pub undamaged-next : (xs : List BlockId) (place : List (Option File)) (k : ℕ) (d : Option File) → k < length place
    → undamaged xs (1 + k) (drop k place) ≡ cond (has_file xs (k + 1)) None (get_or place k d) ∷ undamaged xs (1 + (k + 1)) (drop (k + 1) place)
undamaged-next xs place k d inside =
    let one : 1 + k ≡ k + 1 = omega arith in
    let two : 1 + k + 1 ≡ 1 + (k + 1) = omega arith in
    ap (undamaged xs (1 + k)) (items-at place k d inside)
    ∙ (λ i. cond (has_file xs (one i)) None (get_or place k d) ∷ undamaged xs (two i) (drop (k + 1) place))

module _ (xs : List BlockId) (place all : List (Option File)) (k : ℕ) (d : Option File) (inside : k < length place) (was : take k place ++ undamaged xs (1 + k) (drop k place) ≡ all) where
  -- a datafile goes out of place, or stays
  pub lost-next : has_file xs (k + 1) ≡ true → take (k + 1) (slice_set place k None) ++ undamaged xs (1 + (k + 1)) (drop (k + 1) (slice_set place k None)) ≡ all
  lost-next lost =
      (λ i. take_more_set place k None inside i ++ undamaged xs (1 + (k + 1)) (drop-set-lt (k + 1) place k None (omega arith) i))
      ∙ append_assoc (take k place) (None ∷ []) (undamaged xs (1 + (k + 1)) (drop (k + 1) place))
      ∙ sym (ap (λ ys. take k place ++ ys) (undamaged-next xs place k d inside ∙ ap (λ b. cond b None (get_or place k d) ∷ undamaged xs (1 + (k + 1)) (drop (k + 1) place)) lost))
      ∙ was

  pub kept-next : has_file xs (k + 1) ≡ false → take (k + 1) place ++ undamaged xs (1 + (k + 1)) (drop (k + 1) place) ≡ all
  kept-next kept =
      ap (λ ys. ys ++ undamaged xs (1 + (k + 1)) (drop (k + 1) place)) (take_more place k d inside)
      ∙ append_assoc (take k place) (get_or place k d ∷ []) (undamaged xs (1 + (k + 1)) (drop (k + 1) place))
      ∙ sym (ap (λ ys. take k place ++ ys) (undamaged-next xs place k d inside ∙ ap (λ b. cond b None (get_or place k d) ∷ undamaged xs (1 + (k + 1)) (drop (k + 1) place)) kept))
      ∙ was
