-- Lists of items with the same number of bytes each, and lists that ascend.
use Rattle.std.specs.List.{flat_map, AllPairs, AllAdjacentBelow}
use Rattle.std.proofs.Common.{◌≡◌, ◌∙◌, ◌+◌, ◌-◌, ◌*◌, ◌<◌, ℕ, zero, suc, List, [], ◌∷◌, ◌++◌, length, get_or, All, refl, sym, subst, arith, append-nil, append_assoc}
use Rattle.std.proofs.lemmas.List.{length-append}

pub All-tail : {A : Type 0} (P : A → Type 0) (x : A) (xs : List A) → All P (x ∷ xs) → All P xs
All-tail P x xs all k d inside = all (suc k) d (omega arith)

-- the item behind those that were read, of a list that the same bytes spell
pub record NextItem {A : Type 0} (spell : A → List ℕ) (Fits : A → Type 0) (xs ys : List A) (rest : List ℕ) : Type 0 where
  pub item : A
  pub fits : Fits item
  pub others : List A
  pub list : ys ≡ xs ++ item ∷ others
  pub spelled : rest ≡ spell item ++ flat_map spell others

module _ {A : Type 0} (spell : A → List ℕ) (Fits : A → Type 0) (one : (a b : A) (x y : List ℕ) → Fits a → Fits b → spell a ++ x ≡ spell b ++ y → (a ≡ b) × (x ≡ y)) where
  -- where the bytes of one item tell the item and what follows, the bytes of as many items tell the items and what follows
  pub items_front : (xs ys : List A) (x y : List ℕ) → length xs ≡ length ys → All Fits xs → All Fits ys → flat_map spell xs ++ x ≡ flat_map spell ys ++ y → (xs ≡ ys) × (x ≡ y)
  items_front [] [] x y len fx fy e = (refl, e)
  items_front [] (b ∷ bs) x y len fx fy e = absurd (omega arith)
  items_front (a ∷ cs) [] x y len fx fy e = absurd (omega arith)
  items_front (a ∷ cs) (b ∷ bs) x y len fx fy e =
      let apart : spell a ++ (flat_map spell cs ++ x) ≡ spell b ++ (flat_map spell bs ++ y) = sym (append_assoc (spell a) (flat_map spell cs) x) ∙ e ∙ append_assoc (spell b) (flat_map spell bs) y in
      let first = one a b _ _ (fx 0 a (omega arith)) (fy 0 b (omega arith)) apart in
      let others = items_front cs bs x y (omega arith) (All-tail Fits a cs fx) (All-tail Fits b bs fy) first.1 in
      (λ i. first.0 i ∷ others.0 i, others.1)

  -- so the bytes of as many items tell the items
  pub items_same : (xs ys : List A) → length xs ≡ length ys → All Fits xs → All Fits ys → flat_map spell xs ≡ flat_map spell ys → xs ≡ ys
  items_same xs ys len fx fy e = (items_front xs ys [] [] len fx fy (append-nil (flat_map spell xs) ∙ e ∙ sym (append-nil (flat_map spell ys)))).0

  pub items_next : (xs ys : List A) (rest : List ℕ) → length xs < length ys → All Fits xs → All Fits ys → flat_map spell xs ++ rest ≡ flat_map spell ys → NextItem spell Fits xs ys rest
  items_next [] [] rest less fx fy e = absurd (omega arith)
  items_next (a ∷ cs) [] rest less fx fy e = absurd (omega arith)
  items_next [] (b ∷ bs) rest less fx fy e = record { item = b; fits = fy 0 b (omega arith); others = bs; list = refl; spelled = e }
  items_next (a ∷ cs) (b ∷ bs) rest less fx fy e =
      let apart : spell a ++ (flat_map spell cs ++ rest) ≡ spell b ++ flat_map spell bs = sym (append_assoc (spell a) (flat_map spell cs) rest) ∙ e in
      let first = one a b _ _ (fx 0 a (omega arith)) (fy 0 b (omega arith)) apart in
      let next = items_next cs bs rest (omega arith) (All-tail Fits a cs fx) (All-tail Fits b bs fy) first.1 in
      record { item = next.item; fits = next.fits; others = next.others; list = λ i. sym first.0 i ∷ next.list i; spelled = next.spelled }

-- items of n bytes each
pub length-items : {A : Type 0} (spell : A → List ℕ) (Fits : A → Type 0) (n : ℕ) → ((a : A) → Fits a → length (spell a) ≡ n) → (xs : List A) → All Fits xs → length (flat_map spell xs) ≡ n * length xs
length-items spell Fits n one [] fits = omega arith
length-items spell Fits n one (x ∷ xs) fits =
    let here = one x (fits 0 x (omega arith)) in
    let others = length-items spell Fits n one xs (All-tail Fits x xs fits) in
    let both = length-append (spell x) (flat_map spell xs) in
    let more : n * suc (length xs) ≡ n + n * length xs = grind arith in
    omega (arith, here, others, both, more)

pairs-step : {A : Type 0} (R : A → A → Type 0) → ((a b c : A) → R a b → R b c → R a c) → (xs : List A) → AllAdjacentBelow R xs (length xs) → (i m : ℕ) (d : A) → i + suc m < length xs → R (get_or xs i d) (get_or xs (i + suc m) d)
pairs-step R steps xs up i zero d inside = up i d (omega arith)
pairs-step R steps xs up i (suc m) d inside =
    let so_far = pairs-step R steps xs up i m d (omega arith) in
    let next = up (i + suc m) d (omega arith) in
    let place : (i + suc m) + 1 ≡ i + suc (suc m) = omega arith in
    subst (λ j. R (get_or xs i d) (get_or xs j d)) place (steps _ _ _ so_far next)

-- where each is before the next, each is before all later ones
pub AllPairs-from_adjacent : {A : Type 0} (R : A → A → Type 0) → ((a b c : A) → R a b → R b c → R a c) → (xs : List A) → AllAdjacentBelow R xs (length xs) → AllPairs R xs
AllPairs-from_adjacent R steps xs up i j d less inside =
    let place : i + suc (j - suc i) ≡ j = omega arith in
    subst (λ k. R (get_or xs i d) (get_or xs k d)) place (pairs-step R steps xs up i (j - suc i) d (omega arith))
