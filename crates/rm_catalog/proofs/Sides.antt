-- What an edit leaves of records that lie on both sides of its place.
use Rattle.std.proofs.{Common.{◌≡◌, ℕ, ◌<◌, ◌≤◌, List, [], ◌∷◌, ◌++◌, ap, sym, ◌∙◌, arith, All}, lemmas.List.{append-nil, append_assoc}}
use Rattle.std.proofs.lemmas.List.Elements.{All-append, All-cons}
use Rattle.rm_catalog.specs.{Edits.{below, above, after_edit}, Keys.{place_of, place_of_key}, declared.record.Edit.TheVariants.{Put, Drop}}
use Rattle.rm_catalog.specs.declared.record.{Key.{Key}, Record.{Record}}
use Rattle.rm_catalog.proofs.Filters.{below_all, below_none, below_append, above_all, above_none, above_append}

-- what is left of a place between records below it and records above it
low_of : (p : ℕ) (xs ys : List Record) → All (λ x. place_of x < p) xs → All (λ x. p ≤ place_of x) ys → below p (xs ++ ys) ≡ xs
low_of p xs ys low high =
    below_append p xs ys ∙ ap (λ (x : List Record). x ++ below p ys) (below_all p xs low) ∙ ap (λ (x : List Record). xs ++ x) (below_none p ys high) ∙ append-nil xs

high_of : (p : ℕ) (xs ys : List Record) → All (λ x. place_of x ≤ p) xs → All (λ x. p < place_of x) ys → above p (xs ++ ys) ≡ ys
high_of p xs ys low high =
    above_append p xs ys ∙ ap (λ (x : List Record). x ++ above p ys) (above_none p xs low) ∙ above_all p ys high

pub put_free : (r : Record) (xs ys : List Record) → All (λ x. place_of x < place_of r) xs → All (λ x. place_of r < place_of x) ys
    → after_edit (Put r) (xs ++ ys) ≡ xs ++ r ∷ ys
put_free r xs ys low high =
    let left = low_of (place_of r) xs ys low (λ k d lt. let h = high k d lt in omega arith) in
    let right = high_of (place_of r) xs ys (λ k d lt. let h = low k d lt in omega arith) high in
    ap (λ (x : List Record). x ++ r ∷ above (place_of r) (xs ++ ys)) left ∙ ap (λ (x : List Record). xs ++ r ∷ x) right

-- the two sides of a record
sides : (p : ℕ) (f : Record) (xs ys : List Record) → place_of f ≡ p → All (λ x. place_of x < p) xs → All (λ x. p < place_of x) ys
    → (below p (xs ++ f ∷ ys) ≡ xs) × (above p (xs ++ f ∷ ys) ≡ ys)
sides p f xs ys here low high = (
  low_of p xs (f ∷ ys) low (All-cons (λ (x : Record). p ≤ place_of x) f ys (omega arith) (λ k d lt. let h = high k d lt in omega arith)),
  ap (λ (x : List Record). above p x) (sym (append_assoc xs (f ∷ []) ys))
      ∙ high_of p (xs ++ f ∷ []) ys (λ k d lt. upto k d lt) high,
)
  where
    upto : All (λ x. place_of x ≤ p) (xs ++ f ∷ [])
    upto = All-append (λ (x : Record). place_of x ≤ p) xs (f ∷ []) (λ k d lt. let h = low k d lt in omega arith)
        (All-cons (λ (x : Record). place_of x ≤ p) f [] (omega arith) (λ k d lt. absurd (omega arith)))

pub put_over : (r f : Record) (xs ys : List Record) → place_of f ≡ place_of r → All (λ x. place_of x < place_of r) xs
    → All (λ x. place_of r < place_of x) ys → after_edit (Put r) (xs ++ f ∷ ys) ≡ xs ++ r ∷ ys
put_over r f xs ys here low high =
    let both = sides (place_of r) f xs ys here low high in
    ap (λ (x : List Record). x ++ r ∷ above (place_of r) (xs ++ f ∷ ys)) both.0 ∙ ap (λ (x : List Record). xs ++ r ∷ x) both.1

pub drop_over : (k : Key) (f : Record) (xs ys : List Record) → place_of f ≡ place_of_key k → All (λ x. place_of x < place_of_key k) xs
    → All (λ x. place_of_key k < place_of x) ys → after_edit (Drop k) (xs ++ f ∷ ys) ≡ xs ++ ys
drop_over k f xs ys here low high =
    let both = sides (place_of_key k) f xs ys here low high in
    ap (λ (x : List Record). x ++ above (place_of_key k) (xs ++ f ∷ ys)) both.0 ∙ ap (λ (x : List Record). xs ++ x) both.1
