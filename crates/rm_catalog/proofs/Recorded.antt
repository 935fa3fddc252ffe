-- What the edits of a duplicate leave under a number without records: its records.
use Rattle.std.proofs.Common.{◌≡◌, ◌<◌, ◌≤◌, ◌+◌, ◌++◌, ◌∙◌, ℕ, List, [], ◌∷◌, All, map, ap, sym, arith}
use Rattle.std.proofs.lemmas.List.{append-nil, append_assoc, Elements.{All-push, All-nil}}
use Rattle.rm_catalog.specs.{Edits.{above, after_edit, after_edits}, Keys.{place_of}, Rules.{IsCatalog}}
use Rattle.rm_catalog.{specs.declared.record.{Edit.TheVariants.{Put}, Record.{Record}}, proofs.Filters.{above_none, below_all}}
use Rattle.rm_catalog.proofs.{Numbering.{rises_catalog}, Unique.{Rises}}

-- puts of records that rise stand behind those that lie below them
puts-behind : (b : ℕ) (rs before : List Record) → All (λ x. place_of x < b) before → Rises b rs → after_edits (map Put rs) before ≡ before ++ rs
unfolding Rises
puts-behind b [] before low up = sym (append-nil before)
puts-behind b (r ∷ rs) before low up =
    let p = place_of r in
    let first : b ≤ p = up.0 in
    let lows : All (λ x. place_of x < p) before = λ k d lt. let one = low k d lt in omega (arith, one, first) in
    let highs : All (λ x. place_of x ≤ p) before = λ k d lt. let one = low k d lt in omega (arith, one, first) in
    let next : All (λ x. place_of x < p + 1) before = λ k d lt. let one = low k d lt in omega (arith, one, first) in
    let here : after_edit (Put r) before ≡ before ++ r ∷ [] = ap (λ xs. xs ++ r ∷ above p before) (below_all p before lows) ∙ ap (λ xs. before ++ r ∷ xs) (above_none p before highs) in
    ap (λ xs. after_edits (map Put rs) xs) here
    ∙ puts-behind (p + 1) rs (before ++ r ∷ []) (All-push (λ (x : Record). place_of x < p + 1) before r next (omega arith)) up.1
    ∙ append_assoc before (r ∷ []) rs

-- the puts of valid records
pub recorded : (rs : List Record) → IsCatalog rs → after_edits (map Put rs) [] ≡ rs
recorded rs valid = puts-behind 0 rs [] (All-nil (λ x. place_of x < 0)) (rises_catalog rs valid)
