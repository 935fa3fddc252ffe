-- Rows that take on the parts of their blocks are those parts.
use Rattle.std.specs.Option.{option_map}
use Rattle.std.proofs.Common.{◌≡◌, ◌∙◌, ℕ, suc, ◌+◌, ◌<◌, List, [], ◌∷◌, ◌++◌, Some, drop, length, map, slice_get, take, ap, ap₂, subst, sym, arith, eq-eqb, ne_eqb, refl}
use Rattle.std.proofs.{Math.Seq.{take-append_seam}, lemmas.{List.{length-map}, Option.{slice_get-get_or, slice_get-map}}}
use Rattle.rm_base.specs.declared.block.{Part.{Part}, Row.{Row}}
use Rattle.rm_blocks.specs.File.{IsInOrder}
use Rattle.rm_channel.{specs.Applied.{Ascend, row_by, row_of, with_parts}, proofs.Puts.{part-before, parts-then}}

-- the first part is of block b, the next one of block b + 1, and so on
abbrev AreFrom : ℕ → List Part → Type 0
AreFrom b parts = (k : ℕ) (p : Part) → slice_get parts k ≡ Some p → p.block ≡ b + k

rest-from : (b : ℕ) (p : Part) (ps : List Part) → AreFrom b (p ∷ ps) → AreFrom (suc b) ps
rest-from b p ps from k q is = let e = from (suc k) q is in omega (arith, e)

-- the row of an earlier block stays
row-before : (b c : ℕ) (parts : List Part) (row : Row) → AreFrom c parts → b < c → row_by parts b row ≡ row
row-before b c [] row from lt = refl
row-before b c (p ∷ ps) row from lt =
    let is = from 0 p refl in
    let e = ne_eqb p.block b (λ same. omega (arith, is, same, lt)) in
    rw e (row-before b (suc c) ps row (rest-from c p ps from) (omega (arith, lt)))

rows-from : (b : ℕ) (parts : List Part) (rows : List Row) → AreFrom b parts → length rows ≡ length parts → with_parts parts b rows ≡ map row_of parts
rows-from b [] [] from len = refl
rows-from b [] (r ∷ rs) from len = absurd (omega arith)
rows-from b (p ∷ ps) [] from len = absurd (omega arith)
rows-from b (p ∷ ps) (r ∷ rs) from len =
    let is = from 0 p refl in
    let e = eq-eqb p.block b (omega (arith, is)) in
    let rest = rest-from b p ps from in
    let first = row-before b (suc b) ps (row_of p) rest (omega arith) in
    let others = parts-then (p ∷ []) ps (suc b) rs ∙ ap (with_parts ps (suc b)) (part-before p (suc b) rs (omega (arith, is))) ∙ rows-from (suc b) ps rs rest (omega (arith, len)) in
    rw e (ap₂ (λ (x : Row) (xs : List Row). x ∷ xs) first others)

from-start : (parts : List Part) → IsInOrder (map row_of parts) → AreFrom 0 parts
from-start parts order k p is = let e : p.block ≡ k = order k (row_of p) (slice_get-map row_of parts k ∙ ap (option_map row_of) is) in omega (arith, e)

rows-of-parts : (parts : List Part) (rows : List Row) → IsInOrder (map row_of parts) → length rows ≡ length parts → with_parts parts 0 rows ≡ map row_of parts
rows-of-parts parts rows order = rows-from 0 parts rows (from-start parts order)

pub parts-ascend : (parts lent : List Part) → IsInOrder (map row_of parts) → lent ≡ parts → Ascend lent
parts-ascend parts lent order same = subst Ascend (sym same) (λ i j d le lt.
    let one = from-start parts order i _ (slice_get-get_or parts i d (omega arith)) in
    let other = from-start parts order j _ (slice_get-get_or parts j d lt) in
    omega (arith, one, other, le))

-- where part k is of block k; the rows are those of a list, to which they are written back
pub taken-on : (parts lent_parts : List Part) (rows lent new : List Row) (n : ℕ)
    → IsInOrder (map row_of parts) → length rows ≡ length parts → lent_parts ≡ parts → lent ≡ rows → length lent ≡ n → new ≡ with_parts lent_parts 0 lent
    → take n (new ++ drop (length new) rows) ≡ map row_of parts
taken-on parts lent_parts rows lent new n order len same_parts same_rows count made =
    let is : new ≡ map row_of parts = made ∙ ap₂ (λ (ps : List Part) (rs : List Row). with_parts ps 0 rs) same_parts same_rows ∙ rows-of-parts parts rows order len in
    let long : length new ≡ length parts = ap length is ∙ length-map parts row_of in
    let all : n ≡ length new = sym count ∙ ap length same_rows ∙ len ∙ sym long in
    ap (λ (k : ℕ). take k (new ++ drop (length new) rows)) all ∙ take-append_seam new (drop (length new) rows) ∙ is
