-- Tests by which events are counted: two rows are the same, a call mends a datafile by a row.
use Rattle.std.specs.Str.{bytes_eq}
use Rattle.std.proofs.Common.{◌≡◌, ◌==◌, ◌&&◌, ℕ, List, Bool, true, false, refl}
use Rattle.std.proofs.lemmas.{Bool.{and_from, and_parts, eq-eqb, eqb-true}, Slice.Eq.{bytes_eq-Decides}}
use Rattle.rm_base.specs.declared.block.Row.{Row}
use Rattle.rm_live.specs.declared.history.Call.{Call, TheVariants.{Mend, Read, Write}}

abbrev pub same_row : Row → Row → Bool
same_row q r = (q.block == r.block) && ((q.version == r.version) && bytes_eq q.content.0 r.content.0)

pub row-itself : (r : Row) → same_row r r ≡ true
row-itself r = and_from (r.block == r.block) _ (eq-eqb r.block r.block refl) (and_from (r.version == r.version) _ (eq-eqb r.version r.version refl) ((bytes_eq-Decides r.content.0 r.content.0).1 refl))

pub row-same : (q r : Row) → same_row q r ≡ true → q ≡ r
row-same q r is =
    let block = and_parts (q.block == r.block) ((q.version == r.version) && bytes_eq q.content.0 r.content.0) is in
    let rest = and_parts (q.version == r.version) (bytes_eq q.content.0 r.content.0) block.1 in
    let of : ℕ → ℕ → List ℕ → Row = λ n v c. record { block = n; version = v; content = record { 0 = c } } in
    λ i. of (eqb-true q.block r.block block.0 i) (eqb-true q.version r.version rest.0 i) ((bytes_eq-Decides q.content.0 r.content.0).0 rest.1 i)

-- the call mends datafile f by this row
abbrev pub mends_by : ℕ → Row → Call → Bool
mends_by f row (Read g b) = false
mends_by f row (Write t g b content) = false
mends_by f row (Mend g q) = (g == f) && same_row q row

pub mends-itself : (f : ℕ) (row : Row) → mends_by f row (Mend f row) ≡ true
mends-itself f row = and_from (f == f) (same_row row row) (eq-eqb f f refl) (row-itself row)

pub mends-same : (f : ℕ) (row : Row) (g : ℕ) (q : Row) → mends_by f row (Mend g q) ≡ true → (g ≡ f) × (q ≡ row)
mends-same f row g q is = let both = and_parts (g == f) (same_row q row) is in (eqb-true g f both.0, row-same q row both.1)
