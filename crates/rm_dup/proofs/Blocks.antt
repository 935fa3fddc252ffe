-- The blocks of some of the datafiles are no more than those of all.
use Rattle.std.specs.Prelude.{sum_by}
use Rattle.std.proofs.Common.{◌≡◌, ◌<◌, ◌≤◌, ◌+◌, ◌-◌, ◌∙◌, ℕ, zero, suc, List, [], ◌∷◌, Some, map, drop, get_or, slice_get, Contains, AllPairs, ap, arith}
use Rattle.std.proofs.lemmas.List.{get_or-map, length-map, Sums.{sum_by-cons}}
use Rattle.rm_base.proofs.Members.{behind, in-front}
use Rattle.rm_blocks.specs.File.{File}
use Rattle.rm_history.specs.{World.{blocks_of}, declared.world.{Datafile.{Datafile}, World.{World}}}
use Rattle.rm_dup.specs.Copies.{as_first}

-- the blocks of those behind the first k
blocks_from : List Datafile → ℕ → ℕ
blocks_from ds k = sum_by (λ (d : Datafile). d.blocks) (drop k ds)

from-next : (ds : List Datafile) (k : ℕ) (d : Datafile) → slice_get ds k ≡ Some d → blocks_from ds k ≡ d.blocks + blocks_from ds (suc k)
unfolding blocks_from
from-next [] k d is = absurd cc
from-next (x ∷ ds) zero d is =
    let same : x ≡ d = cc in
    sum_by-cons (λ (y : Datafile). y.blocks) x ds ∙ ap (λ (y : Datafile). y.blocks + sum_by (λ (z : Datafile). z.blocks) ds) same
from-next (x ∷ ds) (suc k) d is = from-next ds k d is

from-later : (ds : List Datafile) (k n : ℕ) → k ≤ n → blocks_from ds n ≤ blocks_from ds k
unfolding blocks_from
from-later ds zero zero le = omega arith
from-later [] zero (suc n) le = omega arith
from-later (x ∷ ds) zero (suc n) le =
    let rest : blocks_from ds n ≤ blocks_from ds 0 = from-later ds zero n (omega arith) in
    let own = sum_by-cons (λ (y : Datafile). y.blocks) x ds in
    omega (arith, rest, own)
from-later ds (suc k) zero le = absurd (omega arith)
from-later [] (suc k) (suc n) le = omega arith
from-later (x ∷ ds) (suc k) (suc n) le = from-later ds k n (omega arith)

-- of some of the datafiles behind the first k, ascending
some-blocks : (w : World) (ds : List Datafile) (xs : List File) (k : ℕ) → AllPairs (λ (m n : ℕ). m < n) (map (λ (x : File). x.file) xs)
    → ((x : File) → Contains xs x → (k < x.file) × ((d : Datafile) × (slice_get ds (x.file - 1) ≡ Some d) × (blocks_of w x.file ≡ d.blocks)))
    → sum_by (λ (d : Datafile). d.blocks) (map (λ (x : File). as_first w x.file) xs) ≤ blocks_from ds k
some-blocks w ds [] k up each = omega arith
some-blocks w ds (x ∷ xs) k up each =
    let own = each x (in-front x xs) in
    let low = own.0 in
    let rest = some-blocks w ds xs x.file (λ i j d less inside. up (suc i) (suc j) d (omega arith) (omega arith)) (λ y has.
    let place = has.0 in
    let inside = has.1 in
    let long = length-map xs (λ (z : File). z.file) in
    let above : x.file < get_or (map (λ (z : File). z.file) xs) place y.file = up 0 (suc place) y.file (omega arith) (omega (arith, inside, long)) in
    let here : get_or (map (λ (z : File). z.file) xs) place y.file ≡ y.file = get_or-map (λ (z : File). z.file) xs place y y.file inside ∙ ap (λ (z : File). z.file) has.2 in
    (omega (arith, above, here), (each y (behind x xs y has)).1)) in
    let head = sum_by-cons (λ (d : Datafile). d.blocks) (as_first w x.file) (map (λ (y : File). as_first w y.file) xs) in
    let next = from-next ds (x.file - 1) own.1.0 own.1.1 in
    let blocks = own.1.2 in
    let back : suc (x.file - 1) ≡ x.file = omega (arith, low) in
    let after = ap (blocks_from ds) back in
    let down = from-later ds k (x.file - 1) (omega (arith, low)) in
    omega (arith, rest, head, next, blocks, after, down)

-- so of some of them all
pub few-blocks : (w : World) (ds : List Datafile) (xs : List File) → AllPairs (λ (m n : ℕ). m < n) (map (λ (x : File). x.file) xs)
    → ((x : File) → Contains xs x → (0 < x.file) × ((d : Datafile) × (slice_get ds (x.file - 1) ≡ Some d) × (blocks_of w x.file ≡ d.blocks)))
    → sum_by (λ (d : Datafile). d.blocks) (map (λ (x : File). as_first w x.file) xs) ≤ sum_by (λ (d : Datafile). d.blocks) ds
unfolding blocks_from
few-blocks w ds xs up each = some-blocks w ds xs 0 up each
