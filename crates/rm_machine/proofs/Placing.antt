-- What stands in place after datafiles were put over it.
use Rattle.std.proofs.Common.{◌≡◌, ◌<◌, ◌-◌, ◌∙◌, ◌⊎◌, inl, inr, ℕ, zero, suc, List, [], ◌∷◌, Option, Some, refl, ap, sym, subst, arith, length, map, slice_get, slice_set, AllPairs, Contains}
use Rattle.std.proofs.lemmas.List.{length-set}
use Rattle.rm_base.proofs.{Members.{behind, first-or-rest, in-front, none-in}, Slots.{get-set}, Lists.{pairs-head, pairs-tail}}
use Rattle.rm_blocks.specs.File.{File}
use Rattle.rm_machine.specs.Recovery.{put_over}

abbrev pub number : File → ℕ
number x = x.file

-- each place stays
pub over-length : (xs : List File) (place : List (Option File)) → length (put_over xs place) ≡ length place
over-length [] place = refl
over-length (x ∷ xs) place = over-length xs (slice_set place (x.file - 1) (Some x)) ∙ length-set place (x.file - 1) (Some x)

-- what stands at a place is one of them, of that number, or stood there
pub over-cases : (xs : List File) (place : List (Option File)) (k : ℕ) (x : File) → slice_get (put_over xs place) k ≡ Some (Some x) → (Contains xs x × (x.file - 1 ≡ k)) ⊎ (slice_get place k ≡ Some (Some x))
over-cases [] place k x is = inr is
over-cases (y ∷ ys) place k x is = elim (over-cases ys (slice_set place (y.file - 1) (Some y)) k x is) [
  | inl later ↦ inl (behind y ys x later.0, later.1)
  | inr set ↦ elim (get-set place (y.file - 1) k (Some y) (Some x) set) [
    | inl here ↦
        let same : y ≡ x = (let one : Some y ≡ Some x = here.1 in cc) in
        inl (subst (Contains (y ∷ ys)) same (in-front y ys), sym (here.0 ∙ ap (λ (z : File). z.file - 1) same))
    | inr other ↦ inr other.1
  ]
]

-- what was set stands there
set-here : (place : List (Option File)) (k : ℕ) (x : File) → k < length place → slice_get (slice_set place k (Some x)) k ≡ Some (Some x)
set-here [] k x inside = absurd (omega arith)
set-here (o ∷ os) zero x inside = refl
set-here (o ∷ os) (suc k) x inside = set-here os k x (omega arith)

-- and before it what stood there
set-before : (place : List (Option File)) (j k : ℕ) (x : File) → k < j → slice_get (slice_set place j (Some x)) k ≡ slice_get place k
set-before [] j k x less = refl
set-before (o ∷ os) zero k x less = absurd (omega arith)
set-before (o ∷ os) (suc j) zero x less = refl
set-before (o ∷ os) (suc j) (suc k) x less = set-before os j k x (omega arith)

-- below all of their numbers what stood there stays
over-below : (xs : List File) (place : List (Option File)) (k : ℕ) → ((n : ℕ) → Contains (map number xs) n → suc k < n) → slice_get (put_over xs place) k ≡ slice_get place k
over-below [] place k above = refl
over-below (x ∷ xs) place k above =
    over-below xs (slice_set place (x.file - 1) (Some x)) k (λ n has. above n (behind x.file (map number xs) n has))
    ∙ set-before place (x.file - 1) k x (omega (arith, above x.file (in-front x.file (map number xs))))

-- where they ascend, the one of a number stands at its place
pub over-at : (xs : List File) (place : List (Option File)) (k : ℕ) → AllPairs (λ (a b : ℕ). a < b) (map number xs) → Contains (map number xs) (suc k) → k < length place
    → (x : File) × Contains xs x × (x.file ≡ suc k) × (slice_get (put_over xs place) k ≡ Some (Some x))
over-at [] place k up has inside = absurd (none-in (suc k) has)
over-at (x ∷ xs) place k up has inside =
    let new : List (Option File) = slice_set place (x.file - 1) (Some x) in
    elim (first-or-rest x.file (map number xs) (suc k) has) [
      | inl same ↦
          let at : x.file - 1 ≡ k = omega (arith, same) in
          let stays = over-below xs new k (λ n later.
          let more = pairs-head (λ (a b : ℕ). a < b) x.file (map number xs) n up later in
          omega (arith, more, same)) in
          (x, in-front x xs, same, stays ∙ subst (λ j. slice_get (slice_set place j (Some x)) k ≡ Some (Some x)) (sym at) (set-here place k x inside))
      | inr later ↦
          let long = length-set place (x.file - 1) (Some x) in
          let rest = over-at xs new k (pairs-tail (λ (a b : ℕ). a < b) x.file (map number xs) up) later (omega (arith, long, inside)) in
          (rest.0, behind x xs rest.0 rest.1, rest.2, rest.3)
    ]
