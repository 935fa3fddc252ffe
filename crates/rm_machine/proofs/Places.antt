-- What is in place, and as what it counts.
use Rattle.std.specs.Option.{option_map}
use Rattle.std.proofs.Common.{◌≡◌, ◌+◌, inl, inr, ℕ, zero, suc, List, [], ◌∷◌, Option, Some, None, true, false, cond, ap, subst, arith, map, slice_index_or}
use Rattle.std.proofs.lemmas.{Option.{slice_get_within}, Bool.{cases_Bool}}
use Rattle.rm_blocks.specs.File.{File, IsInOrder, standing}
use Rattle.rm_history.specs.declared.world.Datafile.{Datafile}
use Rattle.rm_catalog_typed.proofs.Lookups.{item-at}
use Rattle.rm_base.proofs.Slots.{get-index, get-mapped, index-get}
use Rattle.rm_machine.specs.{Sound.{ArePlaced, IsPlaced}, State.{current_of, now_of, counted}, declared.state.State.{State}}

-- in an open database what is in place counts as of `now`
pub counted-open : (s : State) (x : File) → s.instance.is_open ≡ true → counted s x ≡ standing x (current_of s) (now_of s)
counted-open s x opened = ap (λ b. cond b (standing x (current_of s) (now_of s)) x) opened

-- in a mounted one as it is
pub counted-closed : (s : State) (x : File) → s.instance.is_open ≡ false → counted s x ≡ x
counted-closed s x closed = ap (λ b. cond b (standing x (current_of s) (now_of s)) x) closed

-- it has its number and its blocks in order
pub record IsInPlace (k : ℕ) (x : File) : Type 0 where
  pub file : x.file ≡ k + 1
  pub order : IsInOrder x.rows

as-placed : (s : State) (k : ℕ) (d : Datafile) (x : File) → IsPlaced s.catalog.ledger.tree k d (counted s x) → IsInPlace k x
as-placed s k d x is = elim (cases_Bool s.instance.is_open) [
  | inl opened ↦ let it = subst (IsPlaced s.catalog.ledger.tree k d) (counted-open s x opened) is in record { file = it.file; order = it.order }
  | inr closed ↦ let it = subst (IsPlaced s.catalog.ledger.tree k d) (counted-closed s x closed) is in record { file = it.file; order = it.order }
]

pub placed-is : (s : State) (k : ℕ) (x : File) → ArePlaced s → slice_index_or s.instance.place k None ≡ Some x → IsInPlace k x
placed-is s k x are is =
    let at = get-index s.instance.place k x is in
    let file = item-at s.catalog.ledger.files k (omega (arith, slice_get_within s.instance.place k (Some x) at, are.many)) in
    as-placed s k file.0 x (are.each k file.0 x file.1 at)

-- what stands in place after each that stood there was changed
pub placed-map : (f : File → File) (place : List (Option File)) (k : ℕ) (x : File) → slice_index_or (map (option_map f) place) k None ≡ Some x → (y : File) × (slice_index_or place k None ≡ Some y) × (f y ≡ x)
placed-map f place k x is =
    let found = get-mapped f place k x (get-index (map (option_map f) place) k x is) in
    (found.0, index-get place k found.0 found.1, found.2)

-- and the other way
pub placed-mapped : (f : File → File) (place : List (Option File)) (k : ℕ) (x : File) → slice_index_or place k None ≡ Some x → slice_index_or (map (option_map f) place) k None ≡ Some (f x)
placed-mapped f [] k x is = absurd (cc)
placed-mapped f (o ∷ place) zero x is = ap (option_map f) is
placed-mapped f (o ∷ place) (suc k) x is = placed-mapped f place k x is
