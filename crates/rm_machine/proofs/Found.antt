-- What a read finds in an open database.
use Rattle.std.specs.{List.{filter_map}, Option.{option_map_or}}
use Rattle.std.proofs.Common.{◌≡◌, ◌<◌, ◌-◌, ◌==◌, ℕ, suc, List, [], ◌∷◌, Option, Some, None, Bool, true, false, cond, refl, ap, subst, arith, Contains, find, slice_get, slice_index_or}
use Rattle.std.proofs.lemmas.{Bool.{eqb-true}, List.Elements.{All-contains_itself}, Option.{slice_get_within}}
use Rattle.rm_base.{specs.declared.block.Row.{Row}, proofs.Slots.{all-get, get-index, index-get}}
use Rattle.rm_blocks.specs.File.{File, standing}
use Rattle.rm_history.proofs.Highs.{high-above}
use Rattle.rm_catalog_typed.proofs.Lookups.{item-at}
use Rattle.rm_live.specs.Parts.{row_at}
use Rattle.rm_machine.specs.{Sound.{IsPlaced, IsPlacedRow, IsSound}, State.{current_of, now_of, placed, tree}, Events.{standing_in}}
use Rattle.rm_machine.{specs.declared.state.State.{State}, proofs.{Places.{counted-open, placed-is}, PiecesRead.{IsFound}}}

-- the place of a datafile that is found by its number
found-at : (place : List (Option File)) (f : ℕ) (x : File) → find (λ (y : File). y.file == f) (filter_map (λ o. o) place) ≡ Some x → (k : ℕ) × (slice_get place k ≡ Some (Some x)) × (x.file ≡ f)
found-at [] f x is = absurd (cc)
found-at (None ∷ place) f x is = let rest = found-at place f x is in (suc rest.0, rest.1, rest.2)
found-at (Some y ∷ place) f x is = by (y.file == f) refl (found-at place f x) is
  where
    At : List (Option File) → Type 0
    At os = (k : ℕ) × (slice_get os k ≡ Some (Some x)) × (x.file ≡ f)

    by : (t : Bool) → (y.file == f) ≡ t → (find (λ (z : File). z.file == f) (filter_map (λ o. o) place) ≡ Some x → At place)
        → cond t (Some y) (find (λ (z : File). z.file == f) (filter_map (λ o. o) place)) ≡ Some x → At (Some y ∷ place)
    by true same rest found = let is_file : y ≡ x = cc in (0, ap (λ (z : File). Some (Some z)) is_file, subst (λ (z : File). z.file ≡ f) is_file (eqb-true y.file f same))
    by false other rest found = let it = rest found in (suc it.0, it.1, it.2)

-- the row of a block of a datafile that stands in place
pub record IsReadOf (u : State) (f b : ℕ) (r : Row) : Type 0 where
  pub some : 0 < f
  pub file : File
  pub number : file.file ≡ f
  pub stands : placed u f ≡ Some file
  pub row : slice_get file.rows b ≡ Some r

pub read-of : (u : State) (f b : ℕ) (r : Row) → IsSound u → row_at (standing_in u) f b ≡ Some r → IsReadOf u f b r
read-of u f b r sound is = by (find (λ (x : File). x.file == f) (standing_in u)) refl is
  where
    by : (o : Option File) → find (λ (x : File). x.file == f) (standing_in u) ≡ o → option_map_or (λ (x : File). slice_get x.rows b) o None ≡ Some r → IsReadOf u f b r
    by None found is = absurd (cc)
    by (Some x) found is =
        let at = found-at u.instance.place f x found in
        let stands = index-get u.instance.place at.0 x at.1 in
        let place = (placed-is u at.0 x sound.place stands).file in
        let same : at.0 ≡ f - 1 = omega (arith, place, at.2) in
        record {
          some = omega (arith, place, at.2);
          file = x;
          number = at.2;
          stands = subst (λ k. slice_index_or u.instance.place k None ≡ Some x) same stands;
          row = is;
        }

module _ (u : State) (f b : ℕ) (r : Row) (sound : IsSound u) (opened : u.instance.is_open ≡ true) (is : IsReadOf u f b r) where
  -- it is the row of that block, and was written up to now
  pub read-found : (r.block ≡ b) × IsFound u r
  read-found =
      let at = get-index u.instance.place (f - 1) is.file is.stands in
      let inside = slice_get_within u.instance.place (f - 1) (Some is.file) at in
      let d = item-at u.catalog.ledger.files (f - 1) (omega (arith, inside, sound.place.many)) in
      let place : IsPlaced (tree u) (f - 1) d.0 (standing is.file (current_of u) (now_of u)) = subst (IsPlaced (tree u) (f - 1) d.0) (counted-open u is.file opened) (sound.place.each (f - 1) d.0 is.file d.1 at) in
      let above = high-above (now_of u) is.file.rows r (all-get (Contains is.file.rows) is.file.rows b r is.row (All-contains_itself is.file.rows)) in
      (place.order b r is.row, record { row = all-get IsPlacedRow is.file.rows b r is.row place.rows; below = omega (arith, above, place.high) })
