-- What stands in place where a database is opened at its point.
use Rattle.std.proofs.Common.{◌≡◌, ◌<◌, ◌≤◌, ◌-◌, ◌∙◌, ℕ, zero, suc, List, [], ◌∷◌, Option, Some, None, true, cond, refl, ap, sym, subst, arith, length, All, slice_get, slice_index_or}
use Rattle.std.proofs.lemmas.{List.Elements.{All-contains}, Option.{slice_get_within}}
use Rattle.rm_base.{specs.declared.block.{Change.{Change}, Row.{Row}}, proofs.{Conditions.{given-where}, Slots.{get-index}}}
use Rattle.rm_blocks.specs.File.{File, base_of, standing}
use Rattle.rm_history.specs.{Agrees.{BaseAgrees}, State.{state}, Tree.{IsThere, end_of}, World.{exists}}
use Rattle.rm_history.specs.declared.{tree.Incarnation.{Incarnation}, world.{Datafile.{Datafile}, World.{World}}}
use Rattle.rm_history.proofs.Highs.{high-bound}
use Rattle.rm_catalog_typed.proofs.Lookups.{item-at}
use Rattle.rm_machine.specs.{Machine.{HistoryFits, RowsAre}, Open.{kept_in_place}, Sound.{IsPlaced, IsPoint, IsSound}}
use Rattle.rm_machine.specs.{State.{current_of, ledger, world}, declared.state.State.{State}}

-- what is kept in place stood there, and its datafile exists there
pub kept-get : (w : World) (i s : ℕ) (ds : List Datafile) (place : List (Option File)) (k : ℕ) (d : Datafile) (x : File) → slice_get ds k ≡ Some d → slice_get (kept_in_place w i s ds place) k ≡ Some (Some x) → (exists w i s d ≡ true) × (slice_get place k ≡ Some (Some x))
kept-get w i s [] place k d x file is = absurd (cc)
kept-get w i s (e ∷ ds) [] k d x file is = absurd (cc)
kept-get w i s (e ∷ ds) (y ∷ ys) zero d x file is =
    let same : e ≡ d = (let f : Some e ≡ Some d = file in cc) in
    let head : cond (exists w i s e) y None ≡ Some x = (let f : Some (cond (exists w i s e) y None) ≡ Some (Some x) = is in cc) in
    let both = given-where (exists w i s e) y x head in
    (ap (exists w i s) (sym same) ∙ both.0, ap Some both.1)
kept-get w i s (e ∷ ds) (y ∷ ys) (suc k) d x file is = kept-get w i s ds ys k d x file is

pub kept-length : (w : World) (i s : ℕ) (ds : List Datafile) (place : List (Option File)) → length place ≡ length ds → length (kept_in_place w i s ds place) ≡ length ds
kept-length w i s [] place same = refl
kept-length w i s (d ∷ ds) [] same = absurd (omega (arith, same))
kept-length w i s (d ∷ ds) (x ∷ xs) same = ap (λ n. suc n) (kept-length w i s ds xs (omega (arith, same)))

-- what is kept in place at a point has the state there
pub kept-rows : (s : State) (at : ℕ) (h : List Change) → IsSound s → HistoryFits s h → s.instance.point ≡ Some at → (f : ℕ) (x : File)
    → slice_index_or (kept_in_place (world s) (current_of s) at (ledger s).files s.instance.place) (f - 1) None ≡ Some x → RowsAre (world s) h (current_of s) at x
kept-rows s at h sound keeps here f x is =
    let place = kept_in_place (world s) (current_of s) at (ledger s).files s.instance.place in
    let slot = get-index place (f - 1) x is in
    let many = kept-length (world s) (current_of s) at (ledger s).files s.instance.place sound.place.many in
    let d = item-at (ledger s).files (f - 1) (omega (arith, slice_get_within place (f - 1) (Some x) slot, many)) in
    let kept = kept-get (world s) (current_of s) at (ledger s).files s.instance.place (f - 1) d.0 x d.1 slot in
    keeps.point at here (f - 1) d.0 x d.1 kept.0 kept.1

-- a copy with the state where it stands agrees
pub rows-agree : (w : World) (h : List Change) (i at : ℕ) (x : File) → RowsAre w h i at x → BaseAgrees w h (base_of (standing x i at))
rows-agree w h i at x all r is =
    record { position = at; after = omega arith; is = sym (All-contains (λ (r : Row). r ≡ state w h i at x.file r.block) x.rows r all is) }

-- a copy that lies below `at` may stand there
pub placed-standing : (tree new : List Incarnation) (k i at : ℕ) (d : Datafile) (x : File) → IsPlaced tree k d x → IsThere new i → 1 ≤ at → at ≤ end_of new i → All (λ r. r.version < at) x.rows → IsPlaced new k d (standing x i at)
placed-standing tree new k i at d x is there begun end below = record {
  file = is.file;
  blocks = is.blocks;
  order = is.order;
  rows = is.rows;
  there = there;
  checkpoint = begun;
  high = high-bound at (end_of new i) x.rows end (λ r has. let low = All-contains (λ (r : Row). r.version < at) x.rows r below has in omega (arith, low, end));
}

-- what stands at the point lies below it
pub below-point : (s : State) (at k : ℕ) (d : Datafile) (x : File) → IsPoint s at → slice_get (ledger s).files k ≡ Some d → exists (world s) (current_of s) at d ≡ true → slice_get s.instance.place k ≡ Some (Some x) → All (λ r. r.version < at) x.rows
below-point s at k d x point file here held =
    let stands = point.stands k d file here in
    let both : Some (Some stands.file) ≡ Some (Some x) = sym stands.is ∙ held in
    let same : stands.file ≡ x = cc in
    subst (λ (y : File). All (λ r. r.version < at) y.rows) same stands.below
