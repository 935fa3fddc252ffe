-- A datafile in place has 65,536 blocks at most.
use Rattle.std.{specs.Option.{option_map_or}, proofs.Common.{◌≡◌, ◌≤◌, ◌-◌, inl, inr, ℕ, [], Option, None, Some, refl, ap, arith, length}}
use Rattle.std.proofs.lemmas.{Bool.{cases_Bool}, Option.{slice_get_within}}
use Rattle.rm_base.proofs.Slots.{all-get, get-index}
use Rattle.rm_blocks.specs.File.{File}
use Rattle.rm_catalog_typed.{specs.LedgerFacts.{IsCreated}, proofs.Lookups.{item-at}}
use Rattle.rm_machine.specs.{Backup.{rows_in}, Sound.{IsSound}, State.{counted, ledger, placed, tree}, declared.state.State.{State}}
use Rattle.rm_machine.proofs.Places.{counted-closed, counted-open}

-- it counts with as many rows
pub counted-rows : (s : State) (x : File) → length (counted s x).rows ≡ length x.rows
counted-rows s x = elim (cases_Bool s.instance.is_open) [
  | inl opened ↦ ap (λ (y : File). length y.rows) (counted-open s x opened)
  | inr closed ↦ ap (λ (y : File). length y.rows) (counted-closed s x closed)
]

few-by : (s : State) (f : ℕ) (o : Option File) → IsSound s → placed s f ≡ o → length (option_map_or (λ (x : File). x.rows) o []) ≤ 65536
few-by s f None sound is = omega arith
few-by s f (Some x) sound is =
    let at = get-index s.instance.place (f - 1) x is in
    let inside = slice_get_within s.instance.place (f - 1) (Some x) at in
    let many = sound.place.many in
    let file = item-at (ledger s).files (f - 1) (omega (arith, inside, many)) in
    let blocks = (sound.place.each (f - 1) file.0 x file.1 at).blocks in
    let most = (all-get (IsCreated (tree s)) (ledger s).files (f - 1) file.0 file.1 sound.catalog.ledger.datafiles.each).blocks.1 in
    let rows = counted-rows s x in
    omega (arith, blocks, most, rows)

pub few-rows : (s : State) (f : ℕ) → IsSound s → length (rows_in s f) ≤ 65536
few-rows s f sound = few-by s f (placed s f) sound refl
