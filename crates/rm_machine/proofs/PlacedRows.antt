-- The row in place of a block of a datafile of the current path that is not lost.
use Rattle.std.specs.Option.{option_and_then, option_map_or}
use Rattle.std.proofs.Common.{◌≡◌, ◌<◌, ◌≤◌, ◌-◌, ◌∙◌, nat_le, false, inl, inr, ℕ, Option, Some, None, is_none, refl, ap, sym, arith, length, slice_get}
use Rattle.std.proofs.lemmas.{Bool.{cases_Bool, leb-false}, Option.{slice_get_within}}
use Rattle.rm_base.{specs.declared.block.Row.{Row}, proofs.{Conditions.{not-none}, Slots.{all-get, get-index}}}
use Rattle.rm_blocks.specs.File.{File}
use Rattle.rm_history.{specs.declared.world.Datafile.{Datafile}, proofs.Worlds.{file-there}}
use Rattle.rm_catalog_typed.{specs.LedgerFacts.{IsCreated}, proofs.Lookups.{item-at}}
use Rattle.rm_machine.specs.{Dump.{placed_row}, Sound.{IsSound}, State.{counted, on_path, placed, tree, world}}
use Rattle.rm_machine.{specs.declared.state.State.{State}, proofs.{Places.{counted-closed, counted-open}, Tracked.{on-path}}}

-- what is in place counts with its own rows
rows-counted : (s : State) (x : File) → (counted s x).rows ≡ x.rows
rows-counted s x = elim (cases_Bool s.instance.is_open) [
  | inl opened ↦ ap (λ (y : File). y.rows) (counted-open s x opened)
  | inr closed ↦ ap (λ (y : File). y.rows) (counted-closed s x closed)
]

-- where nothing is refused of what may be missing, it is there
pub there-by : {X Y : Type 0} (g : X → Option Y) (o : Option X) (y : Y) → option_map_or g o (Some y) ≡ None → (x : X) × (o ≡ Some x) × (g x ≡ None)
there-by g None y is = absurd (cc)
there-by g (Some x) y is = (x, refl, is)

-- the numbers are those of a datafile and a block that can be, and the block has its row
pub record HasRow (s : State) (f b : ℕ) : Type 0 where
  pub number : (0 < f) × (f ≤ 64)
  pub place : f - 1 < length s.instance.place
  pub block : b < 65536
  pub row : Row
  pub is : placed_row s f b ≡ Some row

pub has-row : (s : State) (f b : ℕ) (d : Datafile) → IsSound s → on_path s f ≡ Some d → nat_le d.blocks b ≡ false → is_none (placed s f) ≡ false → HasRow s f b
has-row s f b d sound found within stands =
    let there = file-there (world s) f d (on-path s f d found).0 in
    let inside = slice_get_within s.catalog.ledger.files (f - 1) d there.1 in
    let few = sound.catalog.ledger.datafiles.few in
    let many = sound.place.many in
    let most = (all-get (IsCreated (tree s)) s.catalog.ledger.files (f - 1) d there.1 sound.catalog.ledger.datafiles.each).blocks.1 in
    let low = leb-false d.blocks b within in
    let file = not-none (placed s f) stands in
    let x = file.0 in
    let whole = (sound.place.each (f - 1) d x there.1 (get-index s.instance.place (f - 1) x file.1)).blocks in
    let long : length x.rows ≡ d.blocks = sym (ap (λ rows. length rows) (rows-counted s x)) ∙ whole in
    let row : (r : Row) × (slice_get x.rows b ≡ Some r) = item-at x.rows b (omega (arith, long, low)) in
    record {
      number = (there.0, omega (arith, inside, few));
      place = omega (arith, inside, many);
      block = omega (arith, low, most);
      row = row.0;
      is = ap (option_and_then (λ (y : File). slice_get y.rows b)) file.1 ∙ row.1;
    }
