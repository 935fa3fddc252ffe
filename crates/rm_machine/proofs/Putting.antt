-- A row in place of the one of its block, and another list of damaged blocks, keep an open database sound.
use Rattle.std.specs.Option.{option_map}
use Rattle.std.proofs.Common.{◌≡◌, ◌<◌, ◌-◌, ◌∙◌, inl, inr, ℕ, List, Option, Some, None, Bool, true, filter, refl, ap, sym, subst, arith, Contains, slice_get, slice_set}
use Rattle.std.proofs.lemmas.List.{length-set, Elements.{All-contains}}
use Rattle.rm_base.{specs.declared.block.{BlockId.{BlockId}, Row.{Row}}, proofs.Slots.{all-get, all-set_others, get-index, get-set}}
use Rattle.rm_base.proofs.Standing.{each-in}
use Rattle.rm_blocks.specs.File.{File, IsInOrder, put, standing}
use Rattle.rm_history.{specs.declared.world.Datafile.{Datafile}, proofs.Highs.{high-above, high-bound}}
use Rattle.rm_machine.specs.{Damage.{AreDamaged, IsInPlace, with_block}, Events.{with_placed_row}, Sound.{IsPlaced, IsPlacedRow, IsSound}}
use Rattle.rm_machine.specs.{State.{counted, current_of, ledger, now_of, placed, tree}, declared.state.State.{State}}
use Rattle.rm_machine.proofs.{Damaged.{damaged-filtered, damaged-more, damaged-put, with_list}, Places.{counted-open}}
use Rattle.rm_machine.proofs.Tracked.{tracked-same}

put-by : (o : Option File) (row : Row) (x : File) → option_map (λ y. put y row) o ≡ Some x → (y : File) × (o ≡ Some y) × (put y row ≡ x)
put-by None row x is = absurd (cc)
put-by (Some y) row x is = (y, refl, (let same : put y row ≡ x = cc is in same))

module _ (s : State) (f : ℕ) (row : Row) (sound : IsSound s) (opened : s.instance.is_open ≡ true) (fits : IsPlacedRow row) (below : row.version < now_of s) where
  abbrev q : State
  q = with_placed_row s f row

  place-was : (k : ℕ) (d : Datafile) (x : File) → slice_get (ledger s).files k ≡ Some d → slice_get s.instance.place k ≡ Some (Some x) → IsPlaced (tree s) k d (standing x (current_of s) (now_of s))
  place-was k d x file held = subst (IsPlaced (tree s) k d) (counted-open s x opened) (sound.place.each k d x file held)

  order-put : (y : File) → IsInOrder y.rows → IsInOrder (put y row).rows
  order-put y order k r is = elim (get-set y.rows row.block k row r is) [
    | inl new ↦ ap (λ (z : Row). z.block) (sym new.1) ∙ sym new.0
    | inr old ↦ order k r old.1
  ]

  place-put : (k : ℕ) (d : Datafile) (y : File) → IsPlaced (tree s) k d (standing y (current_of s) (now_of s)) → IsPlaced (tree s) k d (standing (put y row) (current_of s) (now_of s))
  place-put k d y was = record {
    file = was.file;
    blocks = length-set y.rows row.block row ∙ was.blocks;
    order = order-put y was.order;
    rows = all-set_others IsPlacedRow y.rows row.block row fits (λ n r is other. all-get IsPlacedRow y.rows n r is was.rows);
    there = was.there;
    checkpoint = was.checkpoint;
    high = high-bound (now_of s) (now_of s) (slice_set y.rows row.block row) (omega arith) (λ r has.
        All-contains (λ (z : Row). z.version < now_of s) (slice_set y.rows row.block row) r
        (all-set_others (λ (z : Row). z.version < now_of s) y.rows row.block row below (λ n z is other.
        let low = high-above (now_of s) y.rows z (all-get (Contains y.rows) y.rows n z is (each-in (Contains y.rows) y.rows (λ w has. has))) in omega (arith, low, was.high))) has);
  }

  place-after : (k : ℕ) (d : Datafile) (x : File) → slice_get (ledger s).files k ≡ Some d → slice_get q.instance.place k ≡ Some (Some x) → IsPlaced (tree s) k d (counted q x)
  place-after k d x file held = subst (IsPlaced (tree s) k d) (sym (counted-open q x opened)) (elim (get-set s.instance.place (f - 1) k (option_map (λ y. put y row) (placed s f)) (Some x) held) [
    | inr other ↦ place-was k d x file other.1
    | inl one ↦
        let by = put-by (placed s f) row x one.1 in
        let old : slice_get s.instance.place k ≡ Some (Some by.0) = ap (slice_get s.instance.place) one.0 ∙ get-index s.instance.place (f - 1) by.0 by.1 in
        subst (λ y. IsPlaced (tree s) k d (standing y (current_of s) (now_of s))) by.2 (place-put k d by.0 (place-was k d by.0 file old))
  ])

  -- a row that fits keeps an open database sound, be it of a mend or of damage
  pub sound-put : IsSound q
  sound-put = record {
    catalog = sound.catalog;
    dbid = sound.dbid;
    place = record { many = length-set s.instance.place (f - 1) _ ∙ sound.place.many; each = place-after };
    logs = record { dbid = sound.logs.dbid; there = sound.logs.there; four = sound.logs.four; threads = sound.logs.threads; gone = sound.logs.gone; each = sound.logs.each };
    damaged = damaged-put s f row sound.damaged;
    tracker = tracked-same s q sound.tracker;
    in_open = λ mode. let was = sound.in_open mode in record { inc = was.inc; found = was.found; point = was.point };
    point = λ at is. let none = (sound.in_open opened).point in absurd (cc);
  }

-- other blocks on the list, as they should be, leave the database sound
pub sound-listed : (s : State) (xs : List BlockId) → IsSound s → AreDamaged (with_list s xs) → IsSound (with_list s xs)
sound-listed s xs is damaged = record {
  catalog = is.catalog;
  dbid = is.dbid;
  place = record { many = is.place.many; each = is.place.each };
  logs = record { dbid = is.logs.dbid; there = is.logs.there; four = is.logs.four; threads = is.logs.threads; gone = is.logs.gone; each = is.logs.each };
  damaged = damaged;
  tracker = tracked-same s (with_list s xs) is.tracker;
  in_open = λ opened. let was = is.in_open opened in record { inc = was.inc; found = was.found; point = was.point };
  point = λ at here. let was = is.point at here in record { low = was.low; high = was.high; stands = was.stands };
}

-- so do some of those that were on it
pub sound-fewer : (s : State) (p : BlockId → Bool) → IsSound s → IsSound (with_list s (filter p s.instance.damaged))
sound-fewer s p is = sound-listed s (filter p s.instance.damaged) is (damaged-filtered s p is.damaged)

-- and one more that is in place, in an open database
pub sound-more : (s : State) (x : BlockId) → IsSound s → s.instance.is_open ≡ true → IsInPlace s x → IsSound (with_list s (with_block x s.instance.damaged))
sound-more s x is opened there = sound-listed s (with_block x s.instance.damaged) is (damaged-more s x opened there is.damaged)
