-- Where each datafile with a damaged block is lost, what is left agrees with the history as before.
use Rattle.std.proofs.Common.{◌≡◌, ◌+◌, ◌-◌, ◌∙◌, ◌==◌, ◌&&◌, ◌||◌, ℕ, Bool, true, false, Option, Some, None, List, [], ◌∷◌, refl, ap, sym, arith, slice_index_or}
use Rattle.rm_base.{specs.declared.block.{BlockId.{BlockId}, Change.{Change}}, proofs.Slots.{get-index, index-get}}
use Rattle.rm_blocks.specs.File.{File}
use Rattle.rm_machine.specs.{Damage.{has_block, has_file, undamaged, without_damaged}, Machine.{HistoryFits, SoundRowsAre}, Sound.{IsSound}}
use Rattle.rm_machine.{specs.{State.{current_of, now_of, placed, world}, declared.state.State.{State}}, proofs.Places.{placed-is}}
use Rattle.rm_machine.proofs.Undamaged.{undamaged-at}

-- what is left in place stood there, and no block of it is damaged
undamaged-index : (xs : List BlockId) (f : ℕ) (place : List (Option File)) (k : ℕ) (x : File) → slice_index_or (undamaged xs f place) k None ≡ Some x → (has_file xs (f + k) ≡ false) × (slice_index_or place k None ≡ Some x)
undamaged-index xs f place k x is =
    let was = undamaged-at xs f place k x (get-index (undamaged xs f place) k x is) in
    (was.1, index-get place k x was.0)

-- where no block of a datafile is on the list, this one is not
pub no-block : (xs : List BlockId) (f b : ℕ) → has_file xs f ≡ false → has_block xs f b ≡ false
no-block [] f b none = refl
no-block (x ∷ xs) f b none = by (x.file == f) (has_file xs f) (no-block xs f b) none
  where
    by : (here rest : Bool) → (rest ≡ false → has_block xs f b ≡ false) → (here || rest) ≡ false → ((here && (x.block == b)) || has_block xs f b) ≡ false
    by true rest next is = absurd (cc)
    by false rest next is = next is

module _ (s : State) (h : List Change) (sound : IsSound s) (fits : HistoryFits s h) where
  abbrev t : State
  t = without_damaged s

  -- what is placed then was placed before, as datafile f or, where f is 0, as the first
  was-placed : (f : ℕ) (x : File) → placed t f ≡ Some x → (has_file s.instance.damaged (f - 1 + 1) ≡ false) × (placed s (f - 1 + 1) ≡ Some x)
  was-placed f x here =
      let was = undamaged-index s.instance.damaged 1 s.instance.place (f - 1) x here in
      let number : f - 1 + 1 ≡ 1 + (f - 1) = omega arith in
      let place : f - 1 + 1 - 1 ≡ f - 1 = omega arith in
      (ap (has_file s.instance.damaged) number ∙ was.0, ap (λ k. slice_index_or s.instance.place k None) place ∙ was.1)

  -- no block of it is damaged
  was-whole : (f : ℕ) (x : File) → placed t f ≡ Some x → has_file s.instance.damaged x.file ≡ false
  was-whole f x here =
      let was = was-placed f x here in
      let place : f - 1 + 1 - 1 ≡ f - 1 = omega arith in
      let is = placed-is s (f - 1) x sound.place (ap (λ k. slice_index_or s.instance.place k None) (sym place) ∙ was.1) in
      ap (has_file s.instance.damaged) is.file ∙ was.0

  all-rows : s.instance.is_open ≡ true → (f : ℕ) (x : File) → placed t f ≡ Some x → SoundRowsAre [] (world s) h (current_of s) (now_of s) x
  all-rows opened f x here j e inside = λ _.
      fits.in_open opened (f - 1 + 1) x (was-placed f x here).1 j e inside (no-block s.instance.damaged x.file _ (was-whole f x here))

  pub losing-fits : HistoryFits t h
  losing-fits = record {
    history = fits.history;
    below = fits.below;
    online = fits.online;
    place = λ f x here _. fits.place (f - 1 + 1) x (was-placed f x here).1 (was-whole f x here);
    tracker = fits.tracker;
    in_open = all-rows;
    point = λ at is k d x file there here.
        fits.point at is k d x file there (get-index s.instance.place k x (undamaged-index s.instance.damaged 1 s.instance.place k x (index-get t.instance.place k x here)).1);
  }
