-- A mounted database with other datafiles in place.
use Rattle.std.proofs.Common.{◌≡◌, ◌+◌, ◌-◌, ◌∙◌, inl, inr, ℕ, List, Option, Some, None, true, false, ap, sym, subst, arith, length, slice_get, slice_index_or}
use Rattle.std.proofs.lemmas.{Bool.{both_ways}, Option.{slice_get_within}}
use Rattle.rm_base.{specs.declared.block.Change.{Change}, proofs.Slots.{get-index, index-get}}
use Rattle.rm_blocks.specs.File.{File, base_of}
use Rattle.rm_history.specs.{Agrees.{BaseAgrees}, World.{exists}, declared.world.Datafile.{Datafile}}
use Rattle.rm_catalog_typed.proofs.Lookups.{item-at}
use Rattle.rm_machine.specs.{Machine.{HistoryFits, RowsAre}, Sound.{IsSound}, State.{ledger, world, current_of}}
use Rattle.rm_machine.{specs.declared.state.State.{State}, proofs.{Places.{counted-closed}, Exchanging.{exchanged}}}
use Rattle.rm_machine.proofs.Exchanging as shared
use Rattle.rm_machine_laws.proofs.DamagedRows.{closed-file}

module _ (s : State) (point : Option ℕ) (place : List (Option File)) (sound : IsSound s) (closed : s.instance.is_open ≡ false) (many : length place ≡ length s.instance.place) where
  -- each datafile stood in place, or this is true of it
  abbrev StoodOr : (ℕ → Datafile → File → Type 0) → Type 0
  StoodOr = shared.StoodOr s point place sound closed many

  module _ (h : List Change) (keeps : HistoryFits s h) (each : StoodOr (λ k d x. BaseAgrees (world s) h (base_of x))) where
    agrees-at : (k : ℕ) (d : Datafile) (x : File) → slice_get (ledger s).files k ≡ Some d → slice_get place k ≡ Some (Some x) → BaseAgrees (world s) h (base_of x)
    agrees-at k d x file is = elim (each k d x file is) [
      | inr new ↦ new
      | inl old ↦
          let back : k + 1 - 1 ≡ k = omega arith in
          subst (λ y. BaseAgrees (world s) h (base_of y)) (counted-closed s x closed)
          (keeps.place (k + 1) x (ap (λ n. slice_index_or s.instance.place n None) back ∙ index-get s.instance.place k x old) (closed-file s x.file sound closed))
    ]

    -- the history goes together with it, where that is so at the point
    pub fits-exchanged : ((at : ℕ) → point ≡ Some at → (k : ℕ) (d : Datafile) (x : File) → slice_get (ledger s).files k ≡ Some d → exists (world s) (current_of s) at d ≡ true → slice_get place k ≡ Some (Some x) → RowsAre (world s) h (current_of s) at x) → HistoryFits (exchanged s point place) h
    fits-exchanged rows = record {
      history = keeps.history;
      below = keeps.below;
      online = keeps.online;
      place = λ f x is none.
          let at = get-index place (f - 1) x is in
          let file = item-at (ledger s).files (f - 1) (omega (arith, slice_get_within place (f - 1) (Some x) at, many, sound.place.many)) in
          subst (λ y. BaseAgrees (world s) h (base_of y)) (sym (counted-closed (exchanged s point place) x closed)) (agrees-at (f - 1) file.0 x file.1 at);
      tracker = keeps.tracker;
      in_open = λ opened. absurd (both_ways s.instance.is_open closed opened);
      point = rows;
    }
