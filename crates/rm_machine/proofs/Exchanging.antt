-- A mounted database with other datafiles in place.
use Rattle.std.proofs.Common.{◌≡◌, ◌∙◌, ◌⊎◌, inl, inr, ℕ, List, Option, Some, false, sym, subst, length, slice_get}
use Rattle.std.proofs.lemmas.Bool.{both_ways}
use Rattle.rm_blocks.specs.File.{File}
use Rattle.rm_history.specs.declared.world.Datafile.{Datafile}
use Rattle.rm_machine.specs.{Sound.{IsPlaced, IsPoint, IsSound}, State.{ledger, tree}, declared.state.State.{State}}
use Rattle.rm_machine.proofs.{Places.{counted-closed}, Tracked.{tracked-same}, Damaged.{damaged-none}}

-- the database with this in place, at this point
abbrev pub exchanged : State → Option ℕ → List (Option File) → State
exchanged s point place = record s { instance = record s.instance { point = point; place = place } }

module _ (s : State) (point : Option ℕ) (place : List (Option File)) (sound : IsSound s) (closed : s.instance.is_open ≡ false) (many : length place ≡ length s.instance.place) where
  -- each datafile stood in place, or this is true of it
  abbrev pub StoodOr : (ℕ → Datafile → File → Type 0) → Type 0
  StoodOr Is = (k : ℕ) (d : Datafile) (x : File) → slice_get (ledger s).files k ≡ Some d → slice_get place k ≡ Some (Some x) → (slice_get s.instance.place k ≡ Some (Some x)) ⊎ Is k d x

  pub sound-exchanged : StoodOr (λ k d x. IsPlaced (tree s) k d x) → ((at : ℕ) → point ≡ Some at → IsPoint (exchanged s point place) at) → IsSound (exchanged s point place)
  sound-exchanged each at_point = record {
    catalog = sound.catalog;
    dbid = sound.dbid;
    place = record {
      many = many ∙ sound.place.many;
      each = λ k d x file is. subst (IsPlaced (tree s) k d) (sym (counted-closed (exchanged s point place) x closed)) (elim (each k d x file is) [
        | inl old ↦ subst (IsPlaced (tree s) k d) (counted-closed s x closed) (sound.place.each k d x file old)
        | inr new ↦ new
      ]);
    };
    logs = record { dbid = sound.logs.dbid; there = sound.logs.there; four = sound.logs.four; threads = sound.logs.threads; gone = sound.logs.gone; each = sound.logs.each };
    damaged = damaged-none (exchanged s point place) (sound.damaged.idle closed);
    tracker = tracked-same s (exchanged s point place) sound.tracker;
    in_open = λ opened. absurd (both_ways s.instance.is_open closed opened);
    point = at_point;
  }
