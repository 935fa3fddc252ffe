-- What is loaded of a datafile is what stood in place, as what it counted.
use Rattle.std.specs.Option.{option_map}
use Rattle.std.proofs.Common.{◌≡◌, ◌+◌, ◌∙◌, ◌⊎◌, inl, inr, ℕ, Option, Some, None, refl, ap, sym, map, Contains, slice_get, slice_index_or}
use Rattle.rm_base.{specs.Store.{Held}, proofs.Slots.{get-index, index-get}}
use Rattle.rm_blocks.specs.File.{File}
use Rattle.rm_evidence.specs.{Gathered.{placed_piece}, Names.{site_name}}
use Rattle.rm_history.specs.declared.world.Datafile.{Datafile}
use Rattle.rm_machine.specs.{Loading.{IsLoadedFile}, Saved.{FitsInPlace, IsGoodFile, spelling_of}}
use Rattle.rm_machine.specs.{Saving.{SitePart, object_of, rested, saved_of}, Sound.{IsSound}, State.{ledger, counted}}
use Rattle.rm_machine.{specs.declared.state.State.{State}, proofs.Places.{counted-open, placed-map, placed-mapped}}
use Rattle.rm_session.{specs.Adding.{part_of_file}, proofs.{PartsOf.{file-valid}, Resting.{objects_of}}}
use Rattle.rm_session.proofs.SavedParts.{file-found, file-stood}

-- the store has the object of each part
abbrev pub HaveObjects : State → Held → Type 0
HaveObjects s held = (id : ℕ) (p : SitePart) → Contains (objects_of s) (object_of id p) → held (site_name id) ≡ Some (spelling_of p.artefact)

present-or-none : {X : Type 0} (o : Option X) → (o ≡ None) ⊎ ((x : X) × (o ≡ Some x))
present-or-none None = inl refl
present-or-none (Some x) = inr (x, refl)

module _ (s : State) (sound : IsSound s) (held : Held) (have : HaveObjects s held) (k : ℕ) (d : Datafile) (at : slice_get (ledger s).files k ≡ Some d) where
  abbrev seen : Option File
  seen = slice_index_or (map (option_map (counted s)) s.instance.place) k None

  fits-place : (x : File) → slice_get s.instance.place k ≡ Some (Some x) → FitsInPlace (ledger (rested s)) s.instance.is_open (k + 1) d (placed_piece (ledger s).base.dbid (counted s x))
  fits-place x stands =
      let is = sound.place.each k d x at stands in
      record {
        kind = refl;
        dbid = refl;
        file = is.file;
        blocks = is.blocks;
        there = is.there;
        end = is.high;
        in_open = λ opened. let counts = counted-open s x opened in (ap (λ (y : File). y.inc) counts, ap (λ (y : File). y.checkpoint) counts);
      }

  good-file : (x : File) → slice_get s.instance.place k ≡ Some (Some x) → IsGoodFile held (ledger (rested s)) (saved_of s) (k + 1) d (placed_piece (ledger s).base.dbid (counted s x))
  good-file x stands =
      let found = file-found s sound k x stands in
      record {
        part = _;
        is = found.is;
        has = record { there = have found.id (part_of_file s (k + 1) x) found.object; digest = record { size = refl; sha = refl } };
        valid = file-valid s sound k x stands;
        fits = fits-place x stands;
      }

  pub loaded-file : IsLoadedFile held (ledger (rested s)) (saved_of s) (k + 1) d seen
  loaded-file = elim (present-or-none seen) [
    | inl none ↦ record {
      part = None;
      good = λ a good.
          let stood = file-stood s sound k good.part good.is in
          let seen-so = placed-mapped (counted s) s.instance.place k stood.0 (index-get s.instance.place k stood.0 stood.1) in
          absurd (let clash : None ≡ Some (counted s stood.0) = sym none ∙ seen-so in cc);
      is = none;
    }
    | inr some ↦
        let from = placed-map (counted s) s.instance.place k some.0 some.1 in
        record {
          part = Some (placed_piece (ledger s).base.dbid (counted s from.0));
          good = good-file from.0 (get-index s.instance.place k from.0 from.1);
          is = some.1 ∙ ap Some (sym from.2);
        }
  ]
