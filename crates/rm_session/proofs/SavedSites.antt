-- What is loaded of what was saved is what stood in place.
use Rattle.std.specs.Option.{option_map, option_map_or}
use Rattle.std.proofs.Common.{◌≡◌, ◌∙◌, ◌&&◌, not, ℕ, Option, Some, None, Bool, true, false, refl, ap, sym, arith}
use Rattle.std.proofs.lemmas.{List.{length-map}, Option.{slice_get-map}}
use Rattle.rm_catalog.specs.declared.record.HeadEntry.{HeadEntry}
use Rattle.rm_machine.specs.{Damage.{without_damaged}, Loading.{IsHeadPoint, IsLoaded, IsLoadedPoint, IsTheOne}}
use Rattle.rm_machine.specs.{Machine.{IsSoundMachine, Machine}, Marks.{lacks_ids}, Rest.{Rest}}
use Rattle.rm_machine.specs.{Saving.{IsSavedAs, head_of, rested, saved_logs}, Sound.{IsPoint, IsSound}}
use Rattle.rm_machine.{specs.{State.{has_lost, counted, current_of}, declared.state.State.{State}}, proofs.Places.{counted-closed}}
use Rattle.rm_session.proofs.{Resting.{borne-without, object-stands}, SavedFiles.{HaveObjects, loaded-file}}
use Rattle.rm_session.proofs.SavedLogs.{loaded-logs, none-lost}

-- its mode
opened-is : (s : State) → IsSound s → s.instance.is_open ≡ (s.instance.is_open && not (has_lost (saved_logs s)))
opened-is s sound = decide s.instance.is_open refl
  where
    decide : (b : Bool) → s.instance.is_open ≡ b → b ≡ (b && not (has_lost (saved_logs s)))
    decide true opened = sym (ap not (none-lost s sound opened))
    decide false closed = refl

-- its point
module _ (s : State) (sound : IsSound s) where
  point-stands : (at : ℕ) → s.instance.is_open ≡ false → s.instance.point ≡ Some at → IsPoint (rested s) at
  point-stands at closed here =
      let is = sound.point at here in
      record {
        low = is.low;
        high = is.high;
        stands = λ k d file there.
            let was = is.stands k d file there in
            record {
              file = was.file;
              is = slice_get-map (option_map (counted s)) s.instance.place k ∙ ap (option_map (option_map (counted s))) was.is ∙ ap (λ x. Some (Some x)) (counted-closed s was.file closed);
              inc = was.inc;
              checkpoint = was.checkpoint;
              below = was.below;
            };
      }

  abbrev head_at : Option ℕ → HeadEntry
  head_at o = record { opened = s.instance.is_open; inc = option_map_or (λ at. current_of s) o 0; scn = option_map_or (λ at. at) o 0 }

  point-at : (o : Option ℕ) → s.instance.is_open ≡ false → s.instance.point ≡ o → IsTheOne (IsHeadPoint (rested s) (head_at o)) o
  point-at None closed here = λ at is. let none = is.inc in let some = sound.catalog.ledger.current.0 in absurd (omega (arith, none, some))
  point-at (Some at) closed here = record { inc = refl; scn = refl; point = point-stands at closed here }

  pub point-is : (b : Bool) → s.instance.is_open ≡ b → IsLoadedPoint (rested s) (head_of s) b b
  point-is true opened = (sound.in_open opened).point
  point-is false closed = point-at s.instance.point closed refl

pub loaded : (m : Machine) (s : State) (r : Rest) → IsSoundMachine m → m.state ≡ Some s → s.catalog.saved ≡ None → lacks_ids s 0 ≡ false → IsSavedAs m (without_damaged s) r → IsLoaded r.objects (rested (without_damaged s))
loaded m s r sound is none ids saved =
    let t = without_damaged s in
    let borne = borne-without m s sound is in
    let have : HaveObjects t r.objects = object-stands m t r borne refl ids saved in
    record {
      many = length-map t.instance.place (option_map (counted t)) ∙ borne.state.place.many;
      place = λ k d at. loaded-file t borne.state r.objects have k d at;
      logs = loaded-logs t m.history borne.state borne.keeps r.objects have;
      is_open = opened-is t borne.state;
      point = point-is t borne.state t.instance.is_open refl;
      damaged = refl;
      tracker = refl;
    }
