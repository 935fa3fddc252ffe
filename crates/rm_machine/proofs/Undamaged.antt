-- A state without its damaged datafiles is sound, and one without damage is itself.
use Rattle.std.proofs.Common.{◌≡◌, ◌+◌, ◌∙◌, inl, inr, ℕ, zero, suc, Bool, true, false, cond, List, [], ◌∷◌, Option, Some, None, refl, ap, sym, subst, arith, length, slice_get}
use Rattle.std.proofs.lemmas.Bool.{cases_Bool}
use Rattle.rm_base.specs.declared.block.BlockId.{BlockId}
use Rattle.rm_blocks.specs.File.{File}
use Rattle.rm_machine.specs.{Damage.{has_file, undamaged, without_damaged}, Sound.{IsSound}, declared.state.State.{State}}
use Rattle.rm_machine.proofs.{Damaged.{damaged-none}, Tracked.{tracked-same}}

-- as many places
pub undamaged-many : (xs : List BlockId) (f : ℕ) (place : List (Option File)) → length (undamaged xs f place) ≡ length place
undamaged-many xs f [] = refl
undamaged-many xs f (o ∷ place) = let rest = undamaged-many xs (f + 1) place in omega (arith, rest)

-- what stands in one of them stood there, and no block of it is damaged
pub undamaged-at : (xs : List BlockId) (f : ℕ) (place : List (Option File)) (k : ℕ) (x : File) → slice_get (undamaged xs f place) k ≡ Some (Some x) → (slice_get place k ≡ Some (Some x)) × (has_file xs (f + k) ≡ false)
undamaged-at xs f [] k x is = absurd (cc)
undamaged-at xs f (o ∷ place) zero x is = by (has_file xs f) refl is
  where
    by : (lost : Bool) → has_file xs f ≡ lost → Some (cond lost None o) ≡ Some (Some x) → (Some o ≡ Some (Some x)) × (has_file xs (f + 0) ≡ false)
    by true at e = absurd (cc)
    by false at e = (e, (let same : f + 0 ≡ f = omega arith in ap (has_file xs) same ∙ at))
undamaged-at xs f (o ∷ place) (suc k) x is =
    let rest = undamaged-at xs (f + 1) place k x is in
    let same : f + suc k ≡ f + 1 + k = omega arith in
    (rest.0, ap (has_file xs) same ∙ rest.1)

-- and the other way round
pub undamaged-kept : (xs : List BlockId) (f : ℕ) (place : List (Option File)) (k : ℕ) (x : File) → slice_get place k ≡ Some (Some x) → has_file xs (f + k) ≡ false → slice_get (undamaged xs f place) k ≡ Some (Some x)
undamaged-kept xs f [] k x is found = absurd (cc)
undamaged-kept xs f (o ∷ place) zero x is found =
    let same : f ≡ f + 0 = omega arith in
    ap (λ lost. Some (cond lost None o)) (ap (has_file xs) same ∙ found) ∙ is
undamaged-kept xs f (o ∷ place) (suc k) x is found =
    let same : f + 1 + k ≡ f + suc k = omega arith in
    undamaged-kept xs (f + 1) place k x is (ap (has_file xs) same ∙ found)

-- where none is damaged all stay
pub undamaged-none : (f : ℕ) (place : List (Option File)) → undamaged [] f place ≡ place
undamaged-none f [] = refl
undamaged-none f (o ∷ place) = ap (λ rest. o ∷ rest) (undamaged-none (f + 1) place)

pub without-none : (s : State) → s.instance.damaged ≡ [] → without_damaged s ≡ s
without-none s none =
    λ i. record s {
      instance = record s.instance {
        place = (ap (λ xs. undamaged xs 1 s.instance.place) none ∙ undamaged-none 1 s.instance.place) i;
        damaged = sym none i;
      };
    }

-- losing them keeps a state sound
pub sound-undamaged : (s : State) → IsSound s → IsSound (without_damaged s)
sound-undamaged s sound = elim (cases_Bool s.instance.is_open) [
  | inr closed ↦ subst IsSound (sym (without-none s (sound.damaged.idle closed))) sound
  | inl opened ↦
      let q = without_damaged s in
      record {
        catalog = sound.catalog;
        dbid = sound.dbid;
        place = record {
          many = undamaged-many s.instance.damaged 1 s.instance.place ∙ sound.place.many;
          each = λ k d x file is. sound.place.each k d x file (undamaged-at s.instance.damaged 1 s.instance.place k x is).0;
        };
        logs = record { dbid = sound.logs.dbid; there = sound.logs.there; four = sound.logs.four; threads = sound.logs.threads; gone = sound.logs.gone; each = sound.logs.each };
        damaged = damaged-none q refl;
        tracker = tracked-same s q sound.tracker;
        in_open = λ on. let was = sound.in_open on in record { inc = was.inc; found = was.found; point = was.point };
        point = λ at is. absurd (let none = (sound.in_open opened).point in let clash : None ≡ Some at = sym none ∙ is in cc);
      }
]
