-- SHUTDOWN and STARTUP: the mode changes, and the database stays sound.
use Rattle.std.specs.Option.{option_map}
use Rattle.std.proofs.Common.{◌≡◌, ◌<◌, ◌+◌, ◌∙◌, ◌&&◌, ℕ, zero, suc, List, [], ◌∷◌, Option, Some, None, Bool, true, false, cond, is_none, refl, ap, sym, subst, arith, length, All, get_or, slice_get, slice_index_or}
use Rattle.std.proofs.lemmas.{Bool.{false≢true}, List.{length-map, Elements.{Contains-get_or}}}
use Rattle.rm_blocks.specs.File.{File, standing}
use Rattle.rm_base.proofs.{Slots.{get-index, get-mapped}, Conditions.{given-where, unless}}
use Rattle.rm_history.{specs.{World.{exists}, declared.world.{Datafile.{Datafile}, World.{World}}}, proofs.Highs.{high-above}}
use Rattle.rm_machine.specs.{Damage.{without_damaged}, Mount.{as_mounted, first_lost, mount_point, mounted}}
use Rattle.rm_machine.specs.{Sound.{IsPlaced, IsPoint, IsSound, StandsAt}, State.{world, current_of, now_of, counted}}
use Rattle.rm_machine.{specs.declared.state.State.{State}, proofs.Places.{counted-closed, counted-open, placed-mapped}}
use Rattle.rm_machine.proofs.{Damaged.{damaged-none}, Tracked.{tracked-none}, Undamaged.{sound-undamaged}}

in-place : (o : Option File) (b : Bool) → b ≡ true → (b && is_none o) ≡ false → (x : File) × (o ≡ Some x)
in-place (Some x) b here is = (x, refl)
in-place None true here is = absurd (cc)
in-place None false here is = absurd (cc)

-- where none is lost, each datafile that exists is in place
pub none-lost : (w : World) (i s f : ℕ) (ds : List Datafile) (xs : List (Option File)) (k : ℕ) (d : Datafile) → length xs ≡ length ds → first_lost w i s f ds xs ≡ None → slice_get ds k ≡ Some d → exists w i s d ≡ true → (x : File) × (slice_index_or xs k None ≡ Some x)
none-lost w i s f [] xs k d long none is here = absurd (cc)
none-lost w i s f (e ∷ ds) [] k d long none is here = absurd (omega (arith, long))
none-lost w i s f (e ∷ ds) (x ∷ xs) zero d long none is here =
    let same : e ≡ d = cc in
    in-place x (exists w i s e) (ap (exists w i s) same ∙ here) (unless (exists w i s e && is_none x) f (first_lost w i s (f + 1) ds xs) none).0
none-lost w i s f (e ∷ ds) (x ∷ xs) (suc k) d long none is here =
    none-lost w i s (f + 1) ds xs k d (omega (arith, long)) (unless (exists w i s e && is_none x) f (first_lost w i s (f + 1) ds xs) none).1 is here

is-none : {X : Type 0} (o : Option X) → is_none o ≡ true → o ≡ None
is-none None is = refl
is-none (Some x) is = absurd (let e : false ≡ true = is in cc)

module _ (s : State) (sound : IsSound s) (opened : s.instance.is_open ≡ true) where
  abbrev pub i : ℕ
  i = current_of s

  abbrev pub now : ℕ
  now = now_of s

  abbrev pub q : State
  q = mounted s

  abbrev pub stand : File → File
  stand x = standing x i now

  -- an item in place counts as it stands in the mounted database
  open-place : (k : ℕ) (d : Datafile) (x : File) → slice_get s.catalog.ledger.files k ≡ Some d → slice_get s.instance.place k ≡ Some (Some x) → IsPlaced s.catalog.ledger.tree k d (stand x)
  open-place k d x file held = subst (IsPlaced s.catalog.ledger.tree k d) (counted-open s x opened) (sound.place.each k d x file held)

  place-after : (k : ℕ) (d : Datafile) (x : File) → slice_get s.catalog.ledger.files k ≡ Some d → slice_get q.instance.place k ≡ Some (Some x) → IsPlaced s.catalog.ledger.tree k d (counted q x)
  place-after k d x file held =
      let was = get-mapped stand s.instance.place k x held in
      subst (IsPlaced s.catalog.ledger.tree k d) (was.2 ∙ sym (counted-closed q x refl)) (open-place k d was.0 file was.1)

  -- each version in place lies below `now`
  low-rows : (k : ℕ) (d : Datafile) (x : File) → slice_get s.catalog.ledger.files k ≡ Some d → slice_get s.instance.place k ≡ Some (Some x) → All (λ r. r.version < now) x.rows
  low-rows k d x file held =
      let is = open-place k d x file held in
      λ j e inside. let above = high-above now x.rows (get_or x.rows j e) (Contains-get_or x.rows j e inside) in omega (arith, above, is.high)

  stands-there : (k : ℕ) (d : Datafile) → first_lost (world s) i now 1 s.catalog.ledger.files s.instance.place ≡ None → slice_get s.catalog.ledger.files k ≡ Some d → exists (world s) i now d ≡ true → StandsAt q.instance.place i now k
  stands-there k d none file here =
      let x = none-lost (world s) i now 1 s.catalog.ledger.files s.instance.place k d sound.place.many none file here in
      record {
        file = stand x.0;
        is = get-index q.instance.place k (stand x.0) (placed-mapped stand s.instance.place k x.0 x.1);
        inc = refl;
        checkpoint = refl;
        below = low-rows k d x.0 file (get-index s.instance.place k x.0 x.1);
      }

  point-after : (at : ℕ) → mount_point s ≡ Some at → IsPoint q at
  point-after at is =
      let both = given-where (is_none (first_lost (world s) i now 1 s.catalog.ledger.files s.instance.place)) (Some now) at is in
      let none = is-none (first_lost (world s) i now 1 s.catalog.ledger.files s.instance.place) both.0 in
      let same : now ≡ at = (let e : Some now ≡ Some at = both.1 in cc) in
      let range = (sound.catalog.ledger.incarnations.ranges i sound.catalog.ledger.current).1 in
      subst (IsPoint q) same (record { low = range; high = omega arith; stands = λ k d file here. stands-there k d none file here })

  pub sound-mounted : s.instance.damaged ≡ [] → IsSound q
  sound-mounted none = record {
    catalog = sound.catalog;
    dbid = sound.dbid;
    place = record { many = length-map s.instance.place (option_map stand) ∙ sound.place.many; each = place-after };
    logs = record { dbid = sound.logs.dbid; there = sound.logs.there; four = sound.logs.four; threads = sound.logs.threads; gone = sound.logs.gone; each = sound.logs.each };
    damaged = damaged-none q none;
    tracker = tracked-none q refl refl;
    in_open = λ mode. absurd (false≢true mode);
    point = point-after;
  }

pub mode-either : (P : State → Type 0) (s : State) (b : Bool) → (b ≡ true → P (mounted (without_damaged s))) → P s → P (cond b (mounted (without_damaged s)) s)
mode-either P s true there other = there refl
mode-either P s false there other = other

pub sound-as_mounted : (s : State) → IsSound s → IsSound (as_mounted s)
sound-as_mounted s sound = mode-either IsSound s s.instance.is_open (λ opened. sound-mounted (without_damaged s) (sound-undamaged s sound) opened refl) sound
