-- Where what is in place stands, and the points of what is loaded.
use Rattle.std.proofs.Common.{◌≡◌, ◌<◌, ◌+◌, ◌∙◌, inl, inr, ℕ, List, Option, Some, None, true, false, is_none, refl, sym, ap, subst, arith, get_or, slice_get}
use Rattle.std.proofs.lemmas.{Bool.{cases_lt, false≢true}, List.Elements.{Contains-get_or}, Option.{none-some, same_Some}}
use Rattle.rm_base.proofs.{Conditions.{given-where}, Slots.{get-index}}
use Rattle.rm_blocks.specs.File.{File}
use Rattle.rm_history.{specs.{Tree.{end_of}, World.{exists}, declared.world.Datafile.{Datafile}}, proofs.Highs.{high-above}}
use Rattle.rm_machine.specs.{Mount.{first_lost, mount_point}, Sound.{IsPlaced, IsPoint, IsSound, StandsAt}}
use Rattle.rm_machine.{specs.{State.{current_of, ledger, now_of, tree, world}, declared.state.State.{State}}, proofs.Damaged.{damaged-same}}
use Rattle.rm_machine.proofs.{Mounting.{none-lost}, Places.{counted-closed}, Tracked.{tracked-same}}
use Rattle.rm_session.specs.Fit.{IsStanding, StandNow, with_point}

-- what stands at a place, and the other way round
pub stands : (place : List (Option File)) (i at k : ℕ) (x : Option File) → slice_get place k ≡ Some x → IsStanding i at x → StandsAt place i at k
stands place i at k None is here = absurd here
stands place i at k (Some x) is here = record { file = x; is = is; inc = here.0; checkpoint = here.1; below = here.2 }

pub standing : (place : List (Option File)) (i at k : ℕ) (x : Option File) → slice_get place k ≡ Some x → StandsAt place i at k → IsStanding i at x
standing place i at k x is here =
    let same : Some here.file ≡ x = same_Some (Some here.file) x (sym here.is ∙ is) in
    subst (IsStanding i at) same (here.inc, here.checkpoint, here.below)

-- one datafile more stands, or need not
pub stand-more : (s : State) (i at m : ℕ) (d : Datafile) → slice_get (ledger s).files m ≡ Some d → (exists (world s) i at d ≡ true → StandsAt s.instance.place i at m)
    → ((k : ℕ) (e : Datafile) → k < m → slice_get (ledger s).files k ≡ Some e → exists (world s) i at e ≡ true → StandsAt s.instance.place i at k)
    → (k : ℕ) (e : Datafile) → k < m + 1 → slice_get (ledger s).files k ≡ Some e → exists (world s) i at e ≡ true → StandsAt s.instance.place i at k
stand-more s i at m d file here before k e inside is there = elim (cases_lt k m) [
  | inl low ↦ before k e low is there
  | inr high ↦
      let last : k ≡ m = omega (arith, inside, high) in
      let same : e ≡ d = same_Some e d (sym is ∙ ap (slice_get (ledger s).files) last ∙ file) in
      subst (StandsAt s.instance.place i at) (sym last) (here (subst (λ x. exists (world s) i at x ≡ true) same there))
]

-- a point changes nothing else; an open database has none
module _ (s : State) (p : Option ℕ) where
  pub sound-with : IsSound s → (s.instance.is_open ≡ true → p ≡ None) → ((at : ℕ) → p ≡ Some at → IsPoint s at) → IsSound (with_point s p)
  sound-with sound none points = record {
    catalog = sound.catalog;
    dbid = sound.dbid;
    place = record { many = sound.place.many; each = sound.place.each };
    logs = record { dbid = sound.logs.dbid; there = sound.logs.there; four = sound.logs.four; threads = sound.logs.threads; gone = sound.logs.gone; each = sound.logs.each };
    damaged = damaged-same s (with_point s p) sound.damaged;
    tracker = tracked-same s (with_point s p) sound.tracker;
    in_open = λ opened. let is = sound.in_open opened in record { inc = is.inc; found = is.found; point = none opened };
    point = λ at is. let it = points at is in record { low = it.low; high = it.high; stands = it.stands };
  }

-- without a point
pub sound-without : (s : State) → IsSound s → IsSound (with_point s None)
sound-without s sound = sound-with s None sound (λ opened. refl) (λ at is. absurd (none-some at is))

is-none : {X : Type 0} (o : Option X) → is_none o ≡ true → o ≡ None
is-none None is = refl
is-none (Some x) is = absurd (false≢true is)

-- an open database whose logs were lost has the point of one that was mounted
module _ (s : State) (sound : IsSound s) (closed : s.instance.is_open ≡ false) (now : StandNow s) where
  stands-there : (k : ℕ) (d : Datafile) → first_lost (world s) (current_of s) (now_of s) 1 (ledger s).files s.instance.place ≡ None → slice_get (ledger s).files k ≡ Some d → exists (world s) (current_of s) (now_of s) d ≡ true → StandsAt s.instance.place (current_of s) (now_of s) k
  stands-there k d none file here =
      let x = none-lost (world s) (current_of s) (now_of s) 1 (ledger s).files s.instance.place k d sound.place.many none file here in
      let held = get-index s.instance.place k x.0 x.1 in
      let at = now k d x.0 file held in
      let placed : IsPlaced (tree s) k d x.0 = subst (IsPlaced (tree s) k d) (counted-closed s x.0 closed) (sound.place.each k d x.0 file held) in
      record {
        file = x.0;
        is = held;
        inc = at.0;
        checkpoint = at.1;
        below = λ j e inside.
            let above = high-above x.0.checkpoint x.0.rows (get_or x.0.rows j e) (Contains-get_or x.0.rows j e inside) in
            omega (arith, above, placed.high, ap (end_of (tree s)) at.0);
      }

  points-mounted : (at : ℕ) → mount_point s ≡ Some at → IsPoint s at
  points-mounted at is =
      let both = given-where (is_none (first_lost (world s) (current_of s) (now_of s) 1 (ledger s).files s.instance.place)) (Some (now_of s)) at is in
      let none = is-none (first_lost (world s) (current_of s) (now_of s) 1 (ledger s).files s.instance.place) both.0 in
      let range = (sound.catalog.ledger.incarnations.ranges (current_of s) sound.catalog.ledger.current).1 in
      subst (IsPoint s) (same_Some (now_of s) at both.1) (record { low = range; high = omega arith; stands = λ k d file here. stands-there k d none file here })

  pub sound-mounted : IsSound (with_point s (mount_point s))
  sound-mounted = sound-with s (mount_point s) sound (λ opened. absurd (false≢true (sym closed ∙ opened))) points-mounted
