-- OPEN leads on: the mode changes, and datafiles go out of place.
use Rattle.std.specs.{List.{list_any}, Option.{option_map_or}}
use Rattle.std.proofs.Common.{◌≡◌, ◌-◌, ◌==◌, ◌&&◌, not, ℕ, zero, suc, List, [], ◌∷◌, Option, Some, None, Bool, true, false, refl, ap, sym, subst, arith, slice_get}
use Rattle.std.proofs.lemmas.Bool.{and_parts, eqb-true, not-true, or_parts}
use Rattle.rm_base.specs.{Store.{Held}, declared.{block.Change.{Change}, refusal.Refusal.TheVariants.{Rm04, Rm10}}}
use Rattle.rm_base.proofs.Conditions.{only-where, unless}
use Rattle.rm_blocks.specs.File.{File, base_of}
use Rattle.rm_history.specs.{Agrees.{BaseAgrees}, declared.world.Datafile.{Datafile}}
use Rattle.rm_redo.specs.{Online.{IsThread}, declared.online.ThreadLog.{ThreadLog}}
use Rattle.rm_machine.specs.{Effect.{Made}, Machine.{HistoryFits, RowsAre, IsBorneOut}, Marks.{ids_refusal}}
use Rattle.rm_machine.specs.{Open.{is_recovered, open_refusal, opened}, Sound.{IsPlaced, IsSound}}
use Rattle.rm_machine.specs.{State.{world, current_of, now_of, placed, counted, has_lost, is_lost}, declared.state.State.{State}}
use Rattle.rm_machine.proofs.{Damaged.{damaged-none}, Tracked.{tracked-fresh}, FirstTold.{tell-first}}
use Rattle.rm_machine.proofs.Places.{counted-closed, counted-open}
use Rattle.rm_lang_statement.specs.declared.command.Command.TheVariants.{OpenPlain}
use Rattle.rm_machine_laws.proofs.DamagedRows.{but-damaged}
use Rattle.rm_machine_laws.proofs.Opened.{below-point, kept-get, kept-length, kept-rows, placed-standing, rows-agree}
use Rattle.rm_machine_laws.proofs.{Leading.{LeadsOnBy, StaysBy}, Quiet.{quiet-on, quiet-stays}}

record CanOpen (s : State) : Type 0 where
  shut : s.instance.is_open ≡ false
  point : s.instance.point ≡ Some (now_of s)
  found : (t : ℕ) → IsThread s.instance.logs t → is_lost s.instance.logs t ≡ false
  inc : s.instance.logs.inc ≡ current_of s

not-lost : (there lost : Bool) → there ≡ true → (there && lost) ≡ false → lost ≡ false
not-lost true lost is either = either
not-lost false lost is either = absurd (cc)

none-lost : (ls : List ThreadLog) (k : ℕ) → list_any (λ l. l.is_there && l.is_lost) ls ≡ false → option_map_or (λ (l : ThreadLog). l.is_there) (slice_get ls k) false ≡ true → option_map_or (λ l. l.is_lost) (slice_get ls k) false ≡ false
none-lost [] k any there = refl
none-lost (l ∷ ls) zero any there = not-lost l.is_there l.is_lost there (or_parts (l.is_there && l.is_lost) (list_any (λ m. m.is_there && m.is_lost) ls) any).0
none-lost (l ∷ ls) (suc k) any there = none-lost ls k (or_parts (l.is_there && l.is_lost) (list_any (λ m. m.is_there && m.is_lost) ls) any).1 there

at-now : (o : Option ℕ) (n : ℕ) → option_map_or (λ s. s == n) o false ≡ true → o ≡ Some n
at-now None n e = absurd (cc)
at-now (Some s) n e = ap Some (eqb-true s n e)

can-open : (s : State) → open_refusal s ≡ None → CanOpen s
can-open s is =
    let mode = unless s.instance.is_open (Rm04 false) _ is in
    let at : Bool = option_map_or (λ n. n == now_of s) s.instance.point false in
    let lost : Bool = has_lost s.instance.logs in
    let all = and_parts (at && not lost) (s.instance.logs.inc == current_of s) (only-where (is_recovered s) (ids_refusal s) Rm10 mode.1).0 in
    let two = and_parts at (not lost) all.0 in
    record {
      shut = mode.0;
      point = at-now s.instance.point (now_of s) two.0;
      found = λ t is. none-lost s.instance.logs.threads (t - 1) (not-true lost two.1) is.2;
      inc = eqb-true s.instance.logs.inc (current_of s) all.1;
    }

module _ (s : State) (sound : IsSound s) (can : CanOpen s) where
  abbrev i : ℕ
  i = current_of s

  abbrev now : ℕ
  now = now_of s

  abbrev q : State
  q = opened s now

  place-after : (k : ℕ) (d : Datafile) (x : File) → slice_get s.catalog.ledger.files k ≡ Some d → slice_get q.instance.place k ≡ Some (Some x) → IsPlaced s.catalog.ledger.tree k d (counted q x)
  place-after k d x file held =
      let kept = kept-get (world s) i now s.catalog.ledger.files s.instance.place k d x file held in
      let was = subst (IsPlaced s.catalog.ledger.tree k d) (counted-closed s x can.shut) (sound.place.each k d x file kept.1) in
      let range = sound.catalog.ledger.incarnations.ranges i sound.catalog.ledger.current in
      let mid = range.1 in
      subst (IsPlaced s.catalog.ledger.tree k d) (sym (counted-open q x refl))
      (placed-standing s.catalog.ledger.tree s.catalog.ledger.tree k i now d x was sound.catalog.ledger.current (omega (arith, range.0, mid)) (omega arith) (below-point s now k d x (sound.point now can.point) file kept.0 kept.1))

  sound-opened : IsSound q
  sound-opened = record {
    catalog = sound.catalog;
    dbid = sound.dbid;
    place = record { many = kept-length (world s) i now s.catalog.ledger.files s.instance.place sound.place.many; each = place-after };
    logs = record { dbid = sound.logs.dbid; there = sound.logs.there; four = sound.logs.four; threads = sound.logs.threads; gone = sound.logs.gone; each = sound.logs.each };
    damaged = damaged-none q (sound.damaged.idle can.shut);
    tracker = tracked-fresh q sound.catalog refl;
    in_open = λ mode. record { inc = can.inc; found = can.found; point = refl };
    point = λ at is. absurd (let e : None ≡ Some at = is in cc);
  }

  module _ (h : List Change) (keeps : HistoryFits s h) where
    rows : (f : ℕ) (x : File) → placed q f ≡ Some x → RowsAre (world s) h i now x
    rows f x is = kept-rows s now h sound keeps can.point f x is

    keeps-opened : HistoryFits q h
    keeps-opened = record {
      history = keeps.history;
      below = keeps.below;
      online = keeps.online;
      place = λ f x is none. subst (λ y. BaseAgrees (world s) h (base_of y)) (sym (counted-open q x refl)) (rows-agree (world s) h i now x (rows f x is));
      tracker = tell-first s.catalog.ledger true h keeps.below;
      in_open = λ mode f x is. but-damaged q.instance.damaged (world s) h i now x (rows f x is);
      point = λ at is. absurd (let e : None ≡ Some at = is in cc);
    }

  stands-opened : (h : List Change) (objects : Held) (made : List Made) (touched : List (List ℕ)) → IsBorneOut s h objects made touched → IsBorneOut q h objects made touched
  stands-opened h objects made touched stands = record {
    state = sound-opened;
    keeps = keeps-opened h stands.keeps;
    artefacts = stands.artefacts;
    records = record { logs = stands.records.logs; pieces = stands.records.pieces; sets = stands.records.sets };
  }

pub open-on : LeadsOnBy OpenPlain
open-on s h objects made touched said e t after well stands tell none does effect =
    quiet-on (opened s (now_of s)) h objects made touched _ said e t after does effect (stands-opened s stands.state (can-open s none) h objects made touched stands)

pub open-stays : StaysBy OpenPlain
open-stays s objects said e t well sound none accepted does = quiet-stays (opened s (now_of s)) _ said e t does (sound-opened s sound (can-open s accepted)) none
