-- A redo thread is enabled or disabled: its switch fits the records, and the database stays sound.
use Rattle.std.specs.Option.{option_map_or}
use Rattle.std.proofs.Common.{◌≡◌, ◌≢◌, ◌<◌, ◌≤◌, ◌+◌, ◌-◌, ◌∙◌, ◌==◌, ◌&&◌, ◌||◌, not, inl, inr, ℕ, List, [], ◌∷◌, ◌++◌, Some, Bool, true, false, refl, ap, sym, subst, arith, length, All, slice_get, slice_set}
use Rattle.std.proofs.lemmas.{Bool.{cases_eq}, List.{length-set, map_push, Elements.{All-contains, All-nil}}}
use Rattle.rm_history.specs.{Threads.{is_enabled}, Tree.{IsThere, end_of, owner}, declared.tree.Incarnation.{Incarnation}}
use Rattle.rm_history.{specs.declared.world.Switch.{Switch}, proofs.Enabled.{applies-from, applies-parts, enabled-alike}}
use Rattle.rm_history.proofs.{Owners.{owner-here}, Switches.{switched-other, switched-own}}
use Rattle.rm_catalog_typed.specs.{Changes.{with_switch}, Fitting.{FitsSwitch}, Ledger.{Ledger, ledger_records}}
use Rattle.rm_catalog_typed.specs.Switches.{IsAbove, enabled_by, is_enabled_in, leaves_one, switch_of, switches_of}
use Rattle.rm_catalog_typed.{specs.declared.thread_switch.ThreadSwitch.{ThreadSwitch}, proofs.{Fitted.{switch_fits}, Trees.{parents_below}}}
use Rattle.rm_catalog_typed.proofs.Enabled.{path-below}
use Rattle.rm_redo.specs.{Logs.{Logs}, LogFormat.{IsLogRecord}, Online.{IsThread, empty_log, has_log, log_where, with_log}}
use Rattle.rm_redo.{specs.declared.online.ThreadLog.{ThreadLog}, proofs.Logs.{other-with_log, put-with_log}}
use Rattle.rm_machine.specs.{DisableThread.{has_other}, Marks.{marks_before, one_further}, Sound.{IsOnline, IsSound}}
use Rattle.rm_machine.specs.{State.{current_of, is_lost, ledger, now_of, online, redo_end, tree}, declared.state.State.{State}}
use Rattle.rm_machine.proofs.Damaged.{damaged-same}
use Rattle.rm_machine.proofs.Further.{GoesOn, count-further, further, inc-now, keeps-further, now-further, sound-further}
use Rattle.rm_machine.proofs.{Threads.{file_by, gone-with_log, set-at, thread-in, where-gone, where-is_there}, Tracked.{tracked-same}}
use Rattle.rm_base.proofs.Standing.{each-get}

-- what is asked of a switch: the database goes on by one SCN and has room for one record more; the thread is not as the switch says, and
-- another one stays if it goes
pub record CanSwitch (s : State) (t : ℕ) (on : Bool) (number : ℕ) : Type 0 where
  pub goes : GoesOn s
  pub room : length (ledger_records (ledger s)) + (length (marks_before s) + 1) ≤ 65536
  pub thread : (0 < t) × (t ≤ 4)
  pub changes : has_log s.instance.logs t ≡ not on
  pub leaves : (on || has_other s t) ≡ true
  pub sequence : (1 ≤ number) × (number ≤ 4294967295)

regroup : (on a b c d : Bool) → (on || (a || (b || (c || (d || false))))) ≡ true → (on || a || b || c || d) ≡ true
regroup true a b c d is = refl
regroup false true b c d is = refl
regroup false false true c d is = refl
regroup false false false true d is = refl
regroup false false false false true is = refl
regroup false false false false false is = is

module _ (s : State) (t : ℕ) (on : Bool) (number : ℕ) (sound : IsSound s) (can : CanSwitch s t on number) where
  abbrev l : Ledger
  l = s.catalog.ledger

  abbrev i : ℕ
  i = current_of s

  abbrev now : ℕ
  now = now_of s

  abbrev pub p : State
  p = further s

  abbrev new : ThreadLog
  new = log_where (empty_log now number) on

  abbrev pub x : ThreadSwitch
  x = record { thread = t; inc = i; scn = now; on = on; sequence = number }

  abbrev pub q : State
  q = record { catalog = with_switch (one_further s) x; instance = record s.instance { logs = with_log (λ old. new) s.instance.logs t } }

  abbrev pub later : List Incarnation
  later = q.catalog.ledger.tree

  wide : IsSound p
  wide = sound-further s sound can.goes

  there : IsThere l.tree i
  there = sound.catalog.ledger.current

  end : end_of later i ≡ now + 1
  end = now-further s sound can.goes

  -- The switch

  -- before it those threads are enabled that have a log
  enabled-now : (u : ℕ) → 0 < u → u ≤ 4 → enabled_by later l.base.threads l.switches i now u ≡ has_log s.instance.logs u
  enabled-now u low high =
      enabled-alike later l.tree l.base.threads (switches_of l) i i now u (λ g up. (keeps-further s sound can.goes).owners i g there)
      ∙ sym (sound.logs.threads u low high ∙ ap (λ j. is_enabled_in l j (end_of l.tree j) u) (inc-now s sound can.goes))

  abbrev other_on : ℕ → Bool → Bool
  other_on u e = not (u == t) && e

  one-stays : leaves_one later l.base.threads l.switches x ≡ true
  one-stays =
      let e = enabled-now in
      let same : (on || (other_on 1 (enabled_by later l.base.threads l.switches i now 1) || (other_on 2 (enabled_by later l.base.threads l.switches i now 2)
      || (other_on 3 (enabled_by later l.base.threads l.switches i now 3) || (other_on 4 (enabled_by later l.base.threads l.switches i now 4) || false))))) ≡ (on || has_other s t) =
      λ j. on || (other_on 1 (e 1 (omega arith) (omega arith) j) || (other_on 2 (e 2 (omega arith) (omega arith) j) || (other_on 3 (e 3 (omega arith) (omega arith) j) || (other_on 4 (e 4 (omega arith) (omega arith) j) || false)))) in
      regroup on _ _ _ _ (same ∙ can.leaves)

  -- the switches before it of this incarnation lie below it
  above : All (IsAbove x) l.switches
  above = each-get (IsAbove x) l.switches (λ k y is same. let low = (sound.catalog.ledger.switches k y is).range.1 in subst (λ j. y.scn < end_of l.tree j) same low)

  pub switch-fits : FitsSwitch (one_further s) x
  switch-fits =
      let keeps = keeps-further s sound can.goes in
      let range = sound.catalog.ledger.incarnations.ranges i there in
      record {
        next = record {
          thread = can.thread;
          there = keeps.there i there;
          range = (omega (arith, keeps.reset i there, range.1), omega (arith, end));
          above = above;
          changes = enabled-now t can.thread.0 can.thread.1 ∙ can.changes;
          leaves = one-stays;
          sequence = can.sequence;
        };
        room = omega (arith, count-further s sound can.goes, can.room);
      }

  -- The logs

  inside : t ≤ length s.instance.logs.threads
  inside = omega (arith, sound.logs.four, can.thread.1)

  put : record s.instance.logs { threads = slice_set s.instance.logs.threads (t - 1) new } ≡ q.instance.logs
  put = put-with_log new s.instance.logs t can.thread.0 inside

  pub dbid-after : q.instance.logs.dbid ≡ s.instance.logs.dbid
  dbid-after = ap (λ (ls : Logs). ls.dbid) (sym put)

  pub inc-after : q.instance.logs.inc ≡ i
  inc-after = ap (λ (ls : Logs). ls.inc) (sym put) ∙ inc-now s sound can.goes

  pub own-after : slice_get q.instance.logs.threads (t - 1) ≡ Some new
  own-after = ap (λ (ls : Logs). slice_get ls.threads (t - 1)) (sym put) ∙ set-at s.instance.logs.threads (t - 1) new (omega (arith, inside, can.thread.0))

  other-after : (u : ℕ) → 0 < u → u ≢ t → slice_get q.instance.logs.threads (u - 1) ≡ slice_get s.instance.logs.threads (u - 1)
  other-after u low other = other-with_log (λ old. new) s.instance.logs t u can.thread.0 low other

  pub redo-after : redo_end q ≡ now + 1
  redo-after = ap (end_of later) inc-after ∙ end

  -- the others are as they were
  pub other-there : (u : ℕ) → 0 < u → u ≢ t → has_log q.instance.logs u ≡ has_log s.instance.logs u
  other-there u low other = ap (λ o. option_map_or (λ (m : ThreadLog). m.is_there) o false) (other-after u low other)

  pub other-lost : (u : ℕ) → 0 < u → u ≢ t → is_lost q.instance.logs u ≡ is_lost s.instance.logs u
  other-lost u low other = ap (λ o. option_map_or (λ (m : ThreadLog). m.is_lost) o false) (other-after u low other)

  pub other-log : (u : ℕ) → 0 < u → u ≢ t → online q u ≡ online p u
  other-log u low other = λ j. file_by u (end_of later (inc-same j)) (dbid-after j) (inc-same j) (other-after u low other j)
    where
      inc-same : q.instance.logs.inc ≡ s.instance.logs.inc
      inc-same = ap (λ (ls : Logs). ls.inc) (sym put)

  -- that of the thread is empty, or it has none
  pub own-there : has_log q.instance.logs t ≡ on
  own-there = ap (λ o. option_map_or (λ (m : ThreadLog). m.is_there) o false) own-after ∙ where-is_there (empty_log now number) refl on

  own-lost : is_lost q.instance.logs t ≡ false
  own-lost = ap (λ o. option_map_or (λ (m : ThreadLog). m.is_lost) o false) own-after ∙ found on
    where
      found : (b : Bool) → (log_where (empty_log now number) b).is_lost ≡ false
      found true = refl
      found false = refl

  empty-valid : (b : Bool) → b ≡ true → IsOnline later (file_by t (now + 1) s.instance.logs.dbid i (Some (log_where (empty_log now number) b)))
  empty-valid false is = absurd (cc)
  empty-valid true is =
      let range = sound.catalog.ledger.incarnations.ranges i there in
      let reset = (keeps-further s sound can.goes).reset i there in
      record {
        valid = record {
          dbid = (omega (arith, sound.logs.dbid, sound.catalog.ledger.base.dbid), omega (arith, sound.logs.dbid, sound.dbid));
          inc = (there.0, omega (arith, there.1, sound.catalog.ledger.incarnations.few));
          thread = can.thread;
          sequence = (can.sequence.0, omega (arith, can.sequence.1));
          range = (omega (arith, range.0, range.1), omega arith, omega (arith, can.goes.below));
          few = omega arith;
          ascend = λ j k d less inside. absurd (omega (arith, inside));
          records = All-nil (IsLogRecord now (now + 1));
        };
        begun = omega (arith, reset, range.1);
      }

  own-log : on ≡ true → IsOnline later (online q t)
  own-log is = subst (IsOnline later) (sym (λ j. file_by t (redo-after j) (dbid-after j) (inc-after j) (own-after j))) (empty-valid on is)

  each-after : (u : ℕ) → IsThread q.instance.logs u → is_lost q.instance.logs u ≡ false → IsOnline later (online q u)
  each-after u is found = elim (cases_eq u t) [
    | inl same ↦ subst (λ v. IsOnline later (online q v)) (sym same) (own-log (sym own-there ∙ subst (λ v. has_log q.instance.logs v ≡ true) same is.2))
    | inr other ↦
        let was = thread-in s.instance.logs u is.0 (sym (other-there u is.0 other) ∙ is.2) in
        subst (IsOnline later) (sym (other-log u is.0 other)) (wide.logs.each u was (sym (other-lost u is.0 other) ∙ found))
  ]

  -- Which threads are enabled after it

  abbrev at_end : ℕ → Bool
  at_end u = is_enabled_in (ledger q) i (end_of later i) u

  pub pushed : switches_of (ledger q) ≡ switches_of l ++ switch_of x ∷ []
  pushed = map_push switch_of l.switches x

  -- from `now` on the thread is as the switch says
  pub own-enabled : (g : ℕ) → now ≤ g → is_enabled_in (ledger q) i g t ≡ on
  own-enabled g late =
      let keeps = keeps-further s sound can.goes in
      let range = sound.catalog.ledger.incarnations.ranges i there in
      let own : owner later i now ≡ i = keeps.owners i now there ∙ owner-here l.tree (parents_below l.tree sound.catalog.ledger.incarnations) i now there.0 range.1 in
      ap (λ xs. is_enabled later l.base.threads xs i g t) pushed
      ∙ switched-own later l.base.threads (switches_of l) (switch_of x) i g
      (applies-from later i g t (switch_of x) (record { thread = refl; until = late; owned = own }))
      (λ y has does.
      let low = All-contains (λ (z : Switch). owner l.tree i z.scn ≡ z.inc → z.scn < now) (switches_of l) y (path-below l sound.catalog.ledger i there) has in
      let before = low (sym (keeps.owners i y.scn there) ∙ (applies-parts later i g t y does).owned) in
      omega (arith, before))

  other-enabled : (u : ℕ) → 0 < u → u ≤ 4 → u ≢ t → at_end u ≡ has_log s.instance.logs u
  other-enabled u low high other =
      ap (λ xs. is_enabled later l.base.threads xs i (end_of later i) u) pushed
      ∙ switched-other later l.base.threads (switches_of l) (switch_of x) i (end_of later i) u (λ same. other (sym same))
      ∙ sym (wide.logs.threads u low high ∙ ap (λ j. is_enabled_in (ledger p) j (end_of later j) u) (inc-now s sound can.goes))

  threads-after : (u : ℕ) → 0 < u → u ≤ 4 → has_log q.instance.logs u ≡ is_enabled_in (ledger q) q.instance.logs.inc (redo_end q) u
  threads-after u low high =
      elim (cases_eq u t) [
        | inl same ↦ subst (λ v. has_log q.instance.logs v ≡ at_end v) (sym same) (own-there ∙ sym (own-enabled (end_of later i) (omega (arith, end))))
        | inr other ↦ other-there u low other ∙ sym (other-enabled u low high other)
      ]
      ∙ sym (ap (λ j. is_enabled_in (ledger q) j (end_of later j) u) inc-after)

  pub sound-switched : IsSound q
  sound-switched =
      let opened = sound.in_open can.goes.opened in
      record {
        catalog = switch_fits (one_further s) x wide.catalog switch-fits;
        dbid = sound.dbid;
        place = record { many = wide.place.many; each = wide.place.each };
        logs = record {
          dbid = dbid-after ∙ sound.logs.dbid;
          there = subst (IsThere later) (sym inc-after) ((keeps-further s sound can.goes).there i there);
          four = ap (λ (ls : Logs). length ls.threads) (sym put) ∙ length-set s.instance.logs.threads (t - 1) new ∙ sound.logs.four;
          threads = threads-after;
          gone = gone-with_log (λ old. new) s.instance.logs t (λ old at. where-gone (empty_log now number) refl on) sound.logs.gone;
          each = each-after;
        };
        damaged = damaged-same p q wide.damaged;
        tracker = tracked-same p q wide.tracker;
        in_open = λ _. record {
          inc = inc-after;
          found = λ u is. elim (cases_eq u t) [
            | inl same ↦ subst (λ v. is_lost q.instance.logs v ≡ false) (sym same) own-lost
            | inr other ↦ other-lost u is.0 other ∙ opened.found u (thread-in s.instance.logs u is.0 (sym (other-there u is.0 other) ∙ is.2))
          ];
          point = opened.point;
        };
        point = λ n is. absurd (let none = opened.point in cc);
      }
