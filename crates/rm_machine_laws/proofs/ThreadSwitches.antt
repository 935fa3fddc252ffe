-- A redo thread is enabled or disabled: the history and what was ever recorded go on, and at every other address all is as before.
use Rattle.std.proofs.Common.{◌≡◌, ◌<◌, ◌≤◌, ◌+◌, ◌∙◌, ◌++◌, ◌∷◌, [], inl, inr, ℕ, List, Some, Bool, true, false, refl, ap, sym, subst, arith, All}
use Rattle.std.proofs.lemmas.{Bool.{cases_Bool, cases_eq}, List.Elements.{All-contains, All-weaker}}
use Rattle.rm_base.specs.{Store.{Held}, declared.block.Change.{Change}}
use Rattle.rm_blocks.specs.File.{base_of}
use Rattle.rm_history.specs.{Agrees.{BaseAgrees, Level1Agrees, LogAgrees}, History.{IsHistory}, Threads.{applies, is_enabled}}
use Rattle.rm_history.specs.{Tree.{IsThere, end_of, with_end}, World.{with_switch, with_tree}, declared.tree.Incarnation.{Incarnation}}
use Rattle.rm_history.{specs.declared.world.{Switch.{Switch}, World.{World}}, proofs.Below.{agrees-further}}
use Rattle.rm_history.proofs.Enabled.{applies-parts, enabled-alike, enabled-push_other}
use Rattle.rm_history.proofs.Histories.{IsHistory-with_end, IsHistory-with_switch}
use Rattle.rm_history.proofs.Worlds.{BaseAgrees-with_end, BaseAgrees-with_switch, Level1Agrees-with_end, Level1Agrees-with_switch}
use Rattle.rm_catalog_typed.{specs.Switches.{is_enabled_in, switch_of, switches_of}, proofs.Trees.{own-at_end}}
use Rattle.rm_redo.specs.{LogFile.{log_of}, Online.{IsThread, empty_log, has_log, log_where}, declared.log_file.LogFile.{LogFile}}
use Rattle.rm_machine.specs.{Effect.{Made}, Machine.{HistoryFits, IsBorneOut}, Sound.{IsSound}}
use Rattle.rm_machine.specs.{State.{counted, current_of, is_lost, ledger, now_of, online, tree, world}, declared.state.State.{State}}
use Rattle.rm_machine.proofs.{Further.{further, keeps-further}, Threads.{file_by, thread-in}, ThreadSwitches.{CanSwitch, sound-switched}}
use Rattle.rm_machine.proofs.ThreadSwitches as shared
use Rattle.rm_machine_laws.proofs.{Further.{fits-further}, Grown.{SameHistory, true-on}, Switching.{empty-agrees}}

module _ (s : State) (t : ℕ) (on : Bool) (number : ℕ) (sound : IsSound s) (can : CanSwitch s t on number) where
  abbrev i : ℕ
  i = current_of s

  abbrev now : ℕ
  now = now_of s

  abbrev p : State
  p = further s

  abbrev q : State
  q = shared.q s t on number sound can

  abbrev later : List Incarnation
  later = with_end (tree s) i (now + 1)

  abbrev switch : Switch
  switch = switch_of (shared.x s t on number sound can)

  there : IsThere (tree s) i
  there = sound.catalog.ledger.current

  pushed : switches_of (ledger s) ++ switch ∷ [] ≡ switches_of (ledger q)
  pushed = sym (shared.pushed s t on number sound can)

  -- The switch is of its thread alone, in the current incarnation from `now` on.
  not-elsewhere : (m g u : ℕ) → IsThere (tree s) m → ¬ ((u ≡ t) × (m ≡ i) × (now ≤ g)) → applies (tree s) m g u switch ≡ false
  not-elsewhere m g u known other = elim (cases_Bool (applies (tree s) m g u switch)) [
    | inr out ↦ out
    | inl does ↦
        let parts = applies-parts (tree s) m g u switch does in
        absurd (other (sym parts.thread, own-at_end (tree s) m i sound.catalog.ledger.incarnations known parts.owned, parts.until))
  ]

  -- so at every other address the same threads are enabled as before
  pub elsewhere : (m g u : ℕ) → IsThere (tree s) m → ¬ ((u ≡ t) × (m ≡ i) × (now ≤ g))
      → is_enabled_in (ledger q) m g u ≡ is_enabled_in (ledger s) m g u
  elsewhere m g u known other =
      let threads = (ledger s).base.threads in
      ap (λ xs. is_enabled later threads xs m g u) (sym pushed)
      ∙ enabled-alike later (tree s) threads (switches_of (ledger s) ++ switch ∷ []) m m g u
      (λ c up. (keeps-further s sound can.goes).owners m c known)
      ∙ enabled-push_other (tree s) threads (switches_of (ledger s)) switch m g u (not-elsewhere m g u known other)

  -- What the history tells

  -- the database after the switch, by what changes of it
  world-is : with_tree (with_switch (world s) switch) later ≡ world q
  world-is = ap (λ xs. record { tree = later; threads = (ledger s).base.threads; switches = xs; files = (ledger s).files }) pushed

  -- an empty log up to `next`
  abbrev empty : Bool → ℕ → LogFile
  empty b next = file_by t next s.instance.logs.dbid i (Some (log_where (empty_log now number) b))

  module _ (h : List Change) (keeps : HistoryFits s h) where
    wide : HistoryFits p h
    wide = fits-further s sound can.goes h keeps

    -- no change of the current incarnation stands at `now` or above
    below-now : All (λ c. c.inc ≡ i → c.scn < now) h
    below-now =
        All-weaker (λ (c : Change). c.scn < end_of (tree s) c.inc) (λ (c : Change). c.inc ≡ i → c.scn < now)
        (λ c low same. subst (λ j. c.scn < end_of (tree s) j) same low) h keeps.below

    history-after : IsHistory (world q) h
    history-after =
        subst (λ w. IsHistory w h) world-is
        (IsHistory-with_end (with_switch (world s) switch) i (now + 1) h there
        (IsHistory-with_switch (world s) switch h
        (λ c held. not-elsewhere c.inc c.scn c.thread (keeps.history.changes c held).there (λ from.
        let low = All-contains (λ (d : Change). d.inc ≡ i → d.scn < now) h c below-now held from.1 in
        omega (arith, low, from.2)))
        keeps.history))

    -- the thread's own log is empty
    own-agrees : (b : Bool) → b ≡ true → LogAgrees h (log_of (empty b (now + 1)))
    own-agrees false is = absurd (cc)
    own-agrees true is =
        agrees-further h (log_of (empty true now)) (log_of (empty true (now + 1)))
        (record { inc = refl; thread = refl; first = refl; next = omega arith }) refl below-now
        (empty-agrees h (empty true now) refl (omega arith))

    own-is : online q t ≡ empty on (now + 1)
    own-is = λ j. file_by t (shared.redo-after s t on number sound can j) (shared.dbid-after s t on number sound can j)
        (shared.inc-after s t on number sound can j) (shared.own-after s t on number sound can j)

    online-after : (u : ℕ) → IsThread q.instance.logs u → is_lost q.instance.logs u ≡ false → LogAgrees h (log_of (online q u))
    online-after u is found = elim (cases_eq u t) [
      | inl same ↦
          let enabled : on ≡ true = sym (shared.own-there s t on number sound can) ∙ subst (λ v. has_log q.instance.logs v ≡ true) same is.2 in
          subst (λ l. LogAgrees h (log_of l)) (sym (ap (online q) same ∙ own-is)) (own-agrees on enabled)
      | inr other ↦
          let was = thread-in s.instance.logs u is.0 (sym (shared.other-there s t on number sound can u is.0 other) ∙ is.2) in
          subst (λ l. LogAgrees h (log_of l)) (sym (shared.other-log s t on number sound can u is.0 other))
          (wide.online u was (sym (shared.other-lost s t on number sound can u is.0 other) ∙ found))
    ]

    pub keeps-switched : HistoryFits q h
    keeps-switched = record {
      history = history-after;
      below = wide.below;
      online = online-after;
      place = λ f x at none.
          subst (λ (w : World). BaseAgrees w h (base_of (counted q x))) world-is
          (BaseAgrees-with_switch (world p) switch h (base_of (counted q x)) (wide.place f x at none));
      tracker = wide.tracker;
      in_open = wide.in_open;
      point = λ n is. let none = (sound.in_open can.goes.opened).point in absurd (cc);
    }

    -- what was recorded stays true
    same-switched : SameHistory (world s) (world q) h
    same-switched = record {
      keeps = keeps-further s sound can.goes;
      files = omega arith;
      base = λ a known inside agrees.
          subst (λ w. BaseAgrees w h a) world-is
          (BaseAgrees-with_end (with_switch (world s) switch) i (now + 1) h a there (BaseAgrees-with_switch (world s) switch h a agrees));
      level1 = λ a known inside agrees.
          subst (λ w. Level1Agrees w h a) world-is
          (Level1Agrees-with_end (with_switch (world s) switch) i (now + 1) h a there (Level1Agrees-with_switch (world s) switch h a agrees));
    }

  pub borne-switched : (h : List Change) (objects : Held) (made : List Made) (touched : List (List ℕ))
      → IsBorneOut s h objects made touched → IsBorneOut q h objects made touched
  borne-switched h objects made touched stands = record {
    state = sound-switched s t on number sound can;
    keeps = keeps-switched h stands.keeps;
    artefacts = λ a has. true-on (world s) (world q) h (same-switched h stands.keeps) a.artefact (stands.artefacts a has);
    records = record { logs = stands.records.logs; pieces = stands.records.pieces; sets = stands.records.sets };
  }
