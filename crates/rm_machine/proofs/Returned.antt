-- The state that is given its running database back is the one that its events leave.
use Rattle.std.proofs.Common.{◌≡◌, ◌≤◌, ◌∙◌, List, [], ◌∷◌, ap, sym, subst, length, replicate, None, All}
use Rattle.rm_base.specs.Numbers.{last_scn}
use Rattle.rm_history.specs.Tree.{IsThere}
use Rattle.rm_live.{specs.{Parts.{Parts}, declared.history.Event.{Event}}, proofs.Sound.{fold-sound}}
use Rattle.rm_catalog_typed.specs.TypedCatalog.{TypedCatalog}
use Rattle.rm_machine.specs.{State.{current_of, ledger, tree}, Events.{after_event, after_events, opening}}
use Rattle.rm_machine.specs.{Running.{HasNumber, HasRun, IsTakenOut, at_home, risen}, declared.state.{Instance.{Instance}, State.{State}}}
use Rattle.rm_machine.proofs.{Ended.{after-all, risen-all}, Following.{AreFrom, GoesAlong, goes-after, goes-along, opening-events}}
use Rattle.rm_machine.proofs.{Homes.{home, present-numbers}, Numbered.{numbers-from}, Opening.{opening-sound}}

-- the state goes along with the database up to the end
pub goes-events : (s : State) (es : List Event) → GoesAlong s → GoesAlong (after_events s es)
goes-events s [] goes = goes
goes-events s (e ∷ es) goes = goes-events (after_event s e.call e.answer) es (goes-after s e.call e.answer goes)

-- what a state is made of that got the database back
pub record IsReturned (a : State) (q : Parts) (t : State) : Type 0 where
  pub place : t.instance.place ≡ at_home (replicate (length (ledger a).files) None) q.files
  pub logs : t.instance.logs ≡ q.logs
  pub tracker : t.instance.tracker ≡ q.tracker
  pub out : IsTakenOut a (record t { catalog = a.catalog })
  pub catalog : t.catalog ≡ risen a.catalog q.now

module _ (s : State) (events : List Event) (a : State) (q : Parts) (run : HasRun s events a q) where
  abbrev t : State
  t = after_events s events

  goes : GoesAlong s
  goes = goes-along s run.sound run.opened

  from : AreFrom 0 t.instance.place
  from = numbers-from t (goes-events s events goes)

  parts : q ≡ opening t
  parts = run.left ∙ sym (opening-events s events goes run.legal)

  many : length (ledger a).files ≡ length t.instance.place
  many = ap (λ (r : TypedCatalog). length r.ledger.files) run.out.catalog ∙ sym run.sound.place.many ∙ sym (after-all s events).many

  pub returned-numbers : All (HasNumber (length (ledger a).files)) q.files
  returned-numbers = coe 1 0 (i. All (HasNumber (many i)) (parts i).files) (present-numbers t.instance.place from)

  pub returned-last : q.now ≤ last_scn
  returned-last = subst (λ (p : Parts). p.now ≤ last_scn) (sym run.left) (fold-sound (opening s) events (opening-sound s run.sound run.opened) run.legal).last

  pub returned-there : IsThere (tree a) (current_of a)
  returned-there = subst (λ (r : TypedCatalog). IsThere r.ledger.tree r.ledger.base.current) (sym run.out.catalog) goes.there

  -- the state is the one that the events leave
  pub returned : (u : State) → IsReturned a q u → u ≡ t
  returned u is =
      let kept = after-all s events in
      let place = is.place ∙ (λ i. at_home (replicate (many i) None) (parts i).files) ∙ home t.instance.place from in
      let logs = is.logs ∙ ap (λ (p : Parts). p.logs) parts in
      let tracker = is.tracker ∙ ap (λ (p : Parts). p.tracker) parts in
      let mode = is.out.mode ∙ run.out.mode ∙ sym kept.mode in
      let point = is.out.point ∙ run.out.point ∙ sym kept.point in
      let damaged = is.out.damaged ∙ run.out.damaged ∙ sym kept.damaged in
      let catalog = is.catalog ∙ (λ i. risen (run.out.catalog i) (parts i).now) ∙ risen-all s events goes run.marked in
      λ i. record {
        catalog = catalog i;
        instance = record { is_open = mode i; point = point i; place = place i; logs = logs i; damaged = damaged i; tracker = tracker i };
      }

-- so it is when it was given back, and its end raised
pub returned-by : (a b u : State) (q : Parts) → b.instance.place ≡ at_home (replicate (length (ledger a).files) None) q.files → b.instance.logs ≡ q.logs → b.instance.tracker ≡ q.tracker → IsTakenOut a b
    → u.catalog ≡ risen b.catalog q.now → u.instance ≡ b.instance → IsReturned a q u
returned-by a b u q place logs tracker out raised instance = record {
  place = ap (λ (i : Instance). i.place) instance ∙ place;
  logs = ap (λ (i : Instance). i.logs) instance ∙ logs;
  tracker = ap (λ (i : Instance). i.tracker) instance ∙ tracker;
  out = record {
    catalog = λ i. a.catalog;
    mode = ap (λ (i : Instance). i.is_open) instance ∙ out.mode;
    point = ap (λ (i : Instance). i.point) instance ∙ out.point;
    damaged = ap (λ (i : Instance). i.damaged) instance ∙ out.damaged;
  };
  catalog = raised ∙ ap (λ (r : TypedCatalog). risen r q.now) out.catalog;
}
