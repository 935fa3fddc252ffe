-- A database that branches off at its point is sound.
use Rattle.std.proofs.Common.{◌≡◌, ◌<◌, ◌≤◌, ◌∙◌, ℕ, List, Bool, Some, None, refl, ap, sym, subst, arith, length, slice_get}
use Rattle.std.proofs.lemmas.List.Elements.{All-weaker}
use Rattle.rm_base.specs.declared.block.Mark.{Mark}
use Rattle.rm_blocks.specs.File.{File, standing}
use Rattle.rm_history.specs.{Tree.{IsThere, end_of, with_branch}, declared.{tree.Incarnation.{Incarnation}, world.Datafile.{Datafile}}}
use Rattle.rm_history.proofs.Branches.{IsThere-branched, end_of-branched, reset_of-branched}
use Rattle.rm_catalog_typed.specs.{LedgerFacts.{IsMark}, Ledger.{Ledger}, Changes.{with_incarnation}, Facts.{IsTypedCatalog}}
use Rattle.rm_catalog_typed.{specs.{Fitting.{FitsBranch, HasRoomFor}, Switches.{enabled_at, is_enabled_in}}, proofs.Fitted.{branch_fits}}
use Rattle.rm_catalog_typed.proofs.Current.{current-kept}
use Rattle.rm_redo.specs.Online.{fresh_log}
use Rattle.rm_machine.specs.{OpenResetlogs.{branched_off, next_incarnation, with_branched_off}, Sound.{IsPlaced, IsPoint, IsSound}}
use Rattle.rm_machine.{specs.{State.{ledger, world, current_of, redo_end}, declared.state.State.{State}}, proofs.Damaged.{damaged-none}}
use Rattle.rm_machine.proofs.{Tracked.{tracked-fresh}, Places.{counted-closed, counted-open}, BranchesSound.{CanBranchAt}}
use Rattle.rm_machine.proofs.Threads.{all-where_gone, where-there}
use Rattle.rm_machine_laws.proofs.{FreshLogs.{fresh-found, fresh-online}, Opened.{below-point, kept-get, kept-length, placed-standing}}

-- whether the threads are enabled where the new incarnation begins
abbrev pub enabled : State → ℕ → List Bool
enabled s at = enabled_at (with_branched_off s at).ledger (next_incarnation s) at

-- at its point an incarnation and its mark may come into the catalog
pub branch-at_point : (s : State) (at : ℕ) → IsSound s → s.instance.point ≡ Some at → length s.catalog.ledger.tree < 256 → HasRoomFor s.catalog 2 → FitsBranch s.catalog (current_of s) at s.catalog.ledger.base.moment
branch-at_point s at sound here few room =
    let l = s.catalog.ledger in
    let point = sound.point at here in
    record {
      there = sound.catalog.ledger.current;
      begins = (point.low, point.high);
      few = few;
      next = (All-weaker (IsMark l.tree l.base.moment) (λ (m : Mark). m.moment ≤ l.base.moment) (λ m is. is.moment) l.marks sound.catalog.ledger.marks.each, omega arith);
      room = room;
    }

module _ (s : State) (at : ℕ) (sound : IsSound s) (can : CanBranchAt s at) where
  abbrev l : Ledger
  l = ledger s

  abbrev i : ℕ
  i = current_of s

  abbrev n : ℕ
  n = next_incarnation s

  abbrev tree : List Incarnation
  tree = with_branch l.tree i at

  abbrev q : State
  q = branched_off s at

  point : IsPoint s at
  point = sound.point at can.here

  there : IsThere l.tree i
  there = sound.catalog.ledger.current

  begun : 1 ≤ at
  begun = let low = point.low in let first = (sound.catalog.ledger.incarnations.ranges i there).0 in omega (arith, low, first)

  pub end-branched : end_of tree n ≡ at
  end-branched = end_of-branched l.tree i at

  pub there-branched : IsThere tree n
  there-branched = IsThere-branched l.tree i at

  catalog-after : IsTypedCatalog (with_branched_off s at)
  catalog-after = current-kept (with_incarnation s.catalog i at l.base.moment) n (branch_fits s.catalog i at l.base.moment sound.catalog (branch-at_point s at sound can.here can.few can.room)) there-branched

  place-after : (k : ℕ) (d : Datafile) (x : File) → slice_get l.files k ≡ Some d → slice_get q.instance.place k ≡ Some (Some x) → IsPlaced tree k d (standing x n at)
  place-after k d x file held =
      let kept = kept-get (world s) i at l.files s.instance.place k d x file held in
      let was = subst (IsPlaced l.tree k d) (counted-closed s x can.shut) (sound.place.each k d x file kept.1) in
      placed-standing l.tree tree k n at d x was there-branched begun (omega (arith, end-branched)) (below-point s at k d x point file kept.0 kept.1)

  pub sound-branched : IsSound q
  sound-branched =
      let end = end-branched in
      let reset = reset_of-branched l.tree i at in
      let high = point.high in
      let few = can.few in
      let base = sound.catalog.ledger.base in
      let last = (sound.catalog.ledger.incarnations.ranges i there).2 in
      record {
        catalog = catalog-after;
        dbid = sound.dbid;
        place = record {
          many = kept-length (world s) i at l.files s.instance.place sound.place.many;
          each = λ k d x file held. subst (IsPlaced tree k d) (sym (counted-open q x refl ∙ ap (λ m. standing x n m) end)) (place-after k d x file held);
        };
        logs = record {
          dbid = refl;
          there = there-branched;
          four = refl;
          threads = λ t low inside. where-there l.base.dbid n (fresh_log at) refl (is_enabled_in q.catalog.ledger n at) t low inside ∙ sym (ap (λ e. is_enabled_in q.catalog.ledger n e t) end);
          gone = all-where_gone l.base.dbid n (fresh_log at) refl (is_enabled_in q.catalog.ledger n at);
          each = λ t is found.
              fresh-online l.base.dbid n (enabled s at) at tree t (redo_end q) base.dbid sound.dbid (omega arith) (omega (arith, few)) begun (omega (arith, high, last)) (omega (arith, reset)) is.1 is end;
        };
        damaged = damaged-none q (sound.damaged.idle can.shut);
        tracker = tracked-fresh q catalog-after refl;
        in_open = λ _. record { inc = refl; found = λ t is. fresh-found l.base.dbid n (enabled s at) at t is; point = refl };
        point = λ m is. absurd (let none : None ≡ Some m = is in cc);
      }
