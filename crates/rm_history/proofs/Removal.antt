-- The history without the changes of a block that nothing shows.
use Rattle.std.proofs.Common.{◌≡◌, ◌<◌, ◌≤◌, ◌∙◌, ◌&&◌, inl, inr, nat_lt, not, ℕ, List, Bool, false, true, refl, ap, sym, subst, arith, Contains}
use Rattle.std.proofs.lemmas.{Bool.{cases_Bool, Decides.{nat_tests}}, List.Kept.{AllPairs-filter}}
use Rattle.rm_base.{specs.declared.block.{Block.{Block}, Change.{Change}, Row.{Row}}, proofs.Lists.{filter_from, filter_to, filter_filter}}
use Rattle.rm_history.specs.{Tree.{owner}, History.{IsHistory, SamePlace}, State.{concerns}, Artefacts.{Log}}
use Rattle.rm_history.specs.{Agrees.{IsRow, IsBelow, LogAgrees, is_of}, Evidence.{Evidence, Agrees}}
use Rattle.rm_history.specs.Known.{HasChange, HasRow, in_base, in_level1, Seen, by_row, by_log, IsGreatest}
use Rattle.rm_history.specs.{Unknown.{is_untold, without, IsPossible}, declared.world.World.{World}}
use Rattle.rm_history.proofs.{States.{concerns-parts, state-held}, Logs.{is_of-parts, happened-listed}}
use Rattle.rm_history.proofs.KnownStates.{IsAt, IsTop, state-stays, created-first, version-below}
use Rattle.rm_history.proofs.Sound.{row-block, row-state, row-is, seen-state}

-- a change that is untold concerns the block, above v
untold-parts : (concerned : Bool) (v n : ℕ) → (concerned && nat_lt v n) ≡ true → (concerned ≡ true) × (v < n)
untold-parts concerned v n untold = grind (arith, nat_tests)

-- and one that concerns it and is not untold lies at or below v
told-below : (concerned : Bool) (v n : ℕ) → (concerned && nat_lt v n) ≡ false → concerned ≡ true → n ≤ v
told-below concerned v n told is = grind (arith, nat_tests)

not-true : (b : Bool) → not b ≡ true → b ≡ false
not-true true h = absurd (cc)
not-true false h = refl

module _ (w : World) (h : List Change) (e : Evidence) (history : IsHistory w h) (agrees : Agrees w h e) (i s f b v : ℕ) (greatest : IsGreatest w e i s f b v) where
  -- what is seen is told
  seen-told : (k n m u : ℕ) (x : Block) → Seen w e k n m u x → (c : Change) → IsAt k n m u c → is_untold w i s f b v c ≡ false
  seen-told k n m u x seen c at = elim (cases_Bool (is_untold w i s f b v c)) [
    | inr told ↦ told
    | inl untold ↦
        let parts = untold-parts (concerns w i s f b c) v c.scn untold in
        let concerned = concerns-parts w i s f b c parts.0 in
        let below = concerned.below in
        let above = parts.1 in
        let here = at.scn in
        let on_path : Seen w e k n (owner w.tree i u) u x =
        subst (λ j. Seen w e k n j u x) (sym at.inc ∙ sym concerned.owned ∙ ap (owner w.tree i) here) seen in
        let of_block : Seen w e f b (owner w.tree i u) u x =
        subst (λ q. Seen w e q b (owner w.tree i u) u x) (sym at.file ∙ concerned.file) (subst (λ q. Seen w e k q (owner w.tree i u) u x) (sym at.block ∙ concerned.block) on_path) in
        let most : u ≤ v = greatest.most u x (omega (arith, here, below)) of_block in
        absurd (omega (arith, here, above, most))
  ]

  less : List Change
  less = without w h i s f b v

  less-from : (c : Change) → Contains less c → Contains h c × (is_untold w i s f b v c ≡ false)
  unfolding less
  less-from c held =
      let was = filter_from (λ c. not (is_untold w i s f b v c)) h c held in
      (was.0, not-true (is_untold w i s f b v c) was.1)

  less-to : (c : Change) → Contains h c → is_untold w i s f b v c ≡ false → Contains less c
  unfolding less
  less-to c held told = filter_to (λ c. not (is_untold w i s f b v c)) h c held (ap not told)

  less-history : IsHistory w less
  unfolding less
  less-history = record {
    changes = λ c held. history.changes c (less-from c held).0;
    apart = AllPairs-filter (λ c d. ¬ SamePlace c d) (λ c. not (is_untold w i s f b v c)) h history.apart;
  }

  -- a row is told
  row-told : (n o j k : ℕ) (r : Row) → HasRow e n o j k r → (q : ℕ) (c : Change) → concerns w j q n r.block c ≡ true → r.version ≡ c.scn → is_untold w i s f b v c ≡ false
  row-told n o j k r has q c concerned version =
      let parts = concerns-parts w j q n r.block c concerned in
      seen-told n o (owner w.tree j r.version) r.version r.content (by_row j k r has) c (record {
        file = parts.file;
        block = parts.block ∙ row-block e n o j k r has;
        inc = sym parts.owned ∙ ap (owner w.tree j) (sym version);
        scn = sym version;
      })

  -- and stays the state where it was
  row-stays : (n o j k : ℕ) (r : Row) → HasRow e n o j k r → IsRow w less j n k r
  row-stays n o j k r has =
      let is = row-is w h e agrees n o j k r has in
      record {
        position = is.position;
        after = is.after;
        is = state-stays w h less j is.position n r less-history (row-state w h j n k r is)
            (λ c held concerned. (row-state w h j n k r is).top c (less-from c held).0 concerned)
            (λ c held concerned version. less-to c held (row-told n o j k r has is.position c concerned version));
      }

  -- a version stays below `from` where it was
  below-stays : (j n k from o : ℕ) → IsBelow w h j n k from o → IsBelow w less j n k from o
  below-stays j n k from o is =
      let below = is.below in
      let created = created-first w h j is.position n o history in
      record {
        position = is.position;
        after = is.after;
        below = version-below w less j is.position n o from (omega (arith, below, created)) (λ c held concerned.
            let most = (state-held w h j is.position n o).top c (less-from c held).0 concerned in
            omega (arith, most, below));
      }

  less-logs : (a : Log) → Contains e.logs a → LogAgrees less a
  unfolding less
  less-logs a log =
      agrees.logs a log ∙ sym (filter_filter (is_of a) (λ c. not (is_untold w i s f b v c)) h (λ c held of.
      let has : HasChange e c.file c.block a c = record { log = log; change = happened-listed h a c (agrees.logs a log) held of; file = refl; block = refl } in
      let at : IsAt c.file c.block a.inc c.scn c = record { file = refl; block = refl; inc = (is_of-parts a c of).inc; scn = refl } in
      ap not (seen-told c.file c.block a.inc c.scn c.content (by_log a c has) c at)))

  less-agrees : Agrees w less e
  less-agrees = record {
    bases = λ a base r held. row-stays a.file r.block a.inc a.checkpoint r (in_base a r base held refl refl);
    level1s = λ a level1.
        let was = agrees.level1s a level1 in
        record {
          listed = λ r held. (row-stays a.file r.block a.inc a.checkpoint r (in_level1 a r level1 held refl refl), (was.listed r held).1);
          unlisted = λ o inside absent. below-stays a.inc a.file a.checkpoint a.from o (was.unlisted o inside absent);
        };
    logs = less-logs;
  }

  less-top : IsTop w less i s f b v
  less-top c held concerned = told-below (concerns w i s f b c) v c.scn (less-from c held).1 concerned

  -- no change that is left lies above v
  pub removed-top : IsTop w (without w h i s f b v) i s f b v
  unfolding less
  removed-top = less-top

  -- without the untold changes the block is at version v
  pub removed : IsPossible w e i s f b (without w h i s f b v) v greatest.content
  unfolding less
  removed = record {
    history = less-history;
    agrees = less-agrees;
    state_is = seen-state w less e less-agrees i s f b v greatest.content less-history greatest.below less-top greatest.seen;
  }
