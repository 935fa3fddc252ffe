-- What the evidence tells is true of each history that agrees with it.
use Rattle.std.specs.Option.{option_map_or}
use Rattle.std.proofs.Common.{◌≡◌, ◌<◌, ◌≤◌, ◌∙◌, inl, inr, ℕ, List, true, refl, ap, sym, subst, arith, Contains}
use Rattle.rm_base.specs.declared.block.{Block.{Block}, Change.{Change}, Row.{Row}}
use Rattle.rm_history.specs.{Threads.{IsEnabled}, Tree.{owner}, World.{blocks_of}, History.{IsHistory}, State.{concerns, state, IsState}}
use Rattle.rm_history.specs.{Agrees.{IsRow, is_of}, Evidence.{Evidence, Agrees}}
use Rattle.rm_history.specs.Known.{HasRow, in_base, in_level1, Seen, by_row, by_log, by_creation, Quiet, by_absence, by_logs}
use Rattle.rm_history.{specs.declared.world.World.{World}, proofs.States.{concerns-from, state-held}}
use Rattle.rm_history.proofs.Logs.{is_of-parts, is_of-from, listed-happened, happened-listed}
use Rattle.rm_history.proofs.KnownStates.{IsAt, Happened, IsTop, state-happened, happened-state}

pub row-block : (e : Evidence) (f b j k : ℕ) (r : Row) → HasRow e f b j k r → r.block ≡ b
row-block e f b _ _ _ (in_base a r base held file block) = block
row-block e f b _ _ _ (in_level1 a r level1 held file block) = block

pub row-state : (w : World) (h : List Change) (j f k : ℕ) (r : Row) (is : IsRow w h j f k r) → IsState w h j is.position f r
row-state w h j f k r is = subst (IsState w h j is.position f) is.is (state-held w h j is.position f r.block)

module _ (w : World) (h : List Change) (e : Evidence) (agrees : Agrees w h e) where
  pub row-is : (f b j k : ℕ) (r : Row) → HasRow e f b j k r → IsRow w h j f k r
  row-is f b _ _ _ (in_base a r base held file block) =
      subst (λ n. IsRow w h a.inc n a.checkpoint r) file (agrees.bases a base r held)
  row-is f b _ _ _ (in_level1 a r level1 held file block) =
      subst (λ n. IsRow w h a.inc n a.checkpoint r) file ((agrees.level1s a level1).listed r held).0

  -- what is seen happened
  pub seen-happened : (f b m v : ℕ) (x : Block) → Seen w e f b m v x → Happened w h f b m v x
  seen-happened f b _ _ _ (by_row j k r has) =
      let is = row-is f b j k r has in
      subst (λ n. Happened w h f n (owner w.tree j r.version) r.version r.content) (row-block e f b j k r has)
      (state-happened w h j is.position f r (row-state w h j f k r is))
  seen-happened f b _ _ _ (by_log a c has) =
      let was = listed-happened h a c (agrees.logs a has.log) has.change in
      inl (record {
        change = c;
        held = was.0;
        at = record { file = has.file; block = has.block; inc = (is_of-parts a c was.1).inc; scn = refl };
        content = refl;
      })
  seen-happened f b _ _ _ (by_creation d is) = inr (sym (ap (λ o. option_map_or (λ d. d.creation) o 0) is), refl)

  -- where an address is quiet, the block did not change
  pub quiet-still : (f b m g : ℕ) → IsHistory w h → b < blocks_of w f → Quiet w e f b m g → (c : Change) → Contains h c → ¬ IsAt f b m g c
  quiet-still f b m g history inside (by_row j k r has low before owned) c held at =
      let is = row-is f b j k r has in
      let after = is.after in
      let here = at.scn in
      let concerned : concerns w j is.position f r.block c ≡ true =
      concerns-from w j is.position f r.block c (record {
        file = at.file;
        block = at.block ∙ sym (row-block e f b j k r has);
        below = omega (arith, here, before, after);
        owned = ap (owner w.tree j) here ∙ owned ∙ sym at.inc;
      }) in
      let most : c.scn ≤ r.version = (row-state w h j f k r is).top c held concerned in
      omega (arith, most, here, low)
  quiet-still f b m g history inside (by_absence a level1 file absent from before owned) c held at =
      let is = (agrees.level1s a level1).unlisted b (subst (λ n. b < blocks_of w n) (sym file) inside) absent in
      let after = is.after in
      let below = is.below in
      let here = at.scn in
      let concerned : concerns w a.inc is.position a.file b c ≡ true =
      concerns-from w a.inc is.position a.file b c (record {
        file = at.file ∙ sym file;
        block = at.block;
        below = omega (arith, here, before, after);
        owned = ap (owner w.tree a.inc) here ∙ owned ∙ sym at.inc;
      }) in
      let most : c.scn ≤ (state w h a.inc is.position a.file b).version = (state-held w h a.inc is.position a.file b).top c held concerned in
      omega (arith, most, below, here, from)
  quiet-still f b m g history inside (by_logs each none) c held at =
      let is : IsEnabled w m g c.thread = subst (λ k. IsEnabled w m k c.thread) at.scn (subst (λ k. IsEnabled w k c.scn c.thread) at.inc (history.changes c held).thread) in
      let has = each c.thread is in
      let a = has.log in
      let holds = has.holds in
      let here = at.scn in
      let first = holds.first in
      let next = holds.next in
      let of : is_of a c ≡ true =
      is_of-from a c (record {
        inc = at.inc ∙ sym holds.inc;
        thread = sym has.thread;
        first = omega (arith, here, first);
        next = omega (arith, here, next);
      }) in
      none a c holds (record { log = holds.log; change = happened-listed h a c (agrees.logs a holds.log) held of; file = at.file; block = at.block }) here

  -- what is seen last is the state
  pub seen-state : (i s f b v : ℕ) (x : Block) → IsHistory w h → v < s → IsTop w h i s f b v → Seen w e f b (owner w.tree i v) v x → state w h i s f b ≡ record { block = b; version = v; content = x }
  seen-state i s f b v x history below top seen =
      happened-state w h i s f b v x history below top (seen-happened f b (owner w.tree i v) v x seen)
