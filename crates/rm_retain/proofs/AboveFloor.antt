-- Evidence without what it tells below a floor.
use Rattle.std.proofs.Common.{◌≡◌, ◌<◌, ◌≤◌, ◌∙◌, ◌⊎◌, inl, inr, ℕ, List, true, refl, ap, sym, subst, arith, Contains}
use Rattle.std.proofs.lemmas.Bool.{cases_lt}
use Rattle.rm_base.specs.declared.block.{Block.{Block}, Change.{Change}, Row.{Row}}
use Rattle.rm_history.specs.{Artefacts.{Base, Level1, Log, high_of}, Tree.{IsTree, owner}, History.{IsHistory}, State.{concerns, state}}
use Rattle.rm_history.specs.Evidence.{Evidence, Agrees}
use Rattle.rm_history.specs.Known.{HasRow, in_base, in_level1, Seen, by_row, by_log, by_creation, Quiet, by_absence, by_logs}
use Rattle.rm_history.{specs.{FirstGap.{IsDetermined}, declared.world.World.{World}}, proofs.Highs.{high-least, high-above}}
use Rattle.rm_history.proofs.{Owners.{owner-owner}, States.{concerns-from}, Logs.{is_of-parts, listed-happened}}
use Rattle.rm_history.proofs.{Sound.{row-state, row-is, seen-happened}, KnownStates.{created-first}}

-- what an artefact of this incarnation tells below `high` of the path of i lies below n, as far as s
abbrev pub IsLow : World → ℕ → ℕ → ℕ → ℕ → ℕ → Type 0
IsLow w i s n inc high = (g : ℕ) → g < high → g < s → owner w.tree inc g ≡ owner w.tree i g → g < n

-- new evidence has nothing that the old has not, and all of the datafile that is not low
pub record Keeps (w : World) (old new : Evidence) (i s f n : ℕ) : Type 0 where
  pub bases_had : (a : Base) → Contains new.bases a → Contains old.bases a
  pub level1s_had : (a : Level1) → Contains new.level1s a → Contains old.level1s a
  pub logs_had : (a : Log) → Contains new.logs a → Contains old.logs a
  pub bases : (a : Base) → Contains old.bases a → a.file ≡ f → Contains new.bases a ⊎ IsLow w i s n a.inc (high_of a.checkpoint a.rows)
  pub level1s : (a : Level1) → Contains old.level1s a → a.file ≡ f → Contains new.level1s a ⊎ IsLow w i s n a.inc (high_of a.checkpoint a.rows)
  pub logs : (a : Log) → Contains old.logs a → Contains new.logs a ⊎ IsLow w i s n a.inc a.next

-- a copy with checkpoint n that lies on the path of i, below s, and has the block
pub record HasFloorCopy (w : World) (e : Evidence) (i s f b n : ℕ) : Type 0 where
  pub base : Base
  pub held : Contains e.bases base
  pub file : base.file ≡ f
  pub checkpoint : base.checkpoint ≡ n
  pub row : Row
  pub has : Contains base.rows row
  pub block : row.block ≡ b
  pub early : high_of base.checkpoint base.rows ≤ s
  pub alike : (g : ℕ) → g < high_of base.checkpoint base.rows → owner w.tree base.inc g ≡ owner w.tree i g

-- the old evidence agrees with what the new one has of it
pub agrees_kept : (w : World) (h : List Change) (old new : Evidence) (i s f n : ℕ) → Keeps w old new i s f n → Agrees w h old → Agrees w h new
agrees_kept w h old new i s f n keeps agrees = record {
  bases = λ a held. agrees.bases a (keeps.bases_had a held);
  level1s = λ a held. agrees.level1s a (keeps.level1s_had a held);
  logs = λ a held. agrees.logs a (keeps.logs_had a held);
}

module _ (w : World) (h : List Change) (old new : Evidence) (i s f n : ℕ) (tree : IsTree w.tree) (history : IsHistory w h) (agrees : Agrees w h old) (keeps : Keeps w old new i s f n) where
  row_had : (b j k : ℕ) (r : Row) → HasRow new f b j k r → HasRow old f b j k r
  row_had b _ _ _ (in_base a r base held file block) = in_base a r (keeps.bases_had a base) held file block
  row_had b _ _ _ (in_level1 a r level1 held file block) = in_level1 a r (keeps.level1s_had a level1) held file block

  seen_had : (b m v : ℕ) (x : Block) → Seen w new f b m v x → Seen w old f b m v x
  seen_had b _ _ _ (by_row j k r has) = by_row j k r (row_had b j k r has)
  seen_had b _ _ _ (by_log a c has) = by_log a c (record { log = keeps.logs_had a has.log; change = has.change; file = has.file; block = has.block })
  seen_had b _ _ _ (by_creation d is) = by_creation d is

  -- a row that is seen from n on, or shows quiet there, is at hand
  row_stays : (b j k g : ℕ) (r : Row) → HasRow old f b j k r → owner w.tree j g ≡ owner w.tree i g → n ≤ g → g < s → (g ≤ r.version) ⊎ (g < k) → HasRow new f b j k r
  row_stays b _ _ g _ (in_base a r base held file block) same from below tells = elim (keeps.bases a base file) [
    | inl stays ↦ in_base a r stays held file block
    | inr low ↦
        let least = high-least a.checkpoint a.rows in
        let above = high-above a.checkpoint a.rows r held in
        let high : g < high_of a.checkpoint a.rows = elim tells [ inl version ↦ omega (arith, version, above) | inr checkpoint ↦ omega (arith, checkpoint, least) ] in
        let under : g < n = low g high below same in
        absurd (omega (arith, under, from))
  ]
  row_stays b _ _ g _ (in_level1 a r level1 held file block) same from below tells = elim (keeps.level1s a level1 file) [
    | inl stays ↦ in_level1 a r stays held file block
    | inr low ↦
        let least = high-least a.checkpoint a.rows in
        let above = high-above a.checkpoint a.rows r held in
        let high : g < high_of a.checkpoint a.rows = elim tells [ inl version ↦ omega (arith, version, above) | inr checkpoint ↦ omega (arith, checkpoint, least) ] in
        let under : g < n = low g high below same in
        absurd (omega (arith, under, from))
  ]

  -- a log that holds an address of the path of i, from n on, is at hand
  log_stays : (a : Log) (g : ℕ) → Contains old.logs a → a.inc ≡ owner w.tree i g → g < a.next → n ≤ g → g < s → Contains new.logs a
  log_stays a g log inc next from below = elim (keeps.logs a log) [
    | inl stays ↦ stays
    | inr low ↦
        let same : owner w.tree a.inc g ≡ owner w.tree i g = ap (λ k. owner w.tree k g) inc ∙ owner-owner w.tree tree.parents i g g (omega arith) in
        let under : g < n = low g next below same in
        absurd (omega (arith, under, from))
  ]

  -- what is seen on the path of i, from n on, stays so
  seen_stays : (b m v : ℕ) (x : Block) → Seen w old f b m v x → m ≡ owner w.tree i v → n ≤ v → v < s → Seen w new f b m v x
  seen_stays b _ _ _ (by_row j k r has) owned from below =
      by_row j k r (row_stays b j k r.version r has owned from below (inl (omega arith)))
  seen_stays b _ _ _ (by_log a c has) owned from below =
      let of = is_of-parts a c (listed-happened h a c (agrees.logs a has.log) has.change).1 in
      by_log a c (record { log = log_stays a c.scn has.log owned of.next from below; change = has.change; file = has.file; block = has.block })
  seen_stays b _ _ _ (by_creation d is) owned from below = by_creation d is

  -- and what is quiet there
  quiet_stays : (b m g : ℕ) → Quiet w old f b m g → m ≡ owner w.tree i g → n ≤ g → g < s → Quiet w new f b m g
  quiet_stays b m g (by_row j k r has low before owned) on from below =
      by_row j k r (row_stays b j k g r has (owned ∙ on) from below (inr before)) low before owned
  quiet_stays b m g (by_absence a level1 file absent first before owned) on from below = elim (keeps.level1s a level1 file) [
    | inl stays ↦ by_absence a stays file absent first before owned
    | inr low ↦
        let least = high-least a.checkpoint a.rows in
        let under : g < n = low g (omega (arith, before, least)) below (owned ∙ on) in
        absurd (omega (arith, under, from))
  ]
  quiet_stays b m g (by_logs each none) on from below =
      by_logs (λ t thread.
      let has = each t thread in
      let holds = has.holds in
      record {
        log = has.log;
        holds = record { log = log_stays has.log g holds.log (holds.inc ∙ on) holds.next from below; inc = holds.inc; first = holds.first; next = holds.next };
        thread = has.thread;
      })
      (λ a c holds has.
      none a c (record { log = keeps.logs_had a holds.log; inc = holds.inc; first = holds.first; next = holds.next })
      (record { log = keeps.logs_had a has.log; change = has.change; file = has.file; block = has.block }))

  -- what is told from n on stays so
  pub kept_above : (b : ℕ) (told : IsDetermined w old i s f b) → n ≤ told.version → IsDetermined w new i s f b
  kept_above b told from =
      let greatest = told.is.greatest in
      let seen : Seen w new f b (owner w.tree i told.version) told.version told.content =
      seen_stays b (owner w.tree i told.version) told.version told.content told.is.seen refl from greatest.below in
      record {
        version = told.version;
        content = told.content;
        is = record {
          greatest = record {
            below = greatest.below;
            content = told.content;
            seen = seen;
            most = λ u x low shown. greatest.most u x low (seen_had b (owner w.tree i u) u x shown);
          };
          seen = seen;
          quiet = λ g above low. quiet_stays b (owner w.tree i g) g (told.is.quiet g above low) refl (omega (arith, from, above)) low;
        };
      }

  -- below n the copy there has what happened last
  foot_last : (b v : ℕ) (x : Block) (foot : HasFloorCopy w new i s f b n) → v < n → Seen w old f b (owner w.tree i v) v x → v ≤ foot.row.version
  foot_last b v x foot low shown =
      let a = foot.base in
      let r = foot.row in
      let is = row-is w h old agrees f b a.inc a.checkpoint r (in_base a r (keeps.bases_had a foot.held) foot.has foot.file foot.block) in
      let checkpoint = foot.checkpoint in
      elim (seen-happened w h old agrees f b (owner w.tree i v) v x shown) [
        | inl changed ↦
            let at = changed.at in
            let here = at.scn in
            let after = is.after in
            let least = high-least a.checkpoint a.rows in
            let concerned : concerns w a.inc is.position f r.block changed.change ≡ true =
            concerns-from w a.inc is.position f r.block changed.change (record {
              file = at.file;
              block = at.block ∙ sym foot.block;
              below = omega (arith, here, after, checkpoint, low);
              owned = ap (owner w.tree a.inc) here ∙ foot.alike v (omega (arith, low, checkpoint, least)) ∙ sym at.inc;
            }) in
            let most : changed.change.scn ≤ r.version = (row-state w h a.inc f a.checkpoint r is).top changed.change changed.held concerned in
            omega (arith, most, here)
        | inr created ↦
            let first = created-first w h a.inc is.position f r.block history in
            let version : (state w h a.inc is.position f r.block).version ≡ r.version = ap (λ (y : Row). y.version) is.is in
            let here = created.0 in
            omega (arith, first, version, here)
      ]

  -- so it is told by that copy
  pub kept_below : (b : ℕ) (told : IsDetermined w old i s f b) → told.version < n → HasFloorCopy w new i s f b n → IsDetermined w new i s f b
  kept_below b told low foot =
      let a = foot.base in
      let r = foot.row in
      let greatest = told.is.greatest in
      let has : HasRow new f b a.inc a.checkpoint r = in_base a r foot.held foot.has foot.file foot.block in
      let high = high-above a.checkpoint a.rows r foot.has in
      let least = high-least a.checkpoint a.rows in
      let early = foot.early in
      let checkpoint = foot.checkpoint in
      let seen : Seen w new f b (owner w.tree i r.version) r.version r.content =
      subst (λ m. Seen w new f b m r.version r.content) (foot.alike r.version high) (by_row a.inc a.checkpoint r has) in
      let last : told.version ≤ r.version = foot_last b told.version told.content foot low told.is.seen in
      record {
        version = r.version;
        content = r.content;
        is = record {
          greatest = record {
            below = omega (arith, high, early);
            content = r.content;
            seen = seen;
            most = λ u x under shown.
                let most : u ≤ told.version = greatest.most u x under (seen_had b (owner w.tree i u) u x shown) in
                omega (arith, most, last);
          };
          seen = seen;
          quiet = λ g above under. elim (cases_lt g n) [
            | inl before ↦ by_row a.inc a.checkpoint r has above (omega (arith, before, checkpoint)) (foot.alike g (omega (arith, before, checkpoint, least)))
            | inr from ↦ quiet_stays b (owner w.tree i g) g (told.is.quiet g (omega (arith, last, above)) under) refl from under
          ];
        };
      }
