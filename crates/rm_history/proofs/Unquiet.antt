-- A history that gains a change at an address that is not quiet.
use Rattle.std.proofs.Common.{◌≡◌, ◌<◌, ◌≤◌, ◌∙◌, inl, inr, ℕ, List, [], ◌∷◌, ◌++◌, false, refl, sym, subst, arith, Contains}
use Rattle.std.proofs.lemmas.{Bool.{cases_Bool, cases_lt}, List.Elements.{Contains-append_left, Contains-push_cases}}
use Rattle.rm_base.specs.declared.block.{Change.{Change}, Row.{Row}}
use Rattle.rm_history.specs.{Tree.{owner}, History.{IsHistory}, State.{concerns}, Artefacts.{Level1, Log}}
use Rattle.rm_history.specs.{Agrees.{IsRow, IsBelow, is_of, lists}, Evidence.{Evidence, Agrees}}
use Rattle.rm_history.specs.{Known.{HasRow, in_base, in_level1, Quiet, by_row, by_absence}, declared.world.World.{World}}
use Rattle.rm_history.proofs.{Growth.{IsHistory-front, row-grown, below-grown, LogAgrees-grown}, Histories.{state-push_other}}
use Rattle.rm_history.proofs.{States.{concerns-parts, state-held}, KnownStates.{state-stays, created-first, version-below}}
use Rattle.rm_history.proofs.Sound.{row-block, row-state, row-is}

module _ (w : World) (h : List Change) (e : Evidence) (c : Change) (history : IsHistory w (h ++ c ∷ [])) (agrees : Agrees w h e) (unknown : ¬ Quiet w e c.file c.block c.inc c.scn) where
  -- no row below the change has a later checkpoint on its path
  row-past : (f b j k : ℕ) (r : Row) → HasRow e f b j k r → c.file ≡ f → c.block ≡ b → r.version < c.scn → owner w.tree j c.scn ≡ c.inc → k ≤ c.scn
  row-past f b j k r has file block low owned = elim (cases_lt c.scn k) [
    | inr after ↦ after
    | inl before ↦
        let of_block : HasRow e c.file c.block j k r =
        subst (λ n. HasRow e n c.block j k r) (sym file) (subst (λ n. HasRow e f n j k r) (sym block) has) in
        absurd (unknown (by_row j k r of_block low before owned))
  ]

  -- a row at or above the change stays the state where it was
  row-above : (j f k : ℕ) (r : Row) → IsRow w h j f k r → c.scn ≤ r.version → IsRow w (h ++ c ∷ []) j f k r
  row-above j f k r is high = record {
    position = is.position;
    after = is.after;
    is = state-stays w h (h ++ c ∷ []) j is.position f r history (row-state w h j f k r is)
        (λ d held concerned. elim (Contains-push_cases h c d held) [
          | inl old ↦ (row-state w h j f k r is).top d old concerned
          | inr same ↦ subst (λ (x : Change). x.scn ≤ r.version) same high
        ])
        (λ d held concerned version. Contains-append_left h (c ∷ []) d held);
  }

  row-kept : (f b j k : ℕ) (r : Row) → HasRow e f b j k r → IsRow w (h ++ c ∷ []) j f k r
  row-kept f b j k r has =
      let is = row-is w h e agrees f b j k r has in
      elim (cases_lt r.version c.scn) [
        | inr high ↦ row-above j f k r is high
        | inl low ↦ elim (cases_Bool (concerns w j is.position f r.block c)) [
          | inr other ↦ record { position = is.position; after = is.after; is = state-push_other w h c j is.position f r.block other ∙ is.is }
          | inl new ↦
              let parts = concerns-parts w j is.position f r.block c new in
              row-grown w h c history j f k r is (row-past f b j k r has parts.file (parts.block ∙ row-block e f b j k r has) low)
        ]
      ]

  -- no level 1 that looked for the change and lacks it has a later checkpoint on its path
  level1-past : (a : Level1) → Contains e.level1s a → a.file ≡ c.file → lists a.rows c.block ≡ false → a.from ≤ c.scn → owner w.tree a.inc c.scn ≡ c.inc → a.checkpoint ≤ c.scn
  level1-past a level1 file absent from owned = elim (cases_lt c.scn a.checkpoint) [
    | inr after ↦ after
    | inl before ↦ absurd (unknown (by_absence a level1 file absent from before owned))
  ]

  -- where the change lies below `from`, a version below it stays so where it was
  below-under : (j f k from o : ℕ) → IsBelow w h j f k from o → c.scn < from → IsBelow w (h ++ c ∷ []) j f k from o
  below-under j f k from o is under =
      let below = is.below in
      let created = created-first w h j is.position f o (IsHistory-front w h (c ∷ []) history) in
      record {
        position = is.position;
        after = is.after;
        below = version-below w (h ++ c ∷ []) j is.position f o from (omega (arith, below, created)) (λ d held concerned. elim (Contains-push_cases h c d held) [
          | inl old ↦ let most = (state-held w h j is.position f o).top d old concerned in omega (arith, most, below)
          | inr same ↦ subst (λ (x : Change). x.scn < from) same under
        ]);
      }

  below-kept : (a : Level1) (o : ℕ) → Contains e.level1s a → lists a.rows o ≡ false → IsBelow w h a.inc a.file a.checkpoint a.from o → IsBelow w (h ++ c ∷ []) a.inc a.file a.checkpoint a.from o
  below-kept a o level1 absent is = elim (cases_lt c.scn a.from) [
    | inl under ↦ below-under a.inc a.file a.checkpoint a.from o is under
    | inr above ↦ elim (cases_Bool (concerns w a.inc is.position a.file o c)) [
      | inr other ↦ record {
        position = is.position;
        after = is.after;
        below = subst (λ (r : Row). r.version < a.from) (sym (state-push_other w h c a.inc is.position a.file o other)) is.below;
      }
      | inl new ↦
          let parts = concerns-parts w a.inc is.position a.file o c new in
          let lacks : lists a.rows c.block ≡ false = subst (λ n. lists a.rows n ≡ false) (sym parts.block) absent in
          below-grown w h c history a.inc a.file a.checkpoint a.from o is (level1-past a level1 (sym parts.file) lacks above)
    ]
  ]

  -- with a change at an address that is not quiet, and of none of the logs, the history agrees
  pub unquiet-agrees : ((a : Log) → Contains e.logs a → is_of a c ≡ false) → Agrees w (h ++ c ∷ []) e
  unquiet-agrees other = record {
    bases = λ a base r held. row-kept a.file r.block a.inc a.checkpoint r (in_base a r base held refl refl);
    level1s = λ a level1.
        let was = agrees.level1s a level1 in
        record {
          listed = λ r held. (row-kept a.file r.block a.inc a.checkpoint r (in_level1 a r level1 held refl refl), (was.listed r held).1);
          unlisted = λ o inside absent. below-kept a o level1 absent (was.unlisted o inside absent);
        };
    logs = λ a log. LogAgrees-grown h c a (agrees.logs a log) (other a log);
  }
