-- What the evidence makes known of a block, and what it leaves unknown.
use Rattle.std.{specs.Option.{option_map_or}, proofs.Common.{◌≡◌, ◌<◌, ◌≤◌, ◌∙◌, inl, inr, ℕ, refl, ap, sym, subst, arith}}
use Rattle.std.proofs.lemmas.Bool.{cases_lt, cases_order}
use Rattle.rm_base.specs.{BlockOrder.{IsBefore}, declared.block.Block.{Block}}
use Rattle.rm_history.specs.{Tree.{owner}, World.{blocks_of}, Evidence.{Evidence}, Known.{Determined, Quiet, IsGap}}
use Rattle.rm_history.specs.FirstGap.{IsTarget, IsDetermined, HasGap, IsRecoverable, IsFirstGap}
use Rattle.rm_history.specs.{Unknown.{IsWorld, IsKnown, IsKnownInAnyOrder, IsUnknown, IsUnknownInAnyOrder}, declared.world.World.{World}}
use Rattle.rm_history.proofs.{States.{concerns-parts, state-members}, Orders.{ordered}, KnownStates.{IsAt}, Sound.{quiet-still, seen-state}}
use Rattle.rm_history.proofs.Gaps.{could-be}

target-inside : (w : World) (i s f b : ℕ) → IsTarget w i s f b → b < blocks_of w f
target-inside w i s f b target =
    let inside = target.block in
    let is : blocks_of w f ≡ target.datafile.blocks = ap (λ o. option_map_or (λ d. d.blocks) o 0) target.is in
    omega (arith, inside, is)

-- what is determined is so in each history that agrees
pub told-is-true : (w : World) (e : Evidence) (i s f b v : ℕ) (x : Block) → IsTarget w i s f b → Determined w e i s f b v x → IsKnown w e i s f b v x
told-is-true w e i s f b v x target told h history agrees =
    seen-state w h e agrees i s f b v x history told.greatest.below (λ c held concerned. elim (cases_lt v c.scn) [
      | inr low ↦ low
      | inl above ↦
          let parts = concerns-parts w i s f b c concerned in
          let at : IsAt f b (owner w.tree i c.scn) c.scn c = record { file = parts.file; block = parts.block; inc = sym parts.owned; scn = refl } in
          absurd (quiet-still w h e agrees f b (owner w.tree i c.scn) c.scn history (target-inside w i s f b target) (told.quiet c.scn above parts.below) c held at)
    ]) told.seen

-- and in each that agrees in any order: another one of the same changes agrees
pub told-in-any-order : (w : World) (e : Evidence) (i s f b v : ℕ) (x : Block) → IsTarget w i s f b → Determined w e i s f b v x → IsKnownInAnyOrder w e i s f b v x
told-in-any-order w e i s f b v x target told k history agrees =
    let on = ordered w k history e agrees in
    sym (state-members w on.0 k i s f b history on.1.same) ∙ told-is-true w e i s f b v x target told on.0 on.1.history on.1.agrees

-- a block that is determined has no gap
pub no-gap : (w : World) (e : Evidence) (i s f b m g : ℕ) → IsDetermined w e i s f b → ¬ HasGap w e i s f b m g
no-gap w e i s f b m g told has =
    let gap = has.is in
    let above = gap.above in
    let low : told.version ≤ has.version = gap.greatest.most told.version told.content told.is.greatest.below told.is.seen in
    let quiet : Quiet w e f b (owner w.tree i g) g = told.is.quiet g (omega (arith, low, above)) gap.below in
    gap.unknown (subst (λ j. Quiet w e f b j g) gap.owned quiet)

-- behind a gap stand two histories
pub behind-a-gap : (w : World) (e : Evidence) (i s f b m g : ℕ) → IsWorld w → IsTarget w i s f b → HasGap w e i s f b m g → IsUnknown w e i s f b m g
behind-a-gap w e i s f b m g world target has = record {
  gap = has;
  two = λ h history agrees. could-be w e i s f b has.version m g has.is world target h history agrees;
}

-- and so whichever of them it was, in any order
pub unknown-in-any-order : (w : World) (e : Evidence) (i s f b m g : ℕ) → IsWorld w → IsTarget w i s f b → HasGap w e i s f b m g → IsUnknownInAnyOrder w e i s f b m g
unknown-in-any-order w e i s f b m g world target has = record {
  gap = has;
  two = λ k history agrees. let on = ordered w k history e agrees in (on.0, on.1.same, could-be w e i s f b has.version m g has.is world target on.0 on.1.history on.1.agrees);
}

-- a block has one gap at most
gap-low : (w : World) (e : Evidence) (i s f b u v m n g k : ℕ) → IsGap w e i s f b u m g → IsGap w e i s f b v n k → k ≤ g
gap-low w e i s f b u v m n g k first second = elim (cases_lt g k) [
  | inr low ↦ low
  | inl less ↦
      let seen = second.greatest.seen in
      let low : v ≤ u = first.greatest.most v second.greatest.content second.greatest.below seen in
      let above = first.above in
      let quiet : Quiet w e f b (owner w.tree i g) g = second.least g (omega (arith, low, above)) less in
      absurd (first.unknown (subst (λ j. Quiet w e f b j g) first.owned quiet))
]

pub gap-one : (w : World) (e : Evidence) (i s f b m n g k : ℕ) → HasGap w e i s f b m g → HasGap w e i s f b n k → (m ≡ n) × (g ≡ k)
gap-one w e i s f b m n g k first second =
    let up = gap-low w e i s f b first.version second.version m n g k first.is second.is in
    let down = gap-low w e i s f b second.version first.version n m k g second.is first.is in
    let here : g ≡ k = omega (arith, up, down) in
    (sym first.is.owned ∙ ap (owner w.tree i) here ∙ second.is.owned, here)

-- no block with a gap comes before the first gap
none-before : (w : World) (e : Evidence) (i s f b m g c d n k : ℕ) → IsFirstGap w e i s f b m g → IsFirstGap w e i s c d n k → ¬ IsBefore f b c d
none-before w e i s f b m g c d n k first second before =
    no-gap w e i s f b m g (second.least f b first.target before) first.gap

-- the first gap is one
pub first-gap-one : (w : World) (e : Evidence) (i s f b m g c d n k : ℕ) → IsFirstGap w e i s f b m g → IsFirstGap w e i s c d n k → (f ≡ c) × (b ≡ d) × (m ≡ n) × (g ≡ k)
first-gap-one w e i s f b m g c d n k first second =
    let up = none-before w e i s f b m g c d n k first second in
    let down = none-before w e i s c d n k f b m g second first in
    elim (cases_order f c) [
      | inr (inl less) ↦ absurd (up (inl less))
      | inr (inr less) ↦ absurd (down (inl less))
      | inl file ↦ elim (cases_order b d) [
        | inr (inl less) ↦ absurd (up (inr (file, less)))
        | inr (inr less) ↦ absurd (down (inr (sym file, less)))
        | inl block ↦
            let moved : HasGap w e i s c d m g = subst (λ y. HasGap w e i s c y m g) block (subst (λ y. HasGap w e i s y b m g) file first.gap) in
            let same = gap-one w e i s c d m n g k moved second.gap in
            (file, block, same.0, same.1)
      ]
    ]

-- and where there is one, not every block is determined
pub first-gap-open : (w : World) (e : Evidence) (i s f b m g : ℕ) → IsFirstGap w e i s f b m g → ¬ IsRecoverable w e i s
first-gap-open w e i s f b m g first all = no-gap w e i s f b m g (all f b first.target) first.gap
