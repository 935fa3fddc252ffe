-- The needless records of a window tell nothing that its targets need.
use Rattle.std.{specs.Option.{option_map_or}, proofs.Common.{◌≡◌, ◌<◌, ◌≤◌, ◌∙◌, ◌⊎◌, inl, inr, ℕ, List, true, ap, sym, subst, arith}}
use Rattle.std.proofs.lemmas.Bool.{leb-true}
use Rattle.rm_base.specs.declared.{block.{Block.{Block}, Change.{Change}, Row.{Row}}, kinds.Policy.{Policy, TheVariants.{Window}}}
use Rattle.rm_history.specs.{Artefacts.{high_of}, Tree.{owner, end_of}, World.{creation_of, blocks_of}, Evidence.{Evidence}}
use Rattle.rm_history.{specs.{Known.{Determined}, FirstGap.{IsTarget, IsRecoverable}}, proofs.Owners.{owner-owner}}
use Rattle.rm_history.proofs.Segments.{is_within_alike}
use Rattle.rm_retain.specs.{Chosen.{Retention, is_before_window, IsChosen, floor}, Obsolete.{ClipsTo, IsOnPath}, Window.{IsInWindow}}
use Rattle.rm_retain.{specs.Losing.{HasCopy, IsGone, LosesNeedless, FitsHistory}, proofs.AboveFloor.{IsLow, Keeps, HasFloorCopy}}
use Rattle.rm_retain.proofs.FloorCopies.{StandsOn, floor_cases, clip_low, candidate_parts}
use Rattle.rm_retain.proofs.StaysTold.{exists_parts, exists_from, kept, same_told}

module _ (h : List Change) (r : Retention) (old new : Evidence) (days i s : ℕ) (policy : r.policy ≡ Window days) (is : FitsHistory h r old) (left : LosesNeedless r old new) (target : IsInWindow r i s) where
  -- up to the target both paths have the same owners
  owned : (g : ℕ) → g ≤ s → owner r.world.tree i g ≡ owner r.world.tree r.current g
  owned g low = ap (λ k. owner r.world.tree k g) (sym target.owned) ∙ owner-owner r.world.tree is.world.tree.parents r.current s g low

  -- a datafile of the target is on the current path
  on_path : (f b : ℕ) → IsTarget r.world i s f b → IsOnPath r f
  on_path f b block =
      let d = block.datafile in
      let parts = exists_parts d.creation s (owner r.world.tree i d.creation) d.inc block.exists in
      let last = target.last in
      let same = owned d.creation (omega (arith, parts.0)) in
      record {
        datafile = d;
        is = block.is;
        exists = exists_from d.creation (end_of r.world.tree r.current) (owner r.world.tree r.current d.creation) d.inc (omega (arith, parts.0, last)) (sym same ∙ parts.1);
      }

  -- what clips to a floor is low
  low : (inc high n : ℕ) → ClipsTo r inc high n → IsLow r.world i s n inc high
  low inc high n clips g under below same =
      let last = target.last in
      let end = is.end in
      clip_low r inc high n s g is.world.tree (omega (arith, last, end)) clips under below (same ∙ owned g (omega (arith, below)))

  -- so is what is gone
  gone_low : (f b inc checkpoint : ℕ) (rows : List Row) → IsTarget r.world i s f b → IsGone r inc f checkpoint rows → IsLow r.world i s (floor r f) inc (high_of checkpoint rows)
  gone_low f b inc checkpoint rows block gone =
      let clips = gone.needless.low (subst (IsOnPath r) (sym gone.described.file) (on_path f b block)) in
      subst (λ k. IsLow r.world i s (floor r f) k (high_of checkpoint rows)) gone.described.inc
      (subst (IsLow r.world i s (floor r f) gone.backup.inc) gone.described.high
      (subst (λ k. IsLow r.world i s (floor r k) gone.backup.inc gone.backup.high) gone.described.file
      (low gone.backup.inc gone.backup.high (floor r gone.backup.file) clips)))

  keeps : (f b : ℕ) → IsTarget r.world i s f b → Keeps r.world old new i s f (floor r f)
  keeps f b block = record {
    bases_had = left.bases_had;
    level1s_had = left.level1s_had;
    logs_had = left.logs_had;
    bases = λ a held file. elim (left.bases a held) [
      | inl stay ↦ inl stay
      | inr gone ↦ inr (gone_low f b a.inc a.checkpoint a.rows block (subst (λ k. IsGone r a.inc k a.checkpoint a.rows) file gone))
    ];
    level1s = λ a held file. elim (left.level1s a held) [
      | inl stay ↦ inl stay
      | inr gone ↦ inr (gone_low f b a.inc a.checkpoint a.rows block (subst (λ k. IsGone r a.inc k a.checkpoint a.rows) file gone))
    ];
    logs = λ a held. elim (left.logs a held) [
      | inl stay ↦ inl stay
      | inr gone ↦ inr (low a.inc a.next (floor r f) (gone f (on_path f b block)))
    ];
  }

  -- the chosen copy stays
  chosen_stays : (f b : ℕ) → IsTarget r.world i s f b → (footing : StandsOn r f) → footing.copy.file ≡ f → HasCopy r.world new footing.copy
  chosen_stays f b block footing file = elim (left.copies footing.copy footing.held) [
    | inl stay ↦ stay
    | inr needless ↦ absurd (needless.not_chosen (subst (IsOnPath r) (sym file) (on_path f b block)) (subst (λ k. IsChosen r k footing.copy.id) (sym file) footing.chosen))
  ]

  -- it lies below the target on its path, and has the block
  foot : (f b : ℕ) → IsTarget r.world i s f b → StandsOn r f → HasFloorCopy r.world new i s f b (floor r f)
  foot f b block footing =
      let x = footing.copy in
      let parts = candidate_parts r f x footing.candidate in
      let has = chosen_stays f b block footing parts.file in
      let a = has.copy in
      let described = has.described in
      let file : a.file ≡ f = sym described.file ∙ parts.file in
      let top = described.high in
      let early : x.high ≤ r.start = leb-true x.high r.start (subst (λ (p : Policy). is_before_window p r.start x ≡ true) policy parts.early) in
      let first = target.first in
      let blocks : blocks_of r.world f ≡ block.datafile.blocks = ap (λ o. option_map_or (λ d. d.blocks) o 0) block.is in
      let inside = block.block in
      let row = has.whole b (subst (λ k. b < blocks_of r.world k) (sym file) (omega (arith, inside, blocks))) in
      record {
        base = a;
        held = has.held;
        file = file;
        checkpoint = sym described.checkpoint ∙ footing.checkpoint;
        row = row.0;
        has = row.1;
        block = row.2;
        early = omega (arith, top, early, first);
        alike = λ g under.
            let same = is_within_alike r.world.tree is.world.tree x.inc r.current x.high is.there parts.within g (omega (arith, under, top)) in
            ap (λ k. owner r.world.tree k g) (sym described.inc) ∙ same ∙ sym (owned g (omega (arith, under, top, early, first)));
      }

  floor_stands : (f b : ℕ) → IsTarget r.world i s f b → (floor r f ≡ creation_of r.world f) ⊎ HasFloorCopy r.world new i s f b (floor r f)
  floor_stands f b block = elim (floor_cases r f) [
    | inl created ↦ inl created
    | inr footing ↦ inr (foot f b block footing)
  ]

  -- what is told of a block at the target stays told
  pub safe_told : (f b v : ℕ) (x : Block) → IsTarget r.world i s f b → Determined r.world old i s f b v x → Determined r.world new i s f b v x
  safe_told f b v x block told =
      same_told r.world h old new i s f (floor r f) is.world.tree is.history is.agrees (keeps f b block) b v x block (floor_stands f b block) told

  -- so the target stays recoverable
  pub safe_recoverable : IsRecoverable r.world old i s → IsRecoverable r.world new i s
  safe_recoverable recoverable f b block =
      kept r.world h old new i s f (floor r f) is.world.tree is.history is.agrees (keeps f b block) b block (floor_stands f b block) (recoverable f b block)
