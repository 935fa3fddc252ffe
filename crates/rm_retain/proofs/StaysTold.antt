-- What was told above a floor that is the datafile's creation, or stands on a copy, stays told.
use Rattle.std.specs.Option.{option_map_or}
use Rattle.std.proofs.Common.{◌≡◌, ◌<◌, ◌≤◌, ◌∙◌, ◌⊎◌, ◌==◌, ◌&&◌, inl, inr, nat_lt, ℕ, List, Some, true, ap, sym, subst, arith}
use Rattle.std.proofs.lemmas.Bool.{cases_lt, Decides.{nat_tests}}
use Rattle.rm_base.specs.{Content.{zero_block}, declared.block.{Block.{Block}, Change.{Change}, Row.{Row}}}
use Rattle.rm_history.specs.{Tree.{IsTree, owner}, World.{creation_of, file_of}, History.{IsHistory}, Evidence.{Evidence, Agrees}}
use Rattle.rm_history.specs.{Known.{Seen, by_creation, Determined}, FirstGap.{IsTarget, IsDetermined}, declared.world.Datafile.{Datafile}}
use Rattle.rm_history.{specs.declared.world.World.{World}, proofs.Facts.{told-is-true}}
use Rattle.rm_retain.proofs.AboveFloor.{Keeps, HasFloorCopy, agrees_kept, kept_above, kept_below}

pub exists_parts : (c s o m : ℕ) → (nat_lt c s && (o == m)) ≡ true → (c < s) × (o ≡ m)
exists_parts c s o m is = grind (arith, nat_tests)

pub exists_from : (c s o m : ℕ) → c < s → o ≡ m → (nat_lt c s && (o == m)) ≡ true
exists_from c s o m low owned = grind (arith, nat_tests)

pub creation_is : (w : World) (f : ℕ) (d : Datafile) → file_of w f ≡ Some d → creation_of w f ≡ d.creation
creation_is w f d is = ap (λ o. option_map_or (λ d. d.creation) o 0) is

module _ (w : World) (h : List Change) (old new : Evidence) (i s f n : ℕ) (tree : IsTree w.tree) (history : IsHistory w h) (agrees : Agrees w h old) (keeps : Keeps w old new i s f n) where
  -- what is told is the creation at least
  told_risen : (b : ℕ) → IsTarget w i s f b → (told : IsDetermined w old i s f b) → creation_of w f ≤ told.version
  told_risen b target told =
      let d = target.datafile in
      let parts = exists_parts d.creation s (owner w.tree i d.creation) d.inc target.exists in
      let seen : Seen w old f b (owner w.tree i d.creation) d.creation zero_block =
      subst (λ m. Seen w old f b m d.creation zero_block) (sym parts.1) (by_creation d target.is) in
      let low : d.creation ≤ told.version = told.is.greatest.most d.creation zero_block parts.0 seen in
      let known = creation_is w f d target.is in
      omega (arith, low, known)

  pub kept : (b : ℕ) → IsTarget w i s f b → (n ≡ creation_of w f) ⊎ HasFloorCopy w new i s f b n → IsDetermined w old i s f b → IsDetermined w new i s f b
  kept b target floor told = elim (cases_lt told.version n) [
    | inr from ↦ kept_above w h old new i s f n tree history agrees keeps b told from
    | inl low ↦ elim floor [
      | inr foot ↦ kept_below w h old new i s f n tree history agrees keeps b told low foot
      | inl created ↦ let risen = told_risen b target told in absurd (omega (arith, low, created, risen))
    ]
  ]

  -- with the same version and content, which are those of the history
  pub same_told : (b v : ℕ) (x : Block) → IsTarget w i s f b → (n ≡ creation_of w f) ⊎ HasFloorCopy w new i s f b n → Determined w old i s f b v x → Determined w new i s f b v x
  same_told b v x target floor told =
      let left = kept b target floor (record { version = v; content = x; is = told }) in
      let first = told-is-true w old i s f b v x target told h history agrees in
      let second = told-is-true w new i s f b left.version left.content target left.is h history (agrees_kept w h old new i s f n keeps agrees) in
      let version : left.version ≡ v = ap (λ (r : Row). r.version) (sym second ∙ first) in
      let content : left.content ≡ x = ap (λ (r : Row). r.content) (sym second ∙ first) in
      subst (λ y. Determined w new i s f b v y) content (subst (λ u. Determined w new i s f b u left.content) version left.is)
