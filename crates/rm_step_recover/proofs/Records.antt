-- The records of a state as a list, the database of which they tell, and what is in place beside them.
use Rattle.std.{specs.Option.{option_map}, proofs.Common.{◌≡◌, ◌∙◌, ℕ, List, Option, Some, None, refl, ap, map, sym, subst}}
use Rattle.rm_base.specs.declared.refusal.Refusal.TheVariants.{Rm06}
use Rattle.rm_catalog.specs.{Trees.{nodes}, declared.record.Record.{Record}}
use Rattle.rm_evidence.specs.{Place.{FitsPlace}, Database.{world_of}, declared.evidence.InPlace.{InPlace}}
use Rattle.rm_history.specs.{Tree.{IsThere}, declared.{tree.Incarnation.{Incarnation}, world.World.{World}}}
use Rattle.rm_plan.specs.Plan.{IsFileTarget}
use Rattle.rm_catalog_typed.{specs.TypedCatalog.{records_of}, proofs.Records.{tree-told, world-told}}
use Rattle.rm_apply.specs.{Files.{AreExactly, IsAsked}, Recover.{outside, until_in}, declared.targets.TargetFile.{TargetFile}}
use Rattle.rm_apply.{specs.declared.fault.RecoverFault.{RecoverFault}, proofs.Numbers.{unnamed}}
use Rattle.rm_apply.specs.declared.fault.RecoverFault.TheVariants as kind
use Rattle.rm_lang_statement.specs.declared.command.Until.{Until}
use Rattle.rm_machine.specs.{Recover.{recover_target}, Recovery.{in_place, range_refusal}, Restore.{preview_refusal}, Sound.{IsSound}}
use Rattle.rm_machine.{specs.{State.{current_of, tree, world}, declared.state.State.{State}}, proofs.Fitting.{place-fits}}
use Rattle.rm_machine.proofs.Untils.{until-none}

-- where there is nothing to map there was nothing
unmapped : {A B : Type 0} (f : A → B) (o : Option A) → option_map f o ≡ None → o ≡ None
unmapped f None none = refl
unmapped f (Some x) none = absurd (cc)

-- a target of PREVIEW that is not refused lies in its range
pub preview-within : (s : State) (until : Option Until) (at : ℕ) → recover_target s until ≡ Some at → preview_refusal s until ≡ None → range_refusal (tree s) (current_of s) at ≡ None
preview-within s until at target none = until-none s (current_of s) until (range_refusal (tree s) (current_of s)) None at none target

module _ (s : State) (rs : List Record) (records : rs ≡ records_of s.catalog) where
  same-tree : nodes rs ≡ tree s
  same-tree = ap nodes records ∙ tree-told s.catalog

  pub there : (i : ℕ) → IsThere (tree s) i → IsThere (nodes rs) i
  there i is = subst (λ (ns : List Incarnation). IsThere ns i) (sym same-tree) is

  -- a target that is not refused does not lie outside
  pub within : (i at : ℕ) (o : Option (ℕ × ℕ)) → o ≡ outside (nodes rs) i at → range_refusal (tree s) i at ≡ None → o ≡ None
  within i at o is none = is ∙ ap (λ (ns : List Incarnation). outside ns i at) same-tree ∙ unmapped (λ (x : ℕ × ℕ). Rm06 at x.0 x.1) (outside (tree s) i at) none

  -- the numbers of all datafiles of a target
  pub exact-numbers : (i j at : ℕ) (ts us : List TargetFile) (ns : List ℕ) → i ≡ j → us ≡ ts → ns ≡ map (λ t. t.number) us → AreExactly (IsAsked (world_of rs) i at None) (map (λ t. t.number) ts) → AreExactly (IsFileTarget (world s) j at) ns
  exact-numbers i j at ts us ns same list is are =
      let w : world_of rs ≡ world s = ap world_of records ∙ world-told s.catalog in
      subst (AreExactly (IsFileTarget (world s) j at)) (sym is)
      (subst (λ n. AreExactly (IsFileTarget (world s) n at) (map (λ t. t.number) us)) same
      (subst (λ (v : World). AreExactly (IsFileTarget v i at) (map (λ t. t.number) us)) w (unnamed (world_of rs) i at ts us list are)))

  -- so it is not told as one that does
  pub never-outside : (i at low high : ℕ) (fault : RecoverFault) → until_in fault ≡ outside (nodes rs) i at → fault ≡ kind.Until low high → range_refusal (tree s) i at ≡ None → ⊥
  never-outside i at low high fault told is none = absurd (let clash : Some (low, high) ≡ None = sym (ap until_in is) ∙ within i at (until_in fault) told none in cc)

  module _ (place : InPlace) (in_place_is : place ≡ in_place s) where
    pub fits : IsSound s → FitsPlace rs place
    fits sound = subst (FitsPlace rs) (sym in_place_is) (subst (λ (xs : List Record). FitsPlace xs (in_place s)) (sym records) (place-fits s sound))

    -- what is true of them is true of what the state shows
    pub of-state : (P : List Record → InPlace → Type 0) → P rs place → P (records_of s.catalog) (in_place s)
    of-state P is = subst (P (records_of s.catalog)) in_place_is (subst (λ (xs : List Record). P xs place) records is)
