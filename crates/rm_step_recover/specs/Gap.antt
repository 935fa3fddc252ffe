-- The refusal that names the first gap.
use Rattle.std.specs.Prelude.{ℕ, ◌≡◌, Option}
use Rattle.rm_apply.specs.Recover.{FindsGap}
use Rattle.rm_base.specs.{Store.{Held}, declared.refusal.Refusal.{Refusal, TheVariants.{Rm08}}}
use Rattle.rm_machine.specs.{Recovery.{in_place}, declared.state.State.{State}}
use Rattle.rm_plan.specs.declared.plan.Gap.{Gap}
use Rattle.rm_catalog_typed.specs.TypedCatalog.{records_of}

-- what is at hand leaves a gap, and the refusal names the first one
pub record NamesGap (held : Option Held) (s : State) (i at : ℕ) (r : Refusal) : Type 0 where
  pub gap : Gap
  pub first : FindsGap held (records_of s.catalog) (in_place s) i at gap
  pub names : r ≡ Rm08 gap.file gap.block gap.scn gap.inc
