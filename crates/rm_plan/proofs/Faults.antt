-- The fault of a block as the fault of its file.
use Rattle.std.{specs.Result.{IsErrAnd}, proofs.Common.{◌≡◌, ◌<◌, ℕ, List, Result, Ok, Err, IfErr, sym, subst}}
use Rattle.rm_base.specs.declared.block.Part.{Part}
use Rattle.rm_history.specs.{World.{blocks_of}, Evidence.{Evidence}, declared.world.World.{World}}
use Rattle.rm_plan.{specs.{Plan.{AreParts, IsFault, IsFileFault}, declared.plan.PlanFault.{PlanFault}}, proofs.Parts.{first_gap}}
use Rattle.rm_plan.specs.declared.plan.PlanFault.TheVariants as fault

-- what is true of a fault is true of the one that is handed on
pub handed_on : {T : Type 0} (r : Result T PlanFault) (x : PlanFault) → IsErrAnd r (λ e. e ≡ x) → (P : PlanFault → Type 0) → P x → IfErr r P
handed_on (Ok t) x is P p = absurd is
handed_on (Err e) x is P p = subst P (sym is) p

-- the first block that has a fault has the fault of the file
pub file_fault : (w : World) (e : Evidence) (i s f n : ℕ) (parts : List Part) (x : PlanFault) → AreParts w e i s f n parts → n < blocks_of w f → IsFault w e i s f n x → IsFileFault w e i s f x
file_fault w e i s f n parts (fault.Gap x) are within names = first_gap w e i s f n parts x are within names
file_fault w e i s f n parts fault.NoMemory are within names = tt
