-- Of blocks that ascend the first that is not determined is the least.
use Rattle.std.proofs.Common.{◌++◌, inl, inr, ℕ, List, [], ◌∷◌, All, Contains, Result, Ok, Err, IfErr, subst}
use Rattle.std.proofs.lemmas.List.Elements.{All-head, All-tail}
use Rattle.rm_base.specs.{BlockOrder.{AreInOrder, AscendByBlock, IsBefore}, declared.block.BlockId.{BlockId}}
use Rattle.rm_base.proofs.{BlockOrder.{order-one-way}, Members.{first-or-rest}, Lists.{pairs-head, pairs-tail}}
use Rattle.rm_history.specs.{Evidence.{Evidence}, FirstGap.{IsDetermined}, declared.world.World.{World}}
use Rattle.rm_plan.specs.{Chosen.{IsFaultOf}, declared.plan.PlanFault.{PlanFault}}
use Rattle.rm_plan.specs.declared.plan.PlanFault.TheVariants as fault
use Rattle.rm_repair.specs.Jobs.{IsLeastFault}

-- what stands before one of them holds, where it holds of those in front of that
held-before : (P : BlockId → Type 0) (front : List BlockId) (x : BlockId) (rest : List BlockId) → AscendByBlock (front ++ x ∷ rest) → All P front → (y : BlockId) → Contains (front ++ x ∷ rest) y → AreInOrder y x → P y
held-before P [] x rest up all y has low = elim (first-or-rest x rest y has) [
  | inl same ↦ let twice : AreInOrder y y = subst (λ (z : BlockId). AreInOrder y z) same low in absurd (order-one-way y y twice twice)
  | inr late ↦ absurd (order-one-way y x low (pairs-head AreInOrder x rest y up late))
]
held-before P (z ∷ front) x rest up all y has low = elim (first-or-rest z (front ++ x ∷ rest) y has) [
  | inl same ↦ subst P same (All-head P z front all)
  | inr late ↦ held-before P front x rest (pairs-tail AreInOrder z (front ++ x ∷ rest) up) (All-tail P z front all) y late low
]

least-of : (w : World) (e : Evidence) (i s : ℕ) (xs : List BlockId) (x : PlanFault) → AscendByBlock xs → IsFaultOf w e i s xs x → IsLeastFault w e i s xs x
least-of w e i s xs fault.NoMemory up first = tt
least-of w e i s xs (fault.Gap x) up first = λ y has low.
    held-before (λ z. IsDetermined w e i s z.file z.block) first.told first.block first.rest (subst AscendByBlock first.is up) first.determined y
    (subst (λ zs. Contains zs y) first.is has) (subst (λ b. IsBefore y.file y.block first.block.file b) first.names.block (subst (λ f. IsBefore y.file y.block f x.block) first.names.file low))

pub least_fault : {T : Type 0} (r : Result T PlanFault) (w : World) (e : Evidence) (i s : ℕ) (xs : List BlockId) → IfErr r (IsFaultOf w e i s xs) → AscendByBlock xs → IfErr r (IsLeastFault w e i s xs)
least_fault (Ok t) w e i s xs first up = tt
least_fault (Err x) w e i s xs first up = least-of w e i s xs x up first
