-- The order of blocks is one.
use Rattle.std.proofs.Common.{◌∙◌, inl, inr, arith}
use Rattle.rm_base.specs.{BlockOrder.{AreInOrder}, declared.block.BlockId.{BlockId}}

-- of two blocks one alone comes before the other
pub order-one-way : (x y : BlockId) → AreInOrder x y → AreInOrder y x → ⊥
order-one-way x y (inl low) (inl high) = omega (arith, low, high)
order-one-way x y (inl low) (inr high) = omega (arith, low, high.0)
order-one-way x y (inr low) (inl high) = omega (arith, low.0, high)
order-one-way x y (inr low) (inr high) = omega (arith, low.1, high.1)

-- what comes before a block comes before those behind it
pub order-leads : (x y z : BlockId) → AreInOrder x y → AreInOrder y z → AreInOrder x z
order-leads x y z (inl a) (inl b) = inl (omega (arith, a, b))
order-leads x y z (inl a) (inr b) = inl (omega (arith, a, b.0))
order-leads x y z (inr a) (inl b) = inl (omega (arith, a.0, b))
order-leads x y z (inr a) (inr b) = inr (a.0 ∙ b.0, omega (arith, a.1, b.1))
