-- The first name of a copy that is taken, one after another.
use Rattle.std.proofs.Common.{◌≡◌, ◌<◌, ◌+◌, ◌-◌, ◌∙◌, ℕ, suc, Bool, false, cond, List, Some, ap, arith}
use Rattle.rm_tool_duplicate.specs.Refused.{copy_name, first_taken}

-- the copy of datafile k, below m, has a name that is not taken
pub next-name : (is_taken : List ℕ → Bool) (k m : ℕ) → k < m → is_taken (copy_name k) ≡ false → first_taken is_taken k (m - k) ≡ first_taken is_taken (k + 1) (m - (k + 1))
next-name is_taken k m less free =
    let many : m - k ≡ suc (m - (k + 1)) = omega (arith, less) in
    ap (first_taken is_taken k) many ∙ ap (λ (b : Bool). cond b (Some (copy_name k)) (first_taken is_taken (k + 1) (m - (k + 1)))) free
