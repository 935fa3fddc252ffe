-- The first pass of a database that was just opened.
use Rattle.std.proofs.Common.{◌≡◌, ◌∙◌, ℕ, [], ap, sym, subst, length}
use Rattle.atomic_table.specs.Seated.{TableId}
use Rattle.rm_live.{specs.{Parts.{Parts}, Passes.{IsLater, IsOnly, Standing}, Ruled.{upto}}, proofs.Totals.{length_upto, times_upto}}

-- the first pass
abbrev pub fresh : TableId → Parts → ℕ → Standing
fresh home o passes = record { home = home; opening = o; passes = passes; numbers = upto 0 passes; seen = [] }

pub fresh-only : (home : TableId) (o : Parts) (passes : ℕ) (p : Standing) → p ≡ fresh home o passes → IsOnly p
fresh-only home o passes p is = subst IsOnly (sym is) (λ n. times_upto n passes)

pub fresh-numbers : (home : TableId) (o : Parts) (passes : ℕ) (p : Standing) → p ≡ fresh home o passes → length p.numbers ≡ passes
fresh-numbers home o passes p is = ap (λ (q : Standing). length q.numbers) is ∙ length_upto 0 passes

-- and when it comes back
pub later-numbers : (home : TableId) (o : Parts) (passes : ℕ) (p q : Standing) → p ≡ fresh home o passes → IsLater p q → length q.numbers ≡ q.passes
later-numbers home o passes p q is later =
    ap (λ (r : Standing). length r.numbers) later ∙ fresh-numbers home o passes p is
    ∙ sym (ap (λ (r : Standing). r.passes) later ∙ ap (λ (r : Standing). r.passes) is)
