-- The lines of origins, at the end of one of both lists.
use Rattle.std.proofs.Common.{◌≡◌, ◌∙◌, ◌++◌, ◌⊎◌, inl, inr, ℕ, List, [], ◌∷◌, refl, ap, sym, append-nil}
use Rattle.rm_apply.specs.declared.origin.Origin.{Origin}
use Rattle.rm_report.specs.declared.line.Line.{Line}
use Rattle.rm_machine.specs.Restore.{origin_lines}

none-left : (fs : List ℕ) → origin_lines fs [] ≡ []
none-left [] = refl
none-left (f ∷ fs) = refl

-- nothing is left to tell
pub all-origins : (fs : List ℕ) (origins : List Origin) (told all : List Line) → (fs ≡ []) ⊎ (origins ≡ []) → told ++ origin_lines fs origins ≡ all → told ≡ all
all-origins fs origins told all (inl none) is = sym (append-nil told) ∙ ap (λ (ys : List ℕ). told ++ origin_lines ys origins) (sym none) ∙ is
all-origins fs origins told all (inr none) is = sym (append-nil told) ∙ ap (λ (ls : List Line). told ++ ls) (sym (none-left fs)) ∙ ap (λ (ys : List Origin). told ++ origin_lines fs ys) (sym none) ∙ is
