-- The lines of incarnations, one after another.
use Rattle.std.proofs.Common.{◌≡◌, ◌+◌, ◌∙◌, ◌++◌, ℕ, suc, List, [], ◌∷◌, ap, sym, append_assoc}
use Rattle.rm_history.specs.declared.tree.Incarnation.{Incarnation}
use Rattle.rm_report.specs.declared.line.Line.{Line}
use Rattle.rm_machine.specs.ListIncarnation.{incarnation_line, incarnation_lines}

-- the line of incarnation i, and then those of the rest
pub lines-next : (tree : List Incarnation) (current i n m : ℕ) (old new : List Line) → n ≡ suc m → new ≡ old ++ incarnation_line tree current i ∷ [] → new ++ incarnation_lines tree current (i + 1) m ≡ old ++ incarnation_lines tree current i n
lines-next tree current i n m old new e is =
    ap (λ xs. xs ++ incarnation_lines tree current (i + 1) m) is
    ∙ append_assoc old (incarnation_line tree current i ∷ []) (incarnation_lines tree current (i + 1) m)
    ∙ ap (λ k. old ++ incarnation_lines tree current i k) (sym e)
