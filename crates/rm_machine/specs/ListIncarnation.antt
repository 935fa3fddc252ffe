-- LIST INCARNATION
use Rattle.std.specs.Prelude.{ℕ, zero, suc, ◌≡◌, ◌+◌, List, [], ◌∷◌, length}
use Rattle.rm_history.specs.{Tree.{parent_of, reset_of, end_of, standing}, declared.tree.Incarnation.{Incarnation}}
use Rattle.rm_report.specs.declared.line.Line.{Line, TheVariants.{IncarnationIs}}
use Rattle.rm_machine.specs.{Effect.{Outcome, told}, State.{tree, current_of}, declared.state.State.{State}}

-- the line of an incarnation: its parent, its resetlogs SCN, its end, and how it stands to the current one
abbrev pub incarnation_line : List Incarnation → ℕ → ℕ → Line
incarnation_line ns current i = IncarnationIs i (parent_of ns i) (reset_of ns i) (end_of ns i) (standing ns i current)

-- the lines of n incarnations from i on
abbrev pub incarnation_lines : List Incarnation → ℕ → ℕ → ℕ → List Line
incarnation_lines ns current i zero = []
incarnation_lines ns current i (suc n) = incarnation_line ns current i ∷ incarnation_lines ns current (i + 1) n

-- it tells each incarnation
abbrev pub IsListIncarnationOutcome : State → Outcome → Type 0
IsListIncarnationOutcome s o = o ≡ told (incarnation_lines (tree s) (current_of s) 1 (length (tree s)))
