-- RESET DATABASE TO INCARNATION n
use Rattle.std.specs.Prelude.{ℕ, ◌≡◌, ◌==◌, ◌||◌, nat_lt, if◌then◌else◌, false, Option, Some, None, [], ◌∷◌, length}
use Rattle.rm_base.specs.declared.refusal.Refusal.{Refusal, TheVariants.{Rm04, Rm07}}
use Rattle.rm_history.specs.Tree.{end_of}
use Rattle.rm_redo.specs.Online.{counted_as}
use Rattle.rm_report.specs.declared.line.Line.TheVariants.{Chosen}
use Rattle.rm_catalog_typed.specs.{Changes.{with_base}, Switches.{enabled_at}}
use Rattle.rm_machine.specs.{Effect.{Outcome, done, no_effect}, Marks.{ids_refusal}, State.{ledger, tree}, declared.state.State.{State}}

-- why it is refused: the database is open, or the incarnation is not there
abbrev pub reset_refusal : State → ℕ → Option Refusal
reset_refusal s i =
    if s.instance.is_open then Some (Rm04 false)
    else if (i == 0) || nat_lt (length (tree s)) i then Some (Rm07 i)
    else ids_refusal s

-- the database at another incarnation, where no point is known
abbrev pub at_incarnation : State → ℕ → State
at_incarnation s i =
    record {
      catalog = with_base s.catalog (record (ledger s).base { current = i });
      instance = record s.instance { point = None; logs = counted_as s.instance.logs i (enabled_at (ledger s) i (end_of (tree s) i)) };
    }

abbrev pub IsResetOutcome : State → ℕ → Outcome → Type 0
IsResetOutcome s i o = o ≡ done (Chosen i ∷ []) no_effect (at_incarnation s i)
