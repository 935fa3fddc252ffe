-- HOST LOSE DATAFILE f
use Rattle.std.specs.Prelude.{ℕ, ◌≡◌, ◌-◌, ◌==◌, filter, not, is_none, if◌then◌else◌, Option, Some, None, [], ◌∷◌, slice_set}
use Rattle.rm_base.specs.declared.refusal.{Refusal.{Refusal, TheVariants.{Rm05}}, Absent.TheVariants.{File}}
use Rattle.rm_report.specs.declared.line.Line.TheVariants.{FileLost}
use Rattle.rm_machine.specs.{Effect.{Outcome, done, no_effect}, Marks.{ids_refusal}, State.{on_path}, declared.state.State.{State}}

-- why it is refused: the datafile is not on the current path
abbrev pub lose_refusal : State → ℕ → Option Refusal
lose_refusal s f = if is_none (on_path s f) then Some (Rm05 (File f)) else ids_refusal s

-- the database without what stood in place of the datafile, and none of its blocks damaged; it stands at no point then
abbrev pub without_file : State → ℕ → State
without_file s f =
    record s {
      instance = record s.instance {
        point = None;
        place = slice_set s.instance.place (f - 1) None;
        damaged = filter (λ x. not (x.file == f)) s.instance.damaged;
      };
    }

-- the datafile in place is lost, if it was not
abbrev pub IsLoseOutcome : State → ℕ → Outcome → Type 0
IsLoseOutcome s f o = o ≡ done (FileLost f ∷ []) no_effect (without_file s f)
