-- The lines of a crosscheck.
use Rattle.std.specs.Prelude.{ℕ}
use Rattle.rm_base.specs.declared.kinds.Status.{Status}
use Rattle.rm_report.specs.declared.line.Line.{Line, TheVariants.{StatusOf}}

-- the line of the status that a record of this id gets
abbrev pub status_line : ℕ × Status → Line
status_line x = StatusOf x.0 x.1
