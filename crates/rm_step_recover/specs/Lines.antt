-- What has lines in a reply.
use Rattle.std.specs.Prelude.{ℕ, ◌<◌, ◌≤◌, List, ◌∷◌, count_by, length}
use Rattle.rm_base.specs.declared.block.Row.{Row}
use Rattle.rm_blocks.specs.File.{File}
use Rattle.rm_machine.specs.RecoverTest.{block_lines, is_written}
use Rattle.rm_report.specs.declared.line.Line.{Line, TheVariants.{FileIs}}

-- a datafile that has a number, and as many blocks as one may have
abbrev pub HasLines : File → Type 0
HasLines x = (0 < x.file) × (length x.rows ≤ 65536)

-- the lines of the rows of a datafile that was created there
abbrev pub rows_lines : ℕ → ℕ → List Row → List Line
rows_lines creation file rows = FileIs file (length rows) (count_by (is_written creation) rows) ∷ block_lines creation rows
