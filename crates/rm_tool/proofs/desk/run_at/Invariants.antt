use Rattle.std.specs.Prelude.{Some}
use Rattle.rm_tool.proofs.desk.run_at.Given as goal

abbrev pub ghosts-run_noted : goal.ghosts-run_noted
ghosts-run_noted g a = record { noted = Some (a.number, g.H.Shelf.shelved a.shelf) }
