use Rattle.std.specs.Prelude.{Some}
use Rattle.rm_tool_duplicate.proofs.source.open_source.Given as goal

abbrev pub ghosts-open_noted : goal.ghosts-open_noted
ghosts-open_noted g a = record { noted = Some (a.number, g.H.Shelf.shelved a.shelf) }
