use Rattle.std.specs.Prelude.{Some}
use Rattle.rm_tool_duplicate.proofs.carrying.carry.Given as goal

abbrev pub ghosts-carry_noted : goal.ghosts-carry_noted
ghosts-carry_noted g a = record { noted = Some (a.number, g.H.Shelf.shelved a.shelf) }
