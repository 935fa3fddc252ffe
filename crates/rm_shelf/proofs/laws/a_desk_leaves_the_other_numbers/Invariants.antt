use Rattle.std.specs.Prelude.{Some}
use Rattle.rm_shelf.proofs.laws.a_desk_leaves_the_other_numbers.Given as goal

abbrev pub ghosts-use_noted : goal.ghosts-use_noted
ghosts-use_noted g a = record { noted = Some (a.number, g.H.Shelf.shelved a.shelf) }
