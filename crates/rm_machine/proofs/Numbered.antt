-- Datafiles have the numbers of their places.
use Rattle.std.proofs.Common.{◌+◌, ℕ, suc, List, ◌∷◌, Option, arith}
use Rattle.rm_blocks.specs.File.{File}
use Rattle.rm_machine.{specs.declared.state.State.{State}, proofs.Following.{AreFrom, GoesAlong}}

pub from-next : (n : ℕ) (o : Option File) (place : List (Option File)) → AreFrom n (o ∷ place) → AreFrom (n + 1) place
from-next n o place are k x is = let e = are (suc k) x is in omega (arith, e)

pub numbers-from : (s : State) → GoesAlong s → AreFrom 0 s.instance.place
numbers-from s goes k x is = let e = goes.numbered k x is in omega (arith, e)
