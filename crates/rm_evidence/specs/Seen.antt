-- What is so by what a store tells, or else by some bytes under each name.
use Rattle.std.specs.Prelude.{Option, Some, None}
use Rattle.rm_base.specs.Store.{Held}

-- by what the store tells this is so, or, where it tells nothing, by some bytes under each name
abbrev pub IsSeen : Option Held → (Held → Type 0) → Type 0
IsSeen (Some held) Is = Is held
IsSeen None Is = (held : Held) × Is held
