-- What a fault tells.
use Rattle.std.specs.{Prelude.{◌≡◌, ℕ, List}, String.{string_bytes}}
use Rattle.rm_test_harness.specs.declared.fault.Fault.{Fault, TheVariants.{Differs, NoMemory}}

-- it is told that this is not so, unless memory is wanting
abbrev pub Tells : List ℕ → Fault → Type 0
Tells what (Differs text) = string_bytes text ≡ what
Tells what NoMemory = Unit {0}
