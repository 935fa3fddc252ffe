-- What is answered to bytes that spell a value.
use Rattle.std.specs.Prelude.{◌≡◌, Result, MatchResult}
use Rattle.rm_base.specs.declared.faults.FormatFault.{FormatFault, TheVariants.{NoMemory}}

-- the answer is this value, unless memory ran out
abbrev pub Reads : {A : Type 0} → Result A FormatFault → A → Type 0
Reads answer value = MatchResult answer (λ read. read ≡ value) (λ fault. fault ≡ NoMemory)
