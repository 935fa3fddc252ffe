-- The records of several databases, each under a number.
use Rattle.std.specs.{Prelude.{◌≡◌, ◌≢◌, ℕ, List, Option, Some, None}, Option.{option_map}}
use Rattle.rm_base.specs.Store.{Both}
use Rattle.rm_catalog.specs.declared.record.Record.{Record}

-- the records under each number
abbrev pub Shelved : Type 0
Shelved = ℕ → List Record

-- those under one number, where they are told
abbrev pub under : ℕ → Option Shelved → Option (List Record)
under number shelved = option_map (λ s. s number) shelved

-- each other number has what it had
abbrev pub SameBut : ℕ → Shelved → Shelved → Type 0
SameBut number before after = (n : ℕ) → n ≢ number → after n ≡ before n

-- each number has what it had
abbrev pub Same : Shelved → Shelved → Type 0
Same before after = (n : ℕ) → after n ≡ before n

-- the same, where they are told
abbrev pub OthersStay : ℕ → Option Shelved → Option Shelved → Type 0
OthersStay number before after = Both (SameBut number) before after

abbrev pub AllStay : Option Shelved → Option Shelved → Type 0
AllStay before after = Both Same before after

-- where a number and what was told were noted: it is the number, and each other number has what was noted
abbrev pub IsNoted : Option (ℕ × Option Shelved) → ℕ → Option Shelved → Type 0
IsNoted None number now = Unit {0}
IsNoted (Some noted) number now = (number ≡ noted.0) × OthersStay noted.0 noted.1 now
