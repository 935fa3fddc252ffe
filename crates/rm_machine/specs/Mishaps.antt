-- HOST REMOVE 'name', HOST DAMAGE 'name' AT n, HOST CUT 'name' TO n and HOST RENAME 'name' TO 'name'
use Rattle.std.specs.Prelude.{ℕ, ◌≡◌, ◌-◌, nat_le, if◌then◌else◌, Option, Some, None, List, [], ◌∷◌, length, slice_set, get_or, take}
use Rattle.rm_base.specs.{Store.{Held}, declared.refusal.{Refusal.TheVariants.{Rm12, Rm13}, Unknown.TheVariants.{Object, Byte}}}
use Rattle.rm_report.specs.declared.line.Line.TheVariants.{Removed, Damaged, Cut, Renamed}
use Rattle.rm_machine.specs.{Effect.{Effect, Outcome, refused, done, no_effect}, declared.state.State.{State}}

-- the object goes
abbrev pub removal : List ℕ → Effect
removal name = record no_effect { removes = name ∷ [] }

-- these bytes come to stand under the name
abbrev pub replacement : List ℕ → List ℕ → Effect
replacement name bytes = record no_effect { puts = record { name = name; bytes = bytes } ∷ [] }

-- what stood under the old name comes to stand under the new one
abbrev pub renaming : List ℕ → List ℕ → List ℕ → Effect
renaming old new bytes = record (replacement new bytes) { removes = old ∷ [] }

-- the bytes, of which that at the position is its exclusive or with 255
abbrev pub damaged : List ℕ → ℕ → List ℕ
damaged bytes at = slice_set bytes at (255 - get_or bytes at 0)

-- REMOVE, where this stands under the name
abbrev pub remove_by : State → List ℕ → Option (List ℕ) → Outcome
remove_by s name None = refused (Rm12 (Object name))
remove_by s name (Some bytes) = done (Removed ∷ []) (removal name) s

-- DAMAGE: the position is one of the object's
abbrev pub damage_by : State → List ℕ → ℕ → Option (List ℕ) → Outcome
damage_by s name at None = refused (Rm12 (Object name))
damage_by s name at (Some bytes) =
    if nat_le (length bytes) at then refused (Rm12 (Byte at name))
    else done (Damaged ∷ []) (replacement name (damaged bytes at)) s

-- CUT: fewer bytes stay than there are
abbrev pub cut_by : State → List ℕ → ℕ → Option (List ℕ) → Outcome
cut_by s name to None = refused (Rm12 (Object name))
cut_by s name to (Some bytes) =
    if nat_le (length bytes) to then refused (Rm12 (Byte to name))
    else done (Cut ∷ []) (replacement name (take to bytes)) s

-- RENAME: the new name is free
abbrev pub rename_by : State → List ℕ → List ℕ → Option (List ℕ) → Option (List ℕ) → Outcome
rename_by s old new None there = refused (Rm12 (Object old))
rename_by s old new (Some bytes) (Some other) = refused (Rm13 new)
rename_by s old new (Some bytes) None = done (Renamed ∷ []) (renaming old new bytes) s

abbrev pub IsRemoveOutcome : State → Held → List ℕ → Outcome → Type 0
IsRemoveOutcome s held name o = o ≡ remove_by s name (held name)

abbrev pub IsDamageOutcome : State → Held → List ℕ → ℕ → Outcome → Type 0
IsDamageOutcome s held name at o = o ≡ damage_by s name at (held name)

abbrev pub IsCutOutcome : State → Held → List ℕ → ℕ → Outcome → Type 0
IsCutOutcome s held name to o = o ≡ cut_by s name to (held name)

abbrev pub IsRenameOutcome : State → Held → List ℕ → List ℕ → Outcome → Type 0
IsRenameOutcome s held old new o = o ≡ rename_by s old new (held old) (held new)
