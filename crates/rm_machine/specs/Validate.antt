-- VALIDATE ALL
use Rattle.std.specs.Prelude.{ℕ, ◌≡◌, ◌+◌, Bool, true, false, List, [], ◌∷◌, ◌++◌, count_by, length, map}
use Rattle.rm_base.specs.{Store.{Held}, declared.kinds.{Bad.{Bad}, Status.{Status, TheVariants.{Available}}}}
use Rattle.rm_evidence.specs.{Available.{IsSkipped}, Gathered.{Lists}}
use Rattle.rm_catalog_typed.specs.{Ledger.{Ledger}, TypedCatalog.{records_of}}
use Rattle.rm_report.specs.declared.line.Line.TheVariants.{BadOf, Checked}
use Rattle.rm_machine.specs.{Effect.{Outcome, told}, State.{ledger}, declared.state.State.{State}}

-- a record of this status counts as available
abbrev pub is_available : Status → Bool
is_available Available = true
is_available _ = false

-- how many records of logs, pieces and sets count as available
abbrev pub count_available : Ledger → ℕ
count_available l = count_by (λ e. is_available e.status) l.logs + count_by (λ p. is_available p.status) l.pieces + count_by (λ e. is_available e.status) l.sets

-- it tells exactly those that count as available and whose objects are missing or damaged, ascending by id, and how many were looked at
pub record IsValidateOutcome (s : State) (held : Held) (o : Outcome) : Type 0 where
  pub bad : List (ℕ × Bad)
  pub lists : Lists Bad [] (IsSkipped held (records_of s.catalog)) bad
  pub is : o ≡ told (map (λ x. BadOf x.0 x.1) bad ++ Checked (count_available (ledger s)) (length bad) ∷ [])
