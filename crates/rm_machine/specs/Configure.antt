-- CONFIGURE: the retention policy, and how many channels there are
use Rattle.std.specs.Prelude.{ℕ, ◌≡◌, nat_lt, if◌then◌else◌, Option, Some, None, [], ◌∷◌}
use Rattle.rm_base.specs.declared.{kinds.Policy.{Policy}, refusal.Refusal.{Refusal, TheVariants.{Rm11}}}
use Rattle.rm_base.specs.declared.kinds.Policy.TheVariants as policy
use Rattle.rm_base.specs.declared.refusal.Limit.TheVariants as limit
use Rattle.rm_report.specs.declared.line.Line.TheVariants as line
use Rattle.rm_catalog_typed.specs.{Changes.{with_base}, TypedCatalog.{TypedCatalog}}
use Rattle.rm_lang_statement.specs.declared.command.RetentionForm.{RetentionForm, TheVariants.{Clear, Nothing, Redundancy, Window}}
use Rattle.rm_machine.specs.{Effect.{Outcome, done, no_effect}, Marks.{ids_refusal, lacks_ids}, Upkeep.{with_catalog}}
use Rattle.rm_machine.specs.declared.state.State.{State}

-- the policy that a form asks for; CLEAR is that of a new database
abbrev pub policy_of : RetentionForm → Policy
policy_of (Window days) = policy.Window days
policy_of (Redundancy count) = policy.Redundancy count
policy_of Nothing = policy.Nothing
policy_of Clear = policy.Redundancy 1

-- why a policy is refused: its window is too long, or its redundancy too high
abbrev pub policy_refusal : RetentionForm → Option Refusal
policy_refusal (Window days) = if nat_lt 36500 days then Some (Rm11 limit.WindowDays) else None
policy_refusal (Redundancy count) = if nat_lt 1000 count then Some (Rm11 limit.Redundancy) else None
policy_refusal Nothing = None
policy_refusal Clear = None

-- why a CONFIGURE RETENTION POLICY is refused: too few ids are left, or the policy is
abbrev pub retention_refusal : State → RetentionForm → Option Refusal
retention_refusal s form = if lacks_ids s 0 then Some (Rm11 limit.ObjectIds) else policy_refusal form

-- why a CONFIGURE .. PARALLELISM is refused: too many channels, or too few ids are left
abbrev pub parallelism_refusal : State → ℕ → Option Refusal
parallelism_refusal s channels = if nat_lt 16 channels then Some (Rm11 limit.Channels) else ids_refusal s

-- with this policy, and with so many channels
abbrev pub with_policy : TypedCatalog → Policy → TypedCatalog
with_policy r p = with_base r (record r.ledger.base { policy = p })

abbrev pub with_channels : TypedCatalog → ℕ → TypedCatalog
with_channels r channels = with_base r (record r.ledger.base { parallelism = channels })

-- CONFIGURE RETENTION POLICY sets the policy alone, and tells it
abbrev pub IsRetentionOutcome : State → RetentionForm → Outcome → Type 0
IsRetentionOutcome s form o = o ≡ done (line.Retention (policy_of form) ∷ []) no_effect (with_catalog s (with_policy s.catalog (policy_of form)))

-- CONFIGURE .. PARALLELISM sets the count of channels alone, and tells it
abbrev pub IsParallelismOutcome : State → ℕ → Outcome → Type 0
IsParallelismOutcome s channels o = o ≡ done (line.Parallelism channels ∷ []) no_effect (with_catalog s (with_channels s.catalog channels))
