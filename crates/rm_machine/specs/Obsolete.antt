-- REPORT OBSOLETE, REPORT NEED BACKUP and DELETE OBSOLETE
use Rattle.std.specs.{Prelude.{ℕ, ◌≡◌, ◌<◌, ◌++◌, List, [], ◌∷◌, AllPairs, length, map, max, unwrap_or}, List.{flat_map}}
use Rattle.rm_base.specs.{Store.{Held}, declared.{block.Block.{Block}, kinds.Policy.{Policy, TheVariants.{Window}}}}
use Rattle.rm_apply.specs.Files.{AreExactly}
use Rattle.rm_evidence.specs.{Known.{known_of}, declared.evidence.Evidence.{Evidence}}
use Rattle.rm_history.specs.{FirstGap.{IsRecoverable, IsTarget}, Known.{Determined}}
use Rattle.rm_report.specs.declared.line.Line.TheVariants as line
use Rattle.rm_catalog_typed.specs.TypedCatalog.{records_of}
use Rattle.rm_retain.specs.{Catalogued.{AreObsolete, by_records}, Chosen.{Retention, chosen, wanted}, Obsolete.{IsOnPath}}
use Rattle.rm_retain.specs.Window.{IsInWindow, window_start}
use Rattle.rm_machine.specs.{Effect.{Outcome, done, told}, Recovery.{IsAtHand}, State.{current_of, ledger, tree, world}}
use Rattle.rm_machine.specs.{Upkeep.{names_at, removing, with_catalog, without_all}, declared.state.State.{State}}

-- the SCN at which the window of a policy starts at the moment of the statement; a policy without a window needs none
abbrev pub start_by : State → Policy → ℕ
start_by s (Window days) = unwrap_or (window_start (tree s) (current_of s) days (ledger s).base.moment (ledger s).marks) 0
start_by s _ = 0

-- retention by the records, the policy, and what is at hand
abbrev pub retention_of : State → Evidence → Retention
retention_of s e = by_records (records_of s.catalog) e (ledger s).base.policy (start_by s (ledger s).base.policy)

-- by what is at hand exactly the records of these ids are obsolete; they ascend
pub record AreObsoleteIn (s : State) (held : Held) (ids : List ℕ) : Type 0 where
  pub evidence : Evidence
  pub at_hand : IsAtHand s held evidence
  pub exact : AreObsolete (records_of s.catalog) (retention_of s evidence) ids
  pub ascends : AllPairs (λ m n. m < n) ids

-- REPORT OBSOLETE tells them
pub record IsReportOutcome (s : State) (held : Held) (o : Outcome) : Type 0 where
  pub ids : List ℕ
  pub are : AreObsoleteIn s held ids
  pub is : o ≡ told (map line.Obsolete ids ++ line.ObsoleteCount (length ids) ∷ [])

-- DELETE OBSOLETE takes exactly these records away, and their objects
pub record IsDeleteObsoleteOutcome (s : State) (held : Held) (o : Outcome) : Type 0 where
  pub ids : List ℕ
  pub are : AreObsoleteIn s held ids
  pub is : o ≡ done (map line.Deleted ids ++ line.DeletedCount (length ids) ∷ []) (removing (flat_map (λ n. names_at n s.catalog) ids)) (with_catalog s (without_all ids s.catalog))

-- the datafile is on the current path, and none is chosen of its backups at hand, or fewer than the policy wants
pub record NeedsBackup (r : Retention) (f : ℕ) : Type 0 where
  pub on : IsOnPath r f
  pub few : length (chosen r f) < max 1 (wanted r.policy)

-- REPORT NEED BACKUP tells these datafiles
pub record IsNeedOutcome (s : State) (held : Held) (o : Outcome) : Type 0 where
  pub evidence : Evidence
  pub at_hand : IsAtHand s held evidence
  pub files : List ℕ
  pub exact : AreExactly (NeedsBackup (retention_of s evidence)) files
  pub is : o ≡ told (map line.NeedsBackup files ++ line.NeedCount (length files) ∷ [])

-- What is at hand before keeps its say after: of each target of the window each block that was determined is so with the same
-- version and content, and where the target was recoverable it is so.
pub record KeepsTargets (s : State) (old new : Evidence) : Type 0 where
  pub told : (i at f b v : ℕ) (x : Block) → IsInWindow (retention_of s old) i at → IsTarget (world s) i at f b → Determined (world s) (known_of old) i at f b v x → Determined (world s) (known_of new) i at f b v x
  pub recoverable : (i at : ℕ) → IsInWindow (retention_of s old) i at → IsRecoverable (world s) (known_of old) i at → IsRecoverable (world s) (known_of new) i at

-- Under a policy with a window the statement keeps the targets of the window, by what is at hand before it and after it.
abbrev pub IsSafeBy : Policy → State → Held → State → Held → Type 0
IsSafeBy (Window days) s held t after = (old new : Evidence) → IsAtHand s held old → IsAtHand t after new → KeepsTargets s old new
IsSafeBy _ s held t after = Unit {0}

abbrev pub IsSafe : State → Held → State → Held → Type 0
IsSafe s held t after = IsSafeBy (ledger s).base.policy s held t after
