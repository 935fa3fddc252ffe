-- What a recovery answers.
use Rattle.std.specs.Prelude.{ℕ, ◌≡◌, ◌||◌, nat_lt, if◌then◌else◌, Option, Some, None, List, Result, Ok, Err}
use Rattle.rm_base.specs.Store.{Held}
use Rattle.rm_catalog.specs.{Trees.{nodes}, declared.record.Record.{Record}}
use Rattle.rm_evidence.specs.{Gathered.{IsGathered}, Known.{FitsTree, known_of}, Seen.{IsSeen}, Database.{world_of}}
use Rattle.rm_evidence.specs.declared.evidence.{Evidence.{Evidence}, InPlace.{InPlace}}
use Rattle.rm_history.specs.{Tree.{reset_of, end_of}, declared.tree.Incarnation.{Incarnation}}
use Rattle.rm_plan.specs.declared.plan.Gap.{Gap}
use Rattle.rm_apply.specs.{Told.{AreFilesAt, IsGapOfAll}, declared.{fault.RecoverFault.{RecoverFault}, recovering.Recovered.{Recovered}}}
use Rattle.rm_apply.specs.declared.fault.RecoverFault.TheVariants as fault

-- the resetlogs SCN of incarnation i and its end, where s is below the one or above the other
abbrev pub outside : List Incarnation → ℕ → ℕ → Option (ℕ × ℕ)
outside tree i s = if nat_lt s (reset_of tree i) || nat_lt (end_of tree i) s then Some (reset_of tree i, end_of tree i) else None

-- the range that a fault tells
abbrev pub until_in : RecoverFault → Option (ℕ × ℕ)
until_in (fault.Until low high) = Some (low, high)
until_in _ = None

-- the range that an answer tells
abbrev pub until_of : {A : Type 0} → Result A RecoverFault → Option (ℕ × ℕ)
until_of (Ok r) = None
until_of (Err x) = until_in x

-- what is true of the gap, where the fault is one
abbrev pub IfGap : RecoverFault → (Gap → Type 0) → Type 0
IfGap (fault.Gap x) P = P x
IfGap _ P = Unit {0}

-- The evidence is what is at hand by what the store tells, or else by some bytes under each name; each artefact of it is
-- valid.
pub record IsEvidence (held : Option Held) (rs : List Record) (place : InPlace) (e : Evidence) : Type 0 where
  pub at_hand : IsSeen held (λ h. IsGathered h rs place e)
  pub fits : FitsTree (nodes rs) e

-- what is at hand tells each block of the target: the datafiles are these, and these records were skipped
pub record TellsAll (held : Option Held) (rs : List Record) (place : InPlace) (i s : ℕ) (r : Recovered) : Type 0 where
  pub evidence : Evidence
  pub is : IsEvidence held rs place evidence
  pub files : AreFilesAt (world_of rs) (known_of evidence) i s r.files
  pub skipped : r.skipped ≡ evidence.skipped

-- what is at hand leaves a gap, and this is the first one
pub record FindsGap (held : Option Held) (rs : List Record) (place : InPlace) (i s : ℕ) (x : Gap) : Type 0 where
  pub evidence : Evidence
  pub is : IsEvidence held rs place evidence
  pub gap : IsGapOfAll (world_of rs) (known_of evidence) i s x
