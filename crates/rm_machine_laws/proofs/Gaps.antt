-- Behind the gap that a recovery tells stand two histories, and where there is one nothing comes back.
use Rattle.std.proofs.Common.{ℕ, subst}
use Rattle.rm_base.specs.Store.{Held}
use Rattle.rm_apply.{specs.declared.recovering.Recovered.{Recovered}, proofs.Deciding.{not-both}}
use Rattle.rm_evidence.specs.Known.{known_of}
use Rattle.rm_history.specs.{Unknown.{IsUnknown}, declared.world.World.{World}}
use Rattle.rm_catalog_typed.{specs.TypedCatalog.{records_of}, proofs.Records.{world-told}}
use Rattle.rm_machine.specs.{Effect.{Outcome}, Recovery.{IsGapOutcome, IsToldOutcome, in_place}, State.{world}}
use Rattle.rm_machine.specs.declared.state.State.{State}

pub gap-unknown : (s : State) (held : Held) (i at : ℕ) (o : Outcome) (found : IsGapOutcome s held i at o) → IsUnknown (world s) (known_of found.first.evidence) i at found.gap.file found.gap.block found.gap.inc found.gap.scn
gap-unknown s held i at o found =
    subst (λ (w : World). IsUnknown w (known_of found.first.evidence) i at found.gap.file found.gap.block found.gap.inc found.gap.scn) (world-told s.catalog) found.first.gap.unknown

pub gap-or-told : (s : State) (held : Held) (i at : ℕ) (come : Recovered → Outcome) (o p : Outcome) → IsGapOutcome s held i at o → ¬ IsToldOutcome s held i at come p
gap-or-told s held i at come o p found all = not-both held (records_of s.catalog) (in_place s) i at all.back found.gap all.tells found.first
