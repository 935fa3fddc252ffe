-- What is at hand decides between the two answers of a recovery.
use Rattle.std.proofs.Common.{ℕ, List, Some, subst}
use Rattle.rm_base.specs.Store.{Held}
use Rattle.rm_catalog.specs.declared.record.Record.{Record}
use Rattle.rm_evidence.specs.{Known.{known_of}, Database.{world_of}, declared.evidence.{Evidence.{Evidence}, InPlace.{InPlace}}}
use Rattle.rm_evidence.proofs.Unique.{evidence_one}
use Rattle.rm_history.{specs.FirstGap.{IsFirstGap}, proofs.Facts.{first-gap-open}}
use Rattle.rm_plan.specs.declared.plan.Gap.{Gap}
use Rattle.rm_apply.{specs.{Recover.{FindsGap, TellsAll}, declared.recovering.Recovered.{Recovered}}, proofs.Rows.{files-recoverable}}

-- where each block is told there is no gap
pub not-both : (held : Held) (rs : List Record) (place : InPlace) (i s : ℕ) (r : Recovered) (x : Gap) → TellsAll (Some held) rs place i s r → ¬ FindsGap (Some held) rs place i s x
not-both held rs place i s r x tells gap =
    let w = world_of rs in
    let same = evidence_one held rs place gap.evidence tells.evidence gap.is.at_hand tells.is.at_hand in
    let first = subst (λ (e : Evidence). IsFirstGap w (known_of e) i s x.file x.block x.inc x.scn) same gap.gap.first in
    first-gap-open w (known_of tells.evidence) i s x.file x.block x.inc x.scn first (files-recoverable w (known_of tells.evidence) i s r.files tells.files)
