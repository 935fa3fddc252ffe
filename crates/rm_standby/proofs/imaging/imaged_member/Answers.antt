use Rattle.std.proofs.Common.{◌∙◌, ◌<◌, List, All, subst, sym}
use Rattle.rm_base.specs.{Numbers.{last_scn}, declared.block.Row.{Row}}
use Rattle.rm_standby.proofs.Imaged.{versions-risen}
use Rattle.rm_standby.proofs.imaging.imaged_member.Goals as goal

pub high_of-requires : goal.high_of-requires
high_of-requires c =
    subst (λ (xs : List Row). All (λ r. r.version < last_scn) xs) (sym (c.as_slice.ensures ∙ c.in_ok-rows.ensures))
    (versions-risen c.args.creation c.rows.result.now c.requires.creation (subst (λ (xs : List Row). All (λ r. r.version < last_scn) xs) (sym c.rows.ensures.value) c.requires.versions))
