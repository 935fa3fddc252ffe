use Rattle.std.proofs.{Common.{rules}, lemmas.Slice.Zip.{AllZip-long}}
use Rattle.rm_evidence.specs.Objects.{HasPartFields}
use Rattle.rm_evidence.proofs.sets.are_parts.Goals as goal

pub returns-then-parts-members : goal.returns-then-parts-members
returns-then-parts-members c = (
  λ f. absurd cc,
  λ are. let many = AllZip-long HasPartFields c.args.parts.now c.args.members.now are in let no = c.if-parts-members.true in absurd (search rules),
)
