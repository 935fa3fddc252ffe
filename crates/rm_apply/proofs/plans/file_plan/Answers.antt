use Rattle.std.proofs.Common.{◌∙◌}
use Rattle.rm_evidence.specs.{Known.{known_of}, Database.{world_of}}
use Rattle.rm_apply.proofs.Rows.{rows-in-order}
use Rattle.rm_apply.proofs.plans.file_plan.Goals as goal

pub returns-clause-planned : goal.returns-clause-planned
returns-clause-planned c =
    let parts = c.in_ok-parts.ensures.parts in
    record {
      ready = record { rows = c.in_ok-rows.ensures ∙ c.len.ensures; order = rows-in-order (world_of c.args.catalog.now) (known_of c.args.evidence.now) c.args.i c.args.s c.args.number c.in_ok-parts.parts parts };
      parts = parts;
    }
