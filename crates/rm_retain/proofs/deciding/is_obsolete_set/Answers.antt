use Rattle.rm_retain.{specs.Needs.{needed_by}, proofs.Decisions.{set_is}}
use Rattle.rm_retain.proofs.deciding.is_obsolete_set.Goals as goal

pub returns-then-may_go : goal.returns-then-may_go
returns-then-may_go c =
    set_is (needed_by c.args.catalog.now c.args.needs.now) c.args.set.now c.are_parts_needless.result (c.may_go.ensures.0 c.if-may_go.true) c.are_parts_needless.ensures
