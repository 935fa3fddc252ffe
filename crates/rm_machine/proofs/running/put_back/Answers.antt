use Rattle.std.proofs.{Common.{sym, subst}, lemmas.Result.{on_ok_weaker}}
use Rattle.rm_history.specs.Tree.{IsThere}
use Rattle.rm_live.specs.Parts.{parts_of}
use Rattle.rm_catalog_typed.specs.TypedCatalog.{TypedCatalog}
use Rattle.rm_machine.proofs.Returned.{returned, returned-by, returned-last, returned-numbers, returned-there}
use Rattle.rm_machine.proofs.running.put_back.Goals as goal

pub give_back-requires : goal.give_back-requires
give_back-requires c = let run = c.requires.ran in record { numbers = returned-numbers run.0 run.1 c.args.state.now (parts_of c.args.database) run.2 }

pub raise_to-requires : goal.raise_to-requires
raise_to-requires c =
    let run = c.requires.ran in
    record {
      there = subst (λ (r : TypedCatalog). IsThere r.ledger.tree r.ledger.base.current) (sym c.in_ok-give_back.ensures.out.catalog) (returned-there run.0 run.1 c.args.state.now (parts_of c.args.database) run.2);
      last = returned-last run.0 run.1 c.args.state.now (parts_of c.args.database) run.2;
    }

pub returns-clause-after : goal.returns-clause-after
returns-clause-after c =
    let back = c.in_ok-give_back.ensures in
    on_ok_weaker c.raise_to.result
    (λ catalog before events run. returned before events c.args.state.now (parts_of c.args.database) run c.raise_to.new.state
    (returned-by c.args.state.now c.give_back.new.state c.raise_to.new.state (parts_of c.args.database) back.place back.logs back.tracker back.out catalog c.raise_to.ensures.instance))
    c.raise_to.ensures.catalog
