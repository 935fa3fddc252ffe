use Rattle.std.proofs.Common.{◌≡◌, rules}
use Rattle.rm_catalog_typed.{specs.Fresh.{fresh}, proofs.Fresh.{fresh_is_ledger}}
use Rattle.rm_catalog_typed.proofs.catalog.TypedCatalog.fresh.Goals as goal

pub invariant_of-result : goal.invariant_of-result
invariant_of-result c =
    let marks : c.push.new.self.items ≡ (fresh c.args.dbid c.args.threads c.args.scn c.args.moment).marks = search rules in
    rw (c.in_ok-tree.ensures, c.new-2.ensures.items, c.new-3.ensures.items, c.new-4.ensures.items, c.new-5.ensures.items, c.new-6.ensures.items, marks) (record {
      ledger = fresh_is_ledger c.args.dbid c.args.threads c.args.scn c.args.moment c.requires.dbid c.requires.threads.0 c.requires.threads.1 c.requires.scn.0 c.requires.scn.1 c.requires.moment;
      saved = tt;
    })
