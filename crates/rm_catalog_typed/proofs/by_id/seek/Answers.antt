use Rattle.std.proofs.{Common.{rules}, lemmas.List.Sorted.{answers_always}}
use Rattle.rm_catalog_typed.proofs.Splits.{searched}
use Rattle.rm_catalog_typed.proofs.by_id.seek.Goals as goal

-- the closure gives the id of each
pub returns : goal.returns
returns g c =
    let facts = c.binary_search_by_key.ensures in
    searched g.T.Entry.number c.args.id c.args.items.now c.binary_search_by_key.result c.requires facts.bound (facts.position g.T.Entry.number (answers_always _ _ _ (λ f a r h called. search rules)))
