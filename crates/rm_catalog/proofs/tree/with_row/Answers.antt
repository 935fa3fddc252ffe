use Rattle.rm_catalog.proofs.tree.with_row.Goals as goal

pub with_next-requires : goal.with_next-requires
with_next-requires c = c.requires.next c.in-Incarnation.i c.in-Incarnation.is
