use Rattle.std.proofs.Common.{arith}
use Rattle.rm_catalog_typed.proofs.Changed.{marks_few, switches_few}
use Rattle.rm_catalog_typed.proofs.catalog.TypedCatalog.records.Goals as goal

pub tell_marks-requires : goal.tell_marks-requires
tell_marks-requires c = let h = marks_few _ c.self.invariant in omega (arith, h)

pub tell_switches-requires : goal.tell_switches-requires
tell_switches-requires c = let h = switches_few _ c.self.invariant in omega (arith, h)
