use Rattle.rm_retain.specs.{Catalogued.{on_copies}, Needs.{AreFileNeeds, HaveFileNeeds}}
use Rattle.rm_retain.proofs.needs.file_needs.Given as goal

abbrev pub invariant-loop-file : goal.invariant-loop-file
invariant-loop-file l = record {
  sound : AreFileNeeds (on_copies l.catalog l.policy l.start l.copies) l.found.items;
  complete : HaveFileNeeds (on_copies l.catalog l.policy l.start l.copies) l.file l.found.items;
}
