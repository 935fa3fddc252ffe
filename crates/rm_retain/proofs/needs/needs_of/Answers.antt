use Rattle.std.proofs.Common.{List, subst, refl}
use Rattle.rm_retain.specs.{Catalogued.{on_copies}, Needs.{AreFileNeeds, HaveFileNeeds}, declared.copies.Backup.{Backup}}
use Rattle.rm_retain.proofs.Needed.{all_complete}
use Rattle.rm_retain.proofs.needs.needs_of.Goals as goal

pub returns-clause-are : goal.returns-clause-are
returns-clause-are c =
    let rs = c.args.catalog.now in
    let items = c.deref.ensures.value in
    let sound = subst (λ (xs : List Backup). AreFileNeeds (on_copies rs c.args.policy c.args.start xs) c.in_ok-files.files.items) items c.in_ok-files.ensures.sound in
    let complete = subst (λ (xs : List Backup). HaveFileNeeds (on_copies rs c.args.policy c.args.start xs) 65 c.in_ok-files.files.items) items c.in_ok-files.ensures.complete in
    record {
      current = c.current_of.ensures.is;
      there = c.current_of.ensures.there;
      sound = sound;
      complete = all_complete (on_copies rs c.args.policy c.args.start c.in_ok-copies.copies.items) rs c.in_ok-files.files.items c.records.ensures.catalog refl complete;
    }
