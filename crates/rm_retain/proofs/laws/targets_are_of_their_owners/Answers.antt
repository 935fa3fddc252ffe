use Rattle.rm_catalog.{specs.Trees.{nodes}, proofs.Incarnations.{branch_within, is-tree}}
use Rattle.rm_evidence.{specs.Database.{current_in}, proofs.Current.{current_is}}
use Rattle.rm_retain.proofs.Targets.{target_of}
use Rattle.rm_retain.proofs.laws.targets_are_of_their_owners.Goals as goal

pub returns : goal.returns
returns c rs e policy start i s catalog database low target =
    target_of (nodes rs) (is-tree rs catalog database) (λ n more there. branch_within rs n catalog there more) (current_in rs) start i s (current_is rs catalog database).there low target.first target.last target.owned
