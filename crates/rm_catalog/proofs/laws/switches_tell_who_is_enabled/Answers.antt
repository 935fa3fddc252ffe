use Rattle.rm_catalog.{specs.{Switches.{switches}, Trees.{nodes}}, proofs.{SwitchNumbers.{switches-found}, Switching.{was-told}}}
use Rattle.rm_catalog.proofs.Trees.{path_is}
use Rattle.rm_catalog.proofs.laws.switches_tell_who_is_enabled.Goals as goal

pub returns : goal.returns
returns c rs x n t catalog small few number there =
    was-told rs (nodes rs) (switches rs) x n t (switches-found rs catalog small) few number (λ g. path_is rs x.inc g catalog there)
