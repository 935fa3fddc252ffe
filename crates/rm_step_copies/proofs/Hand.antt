-- What fits the records of a state fits it.
use Rattle.std.proofs.Common.{◌≡◌, ◌∙◌, List, ap, subst}
use Rattle.rm_catalog.specs.{Trees.{nodes}, declared.record.Record.{Record}}
use Rattle.rm_evidence.specs.{Known.{FitsTree}, declared.evidence.Evidence.{Evidence}}
use Rattle.rm_machine.specs.{State.{tree}, declared.state.State.{State}}
use Rattle.rm_catalog_typed.{specs.TypedCatalog.{records_of}, proofs.Records.{tree-told}}

pub fits-state : (s : State) (rs : List Record) (e : Evidence) → rs ≡ records_of s.catalog → FitsTree (nodes rs) e → FitsTree (tree s) e
fits-state s rs e records fits = subst (λ ts. FitsTree ts e) (ap nodes records ∙ tree-told s.catalog) fits
