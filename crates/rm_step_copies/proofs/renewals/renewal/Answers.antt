use Rattle.std.{specs.Prelude.{Result, Ok, Err, IfNone, IfOk}, proofs.Common.{◌≡◌, ◌∙◌, ℕ, List, Option, Some, None, ap, sym, subst}}
use Rattle.rm_base.specs.declared.faults.NoMemory.{NoMemory}
use Rattle.rm_backup.specs.{Taken.{IsTaken}, declared.renewing.Renewed.{Renewed}}
use Rattle.rm_catalog.specs.{Trees.{nodes}, declared.record.Record.{Record}}
use Rattle.rm_evidence.specs.Known.{FitsTree}
use Rattle.rm_machine.specs.{RecoverCopy.{HasTaken}, declared.state.State.{State}}
use Rattle.rm_catalog_typed.{specs.TypedCatalog.{records_of}, proofs.Records.{tree-told}}
use Rattle.rm_step_copies.proofs.renewals.renewal.Goals as goal

pub recover_copy-requires-clause-fits : goal.recover_copy-requires-clause-fits
recover_copy-requires-clause-fits c =
    subst (λ ns. FitsTree ns c.args.evidence.now) (sym (ap nodes c.requires.records ∙ tree-told c.args.state.now.catalog)) c.requires.fits

none-taken : (s : State) (rs : List Record) (f : ℕ) (tag : List ℕ) (r : Result (Option Renewed) NoMemory) → rs ≡ records_of s.catalog → IfOk r (λ o. IfNone o (IsTaken rs f tag None)) → IfOk r (λ o. IfNone o (¬ HasTaken s tag f))
none-taken s rs f tag (Err x) records none = tt
none-taken s rs f tag (Ok (Some x)) records none = tt
none-taken s rs f tag (Ok None) records none = λ has. subst (λ xs. IsTaken xs f tag None) records none has.copy has.taken.held has.taken.passes

pub returns-clause-none : goal.returns-clause-none
returns-clause-none c = none-taken c.args.state.now c.args.records.now c.args.file c.args.tag.now c.recover_copy.result c.requires.records c.recover_copy.ensures.none
