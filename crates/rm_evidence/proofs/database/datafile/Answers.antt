use Rattle.std.{specs.Option.{option_map}, proofs.Common.{Option, ap, ◌∙◌, sym}}
use Rattle.rm_catalog.specs.declared.record.DatafileEntry.{DatafileEntry}
use Rattle.rm_evidence.{specs.Database.{created_by}, proofs.Files.{file_of-is}}
use Rattle.rm_evidence.proofs.database.datafile.Goals as goal

pub returns : goal.returns
returns c = sym (file_of-is c.args.catalog.now c.args.file c.records.ensures.catalog ∙ ap (λ (o : Option DatafileEntry). option_map created_by o) (sym c.datafile_entry.ensures ∙ c.in_ok-entry.was))

pub returns-in_err-entry : goal.returns-in_err-entry
returns-in_err-entry c = c.from_residual.ensures ∙ sym (file_of-is c.args.catalog.now c.args.file c.records.ensures.catalog ∙ ap (λ (o : Option DatafileEntry). option_map created_by o) (sym c.datafile_entry.ensures ∙ c.in_err-entry.was))
