use Rattle.std.proofs.Common.{◌≡◌, ◌∙◌}
use Rattle.rm_evidence.{specs.{Names.{log_name}, Objects.{IsLogObject}}, proofs.Seen.{seen-looked}}
use Rattle.rm_evidence.proofs.looking.look_for_log.Goals as goal

pub returns-clause-told : goal.returns-clause-told
returns-clause-told g c =
    let at : c.as_str.result.now ≡ log_name c.args.entry.now.id = c.as_str.ensures ∙ c.in_ok-name.ensures in
    seen-looked (IsLogObject c.args.entry.now) (g.D.Store.held c.args.store.now) (log_name c.args.entry.now.id) c.as_str.result.now c.in_ok-stands.stands c.in_ok-log_told.field-0 at c.in_ok-stands.ensures.found c.in_ok-log_told.ensures
