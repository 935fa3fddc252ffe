use Rattle.std.proofs.Common.{◌∙◌, [], ◌∷◌, ◌++◌, ℕ, List, ap}
use Rattle.rm_catalog.{specs.{Edits.{below}, declared.record.Record.{Record}}, proofs.Passing.{put_last, drop_last}}
use Rattle.rm_catalog.proofs.edits.make_at_end.Goals as goal

pub returns-in-Put-clause-items : goal.returns-in-Put-clause-items
returns-in-Put-clause-items c =
    c.push.ensures.items ∙ ap (λ (x : List Record). x ++ c.in-Put.record ∷ []) c.cut_at.ensures.items
    ∙ ap (λ (p : ℕ). below p c.args.records.now.items ++ c.in-Put.record ∷ []) c.place.ensures.is
    ∙ put_last c.args.edit c.in-Put.record c.args.records.now.items c.in-Put.is c.requires.last

pub returns-in_default-clause-items : goal.returns-in_default-clause-items
returns-in_default-clause-items c =
    c.cut_at.ensures.items ∙ ap (λ (p : ℕ). below p c.args.records.now.items) c.place.ensures.is
    ∙ drop_last c.args.edit c.args.records.now.items (λ r is. absurd cc) c.requires.last
