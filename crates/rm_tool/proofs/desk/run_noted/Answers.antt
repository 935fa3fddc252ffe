use Rattle.std.proofs.Common.{◌∙◌, ap, arith}
use Rattle.rm_shelf.specs.Shelved.{under}
use Rattle.rm_tool.proofs.desk.run_noted.Goals as goal

pub returns-clause-bad_only : goal.returns-clause-bad_only
returns-clause-bad_only g c rs accepted counted few told =
    c.run-status.ensures.bad_only rs accepted counted few (ap (λ d. under d.number (g.H.Shelf.shelved d.shelf)) c.new-desk.ensures ∙ told)

pub returns-clause-complete : goal.returns-clause-complete
returns-clause-complete g c accepted counted few rs told valid source sink store shelf =
    let before = ap (λ d. g.H.Shelf.faults d.shelf) c.new-desk.ensures in
    let after = ap (λ h. g.H.Shelf.faults h) c.close.ensures.same in
    c.run-status.ensures.complete accepted counted few rs (ap (λ d. under d.number (g.H.Shelf.shelved d.shelf)) c.new-desk.ensures ∙ told) valid source sink store
    (λ rose. shelf (omega (arith, rose, before, after)))
