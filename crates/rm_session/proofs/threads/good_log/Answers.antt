use Rattle.std.{specs.Option.{option_copied}, proofs.{Common.{◌≡◌, ◌∙◌, Some, ap, sym}, lemmas.Option.{IfSome_then}}}
use Rattle.rm_machine.specs.Saved.{thread_part}
use Rattle.rm_session.proofs.Goods.{good-log}
use Rattle.rm_session.proofs.threads.good_log.Goals as goal

pub returns-clause-told : goal.returns-clause-told
returns-clause-told g c =
    let is : thread_part c.args.site.now c.args.thread ≡ Some c.in-Some.part.now = sym c.thread_part.ensures ∙ ap option_copied c.in-Some.is in
    IfSome_then (g.D.Store.held c.args.store.now) c.in_ok-log.ensures.told
    (λ h told. good-log h c.args.catalog.now.ledger c.args.site.now c.args.thread c.in-Some.part.now c.in_ok-log.log c.where_fits.result is told
    (rw c.head.ensures at c.where_fits.ensures))
