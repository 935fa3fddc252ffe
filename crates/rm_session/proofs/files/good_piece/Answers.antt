use Rattle.std.{specs.Option.{option_copied}, proofs.{Common.{◌≡◌, ◌∙◌, Some, ap, sym}, lemmas.Option.{IfSome_then}}}
use Rattle.rm_machine.specs.Saved.{file_part}
use Rattle.rm_session.proofs.Goods.{good-file}
use Rattle.rm_session.proofs.files.good_piece.Goals as goal

pub returns-clause-told : goal.returns-clause-told
returns-clause-told g c =
    let is : file_part c.args.site.now c.args.number ≡ Some c.in-Some.part.now = sym c.file_part.ensures ∙ ap option_copied c.in-Some.is in
    IfSome_then (g.D.Store.held c.args.store.now) c.in_ok-piece.ensures.told
    (λ h told. good-file h c.args.catalog.now.ledger c.args.site.now c.args.number c.args.datafile.now c.in-Some.part.now c.in_ok-piece.piece c.where_fits.result is told
    (rw c.head.ensures at c.where_fits.ensures))
