use Rattle.std.{specs.{Prelude.{IfErr}, Option.{option_copied}}, proofs.Common.{◌≡◌, ◌∙◌, List, Option, Result, IfOk, ap, sym, subst}}
use Rattle.rm_base.specs.declared.refusal.Refusal.{Refusal}
use Rattle.rm_dup.specs.declared.database.Duplicate.{Duplicate}
use Rattle.rm_lang_words.specs.Reading.{duplicate_of as said_of}
use Rattle.rm_machine.specs.declared.state.State.{State}
use Rattle.rm_piece.specs.declared.piece.Piece.{Piece}
use Rattle.rm_tool_opening.proofs.Source.{told-err}
use Rattle.rm_tool_duplicate.specs.{Asked.{sides}, Duplicated.{IsMadeOf, commit_for}, Ended.{Leaves}, Refused.{IsRefused}}
use Rattle.rm_tool_duplicate.proofs.{Ending.{shown-of, sides-stay, untold-refusal}, Truth.{makes}}
use Rattle.rm_tool_duplicate.proofs.preparing.prepare.Goals as goal

pub returns-in_err-write_refusal-in-Err-clause-ended : goal.returns-in_err-write_refusal-in-Err-clause-ended
returns-in_err-write_refusal-in-Err-clause-ended g c =
    let x = said_of c.args.said.now in
    let from = g.D.Store.held in
    let to = g.E.Store.held in
    let shelved = g.H.Shelf.shelved in
    let a = sides x (from c.args.from.now) (to c.args.to.now) (shelved c.args.shelf.now) in
    let b = sides x (from c.duplicate_of.new.from) (to c.duplicate_of.new.to) (shelved c.duplicate_of.new.shelf) in
    let same : b ≡ a = sides-stay x _ _ _ _ _ _ c.duplicate_of.ensures.from c.duplicate_of.ensures.to c.duplicate_of.ensures.shelf in
    let v = c.args.site.now in
    let r = c.in-Err.refusal in
    let refused : IsRefused x a (option_copied c.state.result) r = subst (λ (y : Result Duplicate Refusal). IfErr y (IsRefused x a (option_copied c.state.result))) c.in-Err.is c.in_ok-duplicate.ensures.refused in
    told-err c.from_residual-in_err-write_refusal-in-Err.result c.in_err-write_refusal-in-Err.field-0.0 (Leaves x a b (g.K.Sink.contents c.args.sink.now) (g.K.Sink.contents c.write_refusal.new.sink)) c.from_residual-in_err-write_refusal-in-Err.ensures.1
    (untold-refusal x a b _ _ c.in_err-write_refusal-in-Err.field-0.0 r same (record { view = v; source = c.requires.source; refused = subst (λ (o : Option State). IsRefused x a o r) c.state.ensures.is refused }) c.in_err-write_refusal-in-Err.ensures.err)

pub returns-clause-ready : goal.returns-clause-ready
returns-clause-ready g c =
    let x = said_of c.args.said.now in
    let a = sides x (g.D.Store.held c.args.from.now) (g.E.Store.held c.args.to.now) (g.H.Shelf.shelved c.args.shelf.now) in
    let d = c.in-Ok.duplicate in
    let made : IsMadeOf x a (option_copied c.state.result) d = subst (λ (y : Result Duplicate Refusal). IfOk y (IsMadeOf x a (option_copied c.state.result))) c.in-Ok.is c.in_ok-duplicate.ensures.made in
    let shown = shown-of x a (option_copied c.state.result) d made in
    record {
      duplicate = d;
      makes = makes x a c.args.site.now shown.0 d c.requires.source (sym c.state.ensures.is ∙ shown.1) shown.2;
      change = c.in_ok-change.ensures ∙ ap (λ (pieces : List Piece). commit_for pieces d.records) c.as_slice.ensures;
      text = c.in_ok-text.ensures;
    }
